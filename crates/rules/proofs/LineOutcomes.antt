-- What the call for one line of a works promises follows from its answer, and in a works that has its sheets that answer is the
-- line's sheet there. Assumes nothing.
use mathlib.Core.Logic.{inl, inr}
use mathlib.Core.Path.{◌≡◌, refl, sym, ap, subst, ◌∙◌}
use mathlib.Core.Bool.{Bool, true, ◌&&◌}
use mathlib.Core.List.{◌∷◌}
use Prim.Native.Nat.{ℕ, ◌+◌, ◌-◌, ◌<◌}
use native.Mathlib.Omega.{arith}
use lib.Dec.{T}
use lib.Ieee.Fits.{and_l, and_r}
use Rattle.std.specs.Prelude.{Ok, Err}
use denote.Floats.{is_true}
use mathlib.Core.Bool.{and-true}
use Rattle.rules.specs.PlantData.{within}
use Rattle.rules.specs.Rules.{rule, verdict, all_kept}
use Rattle.rules.specs.Accepting.{values_of, data_rules, accept_by}
use Rattle.rules.specs.Answers.{answer_number, answer_sheet}
use Rattle.rules.specs.Ranges.{ConcentrationRanges}
use Rattle.rules.specs.TwoColumns.{Removes}
use Rattle.rules.specs.Lines.{split_valid, line_of, LineChosen, line_rules, accept_line, LineAccepted, LineAnswered}
use Rattle.rules.specs.Works.{works_rules, accept_works, first_refused, works_sheets, works_by, WorksAccepted, WorksChosen}
use Rattle.rules.specs.WorksOutcome.{LineDesigned, sheet_at, LineOutcome, LineColumns}
use Rattle.rules.specs.declared.Plant.{Plant}
use Rattle.rules.specs.declared.Readings.{Readings}
use Rattle.rules.specs.declared.Concentrations.{Concentrations}
use Rattle.rules.specs.declared.Split.{Split}
use Rattle.rules.specs.declared.Works.{Works}
use Rattle.rules.specs.declared.Refusal.{Refusal}
use Rattle.rules.specs.Results.{Verdict}
use Rattle.rules.specs.Results.{Acceptance}
use Rattle.rules.specs.Results.{Answer}
use Rattle.rules.proofs.AcceptedData.{accepted_kept, refused_broken, none_due_ranges}
use Rattle.rules.proofs.OutcomeLaws.{empty_zeros}
use Rattle.rules.proofs.Tests.{within_between}
use Rattle.rules.proofs.LineLaws.{line_once}
use Rattle.rules.proofs.WorksOutcomes.{WorksRanges, designed_line, line_columns, designed_answer, sheet_of_line, by_verdict}
use Rattle.rules.proofs.WorksLaws.{all_designed}

-- what is accepted for a line
pub line_accepted :
    (p : Plant) (r : Readings) (split : Split) (number : ℕ) (x : Concentrations)
    → accept_line p r split number ≡ Ok x
    → WorksRanges p x split × T (within 1 split.count number)
unfolding accept_line line_rules
line_accepted p r split number x e =
    let given = accepted_kept (line_rules p r split number) (values_of p r) x e in
    let here = split_valid split && within 1 split.count number in
    let valid = and_l here (all_kept (data_rules p r)) given.0 in
    let ranges = none_due_ranges p r (and_r here (all_kept (data_rules p r)) given.0) in (
      record { valid = and_l (split_valid split) (within 1 split.count number) valid; plant = ranges.0; concentrations = subst ConcentrationRanges given.1 ranges.1 },
      and_r (split_valid split) (within 1 split.count number) valid,
    )

pub line_outcome :
    (p : Plant) (r : Readings) (split : Split) (number : ℕ) (a : Answer)
    → LineAnswered p r split number a
    → LineOutcome p r split number (answer_number a) (answer_sheet a)
unfolding answer_number answer_sheet accept_line
line_outcome p r split number a h = go (accept_line p r split number) refl a h
  where
    line : Plant
    line = line_of p split (number - 1)

    go : (o : Acceptance) → accept_line p r split number ≡ o → (a : Answer) → LineAccepted line a o → LineOutcome p r split number (answer_number a) (answer_sheet a)
    go (Err n) q (Ok s) e = cc
    go (Err n) q (Err m) e =
        let same : n ≡ m = cc in
        inr (record { refusal = m; is_due = inl ((refused_broken (line_rules p r split number) (values_of p r) m).0 (q ∙ ap Err same)); numbered = refl; zeros = empty_zeros })
    go (Ok x) q (Ok s) c =
        let given = accepted_kept (line_rules p r split number) (values_of p r) x q in
        inl (record { numbered = refl; kept = given.0; designed = subst (λ (y : Concentrations). LineDesigned line y s) (sym given.1) (designed_line line x s c) })
    go (Ok x) q (Err m) c =
        let given = accepted_kept (line_rules p r split number) (values_of p r) x q in
        inr (record { refusal = m; is_due = inr (given.0, subst (λ (y : Concentrations). LineChosen line y (Err m)) (sym given.1) c); numbered = refl; zeros = empty_zeros })

-- The two columns of a line's own sheet.
pub line_with_columns : (p : Plant) (r : Readings) (split : Split) (number : ℕ) (a : Answer) → LineAnswered p r split number a → LineColumns p r split number a
unfolding accept_line
line_with_columns p r split number (Err n) h = tt
line_with_columns p r split number (Ok s) h = go (accept_line p r split number) refl h
  where
    line : Plant
    line = line_of p split (number - 1)

    go : (o : Acceptance) → accept_line p r split number ≡ o → LineAccepted line (Ok s) o → Removes line (values_of p r) s.fraction
    go (Err n) q e = cc
    go (Ok x) q c =
        let given = accepted_kept (line_rules p r split number) (values_of p r) x q in
        subst (λ (y : Concentrations). Removes line y s.fraction) (sym given.1) (line_columns line x s (designed_line line x s c))

-- The question for a line has one answer.
pub line_answered_once :
    (p : Plant) (r : Readings) (split : Split) (number : ℕ) (a b : Answer) → LineAnswered p r split number a → LineAnswered p r split number b → a ≡ b
line_answered_once p r split number a b = go (accept_line p r split number)
  where
    line : Plant
    line = line_of p split (number - 1)

    go : (o : Acceptance) → LineAccepted line a o → LineAccepted line b o → a ≡ b
    go (Err n) c d = c ∙ sym d
    go (Ok x) c d = line_once line x a b c d

-- for a line of the works the data are accepted as for the works
accept_same : (p : Plant) (r : Readings) (split : Split) (number : ℕ) → within 1 split.count number ≡ true → accept_line p r split number ≡ accept_works p r split
unfolding accept_line line_rules accept_works works_rules
accept_same p r split number e =
    rw e (ap (λ (b : Bool). accept_by (verdict (rule Refusal.Lines b ∷ data_rules p r)) (values_of p r)) (and-true (split_valid split)))

-- In a works that has its sheets, the sheet of a line is that line's own answer.
pub line_of_works :
    (p : Plant) (r : Readings) (split : Split) (w : Works) (i : ℕ) (a : Answer)
    → WorksChosen p r split (Ok w)
    → i < split.count
    → LineAnswered p r split (i + 1) a
    → a ≡ Ok (sheet_at w i)
unfolding works_sheets works_by
line_of_works p r split w i a h below asked = go (accept_works p r split) refl h (subst (LineAccepted (line_of p split i) a) same (rw here at asked))
  where
    here : i + 1 - 1 ≡ i
    here = omega arith

    same : accept_line p r split (i + 1) ≡ accept_works p r split
    same =
        accept_same p r split (i + 1)
        (is_true (within 1 split.count (i + 1)) ((within_between 1 split.count (i + 1)).1 (record { least = omega arith; most = omega arith })))

    go : (o : Acceptance) → accept_works p r split ≡ o → WorksAccepted p split (Ok w) o → LineAccepted (line_of p split i) a o → a ≡ Ok (sheet_at w i)
    go (Err n) q e c = cc
    go (Ok x) q h c = lines (first_refused h.answers split.count) refl
      where
        lines : (v : Verdict) → first_refused h.answers split.count ≡ v → a ≡ Ok (sheet_at w i)
        lines (Ok u) e =
            line_once (line_of p split i) x a (h.answers i) c (h.each i below)
            ∙ (designed_answer (h.answers i) (all_designed h.answers split.count e i below)
            ∙ ap Ok (sym (sheet_of_line p r split (Ok w) x q h e i below)))
        lines (Err k) e = cc (by_verdict p r split (Ok w) x q h (Err k) e)
