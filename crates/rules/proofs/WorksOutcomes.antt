-- What the calls for a works and for one of its lines promise of numbers, sums, sheets and columns follows from their answers.
-- Assumes nothing.
use mathlib.Core.Logic.{inl, inr}
use mathlib.Core.Path.{◌≡◌, refl, sym, ap, subst, ◌∙◌}
use mathlib.Core.Bool.{Bool, true, false}
use mathlib.Core.List.{List, [], ◌∷◌, ◌++◌}
use Prim.Native.Nat.{ℕ, zero, suc, ◌+◌, ◌≤◌, ◌<◌}
use native.Mathlib.Omega.{arith}
use borrow.Author.Tests.{lt-ltb, le-ltb, leb-true, leb-false}
use lib.Dec.{T, leb}
use lib.Ieee.Fits.{and_l, and_r}
use lib.ListN.{get_or}
use Rattle.std.specs.Prelude.{Ok, Err, Result}
use Rattle.words.specs.Bytes.{chunked}
use Rattle.rules.specs.Sums.{values_from}
use Rattle.rules.specs.Limits.{most_lines}
use Rattle.rules.specs.Rules.{all_kept, after}
use Rattle.rules.specs.Accepting.{values_of, data_rules}
use Rattle.rules.specs.Answers.{refusal_number, empty_sheet, answer_sheet, answer_number, sheet_figures}
use Rattle.rules.specs.Ranges.{PlantRanges, ConcentrationRanges}
use Rattle.rules.specs.Choosing.{candidate_of}
use Rattle.rules.specs.Outcomes.{AllZero}
use Rattle.rules.specs.TwoColumns.{Removes}
use Rattle.rules.specs.Lines.{split_valid, line_of, line_positive, LineChosenBy, LineChosen}
use Rattle.rules.specs.Works.{works_rules, accept_works, answer_verdict, first_refused, line_sheet, no_sums, works_sheets, works_by, works_of, WorksOfLines, WorksAccepted, WorksChosen, sum_figures, works_figures}
use Rattle.rules.specs.WorksOutcome.{LineDesigned, sheet_at, WorksDesigned, FirstLine, WorksOutcome, WorksColumns}
use Rattle.rules.specs.declared.Plant.{Plant}
use Rattle.rules.specs.declared.Readings.{Readings}
use Rattle.rules.specs.declared.Concentrations.{Concentrations}
use Rattle.rules.specs.declared.Split.{Split}
use Rattle.rules.specs.declared.Sheet.{Sheet}
use Rattle.rules.specs.declared.Works.{Works}
use Rattle.rules.specs.declared.Refusal.{Refusal}
use Rattle.rules.specs.Results.{Verdict}
use Rattle.rules.specs.Results.{Acceptance}
use Rattle.rules.specs.Results.{Answer}
use Rattle.rules.proofs.SumLaws.{values_at, values_past}
use Rattle.rules.proofs.AcceptedData.{accepted_kept, refused_broken, none_due_ranges}
use Rattle.rules.proofs.NitrateColumns.{two_columns}
use Rattle.rules.proofs.OutcomeLaws.{empty_zeros}
use Rattle.rules.proofs.LineLaws.{valid_split}
use Rattle.rules.proofs.WorksLaws.{same_sums, all_designed}

-- what an accepted works says of its data
pub record WorksRanges (p : Plant) (x : Concentrations) (split : Split) : Type 0 where
  pub valid : T (split_valid split)
  pub plant : PlantRanges p
  pub concentrations : ConcentrationRanges x

pub works_ranges : (p : Plant) (r : Readings) (split : Split) (x : Concentrations) → accept_works p r split ≡ Ok x → WorksRanges p x split
unfolding accept_works works_rules
works_ranges p r split x e =
    let given = accepted_kept (works_rules p r split) (values_of p r) x e in
    let ranges = none_due_ranges p r (and_r (split_valid split) (all_kept (data_rules p r)) given.0) in
    record {
      valid = and_l (split_valid split) (all_kept (data_rules p r)) given.0;
      plant = ranges.0;
      concentrations = subst ConcentrationRanges given.1 ranges.1;
    }

-- a line with a sheet
pub designed_line : (line : Plant) (x : Concentrations) (s : Sheet) → LineChosen line x (Ok s) → LineDesigned line x s
designed_line line x s c = go (line_positive line) refl c
  where
    go : (b : Bool) → line_positive line ≡ b → LineChosenBy b line x (Ok s) → LineDesigned line x s
    go true e l = record { positive = subst T (sym e) tt; least = l }
    go false e h = cc

-- the same of an answer that is none refused
kept_line : (line : Plant) (x : Concentrations) (a : Answer) → answer_verdict a ≡ (Ok tt) → LineChosen line x a → LineDesigned line x (answer_sheet a)
unfolding answer_verdict answer_sheet
kept_line line x (Ok s) e c = designed_line line x s c
kept_line line x (Err n) e c = cc

-- where lines are refused, there is a first of them
pub record FirstAt (f : ℕ → Answer) (n : ℕ) (k : Refusal) : Type 0 where
  pub line : ℕ
  pub below : line < n
  pub refused : f line ≡ Err k
  pub earlier : (j : ℕ) → j < line → answer_verdict (f j) ≡ (Ok tt)

refused_answer : (a : Answer) (k : Refusal) → answer_verdict a ≡ Err k → a ≡ Err k
unfolding answer_verdict
refused_answer (Ok s) k e = cc
refused_answer (Err n) k e = cc

pub first_at : (f : ℕ → Answer) (n : ℕ) (k : Refusal) → first_refused f n ≡ Err k → FirstAt f n k
unfolding first_refused
first_at f zero k e = cc
first_at f (suc n) k e = go (first_refused f n) refl e (λ h. first_at f n k h)
  where
    go :
        (v : Verdict) → first_refused f n ≡ v
        → after v (answer_verdict (f n)) ≡ Err k
        → (first_refused f n ≡ Err k → FirstAt f n k)
        → FirstAt f (suc n) k
    go (Ok u) q h before =
        record { line = n; below = omega arith; refused = refused_answer (f n) k h; earlier = λ j l. all_designed f n q j l }
    go (Err m) q h before =
        let first = before (q ∙ h) in
        record { line = first.line; below = omega (arith, first.below); refused = first.refused; earlier = first.earlier }

-- the sheets of a works put together
line_sheet_lem : (f : ℕ → Answer) (n i : ℕ) → i < n → line_sheet f n i ≡ answer_sheet (f i)
unfolding line_sheet
line_sheet_lem f n i h = rw (lt-ltb i n h)

past_sheet : (f : ℕ → Answer) (n i : ℕ) → n ≤ i → line_sheet f n i ≡ empty_sheet
unfolding line_sheet
past_sheet f n i h = rw (le-ltb i n h)

sheets_at : (f : ℕ → Answer) (n i : ℕ) → n ≤ most_lines → i < n → get_or (values_from 0 most_lines (line_sheet f n)) i empty_sheet ≡ answer_sheet (f i)
sheets_at f n i most h =
    let here : 0 + i ≡ i = omega arith in
    values_at empty_sheet 0 most_lines (line_sheet f n) i (omega arith) ∙ (ap (line_sheet f n) here ∙ line_sheet_lem f n i h)

sheets_past : (f : ℕ → Answer) (n i : ℕ) → n ≤ i → get_or (values_from 0 most_lines (line_sheet f n)) i empty_sheet ≡ empty_sheet
sheets_past f n i h = go (leb most_lines i) refl
  where
    go : (b : Bool) → leb most_lines i ≡ b → get_or (values_from 0 most_lines (line_sheet f n)) i empty_sheet ≡ empty_sheet
    go true e = values_past empty_sheet 0 most_lines (line_sheet f n) i (leb-true most_lines i e)
    go false e =
        let here : 0 + i ≡ i = omega arith in
        let below : i < most_lines = leb-false most_lines i e in
        values_at empty_sheet 0 most_lines (line_sheet f n) i below ∙ (ap (line_sheet f n) here ∙ past_sheet f n i h)

-- a refused works is zeros throughout
both_zero : (a b : List ℕ) → AllZero a → AllZero b → AllZero (a ++ b)
both_zero [] b h k = k
both_zero (n ∷ a) b h k = (h.0, both_zero a b h.1 k)

sheets_zero : (a n : ℕ) → AllZero (chunked sheet_figures (values_from a n (λ i. empty_sheet)))
unfolding values_from chunked
sheets_zero a zero = tt
sheets_zero a (suc n) = both_zero (sheet_figures empty_sheet) (chunked sheet_figures (values_from (a + 1) n (λ i. empty_sheet))) empty_zeros (sheets_zero (a + 1) n)

works_zeros : (n : Refusal) → AllZero (works_figures (works_sheets (Err n)))
unfolding works_figures sum_figures works_sheets no_sums
works_zeros n =
    both_zero (sum_figures no_sums) (chunked sheet_figures (values_from 0 most_lines (λ i. empty_sheet)))
    (refl, (refl, (refl, (refl, (refl, (refl, (refl, (refl, tt))))))))
    (sheets_zero 0 most_lines)

-- an answer that is none refused is its sheet
pub designed_answer : (a : Answer) → answer_verdict a ≡ (Ok tt) → a ≡ Ok (answer_sheet a)
unfolding answer_verdict answer_sheet
designed_answer (Ok s) e = refl
designed_answer (Err n) e = cc

-- ---- the promises

module _ (p : Plant) (r : Readings) (split : Split) (w : Result Works Refusal) (x : Concentrations) (q : accept_works p r split ≡ Ok x) (h : WorksOfLines p x split w) where
  count_most : split.count ≤ most_lines
  count_most = (valid_split split (works_ranges p r split x q).valid).lines.most

  given : T (all_kept (works_rules p r split)) × (values_of p r ≡ x)
  unfolding accept_works
  given = accepted_kept (works_rules p r split) (values_of p r) x q

  pub by_verdict : (v : Verdict) → first_refused h.answers split.count ≡ v → w ≡ works_by v h.answers split.count
  unfolding works_of
  by_verdict v e = h.together ∙ ap (λ (u : Verdict). works_by u h.answers split.count) e

  module _ (e : first_refused h.answers split.count ≡ (Ok tt)) where
    pub sheet_of_line : (i : ℕ) → i < split.count → sheet_at (works_sheets w) i ≡ answer_sheet (h.answers i)
    unfolding works_by works_sheets
    sheet_of_line i l = ap (λ (v : Result Works Refusal). sheet_at (works_sheets v) i) (by_verdict (Ok tt) e) ∙ sheets_at h.answers split.count i count_most l

    line_designed : (i : ℕ) → i < split.count → LineDesigned (line_of p split i) (values_of p r) (sheet_at (works_sheets w) i)
    line_designed i l =
        subst (λ (y : Concentrations). LineDesigned (line_of p split i) y (sheet_at (works_sheets w) i)) (sym given.1)
        (subst (LineDesigned (line_of p split i) x) (sym (sheet_of_line i l))
        (kept_line (line_of p split i) x (h.answers i) (all_designed h.answers split.count e i l) (h.each i l)))

    works_designed : WorksDesigned p r split (answer_number w) (works_sheets w)
    unfolding works_by works_sheets answer_number
    works_designed =
        record {
          numbered = ap answer_number (by_verdict (Ok tt) e);
          kept = given.0;
          lines = line_designed;
          past = λ i l. ap (λ (v : Result Works Refusal). sheet_at (works_sheets v) i) (by_verdict (Ok tt) e) ∙ sheets_past h.answers split.count i l;
          sums =
              ap (λ (v : Result Works Refusal). (works_sheets v).sums) (by_verdict (Ok tt) e)
              ∙ same_sums h.answers (λ i. Ok (sheet_at (works_sheets w) i)) split.count
              (λ i l.
              designed_answer (h.answers i) (all_designed h.answers split.count e i l)
              ∙ ap Ok (sym (sheet_of_line i l)));
        }

  first_line : (k : Refusal) → first_refused h.answers split.count ≡ Err k → FirstLine p (values_of p r) split k
  first_line k e =
      let first = first_at h.answers split.count k e in
      subst (λ (y : Concentrations). FirstLine p y split k) (sym given.1)
      (record {
        line = first.line;
        below = first.below;
        refused = subst (LineChosen (line_of p split first.line) x) first.refused (h.each first.line first.below);
        earlier = λ i l. (answer_sheet (h.answers i), kept_line (line_of p split i) x (h.answers i) (first.earlier i l) (h.each i (omega (arith, first.below))));
      })

pub works_outcome :
    (p : Plant) (r : Readings) (split : Split) (w : Result Works Refusal)
    → WorksChosen p r split w
    → WorksOutcome p r split (answer_number w) (works_sheets w)
unfolding answer_number works_by accept_works
works_outcome p r split w h = go (accept_works p r split) refl h
  where
    refused : (n : Refusal) → w ≡ Err n → (answer_number w ≡ refusal_number n) × AllZero (works_figures (works_sheets w))
    refused n e = (ap answer_number e, subst (λ (v : Result Works Refusal). AllZero (works_figures (works_sheets v))) (sym e) (works_zeros n))

    go : (o : Acceptance) → accept_works p r split ≡ o → WorksAccepted p split w o → WorksOutcome p r split (answer_number w) (works_sheets w)
    go (Err n) q e =
        let z = refused n e in
        inr (record { refusal = n; is_due = inl ((refused_broken (works_rules p r split) (values_of p r) n).0 q); numbered = z.0; zeros = z.1 })
    go (Ok x) q h = lines (first_refused h.answers split.count) refl
      where
        lines : (v : Verdict) → first_refused h.answers split.count ≡ v → WorksOutcome p r split (answer_number w) (works_sheets w)
        lines (Ok u) e = inl (works_designed p r split w x q h e)
        lines (Err k) e =
            let z = refused k (by_verdict p r split w x q h (Err k) e) in
            inr (record { refusal = k; is_due = inr ((given p r split w x q h).0, first_line p r split w x q h k e); numbered = z.0; zeros = z.1 })

-- The two columns hold in every line of a works that has its sheets.
pub line_columns : (line : Plant) (x : Concentrations) (s : Sheet) → LineDesigned line x s → Removes line x s.fraction
unfolding candidate_of
line_columns line x s d = two_columns line x (candidate_of s) d.least.allowed

pub works_columns : (p : Plant) (r : Readings) (split : Split) (w : Result Works Refusal) → WorksChosen p r split w → WorksColumns p r split w
unfolding works_sheets works_by
works_columns p r split (Err n) h = tt
works_columns p r split (Ok w) h = go (accept_works p r split) refl h
  where
    go :
        (o : Acceptance)
        → accept_works p r split ≡ o
        → WorksAccepted p split (Ok w) o
        → (i : ℕ)
        → i < split.count
        → Removes (line_of p split i) (values_of p r) (sheet_at w i).fraction
    go (Err n) q e i l = cc
    go (Ok x) q h i l = lines (first_refused h.answers split.count) refl
      where
        lines : (v : Verdict) → first_refused h.answers split.count ≡ v → Removes (line_of p split i) (values_of p r) (sheet_at w i).fraction
        lines (Ok u) e = line_columns (line_of p split i) (values_of p r) (sheet_at w i) (line_designed p r split (Ok w) x q h e i l)
        lines (Err k) e = cc (by_verdict p r split (Ok w) x q h (Err k) e)
