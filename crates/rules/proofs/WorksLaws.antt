-- Laws of a works: it is determined by its lines' answers, and these by demand 3; its first refused line decides; reactors and settling
-- tanks added up apart make its total; and what the calls promise of it. Assumes nothing.
use mathlib.Core.Path.{◌≡◌, refl, sym, ap, subst, ◌∙◌}
use mathlib.Core.Bool.{Bool, true, false, cond}
use Prim.Native.Nat.{ℕ, zero, suc, ◌+◌, ◌-◌, ◌<◌}
use native.Mathlib.Omega.{arith}
use borrow.Author.Tests.{ltb-true}
use lib.Dec.{ltb}
use lib.ListN.{length}
use Rattle.std.specs.Prelude.{Ok, Err, Result}
use borrow.Author.Count.{below_more}
use Rattle.rules.specs.Sums.{sum_from}
use Rattle.rules.specs.Limits.{most_lines}
use Rattle.rules.specs.Rules.{after}
use Rattle.rules.specs.Answers.{empty_sheet, answer_sheet}
use Rattle.rules.specs.Examining.{total_of, sheet_from, sheet_of}
use Rattle.rules.specs.Choosing.{candidate_of}
use Rattle.rules.specs.Lines.{line_of, line_positive, LineChosenBy, LineChosen}
use Rattle.rules.specs.Works.{accept_works, answer_verdict, first_refused, sums_of, line_sheet, no_sums, works_sheets, works_by, works_of, WorksAccepted, WorksChosen}
use Rattle.rules.specs.declared.Plant.{Plant}
use Rattle.rules.specs.declared.Readings.{Readings}
use Rattle.rules.specs.declared.Concentrations.{Concentrations}
use Rattle.rules.specs.declared.Split.{Split}
use Rattle.rules.specs.declared.Sheet.{Sheet}
use Rattle.rules.specs.declared.Works.{Works}
use Rattle.rules.specs.declared.Refusal.{Refusal}
use Rattle.rules.specs.Results.{Verdict}
use Rattle.rules.specs.Results.{Acceptance}
use Rattle.rules.specs.Results.{Answer}
use Rattle.rules.proofs.SumLaws.{sum_same, sum_plus, values_length, values_same}
use Rattle.rules.proofs.LineLaws.{line_once}

-- ---- the same answers make the same works

module _ (f g : ℕ → Answer) where
  same_refused : (n : ℕ) → ((i : ℕ) → i < n → f i ≡ g i) → first_refused f n ≡ first_refused g n
  unfolding first_refused
  same_refused zero e = refl
  same_refused (suc n) e =
      ap (λ (v : Verdict). after v (answer_verdict (f n))) (same_refused n (λ i h. e i (omega arith)))
      ∙ ap (λ (a : Answer). after (first_refused g n) (answer_verdict a)) (e n (omega arith))

  same_sum : (figure : Sheet → ℕ) (n : ℕ) → ((i : ℕ) → i < n → f i ≡ g i) → sum_from 0 n (λ i. figure (answer_sheet (f i))) ≡ sum_from 0 n (λ i. figure (answer_sheet (g i)))
  same_sum figure n e = sum_same 0 n (λ i. figure (answer_sheet (f i))) (λ i. figure (answer_sheet (g i))) (λ i l m. ap (λ (a : Answer). figure (answer_sheet a)) (e i (omega arith)))

  pub same_sums : (n : ℕ) → ((i : ℕ) → i < n → f i ≡ g i) → sums_of f n ≡ sums_of g n
  unfolding sums_of
  same_sums n e =
      λ k.
      record {
        sludge = same_sum (λ sheet. sheet.sludge) n e k;
        mass = same_sum (λ sheet. sheet.mass) n e k;
        surface = same_sum (λ sheet. sheet.surface) n e k;
        reactor = same_sum (λ sheet. sheet.reactor) n e k;
        settling = same_sum (λ sheet. sheet.settling) n e k;
        total = same_sum (λ sheet. sheet.total) n e k;
        oxygen = same_sum (λ sheet. sheet.oxygen) n e k;
        transfer = same_sum (λ sheet. sheet.transfer) n e k;
      }

  same_sheet : (n k : ℕ) → ((i : ℕ) → i < n → f i ≡ g i) → line_sheet f n k ≡ line_sheet g n k
  unfolding line_sheet
  same_sheet n k e = go (ltb k n) refl
    where
      go : (b : Bool) → ltb k n ≡ b → cond b (answer_sheet (f k)) empty_sheet ≡ cond b (answer_sheet (g k)) empty_sheet
      go true h = ap answer_sheet (e k (ltb-true k n h))
      go false h = refl

  pub same_works : (n : ℕ) → ((i : ℕ) → i < n → f i ≡ g i) → works_of f n ≡ works_of g n
  unfolding works_of works_by
  same_works n e = ap (λ (v : Verdict). works_by v f n) (same_refused n e) ∙ go (first_refused g n)
    where
      go : (v : Verdict) → works_by v f n ≡ works_by v g n
      go (Ok u) =
          λ k.
          Ok (record {
            sums = same_sums n e k;
            sheets = values_same empty_sheet most_lines (line_sheet f n) (line_sheet g n) (λ i h. same_sheet n i e) k;
          })
      go (Err m) = refl

-- The promise leaves one works.
pub works_once : (p : Plant) (r : Readings) (split : Split) (v w : Result Works Refusal) → WorksChosen p r split v → WorksChosen p r split w → v ≡ w
works_once p r split v w = go (accept_works p r split)
  where
    go : (o : Acceptance) → WorksAccepted p split v o → WorksAccepted p split w o → v ≡ w
    go (Err n) a b = a ∙ sym b
    go (Ok x) a b =
        a.together
        ∙ (same_works a.answers b.answers split.count (λ i h. line_once (line_of p split i) x (a.answers i) (b.answers i) (a.each i h) (b.each i h))
        ∙ sym b.together)

-- ---- the first refused line

-- where every line has a sheet, none is refused; and the other way round
pub none_refused : (f : ℕ → Answer) (n : ℕ) → ((i : ℕ) → i < n → answer_verdict (f i) ≡ (Ok tt)) → first_refused f n ≡ (Ok tt)
unfolding first_refused
none_refused f zero e = refl
none_refused f (suc n) e =
    ap (λ (v : Verdict). after v (answer_verdict (f n))) (none_refused f n (λ i h. e i (omega arith))) ∙ e n (omega arith)

pub kept_parts : (v w : Verdict) → after v w ≡ (Ok tt) → (v ≡ (Ok tt)) × (w ≡ (Ok tt))
kept_parts (Ok tt) w e = (refl, e)
kept_parts (Err n) w e = cc

pub all_designed : (f : ℕ → Answer) (n : ℕ) → first_refused f n ≡ (Ok tt) → (i : ℕ) → i < n → answer_verdict (f i) ≡ (Ok tt)
unfolding first_refused
all_designed f zero e i h = absurd (omega arith)
all_designed f (suc n) e i h =
    let parts = kept_parts (first_refused f n) (answer_verdict (f n)) e in
    below_more (λ (k : ℕ). answer_verdict (f k) ≡ Ok tt) n (all_designed f n parts.0) parts.1 i (omega arith)

-- later lines change nothing of a refusal
later_lines : (f : ℕ → Answer) (k : Refusal) (m n : ℕ) → first_refused f m ≡ Err k → first_refused f (m + n) ≡ Err k
unfolding first_refused
later_lines f k m zero e = let h : m + 0 ≡ m = omega arith in rw h e
later_lines f k m (suc n) e =
    let h : m + suc n ≡ suc (m + n) = omega arith in
    rw h (ap (λ (v : Verdict). after v (answer_verdict (f (m + n)))) (later_lines f k m n e))

-- The first refused line decides, whatever the numbers of later ones: a works whose lines before line i have sheets and whose line i is
-- refused with k is refused with k.
pub first_decides :
    (f : ℕ → Answer) (n i : ℕ) (k : Refusal)
    → i < n
    → ((j : ℕ) → j < i → answer_verdict (f j) ≡ (Ok tt))
    → f i ≡ Err k
    → works_of f n ≡ Err k
unfolding works_of works_by first_refused answer_verdict
first_decides f n i k below earlier e =
    let here : first_refused f (suc i) ≡ Err k =
    ap (λ (v : Verdict). after v (answer_verdict (f i))) (none_refused f i earlier) ∙ ap answer_verdict e in
    let all : suc i + (n - suc i) ≡ n = omega arith in
    ap (λ (v : Verdict). works_by v f n) (subst (λ (m : ℕ). first_refused f m ≡ Err k) all (later_lines f k (suc i) (n - suc i) here))

-- ---- the total

-- a sheet's total is its reactor's and its settling tank's volume
pub sheet_total : (p : Plant) (x : Concentrations) (s : Sheet) → s ≡ sheet_of p x (candidate_of s) → s.total ≡ s.reactor + s.settling
unfolding sheet_of sheet_from total_of
sheet_total p x s e = ap (λ (t : Sheet). t.total) e ∙ sym (ap (λ (t : Sheet). t.reactor + t.settling) e)

-- a line's answer: its total, whether it has a sheet or zeros
line_total : (line : Plant) (x : Concentrations) (a : Answer) → LineChosen line x a → (answer_sheet a).total ≡ (answer_sheet a).reactor + (answer_sheet a).settling
unfolding answer_sheet empty_sheet
line_total line x (Err n) c = refl
line_total line x (Ok s) c = go (line_positive line) c
  where
    go : (positive : Bool) → LineChosenBy positive line x (Ok s) → s.total ≡ s.reactor + s.settling
    go true l = sheet_total line x s l.figures
    go false e = cc

abbrev Adds : Result Works Refusal → Type 0
Adds w = (works_sheets w).sums.total ≡ (works_sheets w).sums.reactor + (works_sheets w).sums.settling

together_total :
    (f : ℕ → Answer) (n : ℕ)
    → ((i : ℕ) → i < n → (answer_sheet (f i)).total ≡ (answer_sheet (f i)).reactor + (answer_sheet (f i)).settling)
    → (v : Verdict) → Adds (works_by v f n)
unfolding works_by works_sheets sums_of no_sums
together_total f n e (Ok u) =
    sum_same 0 n (λ i. (answer_sheet (f i)).total) (λ i. (answer_sheet (f i)).reactor + (answer_sheet (f i)).settling) (λ i l m. e i (omega arith))
    ∙ sum_plus 0 n (λ i. (answer_sheet (f i)).reactor) (λ i. (answer_sheet (f i)).settling)
together_total f n e (Err k) = refl

-- Adding volumes line by line, or first all reactors and then all settling tanks, gives one total.
pub one_total :
    (p : Plant) (r : Readings) (split : Split) (w : Result Works Refusal)
    → WorksChosen p r split w
    → (works_sheets w).sums.total ≡ (works_sheets w).sums.reactor + (works_sheets w).sums.settling
unfolding works_sheets no_sums works_of
one_total p r split w = go (accept_works p r split)
  where
    go : (o : Acceptance) → WorksAccepted p split w o → Adds w
    go (Err n) e = subst Adds (sym e) refl
    go (Ok x) h =
        subst Adds (sym h.together)
        (together_total h.answers split.count (λ i l. line_total (line_of p split i) x (h.answers i) (h.each i l)) (first_refused h.answers split.count))

-- ---- its size

-- there are eight sheets, those past the last line zeros
pub works_size : (p : Plant) (r : Readings) (split : Split) (w : Result Works Refusal) → WorksChosen p r split w → length (works_sheets w).sheets ≡ most_lines
unfolding works_sheets works_of works_by
works_size p r split w = go (accept_works p r split)
  where
    by_verdict : (f : ℕ → Answer) (n : ℕ) (v : Verdict) → length (works_sheets (works_by v f n)).sheets ≡ most_lines
    by_verdict f n (Ok u) = values_length 0 most_lines (line_sheet f n)
    by_verdict f n (Err k) = values_length 0 most_lines (λ i. empty_sheet)

    go : (o : Acceptance) → WorksAccepted p split w o → length (works_sheets w).sheets ≡ most_lines
    go (Err n) e = ap (λ (v : Result Works Refusal). length (works_sheets v).sheets) e ∙ values_length 0 most_lines (λ i. empty_sheet)
    go (Ok x) h =
        ap (λ (v : Result Works Refusal). length (works_sheets v).sheets) h.together ∙ by_verdict h.answers split.count (first_refused h.answers split.count)
