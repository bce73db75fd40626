-- Sums, sheets and answers of a works' lines while a loop passes over them, one line more at each turn. Assumes nothing.
use mathlib.Core.Logic.{◌⊎◌, inl, inr}
use mathlib.Core.Path.{◌≡◌, refl, sym, ap, subst, ◌∙◌}
use mathlib.Core.Bool.{Bool, true, false, cond}
use mathlib.Core.List.{List}
use Prim.Native.Nat.{ℕ, ◌+◌, ◌≤◌, ◌<◌}
use native.Mathlib.Nat.{eq-or-lt_of_le}
use native.Mathlib.Omega.{arith}
use borrow.Author.Tests.{lt-ltb, le-ltb, ltb-true, ltb-false, eqb-true, eqb-false}
use borrow.Author.Count.{below_more}
use lib.Dec.{T, ltb, eqb}
use lib.ListN.{length, get_or, set, take, length-set, replicate, length-replicate}
use lib.Seq.{get_or-set_same, get_or-set_other}
use Rattle.std.specs.Prelude.{Ok, Err}
use Rattle.std.proofs.lemmas.List.{length-take, length-take-le, get_or-take}
use Rattle.rules.specs.Sums.{sum_from, values_from}
use Rattle.rules.specs.Limits.{most_lines}
use Rattle.rules.specs.Answers.{empty_sheet, answer_sheet}
use Rattle.rules.specs.Ranges.{PlantRanges, ConcentrationRanges, SheetBounds}
use Rattle.rules.specs.Choosing.{candidate_of}
use Rattle.rules.specs.Lines.{split_valid, line_of, line_positive, LineChosenBy, LineChosen}
use Rattle.rules.specs.Works.{answer_verdict, sums_of, line_sheet, no_sums, works_by, works_of}
use Rattle.rules.specs.declared.Plant.{Plant}
use Rattle.rules.specs.declared.Concentrations.{Concentrations}
use Rattle.rules.specs.declared.Split.{Split}
use Rattle.rules.specs.declared.Sheet.{Sheet}
use Rattle.rules.specs.declared.Sums.{Sums}
use Rattle.rules.specs.declared.Works.{Works}
use Rattle.rules.specs.Results.{Answer}
use Rattle.rules.proofs.SumLaws.{sum_grown, values_length, values_at, list_of_values}
use Rattle.rules.proofs.RangeFacts.{on_grid_lem}
use Rattle.rules.proofs.LineLaws.{line_ranges}
use Rattle.rules.proofs.WorksLaws.{none_refused}
use Rattle.examining.proofs.Bounds.{sheet_bounds}
use Rattle.works.specs.Entries.{answer_at, LinesChosen, SheetsBounded, SumsBounds, sums_with}

-- ---- the sums

pub sums_none : (f : ℕ → Answer) → no_sums ≡ sums_of f 0
unfolding no_sums sums_of sum_from
sums_none f = refl

pub none_bounds : SumsBounds 0 no_sums
unfolding no_sums
none_bounds = record { sludge = omega arith; mass = omega arith; surface = omega arith; reactor = omega arith; settling = omega arith; total = omega arith; oxygen = omega arith; transfer = omega arith }

pub sums_next : (f : ℕ → Answer) (n : ℕ) (sums : Sums) → sums ≡ sums_of f n → sums_with sums (answer_sheet (f n)) ≡ sums_of f (n + 1)
unfolding sums_of sums_with
sums_next f n sums e =
    λ k.
    record {
      sludge = sum_grown (λ i. (answer_sheet (f i)).sludge) n sums.sludge (answer_sheet (f n)).sludge (ap (λ (s : Sums). s.sludge) e) refl k;
      mass = sum_grown (λ i. (answer_sheet (f i)).mass) n sums.mass (answer_sheet (f n)).mass (ap (λ (s : Sums). s.mass) e) refl k;
      surface = sum_grown (λ i. (answer_sheet (f i)).surface) n sums.surface (answer_sheet (f n)).surface (ap (λ (s : Sums). s.surface) e) refl k;
      reactor = sum_grown (λ i. (answer_sheet (f i)).reactor) n sums.reactor (answer_sheet (f n)).reactor (ap (λ (s : Sums). s.reactor) e) refl k;
      settling = sum_grown (λ i. (answer_sheet (f i)).settling) n sums.settling (answer_sheet (f n)).settling (ap (λ (s : Sums). s.settling) e) refl k;
      total = sum_grown (λ i. (answer_sheet (f i)).total) n sums.total (answer_sheet (f n)).total (ap (λ (s : Sums). s.total) e) refl k;
      oxygen = sum_grown (λ i. (answer_sheet (f i)).oxygen) n sums.oxygen (answer_sheet (f n)).oxygen (ap (λ (s : Sums). s.oxygen) e) refl k;
      transfer = sum_grown (λ i. (answer_sheet (f i)).transfer) n sums.transfer (answer_sheet (f n)).transfer (ap (λ (s : Sums). s.transfer) e) refl k;
    }

-- ---- the sheets

sheet_here : (f : ℕ → Answer) (n : ℕ) → line_sheet f (n + 1) n ≡ answer_sheet (f n)
unfolding line_sheet
sheet_here f n = rw (lt-ltb n (n + 1) (omega arith))

-- whether line k is one of n lines or of n + 1 is the same unless it is the last of them
sheet_other : (f : ℕ → Answer) (n k : ℕ) → (k ≡ n → ⊥) → line_sheet f n k ≡ line_sheet f (n + 1) k
unfolding line_sheet
sheet_other f n k other = go (ltb k n) refl
  where
    go : (b : Bool) → ltb k n ≡ b → cond b (answer_sheet (f k)) empty_sheet ≡ cond (ltb k (n + 1)) (answer_sheet (f k)) empty_sheet
    go true e = let l : k < n = ltb-true k n e in rw (lt-ltb k (n + 1) (omega arith))
    go false e = let l : n ≤ k = ltb-false k n e in rw (le-ltb k (n + 1) (apart l))
      where
        apart : n ≤ k → n + 1 ≤ k
        apart l = past (eq-or-lt_of_le l)
          where
            past : (n ≡ k) ⊎ (n < k) → n + 1 ≤ k
            past (inl same) = absurd (other (sym same))
            past (inr less) = omega arith

-- the first n sheets of eight, zeros past them
pub record SheetsTo (f : ℕ → Answer) (n : ℕ) (sheets : List Sheet) : Type 0 where
  pub size : length sheets ≡ most_lines
  pub holds : (k : ℕ) → k < most_lines → get_or sheets k empty_sheet ≡ line_sheet f n k

pub sheets_none : (f : ℕ → Answer) → SheetsTo f 0 (values_from 0 most_lines (λ k. empty_sheet))
unfolding line_sheet
sheets_none f =
    record {
      size = values_length 0 most_lines (λ k. empty_sheet);
      holds = λ k l. values_at empty_sheet 0 most_lines (λ k. empty_sheet) k l ∙ rw (le-ltb k 0 (omega arith));
    }

pub sheets_next : (f : ℕ → Answer) (n : ℕ) (sheet : Sheet) (sheets : List Sheet) → n < most_lines → sheet ≡ answer_sheet (f n) → SheetsTo f n sheets → SheetsTo f (n + 1) (set sheets n sheet)
sheets_next f n sheet sheets b e s = record { size = length-set sheets n sheet ∙ s.size; holds = λ k l. go k l (eqb_cases k) }
  where
    eqb_cases : (k : ℕ) → (k ≡ n) ⊎ (k ≡ n → ⊥)
    eqb_cases k = told (eqb k n) refl
      where
        told : (b : Bool) → eqb k n ≡ b → (k ≡ n) ⊎ (k ≡ n → ⊥)
        told true e = inl (eqb-true k n e)
        told false e = inr (eqb-false k n e)

    go : (k : ℕ) → k < most_lines → (k ≡ n) ⊎ (k ≡ n → ⊥) → get_or (set sheets n sheet) k empty_sheet ≡ line_sheet f (n + 1) k
    go k l (inl same) =
        subst (λ (j : ℕ). get_or (set sheets n sheet) j empty_sheet ≡ line_sheet f (n + 1) j) (sym same)
        (get_or-set_same sheets n sheet empty_sheet (omega (arith, s.size)) ∙ (e ∙ sym (sheet_here f n)))
    go k l (inr other) = get_or-set_other sheets n k sheet empty_sheet other ∙ (s.holds k l ∙ sheet_other f n k other)

pub sheets_full : (f : ℕ → Answer) (n : ℕ) (sheets : List Sheet) → SheetsTo f n sheets → sheets ≡ values_from 0 most_lines (line_sheet f n)
sheets_full f n sheets s = list_of_values empty_sheet most_lines (line_sheet f n) sheets s.size s.holds

-- ---- the answers

pub lines_none : (p : Plant) (x : Concentrations) (split : Split) (a : Answer) → LinesChosen p x split 0 (replicate most_lines a)
lines_none p x split a = record { size = length-replicate {A = Answer} most_lines a; each = λ i l. absurd (omega arith) }

pub lines_next :
    (p : Plant) (x : Concentrations) (split : Split) (n : ℕ) (a : Answer) (answers : List Answer)
    → n < most_lines
    → LineChosen (line_of p split n) x a
    → LinesChosen p x split n answers
    → LinesChosen p x split (n + 1) (set answers n a)
lines_next p x split n a answers b c s = record { size = length-set answers n a ∙ s.size; each = λ k l. go k (eq-or-lt_of_le (at_most k l)) }
  where
    at_most : (k : ℕ) → k < n + 1 → k ≤ n
    at_most k l = omega arith

    go : (k : ℕ) → (k ≡ n) ⊎ (k < n) → LineChosen (line_of p split k) x (answer_at (set answers n a) k)
    go k (inl same) =
        subst (λ (j : ℕ). LineChosen (line_of p split j) x (answer_at (set answers n a) j)) (sym same)
        (subst (LineChosen (line_of p split n) x) (sym (get_or-set_same answers n a (Ok empty_sheet) (omega (arith, s.size)))) c)
    go k (inr less) =
        subst (LineChosen (line_of p split k) x) (sym (get_or-set_other answers n k a (Ok empty_sheet) (λ same. omega arith))) (s.each k less)

-- ---- limits of the sheets

zero_bounds : SheetBounds empty_sheet
unfolding empty_sheet
zero_bounds = record { sludge = omega arith; mass = omega arith; surface = omega arith; reactor = omega arith; settling = omega arith; total = omega arith; oxygen = omega arith; transfer = omega arith }

-- a line's answer, whether it has a sheet or zeros
answer_bounds :
    (p : Plant) (x : Concentrations) (split : Split) (i : ℕ) (a : Answer)
    → PlantRanges p → ConcentrationRanges x → T (split_valid split) → i < split.count
    → LineChosen (line_of p split i) x a
    → SheetBounds (answer_sheet a)
unfolding answer_sheet
answer_bounds p x split i (Err n) hp hx valid below c = zero_bounds
answer_bounds p x split i (Ok s) hp hx valid below c = go (line_positive line) refl c
  where
    line : Plant
    line = line_of p split i

    go : (b : Bool) → line_positive line ≡ b → LineChosenBy b line x (Ok s) → SheetBounds s
    go true e l =
        subst SheetBounds (sym l.figures)
        (sheet_bounds line x (candidate_of s) (line_ranges p split i valid below hp (subst T (sym e) tt)) hx (on_grid_lem line.tank (candidate_of s) l.member))
    go false e h = absurd (let z : ◌≡◌ {A = ℕ} 0 1 = cc in omega arith)

pub lines_bounded :
    (p : Plant) (x : Concentrations) (split : Split) (answers : List Answer)
    → PlantRanges p → ConcentrationRanges x → T (split_valid split)
    → LinesChosen p x split split.count answers
    → SheetsBounded answers split.count
lines_bounded p x split answers hp hx valid s i l = answer_bounds p x split i (answer_at answers i) hp hx valid l (s.each i l)

-- the answers of the lines alone, without the entries past them
pub lines_taken :
    (p : Plant) (x : Concentrations) (split : Split) (n : ℕ) (answers : List Answer)
    → n ≤ most_lines
    → LinesChosen p x split n answers
    → (n ≤ length answers) × (length (take n answers) ≡ n) × ((i : ℕ) → i < n → LineChosen (line_of p split i) x (answer_at (take n answers) i))
lines_taken p x split n answers h s =
    let room : n ≤ length answers = omega (arith, s.size) in
    (room, length-take-le n answers room, λ i l. rw (get_or-take n answers i (Ok empty_sheet) l) (s.each i l))

pub taken_bounded : (n : ℕ) (answers : List Answer) → n ≤ length answers → SheetsBounded answers n → SheetsBounded (take n answers) (length (take n answers))
taken_bounded n answers h b i l =
    let below : i < n = omega (arith, length-take n answers) in
    rw (get_or-take n answers i (Ok empty_sheet) below) (b i below)

-- ---- the works

-- a works put together from the first n answers, none of them refused
pub record Together (answers : List Answer) (n : ℕ) (works : Works) : Type 0 where
  pub earlier : (k : ℕ) → k < n → answer_verdict (answer_at answers k) ≡ (Ok tt)
  pub sums : works.sums ≡ sums_of (answer_at answers) n
  pub bounds : SumsBounds n works.sums
  pub sheets : SheetsTo (answer_at answers) n works.sheets

-- sums and a sheet whose every figure is 0
pub sums_default : (s : Sums) → (s.sludge ≡ 0) × ((s.mass ≡ 0) × ((s.surface ≡ 0) × ((s.reactor ≡ 0) × ((s.settling ≡ 0) × ((s.total ≡ 0) × ((s.oxygen ≡ 0) × ((s.transfer ≡ 0)))))))) → s ≡ no_sums
unfolding no_sums
sums_default s h = λ k. record { sludge = h.0 k; mass = h.1.0 k; surface = h.1.1.0 k; reactor = h.1.1.1.0 k; settling = h.1.1.1.1.0 k; total = h.1.1.1.1.1.0 k; oxygen = h.1.1.1.1.1.1.0 k; transfer = h.1.1.1.1.1.1.1 k }

pub sheet_default : (s : Sheet) → (s.fraction ≡ 0) × ((s.return_ratio ≡ 0) × ((s.thickening ≡ 0) × ((s.age ≡ 0) × ((s.sludge ≡ 0) × ((s.mass ≡ 0) × ((s.solids ≡ 0) × ((s.reactor ≡ 0) × ((s.surface ≡ 0) × ((s.depth ≡ 0) × ((s.settling ≡ 0) × ((s.total ≡ 0) × ((s.recirculation ≡ 0) × ((s.oxygen ≡ 0) × ((s.transfer ≡ 0))))))))))))))) → s ≡ empty_sheet
unfolding empty_sheet
sheet_default s h = λ k. record { fraction = h.0 k; return_ratio = h.1.0 k; thickening = h.1.1.0 k; age = h.1.1.1.0 k; sludge = h.1.1.1.1.0 k; mass = h.1.1.1.1.1.0 k; solids = h.1.1.1.1.1.1.0 k; reactor = h.1.1.1.1.1.1.1.0 k; surface = h.1.1.1.1.1.1.1.1.0 k; depth = h.1.1.1.1.1.1.1.1.1.0 k; settling = h.1.1.1.1.1.1.1.1.1.1.0 k; total = h.1.1.1.1.1.1.1.1.1.1.1.0 k; recirculation = h.1.1.1.1.1.1.1.1.1.1.1.1.0 k; oxygen = h.1.1.1.1.1.1.1.1.1.1.1.1.1.0 k; transfer = h.1.1.1.1.1.1.1.1.1.1.1.1.1.1 k }

module _ (answers : List Answer) where
  abbrev at : ℕ → Answer
  at = answer_at answers

  pub together_none : (works : Works) → works.sums ≡ no_sums → works.sheets ≡ values_from 0 most_lines (λ k. empty_sheet) → Together answers 0 works
  together_none works e f =
      record {
        earlier = λ k l. absurd (omega arith);
        sums = e ∙ sums_none at;
        bounds = subst (SumsBounds 0) (sym e) none_bounds;
        sheets = subst (SheetsTo at 0) (sym f) (sheets_none at);
      }

  pub together_next :
      (n : ℕ) (works : Works) (sheet : Sheet) (sums : Sums)
      → n < most_lines
      → answer_at answers n ≡ Ok sheet
      → sums ≡ sums_with works.sums sheet
      → SumsBounds (n + 1) sums
      → Together answers n works
      → Together answers (n + 1) (record { sums = sums; sheets = set works.sheets n sheet })
  unfolding answer_verdict answer_sheet
  together_next n works sheet sums b e s bounds t =
      record {
        earlier = below_more _ n t.earlier (ap answer_verdict e);
        sums = s ∙ (ap (λ (a : Answer). sums_with works.sums (answer_sheet a)) (sym e) ∙ sums_next at n works.sums t.sums);
        bounds = bounds;
        sheets = sheets_next at n sheet works.sheets b (sym (ap answer_sheet e)) t.sheets;
      }

  pub together_all : (n : ℕ) (works : Works) → Together answers n works → Ok works ≡ works_of at n
  unfolding works_of works_by
  together_all n works t =
      rw (none_refused at n t.earlier) (λ i. Ok (record { sums = t.sums i; sheets = sheets_full at n works.sheets t.sheets i }))
