-- What an advance answers by each of its tests, and what its number, its sheet and its columns are. Assumes nothing.
use mathlib.Core.Path.{◌≡◌, refl, sym, ◌∙◌}
use mathlib.Core.Logic.{inl, inr}
use mathlib.Core.Bool.{Bool, true, false, ◌&&◌}
use Prim.Native.Nat.{ℕ, ◌+◌, ◌≤◌}
use native.Mathlib.Omega.{arith}
use lib.Dec.{T, leb, ltb, leb→le}
use lib.Ieee.Fits.{and_l, and_r}
use borrow.Author.Tests.{ltb-true, ltb-false}
use Rattle.std.specs.Prelude.{Result, Ok, Err, Option, Some, None}
use Rattle.rules.specs.Limits.{most_advance}
use Rattle.rules.specs.Rules.{all_kept}
use Rattle.rules.specs.Accepting.{values_of, data_rules, accept}
use Rattle.rules.specs.Examining.{sheet_of, sheet_from}
use Rattle.rules.specs.Answers.{answer_number, answer_sheet, progress_number, progress_sheet}
use Rattle.rules.specs.Census.{grid_size}
use Rattle.rules.specs.Sweep.{BestAmong, best_kept, best_answer}
use Rattle.rules.specs.declared.Concentrations.{Concentrations}
use Rattle.rules.specs.declared.Refusal.{Refusal}
use Rattle.rules.specs.declared.Progress.{Progress}
use Rattle.rules.proofs.AcceptedData.{accepted_none_due, none_due_accepted, refused_no}
use Rattle.rules.proofs.NitrateColumns.{two_columns}
use Rattle.rules.proofs.OutcomeLaws.{empty_zeros}
use Rattle.rules.proofs.BestLaws.{best_designed}
use Rattle.sweeping.specs.declared.Sweep.{Sweep}
use Rattle.sweeping.specs.Sweeps.{numbers_kept, goes_on_with, goes_on, OwnCandidates, progress_of, Moves, Stays, AdvanceBy, AdvancedFrom, ProgressColumns, AdvanceOutcome}
use Rattle.rules.specs.declared.Candidate.{Candidate}

-- a test holds, or is false
pub true_kept : (b : Bool) → b ≡ true → T b
true_kept true e = tt
true_kept false e = absurd (let z : ◌≡◌ {A = ℕ} 0 1 = cc in omega arith)

pub kept_true : (b : Bool) → T b → b ≡ true
kept_true true t = refl
kept_true false t = absurd t

-- a conjunction with a false part is false
pub false_left : (a b : Bool) → a ≡ false → (a && b) ≡ false
false_left a b e = rw e

pub false_right : (a b : Bool) → b ≡ false → (a && b) ≡ false
false_right true b e = e
false_right false b e = refl

module _ (x : Concentrations) (s : Sweep) (n : ℕ) (t : Sweep) (g : Result Progress Refusal) where
  -- the tests besides the data
  pub numbers_broken : numbers_kept s.plant.tank s.asked n ≡ false → Stays s t g → AdvanceBy (goes_on_with x s n) x s n t g
  numbers_broken e h = rw (false_left (numbers_kept s.plant.tank s.asked n) (best_kept s.plant x s.best) e) h

  pub best_broken : best_kept s.plant x s.best ≡ false → Stays s t g → AdvanceBy (goes_on_with x s n) x s n t g
  best_broken e h = rw (false_right (numbers_kept s.plant.tank s.asked n) (best_kept s.plant x s.best) e) h

  pub all_kept_lem : numbers_kept s.plant.tank s.asked n ≡ true → T (best_kept s.plant x s.best) → Moves x s n t g → AdvanceBy (goes_on_with x s n) x s n t g
  all_kept_lem e k h = rw (e, kept_true (best_kept s.plant x s.best) k) h

-- the numbers that are kept, as facts
pub numbers_facts : (s : Sweep) (n : ℕ) → numbers_kept s.plant.tank s.asked n ≡ true → (n ≤ most_advance) × (s.asked ≤ grid_size s.plant.tank)
numbers_facts s n e =
    let t = true_kept (numbers_kept s.plant.tank s.asked n) e in (
      leb→le n most_advance (and_l (leb n most_advance) (leb s.asked (grid_size s.plant.tank)) t),
      leb→le s.asked (grid_size s.plant.tank) (and_r (leb n most_advance) (leb s.asked (grid_size s.plant.tank)) t),
    )

-- ---- with the data

module _ (s : Sweep) (n : ℕ) (t : Sweep) (g : Result Progress Refusal) where
  -- data that are refused
  pub data_refused : (r : Refusal) → accept s.plant s.readings ≡ Err r → Stays s t g → AdvancedFrom s n t g
  unfolding goes_on
  data_refused r e h = rw (false_left (all_kept (data_rules s.plant s.readings)) (goes_on_with (values_of s.plant s.readings) s n) (go (all_kept (data_rules s.plant s.readings)) refl)) h
    where
      go : (b : Bool) → all_kept (data_rules s.plant s.readings) ≡ b → b ≡ false
      go false q = refl
      go true q = absurd (refused_no r (values_of s.plant s.readings) (sym e ∙ none_due_accepted s.plant s.readings (true_kept (all_kept (data_rules s.plant s.readings)) q)))

  -- data that are accepted
  pub data_accepted : (x : Concentrations) → accept s.plant s.readings ≡ Ok x → AdvanceBy (goes_on_with x s n) x s n t g → AdvancedFrom s n t g
  unfolding goes_on
  data_accepted x e h =
      let given = accepted_none_due s.plant s.readings x e in
      rw (kept_true (all_kept (data_rules s.plant s.readings)) given.0, given.1) h

  -- ---- number, sheet and columns

  kept_data : T (goes_on s n) → T (all_kept (data_rules s.plant s.readings))
  unfolding goes_on
  kept_data k = and_l (all_kept (data_rules s.plant s.readings)) (goes_on_with (values_of s.plant s.readings) s n) k

  -- the columns of a finished sweep's sheet
  best_columns :
      (b : Option Candidate) → T (all_kept (data_rules s.plant s.readings)) → BestAmong s.plant (values_of s.plant s.readings) (OwnCandidates s n) b
      → ProgressColumns s.plant s.readings (Ok (Progress.Finished (best_answer s.plant (values_of s.plant s.readings) b)))
  unfolding best_answer sheet_of sheet_from
  best_columns None k h = tt
  best_columns (Some d) k h = (k, two_columns s.plant (values_of s.plant s.readings) d h.1)

  pub advance_columns : AdvancedFrom s n t g → ProgressColumns s.plant s.readings g
  unfolding progress_of
  advance_columns h = go (goes_on s n) refl h
    where
      moved :
          (b : Bool) → T (goes_on s n) → Moves (values_of s.plant s.readings) s n t g → ltb (s.asked + n) (grid_size s.plant.tank) ≡ b
          → ProgressColumns s.plant s.readings g
      moved true k m e = rw (m.progress, e) tt
      moved false k m e = rw (m.progress, e) (best_columns t.best (kept_data k) m.best)

      go : (b : Bool) → goes_on s n ≡ b → AdvanceBy b (values_of s.plant s.readings) s n t g → ProgressColumns s.plant s.readings g
      go true e m = moved (ltb (s.asked + n) (grid_size s.plant.tank)) (true_kept (goes_on s n) e) m refl
      go false e m = rw m.refused tt

  best_outcome :
      (b : Option Candidate) → T (goes_on s n) → grid_size s.plant.tank ≤ s.asked + n → BestAmong s.plant (values_of s.plant s.readings) (OwnCandidates s n) b
      → AdvanceOutcome s n (answer_number (best_answer s.plant (values_of s.plant s.readings) b)) (answer_sheet (best_answer s.plant (values_of s.plant s.readings) b))
  unfolding best_answer answer_number answer_sheet
  best_outcome None k w h =
      inr (inr (record { refusal = Refusal.NoDesign; is_due = inr (refl, record { goes_on = k; whole = w; none = h }); numbered = refl; zeros = empty_zeros }))
  best_outcome (Some d) k w h =
      inl (record { numbered = refl; goes_on = k; whole = w; least = best_designed s.plant (values_of s.plant s.readings) (OwnCandidates s n) d h })

  pub advance_outcome : AdvancedFrom s n t g → AdvanceOutcome s n (progress_number g) (progress_sheet g)
  unfolding progress_of progress_number progress_sheet
  advance_outcome h = go (goes_on s n) refl h
    where
      moved :
          (b : Bool) → T (goes_on s n) → Moves (values_of s.plant s.readings) s n t g → ltb (s.asked + n) (grid_size s.plant.tank) ≡ b
          → AdvanceOutcome s n (progress_number g) (progress_sheet g)
      moved true k m e =
          rw (m.progress, e)
          (inr (inl (record { numbered = refl; goes_on = k; left = ltb-true (s.asked + n) (grid_size s.plant.tank) e; zeros = empty_zeros })))
      moved false k m e = rw (m.progress, e) (best_outcome t.best k (ltb-false (s.asked + n) (grid_size s.plant.tank) e) m.best)

      go : (b : Bool) → goes_on s n ≡ b → AdvanceBy b (values_of s.plant s.readings) s n t g → AdvanceOutcome s n (progress_number g) (progress_sheet g)
      go true e m = moved (ltb (s.asked + n) (grid_size s.plant.tank)) (true_kept (goes_on s n) e) m refl
      go false e m = rw m.refused (inr (inr (record { refusal = Refusal.Advance; is_due = inl (refl, e); numbered = refl; zeros = empty_zeros })))
