-- Wrong sweeps that the contracts shut out, from any sweep that is handed on. Assumes nothing.
use mathlib.Core.Path.{◌≡◌, refl, sym, ap, ◌∙◌, subst}
use mathlib.Core.Logic.{inl, inr}
use mathlib.Core.Bool.{Bool, true, false}
use Prim.Native.Nat.{ℕ, ◌+◌, ◌≤◌, ◌<◌}
use native.Mathlib.Omega.{arith}
use lib.Dec.{T, ltb}
use borrow.Author.Tests.{lt-ltb, le-ltb}
use Rattle.std.specs.Prelude.{Result, Ok, Err, Option, Some, None}
use Rattle.rules.specs.Rules.{all_kept}
use Rattle.rules.specs.Accepting.{values_of, data_rules, accept}
use Rattle.rules.specs.Examining.{permitted}
use Rattle.rules.specs.Choosing.{candidate_total}
use Rattle.rules.specs.Census.{grid_size}
use Rattle.rules.specs.Sweep.{HandedOn, BestAmong, best_answer, candidate_at}
use Rattle.rules.specs.declared.Plant.{Plant}
use Rattle.rules.specs.declared.TankFlow.{TankFlow}
use Rattle.rules.specs.declared.Readings.{Readings}
use Rattle.rules.specs.declared.Candidate.{Candidate}
use Rattle.rules.specs.declared.Refusal.{Refusal}
use Rattle.rules.specs.Results.{Answer}
use Rattle.rules.specs.declared.Progress.{Progress}
use Rattle.rules.proofs.RangeFacts.{grid_ranges}
use Rattle.rules.proofs.SweepOrder.{order_below}
use Rattle.rules.proofs.BestLaws.{best_once}
use Rattle.sweeping.specs.declared.Sweep.{Sweep}
use Rattle.sweeping.specs.Sweeps.{started, start_by, goes_on, OwnCandidates, progress_of, Moves, Stays, AdvancedFrom, SweepCall, SweepResponse, Takes}
use Rattle.sweeping.proofs.Lists.{sweep_at, at_start, reached_goes_on, many_refused}

-- the variants of an answer are apart
unfinished_finished : (b : Option Candidate) (a : Answer) → ◌≡◌ {A = Result Progress Refusal} (Ok (Progress.Unfinished b)) (Ok (Progress.Finished a)) → ⊥
unfinished_finished b a e = let z : ◌≡◌ {A = ℕ} 0 1 = cc in omega arith

refused_not_ok : (n : Refusal) (g : Progress) → ◌≡◌ {A = Result Progress Refusal} (Err n) (Ok g) → ⊥
refused_not_ok n g e = let z : ◌≡◌ {A = ℕ} 0 1 = cc in omega arith

none_at : (d : Candidate) → None ≡ Some d → ⊥
none_at d e = let z : ◌≡◌ {A = ℕ} 0 1 = cc in omega arith

-- an advance that is not refused moves
pub advance_moves :
    (s : Sweep) (n : ℕ) (t : Sweep) (g : Result Progress Refusal) → goes_on s n ≡ true → AdvancedFrom s n t g → Moves (values_of s.plant s.readings) s n t g
advance_moves s n t g e h = rw e at h

-- one that is refused stays
pub advance_stays : (s : Sweep) (n : ℕ) (t : Sweep) (g : Result Progress Refusal) → goes_on s n ≡ false → AdvancedFrom s n t g → Stays s t g
advance_stays s n t g e h = rw e at h

-- Two answers of one advance are one.
pub advance_once :
    (s : Sweep) (n : ℕ) (t u : Sweep) (g h : Result Progress Refusal) → AdvancedFrom s n t g → AdvancedFrom s n u h → (t ≡ u) × (g ≡ h)
advance_once s n t u g h one two = go (goes_on s n) refl
  where
    both : Moves (values_of s.plant s.readings) s n t g → Moves (values_of s.plant s.readings) s n u h → (t ≡ u) × (g ≡ h)
    both l m =
        let best : t.best ≡ u.best = best_once s.plant (values_of s.plant s.readings) (OwnCandidates s n) t.best u.best l.best m.best in (
          λ i.
              record {
                plant = (l.plant ∙ sym m.plant) i;
                readings = (l.readings ∙ sym m.readings) i;
                asked = (l.asked ∙ sym m.asked) i;
                best = best i;
              },
          l.progress
              ∙ (ap
              (λ (b : Option Candidate). Ok (progress_of (ltb (s.asked + n) (grid_size s.plant.tank)) s.plant (values_of s.plant s.readings) b))
              best
              ∙ sym m.progress),
        )

    go : (q : Bool) → goes_on s n ≡ q → (t ≡ u) × (g ≡ h)
    go true e = both (advance_moves s n t g e one) (advance_moves s n u h e two)
    go false e =
        let l = advance_stays s n t g e one in
        let m = advance_stays s n u h e two in
        (l.sweep ∙ sym m.sweep, l.refused ∙ sym m.refused)

-- A sweep of which the number is the grid's and which has no best answers 5, by whatever number it is advanced.
pub whole_without_best :
    (s : Sweep) (n : ℕ) (t : Sweep) (g : Result Progress Refusal) → s.asked ≡ grid_size s.plant.tank → s.best ≡ None → goes_on s n ≡ true → AdvancedFrom s n t g
    → g ≡ Ok (Progress.Finished (Err Refusal.NoDesign))
unfolding progress_of best_answer
whole_without_best s n t g number none e h = go t.best refl
  where
    m : Moves (values_of s.plant s.readings) s n t g
    m = advance_moves s n t g e h

    nobody : (y : Candidate) → OwnCandidates s n y → ⊥
    nobody y (inl held) = subst (λ (b : Option Candidate). HandedOn b y) none held
    nobody y (inr r) = omega (arith, r.since, number, order_below s.plant.tank y ((grid_ranges s.plant.tank y).0 r.on_grid))

    done : grid_size s.plant.tank ≤ s.asked + n
    done = omega (arith, number)

    go : (b : Option Candidate) → t.best ≡ b → g ≡ Ok (Progress.Finished (Err Refusal.NoDesign))
    go None q = m.progress ∙ rw (le-ltb (s.asked + n) (grid_size s.plant.tank) done, q)
    go (Some d) q = absurd (nobody d (subst (BestAmong s.plant (values_of s.plant s.readings) (OwnCandidates s n)) q m.best).0)

-- ---- wrong answers of an advance that is not refused

module _ (s : Sweep) (n : ℕ) (t : Sweep) (g : Result Progress Refusal) (e : goes_on s n ≡ true) (h : AdvancedFrom s n t g) where
  moves : Moves (values_of s.plant s.readings) s n t g
  moves = advance_moves s n t g e h

  said : (q : Bool) → ltb (s.asked + n) (grid_size s.plant.tank) ≡ q → g ≡ Ok (progress_of q s.plant (values_of s.plant s.readings) t.best)
  said q f = moves.progress ∙ ap (λ (b : Bool). Ok (progress_of b s.plant (values_of s.plant s.readings) t.best)) f

  -- "unfinished" once too often: from the grid's number on it is not said
  not_too_often : grid_size s.plant.tank ≤ s.asked + n → (b : Option Candidate) → g ≡ Ok (Progress.Unfinished b) → ⊥
  unfolding progress_of
  not_too_often l b f = unfinished_finished b (best_answer s.plant (values_of s.plant s.readings) t.best) (sym f ∙ said false (le-ltb (s.asked + n) (grid_size s.plant.tank) l))

  -- once too seldom: one candidate before the grid's number it is
  not_too_seldom : s.asked + n < grid_size s.plant.tank → (c : Answer) → g ≡ Ok (Progress.Finished c) → ⊥
  unfolding progress_of
  not_too_seldom l c f = unfinished_finished t.best c (sym (said true (lt-ltb (s.asked + n) (grid_size s.plant.tank) l)) ∙ f)

  -- the best of the last advance only: a best that is handed on is not lost
  handed_not_lost : (d : Candidate) → s.best ≡ Some d → T (permitted s.plant (values_of s.plant s.readings) d) → t.best ≡ None → ⊥
  handed_not_lost d held k none =
      subst (BestAmong s.plant (values_of s.plant s.readings) (OwnCandidates s n)) none moves.best d
      (inl (subst (λ (b : Option Candidate). HandedOn b d) (sym held) refl))
      k

  -- a tie given to the larger fraction, and a sweep compared by the totals alone, whichever of the two was handed on
  tie_not_later :
      (d y : Candidate) → t.best ≡ Some d → OwnCandidates s n y → T (permitted s.plant (values_of s.plant s.readings) y)
      → candidate_total s.plant (values_of s.plant s.readings) d ≡ candidate_total s.plant (values_of s.plant s.readings) y
      → y.fraction < d.fraction
      → ⊥
  tie_not_later d y best own k same less =
      omega (arith, less, ((subst (BestAmong s.plant (values_of s.plant s.readings) (OwnCandidates s n)) best moves.best).2 y own k).fraction same)

-- ---- a start

usual : (p : Plant) (r : Readings) (n : Refusal) → accept p r ≡ Err n → started p r ≡ Err n
unfolding started start_by
usual p r n e = rw e

no_sweep : (n : Refusal) (s : Sweep) → Err n ≡ Ok s → ⊥
no_sweep n s e = let z : ◌≡◌ {A = ℕ} 0 1 = cc in omega arith

-- ---- the order, and calls after a start

pub record WrongSweeps : Type 0 where
  -- h slowest, or r: the second place holds the next thickening time, the seventh the next return ratio
  pub next_time : candidate_at TankFlow.Horizontal 1 ≡ record { fraction = 200; return_ratio = 30; thickening = 21 }
  pub next_ratio : candidate_at TankFlow.Horizontal 6 ≡ record { fraction = 200; return_ratio = 31; thickening = 20 }
  pub next_fraction : candidate_at TankFlow.Horizontal 276 ≡ record { fraction = 201; return_ratio = 30; thickening = 20 }
  pub last_place : candidate_at TankFlow.Vertical 128_225 ≡ record { fraction = 500; return_ratio = 100; thickening = 25 }
  -- a start on refused data that begins a sweep, or that answers 19 or any number but theirs
  pub started_on_refused : (p : Plant) (r : Readings) (n : Refusal) (s : Sweep) → accept p r ≡ Err n → started p r ≡ Ok s → ⊥
  pub usual_number : (p : Plant) (r : Readings) (n : Refusal) → accept p r ≡ Err n → started p r ≡ Err n
  -- 1,000 refused after a start
  pub thousand_not_refused :
      (p : Plant) (r : Readings) → T (all_kept (data_rules p r)) → (t : Sweep) (g : Result Progress Refusal) → AdvancedFrom (sweep_at p r 0 None) 1_000 t g
      → g ≡ Err Refusal.Advance
      → ⊥
  -- 1,001 not refused, or counted
  pub refused_not_counted :
      (p : Plant) (r : Readings) (m : ℕ) (b : Option Candidate) → T (all_kept (data_rules p r)) → (t : Sweep) (g : Result Progress Refusal)
      → AdvancedFrom (sweep_at p r m b) 1_001 t g
      → Stays (sweep_at p r m b) t g
  -- "unfinished" once too often or too seldom
  pub too_often :
      (s : Sweep) (n : ℕ) (t : Sweep) (g : Result Progress Refusal) → goes_on s n ≡ true → AdvancedFrom s n t g → grid_size s.plant.tank ≤ s.asked + n
      → (b : Option Candidate)
      → g ≡ Ok (Progress.Unfinished b)
      → ⊥
  pub too_seldom :
      (s : Sweep) (n : ℕ) (t : Sweep) (g : Result Progress Refusal) → goes_on s n ≡ true → AdvancedFrom s n t g → s.asked + n < grid_size s.plant.tank
      → (c : Answer)
      → g ≡ Ok (Progress.Finished c)
      → ⊥
  -- the best of the last advance only
  pub last_advance_only :
      (s : Sweep) (n : ℕ) (t : Sweep) (g : Result Progress Refusal) → goes_on s n ≡ true → AdvancedFrom s n t g → (d : Candidate) → s.best ≡ Some d
      → T (permitted s.plant (values_of s.plant s.readings) d)
      → t.best ≡ None
      → ⊥
  -- a tie given to the larger fraction, also where a sweep that no start reaches hands it on
  pub tie_to_later :
      (s : Sweep) (n : ℕ) (t : Sweep) (g : Result Progress Refusal) → goes_on s n ≡ true → AdvancedFrom s n t g → (d y : Candidate) → t.best ≡ Some d
      → OwnCandidates s n y
      → T (permitted s.plant (values_of s.plant s.readings) y)
      → candidate_total s.plant (values_of s.plant s.readings) d ≡ candidate_total s.plant (values_of s.plant s.readings) y
      → y.fraction < d.fraction
      → ⊥
  -- an examination that moves the sweep
  pub examination_moves : (s t : Sweep) (y : Candidate) (a : Answer) → Takes s (SweepCall.look y) (SweepResponse.looked a) t → t ≡ s

pub wrong_sweeps : WrongSweeps
unfolding candidate_at progress_of
wrong_sweeps =
    record {
      next_time = refl;
      next_ratio = refl;
      next_fraction = refl;
      last_place = refl;
      started_on_refused = λ p r n s e h. no_sweep n s (sym (usual p r n e) ∙ h);
      usual_number = λ p r n e. usual p r n e;
      thousand_not_refused = λ p r kept t g h f. thousand p r kept t g h f;
      refused_not_counted = λ p r m b kept t g h. advance_stays (sweep_at p r m b) 1_001 t g (many_refused p r kept m 1_001 b refl) h;
      too_often = λ s n t g e h. not_too_often s n t g e h;
      too_seldom = λ s n t g e h. not_too_seldom s n t g e h;
      last_advance_only = λ s n t g e h. handed_not_lost s n t g e h;
      tie_to_later = λ s n t g e h. tie_not_later s n t g e h;
      examination_moves = λ s t y a h. h.1;
    }
  where
    thousand :
        (p : Plant) (r : Readings) → T (all_kept (data_rules p r)) → (t : Sweep) (g : Result Progress Refusal) → AdvancedFrom (sweep_at p r 0 None) 1_000 t g
        → g ≡ Err Refusal.Advance
        → ⊥
    thousand p r kept t g h f =
        let on = reached_goes_on p r kept 0 0 1_000 None (at_start p r kept) refl in
        refused_not_ok Refusal.Advance _ (sym f ∙ (advance_moves (sweep_at p r 0 None) 1_000 t g on h).progress)
