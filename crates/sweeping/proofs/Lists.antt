-- The promise over every list of calls after a start. It follows from the contracts of `advance` and `examine` alone, and knows nothing of
-- the code. Assumes nothing.
use mathlib.Core.Path.{◌≡◌, refl, sym, ◌∙◌, subst}
use mathlib.Core.Logic.{◌↔◌, inl, inr}
use mathlib.Core.Bool.{Bool, true, false, ◌&&◌}
use mathlib.Core.List.{List, [], ◌∷◌}
use Prim.Native.Nat.{ℕ, ◌+◌, ◌≤◌, ◌<◌, min}
use native.Mathlib.Omega.{arith}
use lib.Dec.{T, leb, ltb, le→leb}
use lib.Ieee.Fits.{and_i}
use borrow.Author.Tests.{ltb-true, ltb-false, lt-ltb, le-ltb}
use Rattle.std.specs.Prelude.{Result, Ok, Err, Option, None}
use Rattle.rules.specs.Limits.{most_advance}
use Rattle.rules.specs.Rules.{all_kept}
use Rattle.rules.specs.Accepting.{values_of, data_rules, accept}
use Rattle.rules.specs.Choosing.{Chosen, ChosenAmong, grid}
use Rattle.rules.specs.Census.{grid_size}
use Rattle.rules.specs.Sweep.{order_of, Stretch, First, Together, BestAmong, best_kept, best_answer}
use Rattle.rules.specs.declared.Plant.{Plant}
use Rattle.rules.specs.declared.Readings.{Readings}
use Rattle.rules.specs.declared.Concentrations.{Concentrations}
use Rattle.rules.specs.declared.Candidate.{Candidate}
use Rattle.rules.specs.Results.{Acceptance}
use Rattle.rules.specs.Results.{Answer}
use Rattle.rules.specs.declared.Refusal.{Refusal}
use Rattle.rules.specs.declared.Progress.{Progress}
use Rattle.rules.proofs.RangeFacts.{grid_ranges}
use Rattle.rules.proofs.AcceptedData.{accepted_none_due, none_due_accepted}
use Rattle.rules.proofs.SweepOrder.{order_below, first_whole}
use Rattle.rules.proofs.BestLaws.{best_chosen, best_same, best_grows, best_kept_lem}
use Rattle.sweeping.specs.declared.Sweep.{Sweep}
use Rattle.sweeping.specs.Sweeps.{started, start_by, numbers_kept, goes_on_with, goes_on, progress_of, Moves, Stays, AdvancedFrom, SweepCall, SweepResponse, Made, asked_after, AdvanceAnswers, AdvanceAnswersBy, Promised}
use Rattle.sweeping.proofs.AdvanceBy.{true_kept, kept_true, false_left, false_right}

-- a sweep by its parts
abbrev pub sweep_at : Plant → Readings → ℕ → Option Candidate → Sweep
sweep_at p r m b = record { plant = p; readings = r; asked = m; best = b }

module _ (p : Plant) (r : Readings) (kept : T (all_kept (data_rules p r))) where
  abbrev x : Concentrations
  x = values_of p r

  abbrev size : ℕ
  size = grid_size p.tank

  -- the sweep that calls after a start have reached, once so many candidates have been asked for
  pub record Reached (asked m : ℕ) (b : Option Candidate) : Type 0 where
    pub number : m ≡ min asked size
    pub best : BestAmong p x (First p asked) b

  -- before the first call
  pub at_start : Reached 0 0 None
  at_start = record { number = omega arith; best = λ y s t. nobody s.before }
    where
      nobody : {n : ℕ} → n < 0 → ⊥
      nobody h = omega arith

  -- from there an advance by at most 1,000 is not refused
  pub reached_goes_on : (asked m n : ℕ) (b : Option Candidate) → Reached asked m b → leb n most_advance ≡ true → goes_on (sweep_at p r m b) n ≡ true
  unfolding goes_on
  reached_goes_on asked m n b s few =
      kept_true (all_kept (data_rules p r) && goes_on_with x (sweep_at p r m b) n)
      (and_i (all_kept (data_rules p r)) (goes_on_with x (sweep_at p r m b) n) kept
      (and_i (numbers_kept p.tank m n) (best_kept p x b)
      (and_i (leb n most_advance) (leb m size) (true_kept (leb n most_advance) few) (le→leb m size (omega (arith, s.number))))
      (best_kept_lem p x (First p asked) b s.best)))

  -- one above is
  pub many_refused : (m n : ℕ) (b : Option Candidate) → leb n most_advance ≡ false → goes_on (sweep_at p r m b) n ≡ false
  unfolding goes_on
  many_refused m n b many =
      false_right (all_kept (data_rules p r)) (goes_on_with x (sweep_at p r m b) n)
      (false_left (numbers_kept p.tank m n) (best_kept p x b) (false_left (leb n most_advance) (leb m size) many))

  -- the candidates asked for before and those of an advance are those asked for after it
  together : (asked m n : ℕ) → m ≡ min asked size → (y : Candidate) → Together (First p asked) (Stretch p m (m + n)) y ↔ First p (asked + n) y
  together asked m n e y = (to, λ s. back s (order_below p.tank y ((grid_ranges p.tank y).0 s.on_grid)) (ltb (order_of p.tank y) asked) refl)
    where
      to : Together (First p asked) (Stretch p m (m + n)) y → First p (asked + n) y
      to (inl s) = record { on_grid = s.on_grid; since = s.since; before = omega (arith, s.before) }
      to (inr s) = record { on_grid = s.on_grid; since = omega arith; before = omega (arith, s.before, e) }

      back : First p (asked + n) y → order_of p.tank y < size → (b : Bool) → ltb (order_of p.tank y) asked ≡ b → Together (First p asked) (Stretch p m (m + n)) y
      back s g true q = inl (record { on_grid = s.on_grid; since = s.since; before = ltb-true (order_of p.tank y) asked q })
      back s g false q =
          let least : asked ≤ order_of p.tank y = ltb-false (order_of p.tank y) asked q in
          inr (record { on_grid = s.on_grid; since = omega (arith, least, e); before = omega (arith, s.before, least, g, e) })

  -- one advance by at most 1,000
  module _ (asked m n : ℕ) (b : Option Candidate) (t : Sweep) (g : Result Progress Refusal) (s : Reached asked m b) (moves : Moves x (sweep_at p r m b) n t g) where
    pub reached_next : Reached (asked + n) t.asked t.best
    reached_next =
        record {
          number = moves.asked ∙ omega (arith, s.number);
          best =
              best_same p x (Together (First p asked) (Stretch p m (m + n))) (First p (asked + n)) t.best (together asked m n s.number)
              (best_grows p x (First p asked) (Stretch p m (m + n)) b t.best s.best moves.best);
        }

    pub answers : AdvanceAnswers p r (asked + n) g
    unfolding progress_of
    answers = record { unfinished = λ h. unfinished h; finished = λ h. finished h }
      where
        unfinished : asked + n < size → (c : Option Candidate) × (g ≡ Ok (Progress.Unfinished c)) × BestAmong p x (First p (asked + n)) c
        unfinished h =
            let l : m + n < size = omega (arith, s.number) in
            (t.best, moves.progress ∙ rw (lt-ltb (m + n) size l), reached_next.best)

        chosen : size ≤ asked + n → ChosenAmong p x (grid p) (best_answer p x t.best)
        chosen h = best_chosen p x (grid p) t.best (best_same p x (First p (asked + n)) (grid p) t.best (first_whole p (asked + n) h) reached_next.best)

        finished : size ≤ asked + n → (c : Answer) × (g ≡ Ok (Progress.Finished c)) × Chosen p r c
        finished h =
            let l : size ≤ m + n = omega (arith, s.number) in
            (best_answer p x t.best, moves.progress ∙ rw (le-ltb (m + n) size l), rw (none_due_accepted p r kept) (chosen h))

  -- an advance before a list for which the promise holds
  after_advance :
      (calls : List SweepCall) (responses : List SweepResponse) (asked m n : ℕ) (b : Option Candidate) (t : Sweep) (g : Result Progress Refusal)
      → Reached asked m b
      → AdvancedFrom (sweep_at p r m b) n t g
      → ((k c : ℕ) (u : Option Candidate) → Reached k c u → Made (sweep_at p r c u) calls responses → Promised p r k calls responses)
      → Made t calls responses
      → (q : Bool)
      → leb n most_advance ≡ q
      → AdvanceAnswersBy (leb n most_advance) p r (asked + n) g × Promised p r (asked_after asked n) calls responses
  unfolding asked_after
  after_advance calls responses asked m n b t g s step later made true e =
      let moves : Moves x (sweep_at p r m b) n t g = rw (reached_goes_on asked m n b s e) at step in
      let own : t ≡ sweep_at p r t.asked t.best = λ i. record { plant = moves.plant i; readings = moves.readings i; asked = t.asked; best = t.best } in
      rw e (
        answers asked m n b t g s moves,
        later (asked + n) t.asked t.best (reached_next asked m n b t g s moves) (subst (λ (u : Sweep). Made u calls responses) own made),
      )
  after_advance calls responses asked m n b t g s step later made false e =
      let stay : Stays (sweep_at p r m b) t g = rw (many_refused m n b e) at step in
      rw e (stay.refused, later asked m b s (subst (λ (u : Sweep). Made u calls responses) stay.sweep made))

  -- every list from there
  pub from_reached :
      (calls : List SweepCall) (responses : List SweepResponse) (asked m : ℕ) (b : Option Candidate)
      → Reached asked m b
      → Made (sweep_at p r m b) calls responses
      → Promised p r asked calls responses
  from_reached [] [] asked m b s made = tt
  from_reached [] (g ∷ responses) asked m b s made = absurd made
  from_reached (c ∷ calls) [] asked m b s made = absurd made
  from_reached (SweepCall.look y ∷ calls) (SweepResponse.moved g ∷ responses) asked m b s made = absurd made.1
  from_reached (SweepCall.advance n ∷ calls) (SweepResponse.looked a ∷ responses) asked m b s made = absurd made.1
  from_reached (SweepCall.look y ∷ calls) (SweepResponse.looked a ∷ responses) asked m b s made = (
    made.1.0,
    from_reached calls responses asked m b s (subst (λ (t : Sweep). Made t calls responses) made.1.1 made.2),
  )
  from_reached (SweepCall.advance n ∷ calls) (SweepResponse.moved g ∷ responses) asked m b s made =
      after_advance calls responses asked m n b made.0 g s made.1 (λ k c u d. from_reached calls responses k c u d) made.2 (leb n most_advance) refl

-- After every start and every list of calls: what is promised of each of them.
pub every_list :
    (p : Plant) (r : Readings) (s : Sweep) → started p r ≡ Ok s
    → (calls : List SweepCall) (responses : List SweepResponse)
    → Made s calls responses
    → Promised p r 0 calls responses
unfolding started start_by
every_list p r s e calls responses made = go (accept p r) refl e
  where
    go : (o : Acceptance) → accept p r ≡ o → start_by p r o ≡ Ok s → Promised p r 0 calls responses
    go (Err n) q h = absurd (let z : ◌≡◌ {A = ℕ} 0 1 = cc in omega arith)
    go (Ok x) q h =
        let own : sweep_at p r 0 None ≡ s = cc in
        from_reached p r (accepted_none_due p r x q).0 calls responses 0 0 None (at_start p r (accepted_none_due p r x q).0)
        (subst (λ (t : Sweep). Made t calls responses) (sym own) made)
