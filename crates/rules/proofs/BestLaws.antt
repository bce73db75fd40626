-- The best of a set of candidates: it is one, it answers as choosing among the set would, and it goes by the set alone; the best of a
-- set that grows is the best of the old best and what is new. Assumes nothing.
use mathlib.Core.Path.{◌≡◌, refl, ap}
use mathlib.Core.Logic.{◌↔◌, inl, inr}
use Prim.Native.Nat.{ℕ}
use native.Mathlib.Nat.{le_refl, le_trans}
use native.Mathlib.Omega.{arith}
use lib.Dec.{T}
use Rattle.std.specs.Prelude.{Option, Some, None}
use Rattle.rules.specs.Examining.{sheet_of, sheet_from, permitted}
use Rattle.rules.specs.Choosing.{Candidates, candidate_of, candidate_total, NotBeforeBy, NotBefore, Least, ChosenAmong}
use Rattle.rules.specs.Sweep.{HandedOn, Together, BestAmong, best_kept, best_answer}
use Rattle.rules.specs.declared.Plant.{Plant}
use Rattle.rules.specs.declared.Concentrations.{Concentrations}
use Rattle.rules.specs.declared.Candidate.{Candidate}
use Rattle.rules.proofs.ChosenOnce.{neither_before}

-- the order of choosing: none comes before itself, and what comes before neither of two ..
not_before_self : (volume : Candidate → ℕ) (d : Candidate) → NotBeforeBy volume d d
not_before_self volume d =
    record { total = le_refl (volume d); fraction = λ t. le_refl d.fraction; ratio = λ t f. le_refl d.return_ratio; time = λ t f r. le_refl d.thickening }

not_before_trans : (volume : Candidate → ℕ) (d e y : Candidate) → NotBeforeBy volume d e → NotBeforeBy volume e y → NotBeforeBy volume d y
not_before_trans volume d e y a b =
    record {
      total = le_trans a.total b.total;
      fraction = λ t. le_trans (a.fraction (left t)) (b.fraction (right t));
      ratio = λ t f. le_trans (a.ratio (left t) (left_f t f)) (b.ratio (right t) (right_f t f));
      time = λ t f r. le_trans (a.time (left t) (left_f t f) (left_r t f r)) (b.time (right t) (right_f t f) (right_r t f r));
    }
  where
    left : volume d ≡ volume y → volume d ≡ volume e
    left t = omega (arith, a.total, b.total)

    right : volume d ≡ volume y → volume e ≡ volume y
    right t = omega (arith, a.total, b.total)

    left_f : volume d ≡ volume y → d.fraction ≡ y.fraction → d.fraction ≡ e.fraction
    left_f t f = omega (arith, a.fraction (left t), b.fraction (right t))

    right_f : volume d ≡ volume y → d.fraction ≡ y.fraction → e.fraction ≡ y.fraction
    right_f t f = omega (arith, a.fraction (left t), b.fraction (right t))

    left_r : volume d ≡ volume y → d.fraction ≡ y.fraction → d.return_ratio ≡ y.return_ratio → d.return_ratio ≡ e.return_ratio
    left_r t f r = omega (arith, a.ratio (left t) (left_f t f), b.ratio (right t) (right_f t f))

    right_r : volume d ≡ volume y → d.fraction ≡ y.fraction → d.return_ratio ≡ y.return_ratio → e.return_ratio ≡ y.return_ratio
    right_r t f r = omega (arith, a.ratio (left t) (left_f t f), b.ratio (right t) (right_f t f))

-- the sheet of a best is the least design
pub best_designed : (p : Plant) (x : Concentrations) (among : Candidates) (d : Candidate) → BestAmong p x among (Some d) → Least p x among (sheet_of p x d)
unfolding candidate_of sheet_of sheet_from
best_designed p x among d h = record { member = h.0; allowed = h.1; figures = refl; rivals = h.2 }

-- The best answers as choosing among the set would.
pub best_chosen : (p : Plant) (x : Concentrations) (among : Candidates) (b : Option Candidate) → BestAmong p x among b → ChosenAmong p x among (best_answer p x b)
unfolding best_answer
best_chosen p x among None h = (refl, h)
best_chosen p x among (Some d) h = best_designed p x among d h

-- Two bests of one set are one.
pub best_once : (p : Plant) (x : Concentrations) (among : Candidates) (a b : Option Candidate) → BestAmong p x among a → BestAmong p x among b → a ≡ b
best_once p x among None None h k = refl
best_once p x among None (Some e) h k = absurd (h e k.0 k.1)
best_once p x among (Some d) None h k = absurd (k d h.0 h.1)
best_once p x among (Some d) (Some e) h k =
    ap Some (neither_before (candidate_total p x) d e (h.2 e k.0 k.1) (k.2 d h.0 h.1))

-- the best goes by the set alone
pub best_same :
    (p : Plant) (x : Concentrations) (from to : Candidates) (b : Option Candidate)
    → ((y : Candidate) → from y ↔ to y)
    → BestAmong p x from b
    → BestAmong p x to b
best_same p x from to None e h = λ y m t. h y ((e y).1 m) t
best_same p x from to (Some d) e h = ((e d).0 h.0, h.1, λ y m t. h.2 y ((e y).1 m) t)

-- a best is permitted, or none yet
pub best_kept_lem : (p : Plant) (x : Concentrations) (among : Candidates) (b : Option Candidate) → BestAmong p x among b → T (best_kept p x b)
unfolding best_kept
best_kept_lem p x among None h = tt
best_kept_lem p x among (Some d) h = h.1

-- The best of the best of a set and of what is new is the best of all together.
pub best_grows :
    (p : Plant) (x : Concentrations) (old new : Candidates) (b c : Option Candidate)
    → BestAmong p x old b
    → BestAmong p x (Together (HandedOn b) new) c
    → BestAmong p x (Together old new) c
best_grows p x old new None None h k = λ y m t. go y m t
  where
    go : (y : Candidate) → Together old new y → T (permitted p x y) → ⊥
    go y (inl o) t = h y o t
    go y (inr n) t = k y (inr n) t
best_grows p x old new None (Some d) h k = (member k.0, k.1, λ y m t. go y m t)
  where
    member : Together (HandedOn None) new d → Together old new d
    member (inl z) = absurd z
    member (inr n) = inr n

    go : (y : Candidate) → Together old new y → T (permitted p x y) → NotBefore p x d y
    go y (inl o) t = absurd (h y o t)
    go y (inr n) t = k.2 y (inr n) t
best_grows p x old new (Some e) None h k = absurd (k e (inl refl) h.1)
best_grows p x old new (Some e) (Some d) h k = (member k.0, k.1, λ y m t. go y m t)
  where
    member : Together (HandedOn (Some e)) new d → Together old new d
    member (inl s) = inl (rw s h.0)
    member (inr n) = inr n

    go : (y : Candidate) → Together old new y → T (permitted p x y) → NotBefore p x d y
    go y (inl o) t = not_before_trans (candidate_total p x) d e y (k.2 e (inl refl) h.1) (h.2 y o t)
    go y (inr n) t = k.2 y (inr n) t
