-- Two plants, of which the second permits every candidate that the first permits, at no larger a total: where the first has
-- a design, so has the second, and no larger. Assumes nothing.
use mathlib.Core.Path.{◌≡◌, refl, ap}
use Prim.Native.Nat.{◌≤◌}
use native.Mathlib.Omega.{arith}
use lib.Dec.{T}
use Rattle.std.specs.Prelude.{Ok, Err}
use Rattle.rules.specs.Examining.{sheet_from, sheet_of, permitted}
use Rattle.rules.specs.Choosing.{grid, candidate_of, candidate_total, Least, ChosenAmong}
use Rattle.rules.specs.LooserLimits.{DesignAtMost}
use Rattle.rules.specs.declared.Plant.{Plant}
use Rattle.rules.specs.declared.Concentrations.{Concentrations}
use Rattle.rules.specs.declared.Candidate.{Candidate}
use Rattle.rules.specs.declared.Sheet.{Sheet}
use Rattle.rules.specs.declared.Refusal.{Refusal}
use Rattle.rules.specs.Results.{Answer}
use Rattle.rules.proofs.Examined.{permitted_keeps}

pub record Wider (p q : Plant) (x : Concentrations) : Type 0 where
  pub permits : (y : Candidate) → T (permitted p x y) → T (permitted q x y)
  pub total : (y : Candidate) → candidate_total q x y ≤ candidate_total p x y

pub own_total : (p : Plant) (x : Concentrations) (s : Sheet) → s ≡ sheet_of p x (candidate_of s) → s.total ≡ candidate_total p x (candidate_of s)
unfolding sheet_of sheet_from candidate_total
own_total p x s e = ap (λ (t : Sheet). t.total) e

-- of two least designs the second's is no larger
pub wider_least :
    (p q : Plant) (x : Concentrations) (s t : Sheet)
    → Wider p q x
    → Least p x (grid p) s
    → Least q x (grid q) t
    → t.total ≤ s.total
wider_least p q x s t w h k =
    let allowed = w.permits (candidate_of s) h.allowed in
    let beaten = (k.rivals (candidate_of s) ((permitted_keeps q x (candidate_of s)).0 allowed).grid allowed).total in
    let larger = w.total (candidate_of s) in
    let own = own_total p x s h.figures in
    let other = own_total q x t k.figures in
    omega arith

pub wider_choice :
    (p q : Plant) (x : Concentrations) (s : Sheet) (a : Answer)
    → Wider p q x
    → ChosenAmong p x (grid p) (Ok s)
    → ChosenAmong q x (grid q) a
    → DesignAtMost s.total a
wider_choice p q x s (Err n) w h k =
    let allowed = w.permits (candidate_of s) h.allowed in
    absurd (k.1 (candidate_of s) ((permitted_keeps q x (candidate_of s)).0 allowed).grid allowed)
wider_choice p q x s (Ok t) w h k = record { sheet = t; designed = refl; most = wider_least p q x s t w h k }

-- an answer that is chosen where some candidate is permitted is a design, the least; where none is, it is 5
pub design_chosen :
    (p : Plant) (x : Concentrations) (y : Candidate) (a : Answer)
    → T (permitted p x y)
    → ChosenAmong p x (grid p) a
    → (s : Sheet) × (a ≡ Ok s) × Least p x (grid p) s
design_chosen p x y (Ok s) t c = (s, refl, c)
design_chosen p x y (Err n) t c = absurd (c.1 y ((permitted_keeps p x y).0 t).grid t)

pub none_chosen :
    (p : Plant) (x : Concentrations) (a : Answer)
    → ((y : Candidate) → T (permitted p x y) → ⊥)
    → ChosenAmong p x (grid p) a
    → a ≡ Err Refusal.NoDesign
none_chosen p x (Ok s) none c = absurd (none (candidate_of s) c.allowed)
none_chosen p x (Err n) none c = ap Err c.0
