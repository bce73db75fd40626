-- In a term of the consent at the design temperature with the design's target up(1000a / t) is at most 1000 − f, so that the
-- term's fraction, capacity and nitrate are the design's. Assumes nothing.
use mathlib.Core.Path.{◌≡◌}
use mathlib.Core.Bool.{true, ◌&&◌}
use Prim.Native.Nat.{ℕ, zero, suc, ◌+◌, ◌-◌, ◌*◌, ◌≤◌, ◌<◌}
use native.Mathlib.Nat.{le_refl, div-zero, mul_comm}
use native.Mathlib.Omega.{arith}
use borrow.Author.Tests.{le-leb}
use lib.Dec.{T}
use Rattle.rules.specs.Rounding.{up}
use Rattle.rules.specs.Limits.{least_fraction}
use Rattle.rules.specs.Consent.{date_valid}
use Rattle.rules.specs.AgeNitrate.{safety_factor, aerobic_age, sludge_age, covered}
use Rattle.rules.specs.ReactorSteps.{reactor_by, reactor_dosed, reactor_of}
use Rattle.rules.specs.TermSteps.{aerobic_share, term_share, nitrifies, term_fraction, removes_from200, term_removes, term_denitrified, term_covered}
use Rattle.rules.specs.Ranges.{GridFraction}
use Rattle.rules.specs.declared.Plant.{Plant}
use Rattle.rules.specs.declared.Term.{Term}
use Rattle.rules.specs.declared.Concentrations.{Concentrations}
use Rattle.rules.proofs.Quotients.{up_le}

-- a term at the design temperature, with the design's target, on valid days
pub record AtDesign (p : Plant) (term : Term) : Type 0 where
  pub days : T (date_valid term.first && date_valid term.last)
  pub temperature : term.temperature ≡ p.design_temperature
  pub target : term.nitrate_target ≡ p.nitrate_target

-- what nitrification needs of the sludge age that it was reckoned for: no more than 1000 − f
share_most : (a f : ℕ) → f < 1000 → aerobic_share a (sludge_age a f) ≤ 1000 - f
unfolding sludge_age aerobic_share
share_most a f low = go (up (1000 * a) (1000 - f)) ((up_le (1000 * a) (1000 - f) (up (1000 * a) (1000 - f)) (omega arith)).0 (le_refl _))
  where
    go : (t : ℕ) → 1000 * a ≤ t * (1000 - f) → up (1000 * a) t ≤ 1000 - f
    go zero whole = rw (div-zero (1000 * a + (0 - 1))) (omega arith)
    go (suc t) whole = (up_le (1000 * a) (suc t) (1000 - f) (omega arith)).1 (omega (arith, mul_comm (suc t) (1000 - f)))

module _ (p : Plant) (x : Concentrations) (f : ℕ) (grid : GridFraction f) (term : Term) (at : AtDesign p term) where
  share : term_share p (reactor_of p x f) term ≤ 1000 - f
  unfolding term_share reactor_of reactor_dosed reactor_by
  share = rw at.temperature (share_most (aerobic_age (safety_factor p.load) p.design_temperature) f (omega arith))

  -- nitrification is kept
  pub nitrified_at : nitrifies p (reactor_of p x f) term ≡ true
  unfolding nitrifies
  nitrified_at = le-leb (term_share p (reactor_of p x f) term) 1000 (omega (arith, share))

  -- the fraction is the design's
  fraction_at : term_fraction p (reactor_of p x f) term ≡ f
  unfolding term_fraction reactor_of reactor_dosed reactor_by
  fraction_at = omega (arith, share)

  -- so the term is covered where the design is
  pub covered_at :
      term_covered p x (reactor_of p x f) term
      ≡ covered (reactor_of p x f).removes (reactor_of p x f).removed_by_dose (reactor_of p x f).denitrified
  unfolding term_covered term_removes removes_from200 term_denitrified reactor_of reactor_dosed reactor_by
  covered_at = rw (fraction_at, at.temperature, at.target, le-leb least_fraction f grid.least)
