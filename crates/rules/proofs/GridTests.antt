-- A test that every fraction of a range, or every settling tank of the grid, fails: told by the number of those that pass, which is
-- found by computation on concrete data. Assumes nothing.
use mathlib.Core.Path.{◌≡◌}
use mathlib.Core.Bool.{Bool, true, false, cond}
use Prim.Native.Nat.{ℕ, ◌+◌, ◌≤◌, ◌<◌}
use native.Mathlib.Omega.{arith}
use lib.Dec.{T}
use Rattle.rules.specs.Limits.{least_ratio, least_time}
use Rattle.rules.specs.Sums.{sum_from}
use Rattle.rules.specs.AgeNitrate.{on_grid}
use Rattle.rules.specs.declared.TankFlow.{TankFlow}
use Rattle.rules.specs.declared.Candidate.{Candidate}
use Rattle.rules.proofs.SumLaws.{zero_sum}
use Rattle.rules.proofs.RangeFacts.{grid_ranges}
use Rattle.rules.proofs.GridSums.{ratios, times}

-- 1 where a test is passed, else 0
abbrev pub passed : Bool → ℕ
passed b = cond b 1 0

-- how many of n numbers from a on pass a test
abbrev pub passing : ℕ → ℕ → (ℕ → Bool) → ℕ
passing a n test = sum_from a n (λ i. passed (test i))

-- how many settling tanks of a flow's grid pass one
abbrev pub tanks_passing : TankFlow → (ℕ → ℕ → Bool) → ℕ
tanks_passing tank test = sum_from least_time times (λ h. passing least_ratio (ratios tank) (λ r. test r h))

fails : (b : Bool) → passed b ≡ 0 → T b → ⊥
fails true e t = let z : ◌≡◌ {A = ℕ} 1 0 = e in absurd (omega arith)
fails false e t = t

pub none_passes : (a n : ℕ) (test : ℕ → Bool) → passing a n test ≡ 0 → (i : ℕ) → a ≤ i → i < a + n → T (test i) → ⊥
none_passes a n test e i least most = fails (test i) (zero_sum a n (λ i. passed (test i)) e i least most)

pub no_tank_passes :
    (tank : TankFlow) (test : ℕ → ℕ → Bool) → tanks_passing tank test ≡ 0 → (y : Candidate) → T (on_grid tank y)
    → T (test y.return_ratio y.thickening)
    → ⊥
no_tank_passes tank test e y on =
    let at = (grid_ranges tank y).0 on in
    none_passes least_ratio (ratios tank) (λ r. test r y.thickening)
    (zero_sum least_time times (λ h. passing least_ratio (ratios tank) (λ r. test r h)) e y.thickening at.time.least (omega (arith, at.time)))
    y.return_ratio
    at.ratio.least
    (omega (arith, at.ratio))
