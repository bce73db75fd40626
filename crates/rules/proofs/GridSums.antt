-- Laws of sums over the grid: they follow its candidates and nothing else, and every candidate of the grid is among them.
-- Assumes nothing.
use mathlib.Core.Logic.{◌↔◌}
use mathlib.Core.Path.{◌≡◌, refl, ap, ◌∙◌}
use Prim.Native.Nat.{ℕ, ◌+◌, ◌*◌, ◌≤◌, ◌<◌}
use native.Mathlib.Omega.{arith}
use lib.Dec.{T}
use Rattle.rules.specs.Limits.{least_fraction, most_fraction, least_ratio, least_time, most_time}
use Rattle.rules.specs.Sums.{span, sum_from}
use Rattle.rules.specs.AgeNitrate.{largest_return_ratio, on_grid}
use Rattle.rules.specs.Census.{sum_over_grid, grid_size}
use Rattle.rules.specs.declared.TankFlow.{TankFlow}
use Rattle.rules.specs.declared.Candidate.{Candidate}
use Rattle.rules.proofs.SumLaws.{sum_same, sum_plus, sum_times, sum_times_right, sum_constant, sum_swap, sum_zero, zero_sum}
use Rattle.rules.proofs.RangeFacts.{grid_ranges}

abbrev pub fractions : ℕ
fractions = span least_fraction most_fraction

abbrev pub times : ℕ
times = span least_time most_time

abbrev pub ratios : TankFlow → ℕ
ratios tank = span least_ratio (largest_return_ratio tank)

-- a candidate by its three figures
abbrev pub candidate : ℕ → ℕ → ℕ → Candidate
candidate f r h = record { fraction = f; return_ratio = r; thickening = h }

ratio_least : (tank : TankFlow) → least_ratio ≤ largest_return_ratio tank
unfolding largest_return_ratio
ratio_least TankFlow.Horizontal = omega arith
ratio_least TankFlow.Vertical = omega arith

-- the numbers that a sum over the grid goes through are those of a candidate of the grid
summed_on_grid :
    (tank : TankFlow) (f r h : ℕ)
    → least_fraction ≤ f → f < least_fraction + fractions
    → least_ratio ≤ r → r < least_ratio + ratios tank
    → least_time ≤ h → h < least_time + times
    → T (on_grid tank (candidate f r h))
summed_on_grid tank f r h lf mf lr mr lh mh =
    let least : least_ratio ≤ largest_return_ratio tank = ratio_least tank in
    (grid_ranges tank (candidate f r h)).1
    (record {
      fraction = record { least = lf; most = omega arith };
      ratio = record { least = lr; most = omega arith };
      time = record { least = lh; most = omega arith };
    })

-- the same on every candidate of the grid, the same sum
pub grid_same : (tank : TankFlow) (g h : Candidate → ℕ) → ((y : Candidate) → T (on_grid tank y) → g y ≡ h y) → sum_over_grid tank g ≡ sum_over_grid tank h
unfolding sum_over_grid
grid_same tank g h e =
    sum_same least_fraction fractions _ _
    (λ f lf mf.
    sum_same least_ratio (ratios tank) _ _
    (λ r lr mr.
    sum_same least_time times _ _
    (λ t lt mt. e (candidate f r t) (summed_on_grid tank f r t lf mf lr mr lt mt))))

pub grid_plus : (tank : TankFlow) (g h : Candidate → ℕ) → sum_over_grid tank (λ y. g y + h y) ≡ sum_over_grid tank g + sum_over_grid tank h
unfolding sum_over_grid
grid_plus tank g h =
    sum_same least_fraction fractions _ _
    (λ f lf mf.
    sum_same least_ratio (ratios tank) _ _ (λ r lr mr. sum_plus least_time times (λ t. g (candidate f r t)) (λ t. h (candidate f r t)))
    ∙ sum_plus least_ratio (ratios tank) (λ r. sum_from least_time times (λ t. g (candidate f r t))) (λ r. sum_from least_time times (λ t. h (candidate f r t))))
    ∙ sum_plus least_fraction fractions
    (λ f. sum_from least_ratio (ratios tank) (λ r. sum_from least_time times (λ t. g (candidate f r t))))
    (λ f. sum_from least_ratio (ratios tank) (λ r. sum_from least_time times (λ t. h (candidate f r t))))

-- a sum of sums over the grid is the sum over the grid of the sums
pub grid_swap :
    (tank : TankFlow) (a n : ℕ) (g : ℕ → Candidate → ℕ)
    → sum_from a n (λ k. sum_over_grid tank (g k)) ≡ sum_over_grid tank (λ y. sum_from a n (λ k. g k y))
unfolding sum_over_grid
grid_swap tank a n g =
    sum_swap a n least_fraction fractions (λ k f. sum_from least_ratio (ratios tank) (λ r. sum_from least_time times (λ t. g k (candidate f r t))))
    ∙ sum_same least_fraction fractions _ _
    (λ f lf mf.
    sum_swap a n least_ratio (ratios tank) (λ k r. sum_from least_time times (λ t. g k (candidate f r t)))
    ∙ sum_same least_ratio (ratios tank) _ _ (λ r lr mr. sum_swap a n least_time times (λ k t. g k (candidate f r t))))

size : (tank : TankFlow) → fractions * (ratios tank * (times * 1)) ≡ grid_size tank
unfolding grid_size largest_return_ratio
size TankFlow.Horizontal = refl
size TankFlow.Vertical = refl

-- one for each candidate is the grid's size
pub grid_ones : (tank : TankFlow) → sum_over_grid tank (λ y. 1) ≡ grid_size tank
unfolding sum_over_grid
grid_ones tank =
    sum_same least_fraction fractions _ _
    (λ f lf mf.
    sum_same least_ratio (ratios tank) _ _ (λ r lr mr. sum_constant least_time times 1)
    ∙ sum_constant least_ratio (ratios tank) (times * 1))
    ∙ (sum_constant least_fraction fractions (ratios tank * (times * 1)) ∙ size tank)

-- a sum over the grid is 0 exactly when it is 0 on every candidate of the grid
pub grid_zero : (tank : TankFlow) (g : Candidate → ℕ) → (sum_over_grid tank g ≡ 0) ↔ ((y : Candidate) → T (on_grid tank y) → g y ≡ 0)
unfolding sum_over_grid
grid_zero tank g = (
  λ e y on.
      let at = (grid_ranges tank y).0 on in
      let rows = zero_sum least_fraction fractions _ e y.fraction at.fraction.least (omega (arith, at.fraction)) in
      let row = zero_sum least_ratio (ratios tank) _ rows y.return_ratio at.ratio.least (omega (arith, at.ratio)) in
      zero_sum least_time times _ row y.thickening at.time.least (omega (arith, at.time)),
  λ e.
      sum_zero least_fraction fractions _
      (λ f lf mf.
      sum_zero least_ratio (ratios tank) _
      (λ r lr mr. sum_zero least_time times _ (λ t lt mt. e (candidate f r t) (summed_on_grid tank f r t lf mf lr mr lt mt)))),
)

-- ---- fractions and settling tanks apart

-- what depends on the fraction alone counts once for each settling tank
pub over_fractions : (tank : TankFlow) (a : ℕ → ℕ) → sum_over_grid tank (λ y. a y.fraction) ≡ sum_from least_fraction fractions a * (ratios tank * times)
unfolding sum_over_grid
over_fractions tank a =
    sum_same least_fraction fractions _ (λ f. a f * (ratios tank * times))
    (λ f lf mf.
    sum_same least_ratio (ratios tank) _ _ (λ r lr mr. sum_constant least_time times (a f))
    ∙ (sum_constant least_ratio (ratios tank) (times * a f) ∙ omega arith))
    ∙ sum_times_right least_fraction fractions (ratios tank * times) a

-- a product of what depends on the fraction and on the settling tank is the product of the two sums; the tanks in either
-- order
pub over_product :
    (tank : TankFlow) (a : ℕ → ℕ) (b : ℕ → ℕ → ℕ)
    → sum_over_grid tank (λ y. a y.fraction * b y.return_ratio y.thickening)
    ≡ sum_from least_fraction fractions a * sum_from least_time times (λ h. sum_from least_ratio (ratios tank) (λ r. b r h))
unfolding sum_over_grid
over_product tank a b =
    sum_same least_fraction fractions _ (λ f. a f * tanks)
    (λ f lf mf.
    sum_same least_ratio (ratios tank) _ (λ r. a f * sum_from least_time times (b r)) (λ r lr mr. sum_times least_time times (a f) (b r))
    ∙ (sum_times least_ratio (ratios tank) (a f) (λ r. sum_from least_time times (b r))
    ∙ ap (λ (s : ℕ). a f * s) (sum_swap least_ratio (ratios tank) least_time times b)))
    ∙ sum_times_right least_fraction fractions tanks a
  where
    tanks : ℕ
    tanks = sum_from least_time times (λ h. sum_from least_ratio (ratios tank) (λ r. b r h))
