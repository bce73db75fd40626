-- The order of a sweep: the place and the candidate determine each other, both ways, and the order rises by fraction, then return
-- ratio, then thickening time. Assumes nothing.
use mathlib.Core.Path.{◌≡◌, sym}
use mathlib.Core.Logic.{◌↔◌}
use Prim.Native.Nat.{ℕ, ◌+◌, ◌-◌, ◌*◌, ◌/◌, ◌%◌, ◌≤◌, ◌<◌}
use native.Mathlib.Omega.{arith}
use lib.Dec.{T}
use Rattle.rules.specs.Limits.{least_fraction, least_ratio, least_time}
use Rattle.rules.specs.AgeNitrate.{largest_return_ratio, on_grid}
use Rattle.rules.specs.Census.{grid_size}
use Rattle.rules.specs.Choosing.{grid}
use Rattle.rules.specs.Sweep.{times, candidate_at, order_of, First}
use Rattle.rules.specs.declared.Plant.{Plant}
use Rattle.rules.specs.declared.TankFlow.{TankFlow}
use Rattle.rules.specs.declared.Candidate.{Candidate}
use Rattle.rules.proofs.RangeFacts.{GridRanges, grid_ranges}

-- a place below the grid's number holds a candidate of the grid, whose place it is
pub place_ranges : (flow : TankFlow) (i : ℕ) → i < grid_size flow → GridRanges flow (candidate_at flow i)
unfolding grid_size candidate_at largest_return_ratio
place_ranges TankFlow.Horizontal i h = record { fraction = omega arith; ratio = omega arith; time = omega arith }
place_ranges TankFlow.Vertical i h = record { fraction = omega arith; ratio = omega arith; time = omega arith }

pub place_back : (flow : TankFlow) (i : ℕ) → order_of flow (candidate_at flow i) ≡ i
unfolding candidate_at order_of
place_back TankFlow.Horizontal i = omega arith
place_back TankFlow.Vertical i = omega arith

-- the place of a candidate of the grid is below the grid's number and holds it
pub order_below : (flow : TankFlow) (y : Candidate) → GridRanges flow y → order_of flow y < grid_size flow
unfolding grid_size order_of largest_return_ratio
order_below TankFlow.Horizontal y g = omega (arith, g.fraction, g.ratio, g.time)
order_below TankFlow.Vertical y g = omega (arith, g.fraction, g.ratio, g.time)

pub candidate_back : (flow : TankFlow) (y : Candidate) → GridRanges flow y → candidate_at flow (order_of flow y) ≡ y
unfolding candidate_at order_of largest_return_ratio
candidate_back TankFlow.Horizontal y g = λ i. record { fraction = fraction i; return_ratio = ratio i; thickening = time i }
  where
    n : ℕ
    n = (y.fraction - least_fraction) * 276 + (y.return_ratio - least_ratio) * times + (y.thickening - least_time)

    fraction : least_fraction + n / 276 ≡ y.fraction
    fraction = omega (arith, g.fraction, g.ratio, g.time)

    ratio : least_ratio + n % 276 / times ≡ y.return_ratio
    ratio = omega (arith, g.fraction, g.ratio, g.time)

    time : least_time + n % times ≡ y.thickening
    time = omega (arith, g.fraction, g.ratio, g.time)
candidate_back TankFlow.Vertical y g = λ i. record { fraction = fraction i; return_ratio = ratio i; thickening = time i }
  where
    n : ℕ
    n = (y.fraction - least_fraction) * 426 + (y.return_ratio - least_ratio) * times + (y.thickening - least_time)

    fraction : least_fraction + n / 426 ≡ y.fraction
    fraction = omega (arith, g.fraction, g.ratio, g.time)

    ratio : least_ratio + n % 426 / times ≡ y.return_ratio
    ratio = omega (arith, g.fraction, g.ratio, g.time)

    time : least_time + n % times ≡ y.thickening
    time = omega (arith, g.fraction, g.ratio, g.time)

-- The place and the candidate, both ways: a place below the grid's number holds y exactly when y is on the grid and that is its place.
pub place_and_candidate :
    (flow : TankFlow) (i : ℕ) (y : Candidate)
    → ((i < grid_size flow) × (candidate_at flow i ≡ y)) ↔ (T (on_grid flow y) × (order_of flow y ≡ i))
place_and_candidate flow i y = (
  λ h. (
    rw (sym h.1) ((grid_ranges flow (candidate_at flow i)).1 (place_ranges flow i h.0)),
    rw (sym h.1) (place_back flow i),
  ),
  λ h. let g = (grid_ranges flow y).0 h.0 in (
    rw (sym h.1) (order_below flow y g),
    rw (sym h.1) (candidate_back flow y g),
  ),
)

-- Of two candidates of the grid the one at the earlier place has the smaller fraction; or the same, and the smaller return ratio; or both
-- the same, and the shorter thickening time.
pub record Rises (y z : Candidate) : Type 0 where
  pub fraction : y.fraction ≤ z.fraction
  pub ratio : y.fraction ≡ z.fraction → y.return_ratio ≤ z.return_ratio
  pub time : y.fraction ≡ z.fraction → y.return_ratio ≡ z.return_ratio → y.thickening < z.thickening

pub order_rises : (flow : TankFlow) (y z : Candidate) → T (on_grid flow y) → T (on_grid flow z) → order_of flow y < order_of flow z → Rises y z
unfolding order_of largest_return_ratio
order_rises flow y z gy gz = go flow ((grid_ranges flow y).0 gy) ((grid_ranges flow z).0 gz)
  where
    go : (flow : TankFlow) → GridRanges flow y → GridRanges flow z → order_of flow y < order_of flow z → Rises y z
    go TankFlow.Horizontal a b h = record { fraction = omega arith; ratio = λ f. omega arith; time = λ f r. omega arith }
    go TankFlow.Vertical a b h = record { fraction = omega arith; ratio = λ f. omega arith; time = λ f r. omega arith }

-- the first so many, as many as the grid has, or more, are the whole grid
pub first_whole : (p : Plant) (n : ℕ) → grid_size p.tank ≤ n → (y : Candidate) → First p n y ↔ grid p y
first_whole p n h y = (
  λ s. s.on_grid,
  λ g. record { on_grid = g; since = omega arith; before = omega (arith, order_below p.tank y ((grid_ranges p.tank y).0 g)) },
)
