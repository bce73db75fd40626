-- Limits of each figure of the settling tank, from those of the figures before it. A quotient's limits go through the
-- rounding laws, a product's through its factors'. Assumes nothing.
use mathlib.Core.Path.{◌≡◌, refl}
use Prim.Native.Nat.{ℕ, ◌+◌, ◌-◌, ◌*◌, ◌≤◌, ◌<◌}
use native.Mathlib.Nat.{mul-le-mul, mul-le-mul_left, mul-le-mul_right, le_of_mul-le-mul_left, div-mul-le_self}
use native.Mathlib.Omega.{arith}
use Rattle.rules.specs.Rounding.{down, up}
use Rattle.rules.specs.Limits.{least_solids}
use Rattle.rules.proofs.FigureBounds.{least_returned, least_bottom, most_bottom, most_solids}
use Rattle.rules.specs.Ranges.{Between, Index}
use Rattle.rules.specs.SettlingSteps.{cube_root, thickening_root, bottom_sludge, return_share, return_sludge, mixed_solids, diluted_volume, volume_loading, largest_overflow_rate, surface_overflow_rate, settling_surface, settling_depth, settling_volume}
use Rattle.rules.specs.declared.Removal.{Removal}
use Rattle.rules.specs.declared.TankFlow.{TankFlow}
use Rattle.rules.proofs.Quotients.{le_down, up_le}
use Rattle.rules.proofs.CubeRoot.{cube_lt, cube_root_lem}

-- a "down" times its divisor is at most the dividend
pub down_mul : (a d : ℕ) → down a d * d ≤ a
down_mul a d = div-mul-le_self a d

-- an "up" of more than 0 is at least 1
pub up_limits : (a d most : ℕ) → 0 < a → 0 < d → a ≤ most * d → Between 1 most (up a d)
up_limits a d most some pos fits =
    record { least = (le_down (a + (d - 1)) d 1 pos).1 (omega arith); most = (up_le a d most pos).1 fits }

-- 12,599's cube is at most 20 · 100,000,000,000, and 13,573's above 25 · 100,000,000,000
pub root_limits : {h : ℕ} → Between 20 25 h → Between 12_599 13_572 (thickening_root h)
unfolding thickening_root
root_limits {h} b =
    let most : cube_root (h * 100_000_000_000) < 13_573 = cube_lt (cube_root (h * 100_000_000_000)) 13_573 (omega (arith, (cube_root_lem (h * 100_000_000_000)).0)) in
    record { least = (cube_root_lem (h * 100_000_000_000)).1 12_599 (omega arith); most = omega arith }

-- B · I
pub bottom_index : {c : ℕ} (index : ℕ) → Between 12_599 13_572 c → bottom_sludge c index * index ≤ 1_357_200
unfolding bottom_sludge
bottom_index {c} index b = omega (arith, down_mul (100 * c) index)

pub bottom_limits : {c index : ℕ} → Between 12_599 13_572 c → Index index → Between least_bottom most_bottom (bottom_sludge c index)
unfolding bottom_sludge
bottom_limits {c} {index} b i =
    record {
      least = (le_down (100 * c) index least_bottom (omega arith)).1 (omega arith);
      most = omega (arith, bottom_index index b, mul-le-mul_left (bottom_sludge c index) i.least);
    }

pub share_limits : (removal : Removal) → Between 5 10 (return_share removal)
unfolding return_share
share_limits Removal.Scraper = omega arith
share_limits Removal.Suction = omega arith
share_limits Removal.Hopper = omega arith

pub returned_limits : {share bottom : ℕ} → Between 5 10 share → Between least_bottom most_bottom bottom → Between least_returned most_bottom (return_sludge share bottom) × (return_sludge share bottom ≤ bottom)
unfolding return_sludge
returned_limits {share} {bottom} s b = omega (arith, mul-le-mul_right bottom s.least, mul-le-mul_right bottom s.most)

-- 2r is at most 100 + r, so the solids are at most half the return sludge's
pub mixed_half : (returned : ℕ) {ratio : ℕ} → Between 30 100 ratio → 2 * mixed_solids returned ratio ≤ returned
unfolding mixed_solids
mixed_half returned {ratio} r =
    le_of_mul-le-mul_left {k = ratio}
    (omega (arith, down_mul (ratio * returned) (100 + ratio), mul-le-mul_left (mixed_solids returned ratio) r.most))
    (omega arith)

pub mixed_limits : {returned ratio : ℕ} → Between least_returned most_bottom returned → Between 30 100 ratio → Between least_solids most_solids (mixed_solids returned ratio)
unfolding mixed_solids
mixed_limits {returned} {ratio} b r =
    record {
      least = (le_down (ratio * returned) (100 + ratio) least_solids (omega arith)).1 (omega (arith, mul-le-mul_left ratio b.least));
      most = omega (arith, mixed_half returned r);
    }

-- E · I, from 2E at most B
pub solids_index : (solids bottom index : ℕ) → 2 * solids ≤ bottom → bottom * index ≤ 1_357_200 → solids * index ≤ 678_600
solids_index solids bottom index half product = omega (arith, mul-le-mul_right index half)

pub diluted_limits : {solids index : ℕ} → Between least_solids most_solids solids → Index index → solids * index ≤ 678_600 → Between 1 679 (diluted_volume solids index)
unfolding diluted_volume
diluted_limits {solids} {index} e i product = omega (arith, mul-le-mul e.least i.least)

pub loading_limits : (tank : TankFlow) → Between 500 650 (volume_loading tank)
unfolding volume_loading
loading_limits TankFlow.Horizontal = omega arith
loading_limits TankFlow.Vertical = omega arith

pub largest_limits : (tank : TankFlow) → Between 1_600 2_000 (largest_overflow_rate tank)
unfolding largest_overflow_rate
largest_limits TankFlow.Horizontal = omega arith
largest_limits TankFlow.Vertical = omega arith

pub rate_limits : (tank : TankFlow) {volume : ℕ} → Between 1 679 volume → Between 720 2_000 (surface_overflow_rate tank volume)
unfolding surface_overflow_rate
rate_limits tank {volume} v =
    let least : 720 ≤ down (1000 * volume_loading tank) volume =
    (le_down (1000 * volume_loading tank) volume 720 (omega arith)).1 (omega (arith, loading_limits tank)) in
    omega (arith, largest_limits tank)

pub surface_limits : {wet rate : ℕ} → Between 1 50_000 wet → Between 720 2_000 rate → Between 1 70_000 (settling_surface wet rate)
unfolding settling_surface
surface_limits {wet} {rate} w q = up_limits (1000 * wet) rate 70_000 (omega arith) (omega arith) (omega arith)

-- E · q · (100 + r) · h, with E of at most half a bottom sludge
pub thickening_product :
    {rate ratio thickening : ℕ} (solids bottom : ℕ) →
    Between 720 2_000 rate →
    Between 30 100 ratio →
    Between 20 25 thickening →
    2 * solids ≤ bottom →
    solids * rate * (100 + ratio) * thickening ≤ 5_000 * (1000 * bottom)
thickening_product {rate} {ratio} solids bottom q r h half =
    let sum : 100 + ratio ≤ 200 = omega arith in
    omega (arith, mul-le-mul (mul-le-mul (mul-le-mul_left solids q.most) sum) h.most)

-- the products and the parts of the depth
module _ {rate ratio : ℕ} (q : Between 720 2_000 rate) (r : Between 30 100 ratio) where
  sum : 100 + ratio ≤ 200
  sum = omega arith

  -- q · (100 + r)
  pub flow_product : rate * (100 + ratio) ≤ 400_000
  flow_product = omega (arith, mul-le-mul q.most sum)

  pub separation_most : {volume : ℕ} → Between 1 679 volume → up (5 * rate * (100 + ratio)) (1000 - volume) ≤ 6_300
  separation_most {volume} v = (up_le (5 * rate * (100 + ratio)) (1000 - volume) 6_300 (omega arith)).1 (omega (arith, flow_product))

  -- q · V
  pub loading_product : {volume : ℕ} → Between 1 679 volume → rate * volume ≤ 1_358_000
  loading_product v = omega (arith, mul-le-mul q.most v.most)

  -- what is rounded for the storage, x being q · V rounded
  pub storage_product : (x : ℕ) → x ≤ 1_358 → 9 * x * (100 + ratio) ≤ 2_444_400
  storage_product x h = omega (arith, mul-le-mul h sum)

  pub storage_most : {volume : ℕ} → Between 1 679 volume → up (9 * up (rate * volume) 1000 * (100 + ratio)) 1000 ≤ 2_445
  storage_most {volume} v = omega (arith, storage_product (up (rate * volume) 1000) (omega (arith, loading_product v)))

  pub thickening_most :
      {thickening bottom : ℕ} (solids : ℕ) →
      Between 20 25 thickening →
      Between least_bottom most_bottom bottom →
      2 * solids ≤ bottom →
      up (solids * rate * (100 + ratio) * thickening) (1000 * bottom) ≤ 5_000
  thickening_most {thickening} {bottom} solids h b half =
      (up_le (solids * rate * (100 + ratio) * thickening) (1000 * bottom) 5_000 (omega arith)).1 (thickening_product solids bottom q r h half)

-- the depth before it is raised, by the limits of its parts
pub depth_sum :
    {rate ratio volume thickening bottom separation loading storage thickened : ℕ} (solids : ℕ) →
    Between 720 2_000 rate →
    Between 30 100 ratio →
    Between 1 679 volume →
    Between 20 25 thickening →
    Between least_bottom most_bottom bottom →
    2 * solids ≤ bottom →
    separation ≡ up (5 * rate * (100 + ratio)) (1000 - volume) →
    loading ≡ up (rate * volume) 1000 →
    storage ≡ up (9 * loading * (100 + ratio)) 1000 →
    thickened ≡ up (solids * rate * (100 + ratio) * thickening) (1000 * bottom) →
    500 + separation + storage + thickened ≤ 20_000
depth_sum {rate} {ratio} {volume} {thickening} {bottom} {separation} {loading} {storage} {thickened} solids q r v h b half es el eg et =
    let separated : separation ≤ 6_300 = rw es (separation_most q r v) in
    let stored : storage ≤ 2_445 = rw (eg, el) (storage_most q r v) in
    let thick : thickened ≤ 5_000 = rw et (thickening_most q r solids h b half) in
    omega arith

pub depth_limits :
    {rate ratio volume thickening bottom : ℕ} (solids : ℕ) →
    Between 720 2_000 rate →
    Between 30 100 ratio →
    Between 1 679 volume →
    Between 20 25 thickening →
    Between least_bottom most_bottom bottom →
    2 * solids ≤ bottom →
    Between 3_000 20_000 (settling_depth rate ratio volume solids thickening bottom)
unfolding settling_depth
depth_limits solids q r v h b half = omega (arith, depth_sum solids q r v h b half refl refl refl refl)

pub volume_limits : {surface depth : ℕ} → Between 1 70_000 surface → Between 3_000 20_000 depth → Between 1 1_400_000 (settling_volume surface depth)
unfolding settling_volume
volume_limits {surface} {depth} a h = omega (arith, mul-le-mul a.least h.least, mul-le-mul a.most h.most)
