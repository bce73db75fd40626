-- The limits of the whole tank, by the limits of its figures in turn; and the tank put together from its figures.
-- Assumes nothing.
use mathlib.Core.Path.{◌≡◌, ◌∙◌}
use native.Mathlib.Nat.{max_comm}
use Prim.Native.Nat.{ℕ, ◌+◌, ◌-◌, ◌*◌, ◌≤◌, max}
use native.Mathlib.Omega.{arith}
use Rattle.rules.specs.Rounding.{up}
use Rattle.rules.specs.Limits.{least_solids, least_depth}
use Rattle.rules.proofs.FigureBounds.{least_bottom, most_bottom, most_solids}
use Rattle.rules.specs.Ranges.{Between, GridRatio, GridTime, PlantRanges}
use Rattle.rules.proofs.FigureBounds.{SettlingBounds}
use Rattle.rules.specs.SettlingSteps.{thickening_root, bottom_sludge, return_share, return_sludge, mixed_solids, diluted_volume, surface_overflow_rate, settling_surface, settling_depth, settling_volume, settling_of}
use Rattle.rules.specs.declared.Plant.{Plant}
use Rattle.rules.specs.declared.Settling.{Settling}
use Rattle.settling.proofs.Limits.{root_limits, bottom_index, bottom_limits, share_limits, returned_limits, mixed_half, mixed_limits, solids_index, diluted_limits, rate_limits, surface_limits, depth_limits, volume_limits}

pub settling_bounds_lem :
    (p : Plant) (ratio thickening : ℕ) → PlantRanges p → GridRatio ratio → GridTime thickening → SettlingBounds (settling_of p ratio thickening)
unfolding settling_of
settling_bounds_lem p ratio thickening g r h =
    let index : ℕ = p.sludge_volume_index in
    let b : ℕ = bottom_sludge (thickening_root thickening) index in
    let returned : ℕ = return_sludge (return_share p.removal) b in
    let e : ℕ = mixed_solids returned ratio in
    let settled : Between least_bottom most_bottom b = bottom_limits (root_limits h) g.index in
    let returning = returned_limits (share_limits p.removal) settled in
    let mixed : Between least_solids most_solids e = mixed_limits returning.0 r in
    let half : 2 * e ≤ b = omega (arith, mixed_half returned r, returning.1) in
    let diluted = diluted_limits mixed g.index (solids_index e b index half (bottom_index index (root_limits h))) in
    let rate = rate_limits p.tank diluted in
    let surface = surface_limits g.wet rate in
    let depth = depth_limits e rate r diluted h settled half in
    record { solids = mixed; sludge_volume = diluted; surface = surface; depth = depth; volume = volume_limits surface depth }

-- the tank's figures, each from those before it, are the definition's
pub tank_figures :
    (p : Plant) (ratio thickening : ℕ) {b returned e v q a h capacity : ℕ} →
    b ≡ bottom_sludge (thickening_root thickening) p.sludge_volume_index →
    returned ≡ return_sludge (return_share p.removal) b →
    e ≡ mixed_solids returned ratio →
    v ≡ diluted_volume e p.sludge_volume_index →
    q ≡ surface_overflow_rate p.tank v →
    a ≡ settling_surface p.wet_weather_flow q →
    h ≡ settling_depth q ratio v e thickening b →
    capacity ≡ settling_volume a h →
    ◌≡◌ {A = Settling} (record { solids = e; sludge_volume = v; surface = a; depth = h; volume = capacity }) (settling_of p ratio thickening)
unfolding settling_of
tank_figures p ratio thickening eb er ee ev eq ea eh ec = cc

-- the depth's parts, the storage's from q · V as rounded, are the definition's
pub depth_parts :
    (rate ratio volume solids thickening bottom : ℕ) {separation loading storage thickened : ℕ} →
    separation ≡ up (5 * rate * (100 + ratio)) (1000 - volume) →
    loading ≡ up (rate * volume) 1000 →
    storage ≡ up (9 * loading * (100 + ratio)) 1000 →
    thickened ≡ up (solids * rate * (100 + ratio) * thickening) (1000 * bottom) →
    max (500 + separation + storage + thickened) least_depth ≡ settling_depth rate ratio volume solids thickening bottom
unfolding settling_depth
depth_parts rate ratio volume solids thickening bottom es el eg et = max_comm _ _ ∙ cc
