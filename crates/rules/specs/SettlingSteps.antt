-- Document 01, "Sludge and tanks", the secondary settling tank: what depends on the return ratio and the thickening time
-- alone. Assumes nothing.
use Rattle.std.specs.Prelude.{ℕ, zero, suc, ◌+◌, ◌-◌, ◌*◌, min, max, Bool, true, false, ◌&&◌, leb}
use Rattle.rules.specs.Rounding.{down, up}
use Rattle.rules.specs.Limits.{least_depth}
use Rattle.rules.specs.declared.Plant.{Plant}
use Rattle.rules.specs.declared.TankFlow.{TankFlow}
use Rattle.rules.specs.declared.Removal.{Removal}
use Rattle.rules.specs.declared.Settling.{Settling}

-- the first whole number from c on whose successor's cube is above n; d bounds the number of steps
unfoldable pub root_from : ℕ → ℕ → ℕ → ℕ
root_from zero c n = c
root_from (suc d) c n = elim (leb ((c + 1) * (c + 1) * (c + 1)) n) [ true ↦ root_from d (c + 1) n | false ↦ c ]

-- the largest whole number whose cube is at most n (law `cube_root_lem` in proofs/CubeRoot.antt), digit by digit: the root of
-- n without its last three digits has all digits but the last, which is 0 to 9; n bounds the number of digits
unfoldable pub root_by_digits : ℕ → ℕ → ℕ
root_by_digits zero n = 0
root_by_digits (suc d) n = elim (leb n 0) [ true ↦ 0 | false ↦ root_from 9 (10 * root_by_digits d (down n 1000)) n ]

unfoldable pub cube_root : ℕ → ℕ
cube_root n = root_by_digits n n

-- c, from the thickening time h: the root in ten-thousandths (document 02, item 7)
unfoldable pub thickening_root : ℕ → ℕ
thickening_root thickening = cube_root (thickening * 100_000_000_000)

-- B, bottom sludge, g/m3, from c and I (6-1)
unfoldable pub bottom_sludge : ℕ → ℕ → ℕ
bottom_sludge c index = down (100 * c) index

-- w, the part of the bottom sludge's solids that the return sludge has, tenths
unfoldable pub return_share : Removal → ℕ
return_share Removal.Scraper = 7
return_share Removal.Suction = 5
return_share Removal.Hopper = 10

-- R, return sludge, g/m3, from w and B
unfoldable pub return_sludge : ℕ → ℕ → ℕ
return_sludge share bottom = down (share * bottom) 10

-- E, solids in the aeration tank, g/m3, from R and r (6-2)
unfoldable pub mixed_solids : ℕ → ℕ → ℕ
mixed_solids returned ratio = down (ratio * returned) (100 + ratio)

-- V, diluted sludge volume, l/m3, from E and I (6-3)
unfoldable pub diluted_volume : ℕ → ℕ → ℕ
diluted_volume solids index = up (solids * index) 1000

-- needed: E ≥ 1,000 and V ≤ 600
unfoldable pub solids_kept : ℕ → ℕ → Bool
solids_kept solids volume = leb 1_000 solids && leb volume 600

-- s, sludge volume surface loading rate, l/(m2 h)
unfoldable pub volume_loading : TankFlow → ℕ
volume_loading TankFlow.Horizontal = 500
volume_loading TankFlow.Vertical = 650

-- m, largest surface overflow rate, mm/h
unfoldable pub largest_overflow_rate : TankFlow → ℕ
largest_overflow_rate TankFlow.Horizontal = 1_600
largest_overflow_rate TankFlow.Vertical = 2_000

-- q, surface overflow rate, mm/h, from V (6-3)
unfoldable pub surface_overflow_rate : TankFlow → ℕ → ℕ
surface_overflow_rate tank volume = min (down (1000 * volume_loading tank) volume) (largest_overflow_rate tank)

-- A, settling surface, m2, from Qw and q (6-4)
unfoldable pub settling_surface : ℕ → ℕ → ℕ
settling_surface wet rate = up (1000 * wet) rate

-- H, settling depth, mm, at least 3,000: 500 of clear water, then separation, storage and thickening (6-5 to 6-7);
-- from q, r, V, E, h and B
unfoldable pub settling_depth : ℕ → ℕ → ℕ → ℕ → ℕ → ℕ → ℕ
settling_depth rate ratio volume solids thickening bottom =
    max
    least_depth
    (500
    + up (5 * rate * (100 + ratio)) (1000 - volume)
    + up (9 * up (rate * volume) 1000 * (100 + ratio)) 1000
    + up (solids * rate * (100 + ratio) * thickening) (1000 * bottom))

-- settling volume, m3, from A and H; bottoms count as flat
unfoldable pub settling_volume : ℕ → ℕ → ℕ
settling_volume surface depth = up (surface * depth) 1000

-- what depends on the return ratio and the thickening time alone: E, V, A, H and the settling volume
unfoldable pub settling_of : Plant → ℕ → ℕ → Settling
settling_of p ratio thickening =
    let b = bottom_sludge (thickening_root thickening) p.sludge_volume_index in
    let e = mixed_solids (return_sludge (return_share p.removal) b) ratio in
    let v = diluted_volume e p.sludge_volume_index in
    let q = surface_overflow_rate p.tank v in
    let a = settling_surface p.wet_weather_flow q in
    let h = settling_depth q ratio v e thickening b in
    record { solids = e; sludge_volume = v; surface = a; depth = h; volume = settling_volume a h }
