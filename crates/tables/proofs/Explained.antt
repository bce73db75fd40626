-- The ten values that differ, by computation. Of Table 2 exact arithmetic gives the computed value: the standard divides an
-- aerobic age that it has rounded. Of Table 5 exact arithmetic gives the printed value: document 01 rounds e down, at each
-- of the two temperatures. Assumes nothing.
use Prim.Native.Nat.{ℕ, ◌+◌, ◌-◌, ◌*◌, ◌^◌}
use mathlib.Core.Path.{◌≡◌, refl}
use Rattle.rules.specs.AgeNitrate.{safety_factor, per_degree, growth, decay, aerobic_age, sludge_age}
use Rattle.tables.specs.Values.{nearest, age_tenths}

-- (5-3) to the nearest tenth, with no rounding before: from SF, T and the fraction
pub exact_age : ℕ → ℕ → ℕ → ℕ
exact_age factor temperature fraction =
    nearest (factor * 34 * 1103 ^ (15 - temperature) * 1000) (100 * 1000 ^ (15 - temperature) * (1000 - fraction))

-- (5-2) to the nearest tenth, from an aerobic age in tenths as Table 2 prints it
pub divided_age : ℕ → ℕ → ℕ
divided_age aerobic fraction = nearest (1000 * aerobic) (1000 - fraction)

-- (5-12) to the nearest hundredth, the mean of 10 and 12 degrees, with e and U unrounded; exact but for F (`decay`), which
-- document 01 rounds at each degree
pub exact_production : ℕ → ℕ → ℕ
exact_production ratio days =
    let u = days * decay 10 in
    let v = days * decay 12 in
    let d = 100_000_000 + 17 * u in
    let w = 100_000_000 + 17 * v in
    nearest ((1500 + 120 * ratio) * d * w - 10200 * (u * w + v * d)) (20 * d * w)

-- at 6,000 kg/d, a temperature and a fraction: the computed value is exact, and the printed one is what the printed
-- aerobic age gives
pub record Age (temperature fraction aerobic printed : ℕ) : Type 0 where
  pub exact : age_tenths 6_000 temperature fraction ≡ exact_age 145 temperature fraction
  pub divided : divided_age aerobic fraction ≡ printed

pub record Explained : Type 0 where
  pub age_10_200 : Age 10 200 80 100
  pub age_10_300 : Age 10 300 80 114
  pub age_10_400 : Age 10 400 80 133
  pub age_10_500 : Age 10 500 80 160
  pub age_12_300 : Age 12 300 66 94
  pub production_4 : exact_production 4 15 ≡ 59
  pub production_6 : exact_production 6 15 ≡ 71
  pub production_8 : exact_production 8 15 ≡ 83
  pub production_10 : exact_production 10 15 ≡ 95
  pub production_12 : exact_production 12 15 ≡ 107

pub explained : Explained
unfolding safety_factor per_degree growth decay aerobic_age sludge_age exact_age divided_age exact_production
explained =
    record {
      age_10_200 = record { exact = refl; divided = refl };
      age_10_300 = record { exact = refl; divided = refl };
      age_10_400 = record { exact = refl; divided = refl };
      age_10_500 = record { exact = refl; divided = refl };
      age_12_300 = record { exact = refl; divided = refl };
      production_4 = refl;
      production_6 = refl;
      production_8 = refl;
      production_10 = refl;
      production_12 = refl;
    }
