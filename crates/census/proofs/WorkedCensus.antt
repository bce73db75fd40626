-- The census of Case A's data, and of the same with a vertical tank and hoppers, by computation of the two tallies.
-- Assumes nothing.
use mathlib.Core.Path.{◌≡◌, refl, ap₂, ◌∙◌}
use Prim.Native.Nat.{ℕ, ◌+◌, ◌*◌}
use native.Mathlib.Omega.{arith}
use Rattle.rules.specs.Census.{counted}
use Rattle.rules.specs.Cases.{case_a, hopper_plant, concentrations_a}
use Rattle.rules.specs.declared.Plant.{Plant}
use Rattle.rules.specs.declared.Concentrations.{Concentrations}
use Rattle.rules.proofs.Computing.{steps}
use Rattle.rules.proofs.GridSums.{ratios, times}
use Rattle.census.specs.Tallies.{fractions, fraction_number, tank_number, fraction_count, tank_count}
use Rattle.census.proofs.Products.{count_kept, count_broken}

-- the counts of 0 and of the rules 7 to 10
pub record Counted (p : Plant) (x : Concentrations) (n0 n7 n8 n9 n10 : ℕ) : Type 0 where
  pub permitted : counted p x 0 ≡ n0
  pub nitrate : counted p x 7 ≡ n7
  pub solids : counted p x 8 ≡ n8
  pub surface : counted p x 9 ≡ n9
  pub depth : counted p x 10 ≡ n10

-- how many of the fractions, and how many of the tanks, are numbered k
pub record Tallied (p : Plant) (x : Concentrations) (k fraction tank : ℕ) : Type 0 where
  pub by_fraction : fraction_count p x fractions k ≡ fraction
  pub by_tank : tank_count p (ratios p.tank) times k ≡ tank

-- both tallies of a plant with n tanks: f fractions keep their rules and g break rule 7; t tanks keep theirs and s8, s9 and s10
-- break 8, 9 and 10 first
pub record Tallies (p : Plant) (x : Concentrations) (n f g t s8 s9 s10 : ℕ) : Type 0 where
  pub tanks : ratios p.tank * times ≡ n
  pub kept : Tallied p x 0 f t
  pub nitrate : Tallied p x 7 g 0
  pub solids : Tallied p x 8 0 s8
  pub surface : Tallied p x 9 0 s9
  pub depth : Tallied p x 10 0 s10

-- the counts that the tallies make: a fraction that breaks its rule counts with every tank, a tank with every fraction that
-- keeps its own
by_tallies :
    (p : Plant) (x : Concentrations) (n f g t s8 s9 s10 : ℕ)
    → Tallies p x n f g t s8 s9 s10
    → Counted p x (f * t) (g * n + f * 0) (0 * n + f * s8) (0 * n + f * s9) (0 * n + f * s10)
by_tallies p x n f g t s8 s9 s10 all =
    record {
      permitted = count_kept p x ∙ ap₂ ◌*◌ all.kept.by_fraction all.kept.by_tank;
      nitrate = broken 7 g 0 (λ e. omega arith) all.nitrate;
      solids = broken 8 0 s8 (λ e. omega arith) all.solids;
      surface = broken 9 0 s9 (λ e. omega arith) all.surface;
      depth = broken 10 0 s10 (λ e. omega arith) all.depth;
    }
  where
    broken : (k fraction tank : ℕ) → (k ≡ 0 → ⊥) → Tallied p x k fraction tank → counted p x k ≡ fraction * n + f * tank
    broken k fraction tank apart tally =
        count_broken p x k apart
        ∙ ap₂ ◌+◌ (ap₂ ◌*◌ tally.by_fraction all.tanks) (ap₂ ◌*◌ all.kept.by_fraction tally.by_tank)

-- Case A: 201 of 301 fractions are covered, and all 276 tanks keep their rules
tallies_a : Tallies case_a concentrations_a 276 201 100 276 0 0 0
unfolding steps fraction_number tank_number
tallies_a =
    record {
      tanks = refl;
      kept = record { by_fraction = refl; by_tank = refl };
      nitrate = record { by_fraction = refl; by_tank = refl };
      solids = record { by_fraction = refl; by_tank = refl };
      surface = record { by_fraction = refl; by_tank = refl };
      depth = record { by_fraction = refl; by_tank = refl };
    }

pub case_a_lem : Counted case_a concentrations_a 55_476 27_600 0 0 0
case_a_lem = by_tallies case_a concentrations_a 276 201 100 276 0 0 0 tallies_a

-- the vertical tank: 115 of 426 tanks keep their rules, 94 break rule 8 first, and 217 rule 10
tallies_v : Tallies hopper_plant concentrations_a 426 201 100 115 94 0 217
unfolding steps fraction_number tank_number
tallies_v =
    record {
      tanks = refl;
      kept = record { by_fraction = refl; by_tank = refl };
      nitrate = record { by_fraction = refl; by_tank = refl };
      solids = record { by_fraction = refl; by_tank = refl };
      surface = record { by_fraction = refl; by_tank = refl };
      depth = record { by_fraction = refl; by_tank = refl };
    }

pub vertical : Counted hopper_plant concentrations_a 23_115 42_600 18_894 0 43_617
vertical = by_tallies hopper_plant concentrations_a 426 201 100 115 94 0 217 tallies_v
