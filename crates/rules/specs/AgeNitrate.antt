-- Document 01, "Sludge age and nitrate": from the load and the temperature to the nitrate that a tank must and can
-- remove. A difference that the paper holds at 0 is the whole numbers' `-`, which stops there. Assumes nothing.
use Rattle.std.specs.Prelude.{ℕ, zero, suc, ◌+◌, ◌-◌, ◌*◌, Bool, cond, ◌&&◌, leb}
use Rattle.rules.specs.Rounding.{down, up}
use Rattle.rules.specs.PlantData.{within}
use Rattle.rules.specs.Limits.{least_fraction, most_fraction, least_ratio, most_ratio, least_time, most_time}
use Rattle.rules.specs.CodBalance.{removed_by_oxygen}
use Rattle.rules.specs.declared.TankFlow.{TankFlow}
use Rattle.rules.specs.declared.Candidate.{Candidate}
use Rattle.rules.specs.declared.Concentrations.{Concentrations}
use Rattle.rules.specs.declared.Process.{Process}
use Rattle.rules.specs.declared.Way.{Way}

-- the largest return ratio of the grid
unfoldable pub largest_return_ratio : TankFlow → ℕ
largest_return_ratio TankFlow.Horizontal = 75
largest_return_ratio TankFlow.Vertical = most_ratio

-- document 01's "grid": the fractions f, return ratios r and thickening times h that are candidates
unfoldable pub on_grid : TankFlow → Candidate → Bool
on_grid tank y =
    within least_fraction most_fraction y.fraction
    && within least_ratio (largest_return_ratio tank) y.return_ratio
    && within least_time most_time y.thickening

-- SF, safety factor, hundredths, for the BOD load L
unfoldable pub safety_factor : ℕ → ℕ
safety_factor load = cond (leb load 1_200) 180 (cond (leb 6_000 load) 145 (180 - down (35 * (load - 1_200)) 4_800))

-- 1,000,000 multiplied by m / d once for each of n degrees, down at each degree
unfoldable pub per_degree : ℕ → ℕ → ℕ → ℕ
per_degree m d zero = 1_000_000
per_degree m d (suc n) = down (per_degree m d n * m) d

-- G, growth: 1103 / 1000 for each degree below 15, the reverse for each above (5-1)
unfoldable pub growth : ℕ → ℕ
growth temperature = cond (leb temperature 15) (per_degree 1103 1000 (15 - temperature)) (per_degree 1000 1103 (temperature - 15))

-- F, decay: 1072 / 1000 for each degree above 15, the reverse for each below (5-13)
unfoldable pub decay : ℕ → ℕ
decay temperature = cond (leb temperature 15) (per_degree 1000 1072 (15 - temperature)) (per_degree 1072 1000 (temperature - 15))

-- a, aerobic sludge age, thousandths of a day (5-1), from SF and T
unfoldable pub aerobic_age : ℕ → ℕ → ℕ
aerobic_age factor temperature = up (factor * 34 * growth temperature) 1_000_000

-- t, sludge age, thousandths of a day (5-2), from a and f
unfoldable pub sludge_age : ℕ → ℕ → ℕ
sludge_age aerobic fraction = up (1000 * aerobic) (1000 - fraction)

-- U, sludge age corrected for temperature, thousandths of a day (5-12), from t and a temperature
unfoldable pub corrected_age : ℕ → ℕ → ℕ
corrected_age age temperature = down (age * decay temperature) 1_000_000

-- W, nitrogen to nitrify, mg/m3, from N and C (5-6, before the target is taken off)
unfoldable pub nitrified : ℕ → ℕ → ℕ
nitrified nitrogen bod = nitrogen - 2_000 - down (4 * bod) 100

-- D, nitrate to denitrify, mg/m3, from W and N3 (5-6)
unfoldable pub denitrified : ℕ → ℕ → ℕ
denitrified w target = w - target

-- Table 3: 110, 130, 140, 150 at f = 200, 300, 400, 500, linear between, down
unfoldable pub table_capacity : ℕ → ℕ
table_capacity fraction =
    cond (leb fraction 300) (110 + down (20 * (fraction - 200)) 100)
    (cond (leb fraction 400) (130 + down (10 * (fraction - 300)) 100) (140 + down (10 * (fraction - 400)) 100))

-- above 12 degrees Table 3's figure rises by a hundredth for each degree, down
unfoldable pub risen_capacity : ℕ → ℕ → ℕ
risen_capacity k temperature = cond (leb temperature 12) k (down (k * (100 + (temperature - 12))) 100)

-- o, specific oxygen uptake for the capacity, g/kg, from U(T) (5-24, down)
unfoldable pub capacity_uptake : ℕ → ℕ
capacity_uptake corrected = 560 + down (15000 * corrected) (100000 + 17 * corrected)

-- the capacity of a process that denitrifies by its oxygen uptake (5-7), from f and U(T)
unfoldable pub uptake_capacity : ℕ → ℕ → ℕ
uptake_capacity fraction corrected = down (75 * fraction * capacity_uptake corrected) 290_000

-- K, denitrification capacity, g nitrate nitrogen per kg BOD, from f, T and U(T)
unfoldable pub capacity : Process → ℕ → ℕ → ℕ → ℕ
capacity Process.PreAnoxic fraction temperature corrected = risen_capacity (table_capacity fraction) temperature
capacity Process.Simultaneous fraction temperature corrected = uptake_capacity fraction corrected
capacity Process.Intermittent fraction temperature corrected = uptake_capacity fraction corrected
capacity (Process.StepFeed steps) fraction temperature corrected = risen_capacity (table_capacity fraction) temperature

-- K × C, from f, T and U(T)
unfoldable pub removes_by_bod : Process → Concentrations → ℕ → ℕ → ℕ → ℕ
removes_by_bod process x fraction temperature corrected = capacity process fraction temperature corrected * x.bod

-- what stands for it in the way by COD (document 02, item 12): a process that denitrifies by its oxygen uptake takes the COD's
unfoldable pub removes_by_cod : Process → Concentrations → ℕ → ℕ → ℕ → ℕ
removes_by_cod Process.PreAnoxic x fraction temperature corrected = removes_by_bod Process.PreAnoxic x fraction temperature corrected
removes_by_cod Process.Simultaneous x fraction temperature corrected = removed_by_oxygen fraction x.cod x.solids corrected
removes_by_cod Process.Intermittent x fraction temperature corrected = removed_by_oxygen fraction x.cod x.solids corrected
removes_by_cod (Process.StepFeed steps) x fraction temperature corrected =
    removes_by_bod (Process.StepFeed steps) x fraction temperature corrected

-- K × C or what stands for it, in a way
unfoldable pub removes : Way → Process → Concentrations → ℕ → ℕ → ℕ → ℕ
removes Way.Bod process x fraction temperature corrected = removes_by_bod process x fraction temperature corrected
removes Way.Cod process x fraction temperature corrected = removes_by_cod process x fraction temperature corrected

-- the nitrate that the tank's own carbon removes, mg/m3, from K × C or what stands for it
unfoldable pub removed_by_bod : ℕ → ℕ
removed_by_bod own = down own 1000

-- the nitrate that external carbon removes, mg/m3, from the dose as COD: one part for five (5-8; document
-- 02, item 2)
unfoldable pub removed_by_dose : ℕ → ℕ
removed_by_dose dose = down dose 5

-- the nitrate that the tank can remove, mg/m3, from K × C or what stands for it and what the dose removes: the second of the two
-- columns that are read aloud
unfoldable pub removable : ℕ → ℕ → ℕ
removable own by_dose = removed_by_bod own + by_dose

-- "covered", from K × C or what stands for it, what the dose removes and D: K × C + 1000 × down(dose / 5) ≥ 1000 × D (document 02,
-- item 2)
unfoldable pub covered : ℕ → ℕ → ℕ → Bool
covered own by_dose d = leb (1000 * d) (own + 1000 * by_dose)
