-- Wrong prices that the definitions shut out, on a sheet of five cubic metres and a tariff of two bands; tariffs just valid and just not;
-- and the order of the refusals. Assumes nothing.
use mathlib.Core.Logic.{inl, inr}
use mathlib.Core.Path.{◌≡◌, refl}
use mathlib.Core.Bool.{true, false}
use mathlib.Core.List.{List, [], ◌∷◌}
use Prim.Native.Nat.{ℕ, ◌+◌, ◌*◌, ◌≤◌}
use native.Mathlib.Omega.{arith}
use lib.Dec.{leb}
use Rattle.std.specs.Prelude.{Ok, Err}
use Rattle.rules.specs.Rounding.{up, down}
use Rattle.rules.specs.Sums.{sum_from}
use Rattle.rules.specs.Answers.{empty_sheet, answer_number, price_sheet, price_value}
use Rattle.rules.specs.Price.{charged_from, metre_price, volume_price, tanks_price, price_of, limit_before, limits_rise, prices_kept, tariff_valid, priced, examine_priced, ChosenPriced}
use Rattle.rules.specs.PriceOutcome.{PricedChosen}
use Rattle.rules.specs.Accepting.{values_of}
use Rattle.rules.specs.Examining.{sheet_of}
use Rattle.rules.specs.Cases.{case_a, readings_a, candidate}
use Rattle.rules.specs.declared.Sheet.{Sheet}
use Rattle.rules.specs.declared.Tariff.{Tariff}
use Rattle.rules.specs.declared.Band.{Band}
use Rattle.rules.specs.declared.Refusal.{Refusal}
use Rattle.rules.proofs.Computing.{steps}
use Rattle.rules.proofs.RuleOrder.{refusal_number_between}
use Rattle.rules.proofs.PriceLaws.{priced_chosen}

-- bands with these limits and prices, and a tariff of them
abbrev bands : List ℕ → List ℕ → List Band
bands [] prices = []
bands (limit ∷ limits) [] = []
bands (limit ∷ limits) (price ∷ prices) = record { limit = limit; price = price } ∷ bands limits prices

abbrev tariff : ℕ → List ℕ → List ℕ → ℕ → Tariff
tariff count limits prices surcharge = record { count = count; bands = bands limits prices; surcharge = surcharge }

-- two bands, to 2 m3 at 10 cents and then at 7, with a thousandth on top
abbrev two_bands : Tariff
two_bands = tariff 2 (2 ∷ 0 ∷ 0 ∷ 0 ∷ 0 ∷ 0 ∷ []) (10 ∷ 7 ∷ 0 ∷ 0 ∷ 0 ∷ 0 ∷ []) 1

-- a sheet with a reactor of 3 m3 and a settling tank of 2 m3
abbrev small : Sheet
small =
    record {
      fraction = 0;
      return_ratio = 0;
      thickening = 0;
      age = 0;
      sludge = 0;
      mass = 0;
      solids = 0;
      reactor = 3;
      surface = 0;
      depth = 0;
      settling = 2;
      total = 5;
      recirculation = 0;
      oxygen = 0;
      transfer = 0;
    }

-- a price with its surcharge of a thousandth
abbrev raised : (ℕ → ℕ → ℕ) → ℕ → ℕ
raised rounded sum = sum + rounded sum 1000

-- the metre at a band's limit charged in the next band
abbrev late_metre : ℕ → ℕ
late_metre n = elim (leb (n + 1) 2) [ true ↦ 10 | false ↦ 7 ]

-- what the first and the second band charge of both tanks: four metres and one
abbrev first_band : ℕ
first_band = 4 * 10

abbrev second_band : ℕ
second_band = 1 * 7

-- limits and prices of six bands, with one entry open
abbrev limits_with : ℕ → List ℕ
limits_with n = 1 ∷ n ∷ 30 ∷ 40 ∷ 50 ∷ 0 ∷ []

abbrev prices_with : ℕ → List ℕ
prices_with n = 9 ∷ n ∷ 7 ∷ 6 ∷ 5 ∷ 4 ∷ []

pub record WrongPrices : Type 0 where
  pub right : (tanks_price two_bands small ≡ 47) × (price_of two_bands small ≡ 48)
  pub late_metre_lem : raised up (sum_from 1 3 late_metre + sum_from 1 2 late_metre) ≡ 42
  pub one_volume : raised up (volume_price two_bands (3 + 2)) ≡ 42
  pub surcharge_per_tank : raised up (volume_price two_bands 3) + raised up (volume_price two_bands 2) ≡ 49
  pub surcharge_per_band : raised up first_band + raised up second_band ≡ 49
  pub surcharge_down : raised down (tanks_price two_bands small) ≡ 47
  -- limits that rise by 1, are equal or fall; from 1 and from 0; a limit of the last band is not asked for, whatever it is
  pub rising : (tariff_valid (tariff 6 (limits_with 2) (prices_with 8) 0) ≡ true) × (tariff_valid (tariff 6 (limits_with 29) (prices_with 8) 0) ≡ true)
  pub equal_limits : (tariff_valid (tariff 6 (limits_with 1) (prices_with 8) 0) ≡ false) × (tariff_valid (tariff 6 (limits_with 30) (prices_with 8) 0) ≡ false)
  pub limit_of_0 : tariff_valid (tariff 2 (0 ∷ 0 ∷ 0 ∷ 0 ∷ 0 ∷ 0 ∷ []) (prices_with 8) 0) ≡ false
  pub last_limit : (tariff_valid (tariff 2 (limits_with 0) (prices_with 8) 0) ≡ true) × (tariff_valid (tariff 2 (limits_with 1) (prices_with 8) 0) ≡ true)
  -- bands past the count are not looked at; neither none nor seven are a tariff
  pub past_the_count : (tariff_valid (tariff 1 (limits_with 0) (prices_with 1_000_001) 0) ≡ true) × (tariff_valid (tariff 2 (limits_with 9) (prices_with 1_000_001) 0) ≡ false)
  pub count_of_bands : (tariff_valid (tariff 0 (limits_with 2) (prices_with 8) 0) ≡ false) × (tariff_valid (tariff 7 (limits_with 2) (prices_with 8) 0) ≡ false)
  -- the ends of a price and of the surcharge
  pub price_range : tariff_valid (tariff 6 (limits_with 2) (prices_with 1_000_000) 0) ≡ true
  pub surcharge_range : (tariff_valid (tariff 6 (limits_with 2) (prices_with 8) 500) ≡ true) × (tariff_valid (tariff 6 (limits_with 2) (prices_with 8) 501) ≡ false)
  -- 22 after the sheet's own refusals, here 6; and with a refusal no sheet and no price
  pub tariff_first : examine_priced case_a readings_a (candidate 199 75 20) (tariff 0 (limits_with 2) (prices_with 8) 0) ≡ Err Refusal.OffGrid
  pub tariff_refused : examine_priced case_a readings_a (candidate 300 75 20) (tariff 0 (limits_with 2) (prices_with 8) 0) ≡ Err Refusal.Tariff
  pub no_price : (n : Refusal) → (price_sheet (Err n) ≡ empty_sheet) × (price_value (Err n) ≡ 0)

pub wrong_prices : WrongPrices
unfolding steps charged_from metre_price volume_price tanks_price price_of limit_before limits_rise prices_kept tariff_valid priced examine_priced price_sheet price_value
wrong_prices =
    record {
      right = (refl, refl);
      late_metre_lem = refl;
      one_volume = refl;
      surcharge_per_tank = refl;
      surcharge_per_band = refl;
      surcharge_down = refl;
      rising = (refl, refl);
      equal_limits = (refl, refl);
      limit_of_0 = refl;
      last_limit = (refl, refl);
      past_the_count = (refl, refl);
      count_of_bands = (refl, refl);
      price_range = refl;
      surcharge_range = (refl, refl);
      tariff_first = refl;
      tariff_refused = refl;
      no_price = λ n. (refl, refl);
    }

-- Case A examined at 300, 75, 20, whose tanks have 3,105 and 2,060 m3, by the same tariff
pub case_a_priced : price_value (examine_priced case_a readings_a (candidate 300 75 20) two_bands) ≡ 36_204
unfolding steps charged_from metre_price volume_price tanks_price price_of limit_before limits_rise prices_kept tariff_valid priced examine_priced price_value
case_a_priced = refl

-- a choice by price: with this tariff 300, 67, 20 costs less than 300, 75, 20, which has the smaller total, and is not the choice
abbrev falling : Tariff
falling = tariff 4 (500 ∷ 2_000 ∷ 5_000 ∷ 0 ∷ 0 ∷ 0 ∷ []) (42_000 ∷ 34_000 ∷ 28_000 ∷ 25_000 ∷ 0 ∷ 0 ∷ []) 80

abbrev sheet_a : ℕ → Sheet
sheet_a ratio = sheet_of case_a (values_of case_a readings_a) (candidate 300 ratio 20)

pub cheaper_rival : (price_of falling (sheet_a 67) ≡ 190_645_920) × (price_of falling (sheet_a 75) ≡ 190_749_600)
unfolding steps charged_from metre_price volume_price tanks_price price_of
cheaper_rival = (refl, refl)

pub chosen_by_price : (cents : ℕ) → ChosenPriced case_a readings_a falling (Ok (record { sheet = sheet_a 67; price = cents })) → ⊥
unfolding steps answer_number price_sheet price_value
chosen_by_price cents h = go (priced_chosen case_a readings_a falling (Ok (record { sheet = sheet_a 67; price = cents })) h)
  where
    go : PricedChosen case_a readings_a falling 0 (sheet_a 67) cents → ⊥
    go (inl d) = let total : 5_189 ≤ 5_165 = (d.least.rivals (candidate 300 75 20) tt tt).total in omega (arith, total)
    go (inr d) = omega (arith, d.numbered, refusal_number_between d.refusal)
