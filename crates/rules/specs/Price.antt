-- Document 02, item 11: the price of the concrete, by single cubic metres. Assumes nothing.
use Rattle.std.specs.Prelude.{ℕ, zero, suc, ◌+◌, ◌-◌, ◌*◌, ◌≡◌, Bool, true, false, ◌&&◌, leb, ltb, get_or, Result, Ok, Err}
use Rattle.rules.specs.Rounding.{up}
use Rattle.rules.specs.Sums.{sum_from}
use Rattle.rules.specs.Limits.{most_bands, most_price, most_surcharge}
use Rattle.rules.specs.PlantData.{within}
use Rattle.rules.specs.Examining.{examine}
use Rattle.rules.specs.Choosing.{Chosen}
use Rattle.rules.specs.declared.Plant.{Plant}
use Rattle.rules.specs.declared.Readings.{Readings}
use Rattle.rules.specs.declared.Candidate.{Candidate}
use Rattle.rules.specs.declared.Sheet.{Sheet}
use Rattle.rules.specs.declared.Tariff.{Tariff}
use Rattle.rules.specs.declared.Refusal.{Refusal}
use Rattle.rules.specs.Results.{Answer}
use Rattle.rules.specs.declared.PricedSheet.{PricedSheet}
use Rattle.rules.specs.declared.Band.{Band}

-- the limit of band k, counted from 0, m3, and its price, cents per m3
abbrev pub no_band : Band
no_band = record { limit = 0; price = 0 }

abbrev pub band_at : Tariff → ℕ → Band
band_at t k = get_or t.bands k no_band

abbrev pub band_limit : Tariff → ℕ → ℕ
band_limit t k = (band_at t k).limit

abbrev pub band_price : Tariff → ℕ → ℕ
band_price t k = (band_at t k).price

-- what cubic metre n costs from band k on, with so many bands after it: it is charged in the first whose limit is at least n; the last
-- has no limit
unfoldable pub charged_from : Tariff → ℕ → ℕ → ℕ → ℕ
charged_from t k zero n = band_price t k
charged_from t k (suc later) n = elim (leb n (band_limit t k)) [ true ↦ band_price t k | false ↦ charged_from t (k + 1) later n ]

-- what cubic metre n costs, cents
unfoldable pub metre_price : Tariff → ℕ → ℕ
metre_price t n = charged_from t 0 (t.count - 1) n

-- a volume's price before surcharge, cents: the sum over its single cubic metres, from 1 on
unfoldable pub volume_price : Tariff → ℕ → ℕ
volume_price t volume = sum_from 1 volume (metre_price t)

-- a sheet's price before surcharge: reactor and settling tank are priced separately
unfoldable pub tanks_price : Tariff → Sheet → ℕ
tanks_price t s = volume_price t s.reactor + volume_price t s.settling

-- a sheet's price: with the surcharge on the sum, rounded up once
unfoldable pub price_of : Tariff → Sheet → ℕ
price_of t s = tanks_price t s + up (tanks_price t s * t.surcharge) 1000

-- the limit before the k-th; 0 before the first
unfoldable pub limit_before : Tariff → ℕ → ℕ
limit_before t zero = 0
limit_before t (suc k) = band_limit t k

-- the first n limits rise strictly, from at least 1
unfoldable pub limits_rise : Tariff → ℕ → Bool
limits_rise t zero = true
limits_rise t (suc n) = limits_rise t n && ltb (limit_before t n) (band_limit t n)

-- the first n prices are at most 1,000,000
unfoldable pub prices_kept : Tariff → ℕ → Bool
prices_kept t zero = true
prices_kept t (suc n) = prices_kept t n && leb (band_price t n) most_price

-- 22 is not due: one to six bands, whose limits rise, the last without one, their prices and the surcharge in range
unfoldable pub tariff_valid : Tariff → Bool
tariff_valid t =
    within 1 most_bands t.count && (limits_rise t (t.count - 1) && (prices_kept t t.count && leb t.surcharge most_surcharge))

-- an answer priced: its own refusal stands; a sheet gets its price, or 22
abbrev pub priced_sheet : Bool → Tariff → Sheet → Result PricedSheet Refusal
priced_sheet true t s = Ok (record { sheet = s; price = price_of t s })
priced_sheet false t s = Err Refusal.Tariff

unfoldable pub priced : Tariff → Answer → Result PricedSheet Refusal
priced t (Ok s) = priced_sheet (tariff_valid t) t s
priced t (Err n) = Err n

-- the price of a candidate examined
unfoldable pub examine_priced : Plant → Readings → Candidate → Tariff → Result PricedSheet Refusal
examine_priced p r y t = priced t (examine p r y)

-- the price of the design chosen: demand 3 speaks of the choice before it is priced
pub record ChosenPriced (p : Plant) (r : Readings) (t : Tariff) (a : Result PricedSheet Refusal) : Type 0 where
  pub choice : Answer
  pub chosen : Chosen p r choice
  pub priced_choice : a ≡ priced t choice
