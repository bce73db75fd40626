-- What the calls for a price promise of their number, sheet and price: the sheet that examining or choosing gives and its price; or one
-- numbered refusal, the sheet's own before 22, with zeros. Assumes nothing.
use Rattle.std.specs.Prelude.{ℕ, ◌+◌, ◌≤◌, ◌<◌, ◌⊎◌, ◌≡◌, not, T, Result, Ok, Err}
use Rattle.rules.specs.Rules.{all_kept, FirstBroken}
use Rattle.rules.specs.Accepting.{values_of, data_rules}
use Rattle.rules.specs.Examining.{sheet_of, examination_rules}
use Rattle.rules.specs.Choosing.{grid, Least}
use Rattle.rules.specs.Answers.{refusal_number, empty_sheet}
use Rattle.rules.specs.Outcomes.{ChoosingDue}
use Rattle.rules.specs.TwoColumns.{TwoColumns}
use Rattle.rules.specs.Price.{band_limit, band_price, metre_price, price_of, tariff_valid}
use Rattle.rules.specs.declared.Plant.{Plant}
use Rattle.rules.specs.declared.Readings.{Readings}
use Rattle.rules.specs.declared.Candidate.{Candidate}
use Rattle.rules.specs.declared.Sheet.{Sheet}
use Rattle.rules.specs.declared.Tariff.{Tariff}
use Rattle.rules.specs.declared.Refusal.{Refusal}
use Rattle.rules.specs.declared.PricedSheet.{PricedSheet}

-- a refusal that is due: its number, an empty sheet and the price 0
pub record NotPriced (due : Refusal → Type 0) (number : ℕ) (sheet : Sheet) (price : ℕ) : Type 0 where
  pub refusal : Refusal
  pub is_due : due refusal
  pub numbered : number ≡ refusal_number refusal
  pub empty : sheet ≡ empty_sheet
  pub zero : price ≡ 0

-- examined: a complete sheet and its price ..
pub record PricedComplete (p : Plant) (r : Readings) (y : Candidate) (t : Tariff) (number : ℕ) (sheet : Sheet) (price : ℕ) : Type 0 where
  pub numbered : number ≡ 0
  pub kept : T (all_kept (examination_rules p r y))
  pub valid : T (tariff_valid t)
  pub figures : sheet ≡ sheet_of p (values_of p r) y
  pub cents : price ≡ price_of t sheet

-- .. or the first rule that the data or the candidate break, or 22 where they break none
abbrev pub PricedExaminedDue : Plant → Readings → Candidate → Tariff → Refusal → Type 0
PricedExaminedDue p r y t n =
    FirstBroken (examination_rules p r y) n ⊎ ((n ≡ Refusal.Tariff) × T (all_kept (examination_rules p r y)) × T (not (tariff_valid t)))

abbrev pub PricedExamined : Plant → Readings → Candidate → Tariff → ℕ → Sheet → ℕ → Type 0
PricedExamined p r y t number sheet price =
    PricedComplete p r y t number sheet price ⊎ NotPriced (PricedExaminedDue p r y t) number sheet price

-- chosen: the least design and its price ..
pub record PricedDesigns (p : Plant) (r : Readings) (t : Tariff) (number : ℕ) (sheet : Sheet) (price : ℕ) : Type 0 where
  pub numbered : number ≡ 0
  pub kept : T (all_kept (data_rules p r))
  pub valid : T (tariff_valid t)
  pub least : Least p (values_of p r) (grid p) sheet
  pub cents : price ≡ price_of t sheet

-- .. or the refusal of the choice, or 22 where there is a design
pub record DesignNotPriced (p : Plant) (r : Readings) (t : Tariff) : Type 0 where
  pub kept : T (all_kept (data_rules p r))
  pub design : Sheet
  pub least : Least p (values_of p r) (grid p) design
  pub invalid : T (not (tariff_valid t))

abbrev pub PricedChoosingDue : Plant → Readings → Tariff → Refusal → Type 0
PricedChoosingDue p r t n = ChoosingDue p r n ⊎ ((n ≡ Refusal.Tariff) × DesignNotPriced p r t)

abbrev pub PricedChosen : Plant → Readings → Tariff → ℕ → Sheet → ℕ → Type 0
PricedChosen p r t number sheet price = PricedDesigns p r t number sheet price ⊎ NotPriced (PricedChoosingDue p r t) number sheet price

-- The paper's sentence of one cubic metre: it is charged in the first band whose limit is at least n; the last has no limit.
pub record FirstBand (t : Tariff) (n : ℕ) : Type 0 where
  pub band : ℕ
  pub below : band < t.count
  pub reaches : (n ≤ band_limit t band) ⊎ (band + 1 ≡ t.count)
  pub earlier : (k : ℕ) → k < band → band_limit t k < n
  pub cost : metre_price t n ≡ band_price t band

-- the two columns of a priced sheet
abbrev pub PriceColumns : Plant → Readings → Result PricedSheet Refusal → Type 0
PriceColumns p r (Ok s) = TwoColumns p r (Ok s.sheet)
PriceColumns p r (Err n) = Unit {0}
