-- The price of the concrete: a cubic metre is charged in the first band that reaches it; a tariff that charges no metre more prices no
-- sheet higher; an answer has one price; and the calls' numbers, sheets and prices are what is promised of them. Assumes nothing.
use mathlib.Core.Logic.{inl, inr}
use mathlib.Core.Path.{◌≡◌, refl, ap, sym, subst, ◌∙◌}
use mathlib.Core.Bool.{Bool, true, false, not}
use Prim.Native.Nat.{ℕ, zero, suc, ◌+◌, ◌-◌, ◌*◌, ◌≤◌, ◌<◌}
use native.Mathlib.Nat.{mul-le-mul}
use native.Mathlib.Omega.{arith}
use borrow.Author.Tests.{leb-true, leb-false, lt-leb, le-leb}
use lib.Dec.{T, leb, leb→le}
use lib.Ieee.Fits.{and_l, and_r}
use Rattle.std.specs.Prelude.{Result, Ok, Err}
use borrow.Author.Count.{below_more}
use Rattle.rules.specs.Rounding.{up}
use Rattle.rules.specs.Sums.{sum_from}
use Rattle.rules.specs.Limits.{most_bands, most_price, most_surcharge}
use Rattle.rules.specs.PlantData.{within}
use Rattle.rules.specs.Examining.{examine}
use Rattle.rules.specs.Outcomes.{ChosenOutcome}
use Rattle.rules.specs.TwoColumns.{TwoColumns}
use Rattle.rules.specs.Answers.{answer_number, answer_sheet, price_sheet, price_value}
use Rattle.rules.specs.Price.{band_limit, band_price, charged_from, metre_price, volume_price, tanks_price, price_of, limits_rise, prices_kept, tariff_valid, priced_sheet, priced, examine_priced, ChosenPriced}
use Rattle.rules.specs.PriceOutcome.{PricedExamined, PricedChosen, FirstBand, PriceColumns}
use Rattle.rules.specs.declared.Plant.{Plant}
use Rattle.rules.specs.declared.Readings.{Readings}
use Rattle.rules.specs.declared.Candidate.{Candidate}
use Rattle.rules.specs.declared.Sheet.{Sheet}
use Rattle.rules.specs.declared.Tariff.{Tariff}
use Rattle.rules.specs.declared.Refusal.{Refusal}
use Rattle.rules.specs.Results.{Answer}
use Rattle.rules.proofs.Quotients.{up_mono}
use Rattle.rules.proofs.Tests.{within_between}
use Rattle.rules.proofs.RuleOrder.{refusal_number_between}
use Rattle.rules.proofs.Examined.{refused_when_due, sheet_when_kept}
use Rattle.rules.proofs.ChosenOnce.{chosen_once}
use Rattle.rules.proofs.OutcomeLaws.{chosen_outcome}
use Rattle.rules.proofs.NitrateColumns.{examined_columns, chosen_columns}
use Rattle.rules.specs.declared.PricedSheet.{PricedSheet}

-- ---- a cubic metre

-- past a band that does not reach it, a metre is charged from the next one on; one that a band reaches is charged there
pub charged_later : (t : Tariff) (k later n : ℕ) → band_limit t k < n → charged_from t k (suc later) n ≡ charged_from t (k + 1) later n
unfolding charged_from
charged_later t k later n h = rw (charged_from, lt-leb n (band_limit t k) h)

pub charged_here : (t : Tariff) (k later n : ℕ) → n ≤ band_limit t k → charged_from t k (suc later) n ≡ band_price t k
unfolding charged_from
charged_here t k later n h = rw (charged_from, le-leb n (band_limit t k) h)

first_from :
    (t : Tariff) (n k later : ℕ)
    → t.count ≡ k + later + 1
    → ((j : ℕ) → j < k → band_limit t j < n)
    → metre_price t n ≡ charged_from t k later n
    → FirstBand t n
unfolding charged_from
first_from t n k zero c before e = record { band = k; below = omega (arith, c); reaches = inr (omega (arith, c)); earlier = before; cost = e }
first_from t n k (suc later) c before e = go (leb n (band_limit t k)) refl (first_from t n (k + 1) later)
  where
    passed : band_limit t k < n → (j : ℕ) → j < k + 1 → band_limit t j < n
    passed h = below_more (λ (j : ℕ). band_limit t j < n) k before h

    go :
        (b : Bool)
        → leb n (band_limit t k) ≡ b
        → (t.count ≡ k + 1 + later + 1 → ((j : ℕ) → j < k + 1 → band_limit t j < n) → metre_price t n ≡ charged_from t (k + 1) later n → FirstBand t n)
        → FirstBand t n
    go true h rest = record { band = k; below = omega (arith, c); reaches = inl (leb-true _ _ h); earlier = before; cost = e ∙ charged_here t k later n (leb-true _ _ h) }
    go false h rest = rest (omega (arith, c)) (passed (leb-false _ _ h)) (e ∙ charged_later t k later n (leb-false _ _ h))

-- For every tariff of at least one band and every metre.
pub first_band_lem : (t : Tariff) (n : ℕ) → 1 ≤ t.count → FirstBand t n
unfolding metre_price
first_band_lem t n h = first_from t n 0 (t.count - 1) (omega (arith, h)) (λ j l. absurd (omega (arith, l))) refl

-- ---- a valid tariff

pub record ValidTariff (t : Tariff) : Type 0 where
  pub least : 1 ≤ t.count
  pub most : t.count ≤ most_bands
  pub prices : (k : ℕ) → k < t.count → band_price t k ≤ most_price
  pub surcharge : t.surcharge ≤ most_surcharge

prices_at : (t : Tariff) (n : ℕ) → T (prices_kept t n) → (k : ℕ) → k < n → band_price t k ≤ most_price
unfolding prices_kept
prices_at t zero h k l = absurd (omega (arith, l))
prices_at t (suc n) h k l =
    below_more (λ (i : ℕ). band_price t i ≤ most_price) n (prices_at t n (and_l (prices_kept t n) _ h))
    (leb→le (band_price t n) most_price (and_r (prices_kept t n) _ h)) k
    (omega (arith, l))

pub valid_tariff : (t : Tariff) → T (tariff_valid t) → ValidTariff t
unfolding tariff_valid
valid_tariff t h =
    let count = (within_between 1 most_bands t.count).0 (and_l (within 1 most_bands t.count) _ h) in
    let later = and_r (limits_rise t (t.count - 1)) _ (and_r (within 1 most_bands t.count) _ h) in
    record {
      least = count.least;
      most = count.most;
      prices = prices_at t t.count (and_l (prices_kept t t.count) _ later);
      surcharge = leb→le t.surcharge most_surcharge (and_r (prices_kept t t.count) _ later);
    }

-- no metre costs more than 1,000,000
pub metre_most : (t : Tariff) (n : ℕ) → ValidTariff t → metre_price t n ≤ most_price
metre_most t n v = let b = first_band_lem t n v.least in subst (λ (c : ℕ). c ≤ most_price) (sym b.cost) (v.prices b.band b.below)

-- ---- two tariffs

sum_less : (a n : ℕ) (g h : ℕ → ℕ) → ((i : ℕ) → a ≤ i → g i ≤ h i) → sum_from a n g ≤ sum_from a n h
unfolding sum_from
sum_less a zero g h e = omega arith
sum_less a (suc n) g h e = omega (arith, sum_less a n g h e, e (a + n) (omega arith))

-- A tariff that charges no cubic metre more, with no larger surcharge, prices no sheet higher.
pub cheaper_tariff :
    (t u : Tariff)
    → ((n : ℕ) → 1 ≤ n → metre_price t n ≤ metre_price u n)
    → t.surcharge ≤ u.surcharge
    → (s : Sheet)
    → price_of t s ≤ price_of u s
unfolding price_of tanks_price volume_price
cheaper_tariff t u each surcharge s =
    let reactor = sum_less 1 s.reactor (metre_price t) (metre_price u) each in
    let settling = sum_less 1 s.settling (metre_price t) (metre_price u) each in
    let sum : tanks_price t s ≤ tanks_price u s = omega (arith, reactor, settling) in
    let extra : up (tanks_price t s * t.surcharge) 1000 ≤ up (tanks_price u s * u.surcharge) 1000 =
    up_mono (tanks_price t s * t.surcharge) (tanks_price u s * u.surcharge) 1000 (omega arith) (mul-le-mul sum surcharge) in
    omega (arith, sum, extra)

-- ---- the calls

-- A valid tariff changes neither number nor sheet of an answer.
pub priced_sheet_lem : (t : Tariff) (c : Answer) → T (tariff_valid t) → (answer_number (priced t c) ≡ answer_number c) × (price_sheet (priced t c) ≡ answer_sheet c)
unfolding priced answer_number answer_sheet price_sheet
priced_sheet_lem t (Err n) v = (refl, refl)
priced_sheet_lem t (Ok s) v = go (tariff_valid t) v
  where
    go : (b : Bool) → T b → (answer_number (priced_sheet b t s) ≡ 0) × (price_sheet (priced_sheet b t s) ≡ s)
    go true h = (refl, refl)
    go false h = absurd h

-- two prices of the design chosen are one
pub priced_once : (p : Plant) (r : Readings) (t : Tariff) (a b : Result PricedSheet Refusal) → ChosenPriced p r t a → ChosenPriced p r t b → a ≡ b
priced_once p r t a b g h = g.priced_choice ∙ (ap (priced t) (chosen_once p r g.choice h.choice g.chosen h.chosen) ∙ sym h.priced_choice)

-- a candidate examined
pub priced_examined :
    (p : Plant) (r : Readings) (y : Candidate) (t : Tariff) (a : Result PricedSheet Refusal)
    → a ≡ examine_priced p r y t
    → PricedExamined p r y t (answer_number a) (price_sheet a) (price_value a)
unfolding examine_priced priced answer_number price_sheet price_value
priced_examined p r y t a e = subst (λ (b : Result PricedSheet Refusal). PricedExamined p r y t (answer_number b) (price_sheet b) (price_value b)) (sym e) (go (examine p r y) refl)
  where
    sheet : (s : Sheet) → examine p r y ≡ Ok s → (b : Bool) → tariff_valid t ≡ b → let q = priced_sheet b t s in PricedExamined p r y t (answer_number q) (price_sheet q) (price_value q)
    sheet s h true v =
        let kept = (sheet_when_kept p r y s).0 h in
        inl (record { numbered = refl; kept = kept.0; valid = subst T (sym v) tt; figures = sym kept.1; cents = refl })
    sheet s h false v =
        let kept = (sheet_when_kept p r y s).0 h in
        inr (record { refusal = Refusal.Tariff; is_due = inr (refl, kept.0, subst (λ (b : Bool). T (not b)) (sym v) tt); numbered = refl; empty = refl; zero = refl })

    go : (c : Answer) → examine p r y ≡ c → let q = priced t c in PricedExamined p r y t (answer_number q) (price_sheet q) (price_value q)
    go (Ok s) h = sheet s h (tariff_valid t) refl
    go (Err n) h = inr (record { refusal = n; is_due = inl ((refused_when_due p r y n).0 h); numbered = refl; empty = refl; zero = refl })

-- the design chosen
pub priced_chosen :
    (p : Plant) (r : Readings) (t : Tariff) (a : Result PricedSheet Refusal)
    → ChosenPriced p r t a
    → PricedChosen p r t (answer_number a) (price_sheet a) (price_value a)
unfolding priced answer_number answer_sheet price_sheet price_value
priced_chosen p r t a h =
    subst (λ (b : Result PricedSheet Refusal). PricedChosen p r t (answer_number b) (price_sheet b) (price_value b)) (sym h.priced_choice)
    (go h.choice (chosen_outcome p r h.choice h.chosen))
  where
    sheet : (s : Sheet) → ChosenOutcome p r 0 s → (b : Bool) → tariff_valid t ≡ b → let q = priced_sheet b t s in PricedChosen p r t (answer_number q) (price_sheet q) (price_value q)
    sheet s (inl d) true v = inl (record { numbered = refl; kept = d.kept; valid = subst T (sym v) tt; least = d.least; cents = refl })
    sheet s (inl d) false v =
        inr (record {
          refusal = Refusal.Tariff;
          is_due = inr (refl, record { kept = d.kept; design = s; least = d.least; invalid = subst (λ (b : Bool). T (not b)) (sym v) tt });
          numbered = refl;
          empty = refl;
          zero = refl;
        })
    sheet s (inr d) b v = absurd (omega (arith, d.numbered, refusal_number_between d.refusal))

    go : (c : Answer) → ChosenOutcome p r (answer_number c) (answer_sheet c) → let q = priced t c in PricedChosen p r t (answer_number q) (price_sheet q) (price_value q)
    go (Ok s) o = sheet s o (tariff_valid t) refl
    go (Err n) (inl d) = absurd (omega (arith, d.numbered, refusal_number_between n))
    go (Err n) (inr d) = inr (record { refusal = d.refusal; is_due = inl d.is_due; numbered = d.numbered; empty = refl; zero = refl })

-- the two columns of a priced sheet are those of the sheet
priced_columns : (p : Plant) (r : Readings) (t : Tariff) (c : Answer) → TwoColumns p r c → PriceColumns p r (priced t c)
unfolding priced
priced_columns p r t (Ok s) h = go (tariff_valid t)
  where
    go : (b : Bool) → PriceColumns p r (priced_sheet b t s)
    go true = h
    go false = tt
priced_columns p r t (Err n) h = tt

pub priced_examined_columns : (p : Plant) (r : Readings) (y : Candidate) (t : Tariff) (a : Result PricedSheet Refusal) → a ≡ examine_priced p r y t → PriceColumns p r a
unfolding examine_priced
priced_examined_columns p r y t a e = subst (PriceColumns p r) (sym e) (priced_columns p r t (examine p r y) (examined_columns p r y (examine p r y) refl))

pub priced_chosen_columns : (p : Plant) (r : Readings) (t : Tariff) (a : Result PricedSheet Refusal) → ChosenPriced p r t a → PriceColumns p r a
priced_chosen_columns p r t a h = subst (PriceColumns p r) (sym h.priced_choice) (priced_columns p r t h.choice (chosen_columns p r h.choice h.chosen))
