-- The price band by band is the price by single cubic metres, for every tariff of at least one band, its limits rising or not, and every
-- volume. Assumes nothing.
use mathlib.Core.Path.{◌≡◌, refl, ap, sym, subst, ◌∙◌}
use mathlib.Core.Bool.{Bool, true, false}
use Prim.Native.Nat.{ℕ, zero, suc, ◌+◌, ◌-◌, ◌*◌, ◌≤◌, ◌<◌, min}
use native.Mathlib.Numerals.{add-one}
use native.Mathlib.Omega.{arith}
use borrow.Author.Tests.{eq-eqb, ne_eqb}
use lib.Dec.{eqb}
use Rattle.rules.specs.Sums.{sum_from}
use Rattle.rules.specs.Limits.{most_price}
use Rattle.rules.specs.Price.{band_limit, band_price, charged_from, metre_price, volume_price}
use Rattle.rules.specs.declared.Tariff.{Tariff}
use Rattle.rules.proofs.SumLaws.{sum_most}
use Rattle.rules.proofs.PriceLaws.{charged_later, charged_here, ValidTariff, metre_most}
use Rattle.pricing.specs.Bands.{charge_end, band_end, charged_by, cost_by}

-- a sum goes on by m terms of the same value
sum_run : (a m c : ℕ) (g : ℕ → ℕ) → ((i : ℕ) → a < i → i ≤ a + m → g i ≡ c) → sum_from 1 (a + m) g ≡ sum_from 1 a g + m * c
unfolding sum_from
sum_run a zero c g e = let same : a + 0 ≡ a = omega arith in rw same (omega arith)
sum_run a (suc m) c g e =
    let same : a + suc m ≡ suc (a + m) = omega arith in
    let here : g (1 + (a + m)) ≡ c = e (1 + (a + m)) (omega arith) (omega arith) in
    rw same (omega (arith, here, sum_run a m c g (λ i l h. e i l (omega (arith, h)))))

-- After k bands of a tariff: so many metres of the volume are charged, they cost what they cost one by one, and a metre that is left is
-- charged from band k on.
pub record After (t : Tariff) (volume k : ℕ) : Type 0 where
  pub within : charged_by t volume k ≤ volume
  pub cost : cost_by t volume k ≡ sum_from 1 (charged_by t volume k) (metre_price t)
  pub left : (later n : ℕ) → t.count ≡ k + later + 1 → charged_by t volume k < n → n ≤ volume → metre_price t n ≡ charged_from t k later n

at_start : (t : Tariff) (volume : ℕ) → After t volume 0
unfolding charged_by cost_by sum_from metre_price
at_start t volume =
    record {
      within = omega arith;
      cost = refl;
      left = λ later n c l m. let same : t.count - 1 ≡ later = omega (arith, c) in ap (λ (k : ℕ). charged_from t 0 k n) same;
    }

-- where the last band's charge ends, and another's
end_last : (t : Tariff) (volume k : ℕ) → k + 1 ≡ t.count → band_end t volume k ≡ volume
end_last t volume k e = ap (λ (b : Bool). charge_end b (band_limit t k) volume) (eq-eqb (k + 1) t.count e)

end_other : (t : Tariff) (volume k : ℕ) → (k + 1 ≡ t.count → ⊥) → band_end t volume k ≡ min (band_limit t k) volume
end_other t volume k e = ap (λ (b : Bool). charge_end b (band_limit t k) volume) (ne_eqb (k + 1) t.count e)

end_most : (t : Tariff) (volume k : ℕ) → band_end t volume k ≤ volume
end_most t volume k = go (eqb (k + 1) t.count)
  where
    go : (b : Bool) → charge_end b (band_limit t k) volume ≤ volume
    go true = omega arith
    go false = omega arith

-- a metre that a band comes to and reaches costs that band's price
charged_in : (t : Tariff) (volume k later i : ℕ) → t.count ≡ k + later + 1 → i ≤ band_end t volume k → charged_from t k later i ≡ band_price t k
unfolding charged_from
charged_in t volume k zero i c h = refl
charged_in t volume k (suc later) i c h = charged_here t k later i (omega (arith, h, end_other t volume k (λ e. omega (arith, c, e))))

-- one band more
one_band : (t : Tariff) (volume k : ℕ) → k < t.count → After t volume k → After t volume (suc k)
unfolding charged_by cost_by
one_band t volume k below before =
    record {
      within = omega (arith, before.within, end_most t volume k);
      cost = ap (λ (n : ℕ). n + metres * band_price t k) before.cost ∙ sym (sum_run charged metres (band_price t k) (metre_price t) run);
      left = left;
    }
  where
    charged : ℕ
    charged = charged_by t volume k

    metres : ℕ
    metres = band_end t volume k - charged_by t volume k

    run : (i : ℕ) → charged < i → i ≤ charged + metres → metre_price t i ≡ band_price t k
    run i low high =
        let later : ℕ = t.count - 1 - k in
        let c : t.count ≡ k + later + 1 = omega (arith, below) in
        let reached : i ≤ band_end t volume k = omega (arith, low, high) in
        before.left later i c low (omega (arith, reached, end_most t volume k)) ∙ charged_in t volume k later i c reached

    left : (later n : ℕ) → t.count ≡ suc k + later + 1 → charged + metres < n → n ≤ volume → metre_price t n ≡ charged_from t (suc k) later n
    left later n c low high =
        let past : band_limit t k < n = omega (arith, low, high, end_other t volume k (λ e. omega (arith, c, e))) in
        before.left (suc later) n (omega (arith, c)) (omega (arith, low)) high ∙ rw (← add-one k) (charged_later t k later n past)

-- after any number of bands
pub after_bands : (t : Tariff) (volume k : ℕ) → k ≤ t.count → After t volume k
after_bands t volume zero h = at_start t volume
after_bands t volume (suc k) h = one_band t volume k (omega (arith, h)) (after_bands t volume k (omega (arith, h)))

-- the last band charges what is left
all_charged : (t : Tariff) (volume k : ℕ) → t.count ≡ suc k → charged_by t volume (suc k) ≡ volume
unfolding charged_by
all_charged t volume k c =
    let before = after_bands t volume k (omega (arith, c)) in
    omega (arith, before.within, end_last t volume k (omega (arith, c)))

-- For every tariff of at least one band, and every volume.
pub by_bands : (t : Tariff) (volume : ℕ) → 1 ≤ t.count → cost_by t volume t.count ≡ volume_price t volume
unfolding volume_price
by_bands t volume h = go (t.count - 1) (omega (arith, h))
  where
    go : (k : ℕ) → t.count ≡ suc k → cost_by t volume t.count ≡ sum_from 1 volume (metre_price t)
    go k c = ap (cost_by t volume) c ∙ ((after_bands t volume (suc k) (omega (arith, c))).cost ∙ ap (λ (n : ℕ). sum_from 1 n (metre_price t)) (all_charged t volume k c))

-- after k bands of a valid tariff the cost is at most the metres charged at the largest price
pub cost_most : (t : Tariff) (volume k : ℕ) → ValidTariff t → k ≤ t.count → cost_by t volume k ≤ charged_by t volume k * most_price
cost_most t volume k v h =
    subst (λ (n : ℕ). n ≤ charged_by t volume k * most_price) (sym (after_bands t volume k h).cost)
    (sum_most 1 (charged_by t volume k) most_price (metre_price t) (λ n. metre_most t n v))

-- and at most that of the whole volume
pub passed : (t : Tariff) (volume k : ℕ) → ValidTariff t → k ≤ t.count → (charged_by t volume k ≤ volume) × (cost_by t volume k ≤ volume * most_price)
passed t volume k v h =
    let after = after_bands t volume k h in
    (after.within, omega (arith, after.within, cost_most t volume k v h))

-- and a whole volume
pub volume_most : (t : Tariff) (volume : ℕ) → ValidTariff t → volume_price t volume ≤ volume * most_price
unfolding volume_price
volume_most t volume v = sum_most 1 volume most_price (metre_price t) (λ n. metre_most t n v)

-- one band more: what is charged and what it costs, by the band's own limit and price
pub next :
    (t : Tariff) (volume k charged cost limit price end metres : ℕ)
    → (charged ≡ charged_by t volume k) × (cost ≡ cost_by t volume k)
    → limit ≡ band_limit t k
    → price ≡ band_price t k
    → end ≡ charge_end (eqb (k + 1) t.count) limit volume
    → metres ≡ end - charged
    → (charged + metres ≡ charged_by t volume (k + 1)) × (cost + metres * price ≡ cost_by t volume (k + 1))
unfolding charged_by cost_by
next t volume k charged cost limit price end metres h l p e m =
    let both : metres ≡ band_end t volume k - charged_by t volume k = rw (m, e, l, h.0) in
    rw (add-one k) (rw (h.0, both), rw (h.1, both, p))
