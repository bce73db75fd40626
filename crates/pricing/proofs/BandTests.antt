-- The tests of a tariff's first bands: one limit more rises too, or no limits with it do; and each price is kept. Assumes nothing.
use mathlib.Core.Logic.{◌⊎◌, inl, inr}
use mathlib.Core.Path.{◌≡◌, refl, ap, sym}
use mathlib.Core.Bool.{Bool, true, false, ◌&&◌}
use Prim.Native.Nat.{ℕ, zero, suc, ◌+◌, ◌≤◌, ◌<◌}
use native.Mathlib.Nat.{eq-or-lt_of_le}
use native.Mathlib.Numerals.{add-one}
use native.Mathlib.Omega.{arith}
use borrow.Author.Tests.{lt-ltb, le-ltb}
use lib.Dec.{leb}
use lib.ListN.{length, get_or, take}
use lib.Seq.{take-suc}
use Rattle.std.specs.List.{list_all}
use Rattle.std.proofs.lemmas.List.Folds.{list_all-append}
use Rattle.std.proofs.lemmas.List.{length-take, get_or-take}
use Rattle.rules.specs.Limits.{most_price}
use Rattle.rules.specs.Price.{no_band, band_at, band_limit, band_price, limit_before, limits_rise, prices_kept}
use Rattle.rules.specs.declared.Band.{Band}
use Rattle.rules.specs.declared.Tariff.{Tariff}

stays_false : (t : Tariff) (k n : ℕ) → k ≤ n → limits_rise t k ≡ false → limits_rise t n ≡ false
unfolding limits_rise
stays_false t k zero l e = let same : k ≡ 0 = omega arith in rw same at e
stays_false t k (suc n) l e = go (eq-or-lt_of_le l) (λ below. stays_false t k n below e)
  where
    go : (k ≡ suc n) ⊎ (k < suc n) → (k ≤ n → limits_rise t n ≡ false) → limits_rise t (suc n) ≡ false
    go (inl same) before = rw same at e
    go (inr less) before = rw (before (omega arith))

module _ (t : Tariff) (n k : ℕ) (inside : k < length (take n t.bands)) where
  abbrev read : Band
  read = get_or (take n t.bands) k no_band

  below : k < n
  below = omega (arith, length-take n t.bands)

  same : read ≡ band_at t k
  same = get_or-take n t.bands k no_band below

  same_limit : read.limit ≡ band_limit t k
  same_limit = ap (λ (b : Band). b.limit) same

  pub limit_next : (before : ℕ) → (before ≡ limit_before t k) × (limits_rise t k ≡ true) → before < read.limit → (read.limit ≡ limit_before t (k + 1)) × (limits_rise t (k + 1) ≡ true)
  unfolding limit_before limits_rise
  limit_next before h l =
      let here : before < band_limit t k = omega (arith, l, same_limit) in
      rw (add-one k) (same_limit, rw (h.1, ← h.0) (lt-ltb before (band_limit t k) here))

  pub limit_stops : (before : ℕ) → (before ≡ limit_before t k) × (limits_rise t k ≡ true) → read.limit ≤ before → false ≡ limits_rise t n
  unfolding limits_rise
  limit_stops before h l =
      let here : band_limit t k ≤ before = omega (arith, l, same_limit) in
      sym (stays_false t (suc k) n below (rw (h.1, ← h.0) (le-ltb before (band_limit t k) here)))

alone : (b c : Bool) → (b && c) ≡ (b && (c && true))
alone true true = refl
alone true false = refl
alone false c = refl

-- the test of one price more at a time is `all` of them
pub prices_all : (t : Tariff) (n : ℕ) → n ≤ length t.bands → prices_kept t n ≡ list_all (λ b. leb b.price most_price) (take n t.bands)
unfolding prices_kept
prices_all t zero h = refl
prices_all t (suc n) h =
    let below : n < length t.bands = omega (arith, h) in
    rw (prices_all t n (omega (arith, h)), take-suc t.bands n no_band below, list_all-append)
    (alone (list_all (λ b. leb b.price most_price) (take n t.bands)) (leb (band_price t n) most_price))
