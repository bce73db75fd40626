-- Tests of every term of a consent: what they say of each term, and how a weaker test passes where a stronger one did.
-- Assumes nothing.
use mathlib.Core.Path.{◌≡◌, refl, ap}
use mathlib.Core.Bool.{Bool, true, false, ◌&&◌, ◌||◌, and-true}
use mathlib.Core.List.{List, [], ◌∷◌, ◌++◌}
use Prim.Native.Nat.{ℕ, zero, suc, ◌<◌, ◌≤◌}
use native.Mathlib.Omega.{arith}
use borrow.Author.Tests.{lt-leb}
use lib.Dec.{T, leb, leb→le}
use lib.ListN.{take, length, get_or}
use lib.Ieee.Fits.{and_i, and_l, and_r}
use Rattle.rules.specs.Limits.{least_term_temperature, most_temperature, least_nitrate_target, most_nitrate_target, most_terms}
use Rattle.rules.specs.PlantData.{within}
use Rattle.rules.specs.Consent.{date_valid, term_valid, no_term, terms_of, every, consent_valid}
use Rattle.rules.specs.Ranges.{Between}
use Rattle.rules.specs.declared.Term.{Term}
use Rattle.rules.specs.declared.Consent.{Consent}
use Rattle.rules.proofs.Tests.{within_between}

pub every_weaker : (f g : Term → Bool) (l : List Term) → ((term : Term) → T (f term) → T (g term)) → T (every f l) → T (every g l)
every_weaker f g [] h t = tt
every_weaker f g (term ∷ later) h t =
    and_i (g term) (every g later) (h term (and_l (f term) (every f later) t)) (every_weaker f g later h (and_r (f term) (every f later) t))

-- one term more in a list, which passes the test, changes nothing
pub every_inserted : (f : Term → Bool) (a : List Term) (term : Term) (b : List Term) → f term ≡ true → every f (a ++ (term ∷ b)) ≡ every f (a ++ b)
every_inserted f [] term b e = rw e
every_inserted f (t ∷ a) term b e = ap (λ (r : Bool). f t && r) (every_inserted f a term b e)

-- entry i of a consent with so many terms passes, or is not looked at
abbrev pub entry_passes : ℕ → ℕ → Bool → Bool
entry_passes count i test = leb count i || test

-- a test of every term is a test of the four entries
pub every_entry :
    (f : Term → Bool) (count : ℕ) (a b c d : Term)
    → every f (take count (a ∷ b ∷ c ∷ d ∷ []))
    ≡ (entry_passes count 0 (f a) && (entry_passes count 1 (f b) && (entry_passes count 2 (f c) && entry_passes count 3 (f d))))
every_entry f zero a b c d = refl
every_entry f (suc zero) a b c d = refl
every_entry f (suc (suc zero)) a b c d = refl
every_entry f (suc (suc (suc zero))) a b c d = refl
every_entry f (suc (suc (suc (suc n)))) a b c d =
    rw (within n 0 (omega arith), within n 1 (omega arith), within n 2 (omega arith), within n 3 (omega arith), none_left n, and-true (f d))
  where
    within : (n i : ℕ) → i < suc (suc (suc (suc n))) → leb (suc (suc (suc (suc n)))) i ≡ false
    within n i l = lt-leb (suc (suc (suc (suc n)))) i l

    none_left : (n : ℕ) → every f (take n []) ≡ true
    none_left zero = refl
    none_left (suc n) = refl

-- a test that every term of a list passes is passed by each of its first n
pub every_at : (f : Term → Bool) (l : List Term) (n i : ℕ) → T (every f (take n l)) → i < n → i < length l → T (f (get_or l i no_term))
every_at f [] n i t below within = absurd (omega (arith, within))
every_at f (term ∷ later) zero i t below within = absurd (omega (arith, below))
every_at f (term ∷ later) (suc n) zero t below within = and_l (f term) (every f (take n later)) t
every_at f (term ∷ later) (suc n) (suc i) t below within =
    every_at f later n i (and_r (f term) (every f (take n later)) t) (omega (arith, below)) (omega (arith, within))

-- what is known of a valid term
pub record TermRanges (term : Term) : Type 0 where
  pub temperature : Between least_term_temperature most_temperature term.temperature
  pub target : Between least_nitrate_target most_nitrate_target term.nitrate_target

pub term_ranges : (term : Term) → T (term_valid term) → TermRanges term
unfolding term_valid
term_ranges term t =
    let days = date_valid term.first && date_valid term.last in
    let warm = within least_term_temperature most_temperature term.temperature in
    let target = within least_nitrate_target most_nitrate_target term.nitrate_target in
    record {
      temperature = (within_between least_term_temperature most_temperature term.temperature).0 (and_r days warm (and_l (days && warm) target t));
      target = (within_between least_nitrate_target most_nitrate_target term.nitrate_target).0 (and_r (days && warm) target t);
    }

-- the terms of a valid consent are at most four, and each that is looked at is valid
pub record ValidTerms (c : Consent) : Type 0 where
  pub most : c.count ≤ most_terms
  pub each : (i : ℕ) → i < c.count → i < length c.terms → T (term_valid (get_or c.terms i no_term))

pub valid_terms : (c : Consent) → T (consent_valid c) → ValidTerms c
unfolding consent_valid
valid_terms c t =
    record {
      most = leb→le c.count most_terms (and_l (leb c.count most_terms) (every term_valid (terms_of c)) t);
      each = λ i below within. every_at term_valid c.terms c.count i (and_r (leb c.count most_terms) (every term_valid (terms_of c)) t) below within;
    }
