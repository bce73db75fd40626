-- The seasons of accepted data: the inflow and the design the plant's, each entry its term's, and what is asked of an entry asked of
-- the term. Assumes nothing.
use mathlib.Core.Path.{◌≡◌, refl, sym, ap, subst, ◌∙◌}
use mathlib.Core.Bool.{Bool, true, false, cond, ◌&&◌, ◌||◌}
use mathlib.Core.List.{List, [], ◌∷◌}
use Prim.Native.Nat.{ℕ, zero, suc, ◌+◌, ◌≤◌, ◌<◌}
use borrow.Author.Tests.{lt-leb, le-leb}
use lib.Dec.{T, leb}
use lib.ListN.{length, get_or, take}
use native.Mathlib.Omega.{arith}
use Rattle.rules.specs.Limits.{most_terms}
use Rattle.rules.specs.AgeNitrate.{safety_factor, decay, aerobic_age, corrected_age}
use Rattle.rules.specs.Consent.{no_term, terms_of, every}
use Rattle.rules.specs.TermSteps.{term_share, nitrifies, term_fraction, term_removes, term_denitrified, term_covered}
use Rattle.rules.specs.Explanations.{no_term_explained}
use Rattle.rules.specs.Explaining.{term_explained, term_at}
use Rattle.rules.specs.Sums.{values_from}
use Rattle.rules.specs.Ranges.{PlantRanges, ConcentrationRanges}
use Rattle.rules.specs.declared.Plant.{Plant}
use Rattle.rules.specs.declared.Concentrations.{Concentrations}
use Rattle.rules.specs.declared.Term.{Term}
use Rattle.rules.specs.declared.Reactor.{Reactor}
use Rattle.std.specs.Bool.{MatchBool}
use Rattle.std.specs.List.{AllWithin, HoldsAt}
use Rattle.std.proofs.lemmas.List.{get_or-take, length-take-le}
use Rattle.rules.proofs.SumLaws.{values_length, values_at}
use Rattle.rules.proofs.EveryTerm.{every_at, entry_passes, every_entry, ValidTerms, valid_terms}
use Rattle.reactor.specs.Seasons.{season_with, season_of, no_season, season_at, inflow_of, seasons_of, TermSeasons, season_nitrifies, season_fraction, season_removes, season_covered, season_explained}
use Rattle.reactor.specs.declared.Season.{Season}
use Rattle.reactor.specs.declared.Seasons.{Seasons}
use Rattle.reactor.proofs.AgeLimits.{safety_factor_between, aerobic_age_most}

-- the inflow and the design are the plant's
pub record DesignIn (p : Plant) (x : Concentrations) (s : Seasons) : Type 0 where
  pub inflow : s.inflow ≡ inflow_of p x
  pub temperature : s.design.temperature ≡ p.design_temperature
  pub age : s.design.aerobic_age ≡ aerobic_age (safety_factor p.load) p.design_temperature
  pub decay : s.design.decay ≡ decay p.design_temperature
  pub age_most : s.design.aerobic_age ≤ 10_000

module _ (p : Plant) (x : Concentrations) (hp : PlantRanges p) where
  pub design_in : (s : Seasons) → ConcentrationRanges x → s ≡ seasons_of p x → DesignIn p x s
  unfolding seasons_of season_with
  design_in s hx e =
      subst (DesignIn p x) (sym e)
      (record {
        inflow = refl;
        temperature = refl;
        age = refl;
        decay = refl;
        age_most = aerobic_age_most (safety_factor p.load) p.design_temperature (safety_factor_between p.load).most hp.design;
      })

  pub count_most : (s : Seasons) → s ≡ seasons_of p x → s.count ≤ most_terms
  unfolding seasons_of
  count_most s e = omega (arith, ap (λ (t : Seasons). t.count) e, (valid_terms p.consent hp.consent).most)

  own : (i : ℕ) → i < p.consent.count → season_at p i ≡ season_of (safety_factor p.load) (get_or p.consent.terms i no_term)
  unfolding season_at
  own i below = rw (lt-leb p.consent.count i below)

  pub term_seasons :
      (s : Seasons)
      → s ≡ seasons_of p x
      → p.consent.count ≤ length p.consent.terms
      → TermSeasons p (take s.count s.terms)
  unfolding seasons_of
  term_seasons s e listed =
      subst (λ (t : Seasons). TermSeasons p (take t.count t.terms)) (sym e)
      (record { long = long; listed = listed; each = each })
    where
      valid : ValidTerms p.consent
      valid = valid_terms p.consent hp.consent

      all : List Season
      all = values_from 0 most_terms (season_at p)

      long : length (take p.consent.count all) ≡ p.consent.count
      long = length-take-le p.consent.count all (omega (arith, valid.most, values_length 0 most_terms (season_at p)))

      each :
          (i : ℕ)
          → i < length (take p.consent.count all)
          → get_or (take p.consent.count all) i no_season ≡ season_of (safety_factor p.load) (get_or p.consent.terms i no_term)
      each i b =
          let below : i < p.consent.count = omega (arith, long) in
          let few : i < most_terms = omega (arith, valid.most) in
          let same : 0 + i ≡ i = omega arith in
          get_or-take p.consent.count all i no_season below
          ∙ (values_at no_season 0 most_terms (season_at p) i few ∙ (ap (season_at p) same ∙ own i below))

-- a test that each of the first n terms passes, and one that entry i fails
pub every_of : (test : Term → Bool) (l : List Term) (n : ℕ) → n ≤ length l → ((k : ℕ) → k < n → test (get_or l k no_term) ≡ true) → every test (take n l) ≡ true
every_of test l zero most h = refl
every_of test [] (suc n) most h = absurd (omega (arith, most))
every_of test (term ∷ later) (suc n) most h =
    rw (h 0 (omega arith)) (every_of test later n (omega (arith, most)) (λ k b. h (suc k) (omega (arith, b))))

pub every_fails : (test : Term → Bool) (l : List Term) (n i : ℕ) → i < n → i < length l → test (get_or l i no_term) ≡ false → every test (take n l) ≡ false
every_fails test l n i below within fails = go (every test (take n l)) refl
  where
    go : (b : Bool) → every test (take n l) ≡ b → every test (take n l) ≡ false
    go false e = e
    go true e = absurd (subst T fails (every_at test l n i (subst T (sym e) tt) below within))

-- a test of the seasons that is a test of the terms
module _
    (p : Plant) (l : List Season) (known : TermSeasons p l) (own : Season → Bool) (test : Term → Bool)
    (same : (s : Season) (term : Term) → s ≡ season_of (safety_factor p.load) term → own s ≡ test term)
  where
    all_pass : ((k : ℕ) → k < length l → own (get_or l k no_season) ≡ true) → true ≡ every test (terms_of p.consent)
    all_pass h =
        sym (every_of test p.consent.terms p.consent.count known.listed
        (λ k b.
        let below : k < length l = omega (arith, known.long) in
        sym (same (get_or l k no_season) (get_or p.consent.terms k no_term) (known.each k below)) ∙ h k below))

    one_fails : (i : ℕ) → i < length l → own (get_or l i no_season) ≡ false → false ≡ every test (terms_of p.consent)
    one_fails i below fails =
        sym (every_fails test p.consent.terms p.consent.count i (omega (arith, known.long)) (omega (arith, known.long, known.listed))
        (sym (same (get_or l i no_season) (get_or p.consent.terms i no_term) (known.each i below)) ∙ fails))

    -- what a search through the seasons ends in
    pub tested :
        (r : Bool)
        → MatchBool r (AllWithin (λ s. own s ≡ true) l 0 (length l)) ((k : ℕ) × (k < length l) × HoldsAt (λ s. own s ≡ false) l k)
        → r ≡ every test (terms_of p.consent)
    tested true h = all_pass (λ k below. h k no_season (omega arith) below)
    tested false h = one_fails h.0 h.1 (h.2 no_season)

-- every season that is looked at passes a test
abbrev pub every_season : (Season → Bool) → Seasons → Bool
every_season test s =
    let at : ℕ → Bool = λ i. entry_passes s.count i (test (get_or s.terms i no_season)) in
    at 0 && (at 1 && (at 2 && at 3))

-- Whatever the test, of a plant's seasons it is that test of the terms. A consent has four entries.
pub every_season_lem :
    (p : Plant) (x : Concentrations) (test : Season → Bool)
    → length p.consent.terms ≡ most_terms
    → every_season test (seasons_of p x) ≡ every (λ term. test (season_of (safety_factor p.load) term)) (terms_of p.consent)
unfolding seasons_of season_at values_from
every_season_lem p x test four = go p.consent.terms four
  where
    factor : ℕ
    factor = safety_factor p.load

    -- past the count nothing is looked at, before it the season is the term's
    entry :
        (i : ℕ) (term : Term)
        → entry_passes p.consent.count i (test (cond (leb p.consent.count i) no_season (season_of factor term)))
        ≡ entry_passes p.consent.count i (test (season_of factor term))
    entry i term = at (leb p.consent.count i)
      where
        at : (b : Bool) → (b || test (cond b no_season (season_of factor term))) ≡ (b || test (season_of factor term))
        at true = refl
        at false = refl

    go :
        (l : List Term)
        → length l ≡ most_terms
        → (entry_passes p.consent.count 0 (test (cond (leb p.consent.count 0) no_season (season_of factor (get_or l 0 no_term))))
        && (entry_passes p.consent.count 1 (test (cond (leb p.consent.count 1) no_season (season_of factor (get_or l 1 no_term))))
        && (entry_passes p.consent.count 2 (test (cond (leb p.consent.count 2) no_season (season_of factor (get_or l 2 no_term))))
        && entry_passes p.consent.count 3 (test (cond (leb p.consent.count 3) no_season (season_of factor (get_or l 3 no_term)))))))
        ≡ every (λ term. test (season_of factor term)) (take p.consent.count l)
    go (a ∷ b ∷ c ∷ d ∷ []) e =
        rw (entry 0 a, entry 1 b, entry 2 c, entry 3 d) (sym (every_entry (λ term. test (season_of factor term)) p.consent.count a b c d))
    go [] e = absurd (omega (arith, e))
    go (a ∷ []) e = absurd (omega (arith, e))
    go (a ∷ b ∷ []) e = absurd (omega (arith, e))
    go (a ∷ b ∷ c ∷ []) e = absurd (omega (arith, e))
    go (a ∷ b ∷ c ∷ d ∷ more ∷ l) e = absurd (omega (arith, e))

module _ (p : Plant) (x : Concentrations) (reactor : Reactor) (s : Season) (term : Term) (e : s ≡ season_of (safety_factor p.load) term) where
  -- 15
  pub term_nitrifies : season_nitrifies reactor.age s ≡ nitrifies p reactor term
  unfolding season_with season_of season_nitrifies nitrifies term_share
  term_nitrifies = rw e

  -- 16
  pub term_covered_lem : season_covered p x reactor s ≡ term_covered p x reactor term
  unfolding season_with season_of season_fraction season_removes season_covered term_share term_fraction term_removes term_denitrified term_covered corrected_age
  term_covered_lem = rw e

  -- what explains a term
  pub term_explained_lem : season_explained p x reactor s ≡ term_explained p x reactor term
  unfolding season_with season_of season_fraction season_removes season_explained term_share term_fraction term_removes term_denitrified term_explained corrected_age
  term_explained_lem = rw e

-- what explains entry i, past the count and before it
pub term_past : (p : Plant) (x : Concentrations) (reactor : Reactor) (i : ℕ) → p.consent.count ≤ i → term_at p x reactor i ≡ no_term_explained
unfolding term_at
term_past p x reactor i past = rw (le-leb p.consent.count i past)

pub term_before : (p : Plant) (x : Concentrations) (reactor : Reactor) (i : ℕ) → i < p.consent.count → term_at p x reactor i ≡ term_explained p x reactor (get_or p.consent.terms i no_term)
unfolding term_at
term_before p x reactor i before = rw (lt-leb p.consent.count i before)
