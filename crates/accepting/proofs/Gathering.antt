-- The five readings converted and gathered are document 01's rules 2 to 4 in order. Assumes nothing.
use mathlib.Core.Path.{◌≡◌, refl, ap, sym, ◌∙◌}
use mathlib.Core.Bool.{Bool, true, false, cond, not}
use mathlib.Core.List.{List, [], ◌∷◌, ◌++◌}
use Prim.Native.Nat.{ℕ, ◌≤◌, ◌<◌}
use borrow.Author.Tests.{le-leb}
use lib.Ieee.Fits.{and_r}
use denote.Floats.{passes}
use Rattle.std.specs.Prelude.{Result, Ok, Err}
use Rattle.rules.specs.Limits.{most_index}
use Rattle.rules.specs.Rules.{Rule, rule, verdict, after}
use Rattle.rules.specs.PlantData.{plant_in_range}
use Rattle.rules.specs.LabReadings.{result_in_range, heads_in_range, reading_no_number, reading_in_range, reading_value, ratio_refused}
use Rattle.rules.specs.Consent.{consent_valid}
use Rattle.rules.specs.Accepting.{values_of, reading_rules, readings_rules, terms_rule, data_rules, accept_by, accept}
use Rattle.rules.specs.declared.Plant.{Plant}
use Rattle.rules.specs.declared.PrimarySettling.{PrimarySettling}
use Rattle.rules.specs.declared.Way.{Way}
use Rattle.rules.specs.declared.Parameter.{Parameter}
use Rattle.rules.specs.declared.Reading.{Reading}
use Rattle.rules.specs.declared.Readings.{Readings}
use Rattle.rules.specs.declared.Concentrations.{Concentrations}
use Rattle.rules.specs.declared.Refusal.{Refusal}
use Rattle.rules.specs.Results.{Verdict}
use Rattle.rules.proofs.AcceptedData.{accepted_kept, refused_broken, result_most}
use Rattle.rules.proofs.RuleLists.{all_kept_verdict, broken_verdict, verdict_append}
use Rattle.rules.proofs.BulkingSludge.{bulking_due}
use Rattle.accepting.specs.Conversion.{convert, gather, accept_readings}

-- what a verdict on 2 and 3 makes of a reading's value
abbrev converted : Verdict → ℕ → Result ℕ Refusal
converted (Ok u) v = Ok v
converted (Err n) v = Err n

convert_by_rules : (q : ℕ) (s : PrimarySettling) (k : Parameter) (r : Reading) → convert q s k r ≡ converted (verdict (reading_rules q s k r)) (reading_value q s k r)
unfolding convert
convert_by_rules q s k r = go (reading_no_number r) (reading_in_range q s k r)
  where
    go :
        (a b : Bool)
        → cond a (Err Refusal.NoNumber) (cond b (Ok (reading_value q s k r)) (Err Refusal.ReadingRange))
        ≡ converted (verdict (rule Refusal.NoNumber (not a) ∷ rule Refusal.ReadingRange b ∷ [])) (reading_value q s k r)
    go true b = refl
    go false true = refl
    go false false = refl

-- what a reading is converted to is no larger than the largest range
pub converted_most : (q : ℕ) (s : PrimarySettling) (k : Parameter) (r : Reading) (n : ℕ) → Ok n ≡ convert q s k r → n ≤ 4_400_000
unfolding convert reading_in_range
converted_most q s k r n = go (reading_no_number r) (reading_in_range q s k r) refl
  where
    go :
        (a b : Bool) → reading_in_range q s k r ≡ b
        → Ok n ≡ cond a (Err Refusal.NoNumber) (cond b (Ok (reading_value q s k r)) (Err Refusal.ReadingRange)) → n ≤ 4_400_000
    go true b e h = cc
    go false false e h = cc
    go false true e h =
        let same : n ≡ reading_value q s k r = cc in
        rw same (result_most k (reading_value q s k r) (and_r (heads_in_range r) (result_in_range k (reading_value q s k r)) (passes (reading_in_range q s k r) e)))

-- rule 4 alone
abbrev ratio : Way → ℕ → ℕ → List Rule
ratio way c o = rule Refusal.CodRatio (not (ratio_refused way c o)) ∷ []

gather_by_rules :
    (way : Way) (v w x y z : Verdict) (c o s n p : ℕ)
    → gather way (converted v c) (converted w o) (converted x s) (converted y n) (converted z p)
    ≡ accept_by (after v (after w (after x (after y (after z (verdict (ratio way c o))))))) (record { bod = c; cod = o; solids = s; nitrogen = n; phosphorus = p })
unfolding gather accept_by
gather_by_rules way (Err m) w x y z c o s n p = refl
gather_by_rules way (Ok u) (Err m) x y z c o s n p = refl
gather_by_rules way (Ok a) (Ok b) (Err m) y z c o s n p = refl
gather_by_rules way (Ok a) (Ok b) (Ok d) (Err m) z c o s n p = refl
gather_by_rules way (Ok a) (Ok b) (Ok d) (Ok e) (Err m) c o s n p = refl
gather_by_rules way (Ok a) (Ok b) (Ok d) (Ok e) (Ok f) c o s n p = go (ratio_refused way c o)
  where
    go :
        (b : Bool)
        → cond b (Err Refusal.CodRatio) (Ok (record { bod = c; cod = o; solids = s; nitrogen = n; phosphorus = p }))
        ≡ accept_by (verdict (rule Refusal.CodRatio (not b) ∷ [])) (record { bod = c; cod = o; solids = s; nitrogen = n; phosphorus = p })
    go true = refl
    go false = refl

-- six lists are judged in turn
judged_in_turn :
    (a b c d e f : List Rule)
    → verdict (a ++ (b ++ (c ++ (d ++ (e ++ f)))))
    ≡ after (verdict a) (after (verdict b) (after (verdict c) (after (verdict d) (after (verdict e) (verdict f)))))
judged_in_turn a b c d e f = simp verdict_append

module _ (p : Plant) (r : Readings) where
  abbrev of : Parameter → Reading → List Rule
  of k x = reading_rules p.flow p.primary_settling k x

  -- the verdict on the readings' rules, reading by reading
  in_turn :
      verdict (readings_rules p r)
      ≡ after (verdict (of Parameter.Bod r.bod))
      (after (verdict (of Parameter.Cod r.cod))
      (after (verdict (of Parameter.Solids r.solids))
      (after (verdict (of Parameter.Nitrogen r.nitrogen))
      (after (verdict (of Parameter.Phosphorus r.phosphorus)) (verdict (ratio p.way (values_of p r).bod (values_of p r).cod))))))
  in_turn =
      judged_in_turn
      (of Parameter.Bod r.bod)
      (of Parameter.Cod r.cod)
      (of Parameter.Solids r.solids)
      (of Parameter.Nitrogen r.nitrogen)
      (of Parameter.Phosphorus r.phosphorus)
      (ratio p.way (values_of p r).bod (values_of p r).cod)

  gathered : accept_readings p r ≡ accept_by (verdict (readings_rules p r)) (values_of p r)
  unfolding accept_readings values_of
  gathered =
      rw (in_turn, convert_by_rules, convert_by_rules, convert_by_rules, convert_by_rules, convert_by_rules)
      (gather_by_rules p.way
      (verdict (of Parameter.Bod r.bod))
      (verdict (of Parameter.Cod r.cod))
      (verdict (of Parameter.Solids r.solids))
      (verdict (of Parameter.Nitrogen r.nitrogen))
      (verdict (of Parameter.Phosphorus r.phosphorus))
      _ _ _ _ _)

  -- BOD and COD are converted, and solids are refused
  pub solids_refused :
      (c o : ℕ) (n : Refusal)
      → Ok c ≡ convert p.flow p.primary_settling Parameter.Bod r.bod
      → Ok o ≡ convert p.flow p.primary_settling Parameter.Cod r.cod
      → Err n ≡ convert p.flow p.primary_settling Parameter.Solids r.solids
      → Err n ≡ accept_readings p r
  unfolding accept_readings gather
  solids_refused c o n bod cod solids = rw (sym bod, sym cod, sym solids)

  -- 1 is due
  pub out_of_range : plant_in_range p ≡ false → Err Refusal.PlantData ≡ accept p r
  unfolding accept accept_by data_rules
  out_of_range e = rw e

  -- 1 is not due, and 17 is
  pub index_too_high : plant_in_range p ≡ true → most_index < p.sludge_volume_index → Err Refusal.Bulking ≡ accept p r
  index_too_high e h = sym ((bulking_due p r).1 (passes _ e, h))

  -- neither is due: the readings decide, and then the terms
  module _ (e : plant_in_range p ≡ true) (h : p.sludge_volume_index ≤ most_index) where
    decided : accept p r ≡ accept_by (after (verdict (readings_rules p r)) (verdict (terms_rule p ∷ []))) (values_of p r)
    unfolding accept data_rules
    decided = rw (e, le-leb p.sludge_volume_index most_index h, verdict_append (readings_rules p r) (terms_rule p ∷ []))

    pub readings_refused : (n : Refusal) → Err n ≡ accept_readings p r → Err n ≡ accept p r
    unfolding accept_by
    readings_refused n b = rw (decided, (broken_verdict (readings_rules p r) n).0 ((refused_broken (readings_rules p r) (values_of p r) n).0 (sym (b ∙ gathered))))

    kept : (x : Concentrations) → Ok x ≡ accept_readings p r → (verdict (readings_rules p r) ≡ Ok tt) × (values_of p r ≡ x)
    kept x b =
        let k = accepted_kept (readings_rules p r) (values_of p r) x (sym (b ∙ gathered)) in
        ((all_kept_verdict (readings_rules p r)).0 k.0, k.1)

    pub terms_refused : (x : Concentrations) → Ok x ≡ accept_readings p r → consent_valid p.consent ≡ false → Err Refusal.Terms ≡ accept p r
    unfolding accept_by
    terms_refused x b v = rw (decided, (kept x b).0, v)

    pub accepted : (x : Concentrations) → Ok x ≡ accept_readings p r → consent_valid p.consent ≡ true → Ok x ≡ accept p r
    unfolding accept_by
    accepted x b v = rw (decided, (kept x b).0, v) (ap Ok (sym (kept x b).1))
