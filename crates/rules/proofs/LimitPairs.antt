-- What a planner must not read into a looser limit, each refuted by a pair of plants: that the design stays the same, that its total
-- falls; and that a warmer design temperature or a lower sludge volume index is such a limit. Assumes nothing.
use mathlib.Core.Path.{◌≡◌, refl, sym, subst}
use mathlib.Core.Bool.{Bool, ◌&&◌}
use Prim.Native.Nat.{ℕ, ◌*◌, ◌≤◌, ◌<◌}
use native.Mathlib.Nat.{le_antisymm}
use native.Mathlib.Decide.{dec_le}
use native.Mathlib.Omega.{arith}
use lib.Dec.{T, leb→le, le→leb}
use lib.Ieee.Fits.{and_i, and_l}
use Rattle.std.specs.Prelude.{leb, Ok, Err}
use Rattle.rules.specs.Limits.{least_fraction}
use Rattle.rules.specs.Rules.{all_kept}
use Rattle.rules.specs.Accepting.{accept}
use Rattle.rules.specs.Consent.{no_terms}
use Rattle.rules.specs.AgeNitrate.{nitrified, denitrified}
use Rattle.rules.specs.ReactorSteps.{sludge_production, reactor_by, reactor_dosed, reactor_of, reactor_solids, reactor_volume}
use Rattle.rules.specs.SettlingSteps.{solids_kept, settling_of}
use Rattle.rules.specs.Examining.{fraction_rules, tank_rules, total_of, candidate_rules, permitted}
use Rattle.rules.specs.Choosing.{grid, candidate_of, candidate_total, ChosenAmong, ChosenAccepted, Chosen, Least}
use Rattle.rules.specs.LooserLimits.{Limit, limit_of, with_limit, AlikeBut}
use Rattle.rules.specs.Cases.{variant, readings_a, concentrations_a, candidate}
use Rattle.rules.specs.declared.Plant.{Plant}
use Rattle.rules.specs.declared.Candidate.{Candidate}
use Rattle.rules.specs.declared.Sheet.{Sheet}
use Rattle.rules.specs.declared.Process.{Process}
use Rattle.rules.specs.declared.Precipitant.{Precipitant}
use Rattle.rules.specs.declared.TankFlow.{TankFlow}
use Rattle.rules.specs.declared.Removal.{Removal}
use Rattle.rules.specs.declared.PrimarySettling.{PrimarySettling}
use Rattle.rules.specs.declared.Way.{Way}
use Rattle.rules.specs.declared.Refusal.{Refusal}
use Rattle.rules.specs.Results.{Answer}
use Rattle.rules.proofs.Computing.{steps}
use Rattle.rules.proofs.Quotients.{up_mono}
use Rattle.rules.proofs.RangeFacts.{grid_ranges}
use Rattle.rules.proofs.Examined.{TankKept, permitted_keeps}
use Rattle.rules.proofs.GridTests.{passing, tanks_passing, none_passes, no_tank_passes}
use Rattle.rules.proofs.WiderChoice.{Wider, wider_least, design_chosen, none_chosen, own_total}

-- a fraction's test
abbrev keeps_fraction : Plant → ℕ → Bool
keeps_fraction p f = all_kept (fraction_rules p concentrations_a (reactor_of p concentrations_a f))

-- ---- the same design

-- Case A with a target of 6,000 and of 6,200 mg/m3
abbrev pub at_6000 : Plant
at_6000 = variant 5_000 6_000 1_000 5_000 Process.PreAnoxic TankFlow.Horizontal Removal.Scraper

abbrev pub at_6200 : Plant
at_6200 = variant 5_000 6_200 1_000 5_000 Process.PreAnoxic TankFlow.Horizontal Removal.Scraper

pub alike_targets : AlikeBut Limit.nitrate_target at_6000 at_6200
unfolding steps limit_of with_limit
alike_targets = record { all_else = refl; looser = omega arith }

-- under the tighter no fraction below 500 is covered
below_500 : passing least_fraction 300 (keeps_fraction at_6000) ≡ 0
unfolding steps
below_500 = refl

-- so its design has the fraction 500
only_500 : (s : Sheet) → Least at_6000 concentrations_a (grid at_6000) s → s.fraction ≡ 500
unfolding candidate_of
only_500 s l =
    let k = (permitted_keeps at_6000 concentrations_a (candidate_of s)).0 l.allowed in
    let at = (grid_ranges at_6000.tank (candidate_of s)).0 l.member in
    elim (dec_le 500 s.fraction) [
      | yes most ↦ omega (arith, at.fraction)
      | no less ↦ absurd (none_passes least_fraction 300 (keeps_fraction at_6000) below_500 s.fraction at.fraction.least (omega arith) k.fraction)
    ]

-- under the looser 499 is covered, with no more sludge than 500
covers_499 : T (keeps_fraction at_6200 499)
unfolding steps
covers_499 = tt

lighter_499 : (reactor_of at_6200 concentrations_a 499).mass ≤ (reactor_of at_6200 concentrations_a 500).mass
unfolding steps
lighter_499 = leb→le _ _ tt

-- and so has no larger total, in any settling tank that keeps its rules
smaller_499 :
    (r h : ℕ) → TankKept at_6200 r h
    → candidate_total at_6200 concentrations_a (candidate 499 r h) ≤ candidate_total at_6200 concentrations_a (candidate 500 r h)
unfolding variant candidate_total total_of candidate reactor_volume reactor_solids solids_kept
smaller_499 r h t =
    let tank = settling_of at_6200 r h in
    let enough : 1_000 ≤ tank.solids = leb→le 1_000 tank.solids (and_l (leb 1_000 tank.solids) (leb tank.sludge_volume 600) (and_l (solids_kept tank.solids tank.sludge_volume) _ t)) in
    let reactors = up_mono (1000 * (reactor_of at_6200 concentrations_a 499).mass) (1000 * (reactor_of at_6200 concentrations_a 500).mass) tank.solids (omega arith) (omega (arith, lighter_499)) in
    omega arith

-- so the looser's design has a smaller fraction
under_500 : (s : Sheet) → Least at_6200 concentrations_a (grid at_6200) s → s.fraction < 500
unfolding candidate candidate_of
under_500 s l =
    let k = (permitted_keeps at_6200 concentrations_a (candidate_of s)).0 l.allowed in
    let at = (grid_ranges at_6200.tank (candidate_of s)).0 l.member in
    elim (dec_le 500 s.fraction) [
      | yes most ↦
          let same : s.fraction ≡ 500 = omega (arith, at.fraction) in
          let y : Candidate = candidate 499 s.return_ratio s.thickening in
          let on : grid at_6200 y = (grid_ranges at_6200.tank y).1 (record { fraction = record { least = omega arith; most = omega arith }; ratio = at.ratio; time = at.time }) in
          let allowed : T (permitted at_6200 concentrations_a y) = (permitted_keeps at_6200 concentrations_a y).1 (record { grid = on; fraction = covers_499; tank = k.tank }) in
          let rival = l.rivals y on allowed in
          let less = smaller_499 s.return_ratio s.thickening k.tank in
          let own : candidate_total at_6200 concentrations_a (candidate_of s) ≡ candidate_total at_6200 concentrations_a (candidate 500 s.return_ratio s.thickening) = rw same in
          absurd (let f = rival.fraction (omega arith) in omega arith)
      | no less ↦ omega arith
    ]

-- what is chosen among accepted data with Case A's readings
among : (p : Plant) (a : Answer) → accept p readings_a ≡ Ok concentrations_a → Chosen p readings_a a → ChosenAmong p concentrations_a (grid p) a
among p a e c = subst (ChosenAccepted p a) e c

-- Refuted: the same design. Any two answers are designs, of which the looser target's has a smaller fraction.
pub record OtherFraction (a b : Answer) : Type 0 where
  pub tighter : Sheet
  pub looser : Sheet
  pub first : a ≡ Ok tighter
  pub second : b ≡ Ok looser
  pub at_500 : tighter.fraction ≡ 500
  pub below_500 : looser.fraction < 500

accepted_6000 : accept at_6000 readings_a ≡ Ok concentrations_a
unfolding steps
accepted_6000 = refl

accepted_6200 : accept at_6200 readings_a ≡ Ok concentrations_a
unfolding steps
accepted_6200 = refl

permitted_6000 : T (permitted at_6000 concentrations_a (candidate 500 75 25))
unfolding steps
permitted_6000 = tt

permitted_6200 : T (permitted at_6200 concentrations_a (candidate 500 75 25))
unfolding steps
permitted_6200 = tt

pub other_fraction : (a b : Answer) → Chosen at_6000 readings_a a → Chosen at_6200 readings_a b → OtherFraction a b
other_fraction a b c d =
    let s = design_chosen at_6000 concentrations_a (candidate 500 75 25) a permitted_6000 (among at_6000 a accepted_6000 c) in
    let t = design_chosen at_6200 concentrations_a (candidate 500 75 25) b permitted_6200 (among at_6200 b accepted_6200 d) in
    record { tighter = s.0; looser = t.0; first = s.1; second = t.1; at_500 = only_500 s.0 s.2; below_500 = under_500 t.0 t.2 }

-- ---- a smaller total

-- Case A with targets above the nitrogen to nitrify: nothing is left to remove under either
abbrev pub at_49999 : Plant
at_49999 = variant 5_000 49_999 1_000 5_000 Process.PreAnoxic TankFlow.Horizontal Removal.Scraper

abbrev pub at_50000 : Plant
at_50000 = variant 5_000 50_000 1_000 5_000 Process.PreAnoxic TankFlow.Horizontal Removal.Scraper

pub alike_highest : AlikeBut Limit.nitrate_target at_49999 at_50000
unfolding steps limit_of with_limit
alike_highest = record { all_else = refl; looser = omega arith }

same_permitted : (y : Candidate) → permitted at_50000 concentrations_a y ≡ permitted at_49999 concentrations_a y
unfolding variant concentrations_a permitted candidate_rules reactor_of reactor_dosed reactor_by nitrified denitrified settling_of sludge_production
same_permitted y = refl

same_total : (y : Candidate) → candidate_total at_50000 concentrations_a y ≡ candidate_total at_49999 concentrations_a y
unfolding variant concentrations_a candidate_total total_of reactor_of reactor_dosed reactor_by nitrified denitrified settling_of sludge_production
same_total y = refl

accepted_49999 : accept at_49999 readings_a ≡ Ok concentrations_a
unfolding steps
accepted_49999 = refl

accepted_50000 : accept at_50000 readings_a ≡ Ok concentrations_a
unfolding steps
accepted_50000 = refl

permitted_49999 : T (permitted at_49999 concentrations_a (candidate 300 75 20))
unfolding steps
permitted_49999 = tt

-- Refuted: a smaller total. Any two answers are designs of one total.
pub record SameTotal (a b : Answer) : Type 0 where
  pub tighter : Sheet
  pub looser : Sheet
  pub first : a ≡ Ok tighter
  pub second : b ≡ Ok looser
  pub same : tighter.total ≡ looser.total

pub no_smaller_total : (a b : Answer) → Chosen at_49999 readings_a a → Chosen at_50000 readings_a b → SameTotal a b
no_smaller_total a b c d =
    let y : Candidate = candidate 300 75 20 in
    let s = design_chosen at_49999 concentrations_a y a permitted_49999 (among at_49999 a accepted_49999 c) in
    let t = design_chosen at_50000 concentrations_a y b (subst T (sym (same_permitted y)) permitted_49999) (among at_50000 b accepted_50000 d) in
    let forth : Wider at_49999 at_50000 concentrations_a = record { permits = λ z k. subst T (sym (same_permitted z)) k; total = λ z. let e = same_total z in omega arith } in
    let back : Wider at_50000 at_49999 concentrations_a = record { permits = λ z k. subst T (same_permitted z) k; total = λ z. let e = same_total z in omega arith } in
    record {
      tighter = s.0;
      looser = t.0;
      first = s.1;
      second = t.1;
      same = le_antisymm (wider_least at_50000 at_49999 concentrations_a t.0 s.0 back t.2 s.2) (wider_least at_49999 at_50000 concentrations_a s.0 t.0 forth s.2 t.2);
    }

-- ---- a warmer design temperature

-- a plant with Case A's readings, the rest by its load, flows, temperature, sludge volume index, process and tank, on the largest site
abbrev pub plant_with : ℕ → ℕ → ℕ → ℕ → ℕ → Process → TankFlow → Removal → Plant
plant_with load flow wet temperature index process tank removal =
    record {
      load = load;
      flow = flow;
      wet_weather_flow = wet;
      design_temperature = temperature;
      aeration_temperature = 20;
      sludge_volume_index = index;
      nitrate_target = 6_000;
      phosphorus_target = 1_000;
      carbon_peak = 120;
      nitrogen_peak = 200;
      oxygen_saturation = 9_000;
      site_surface = 100_000;
      site_depth = 10_000;
      process = process;
      precipitant = Precipitant.Iron;
      tank = tank;
      removal = removal;
      primary_settling = PrimarySettling.None;
      dose = 0;
      consent = no_terms;
      way = Way.Bod;
    }

-- Case A as a simultaneous plant
abbrev pub at_degrees : ℕ → Plant
at_degrees temperature = plant_with 1_200 5_000 600 temperature 100 Process.Simultaneous TankFlow.Horizontal Removal.Scraper

accepted_14 : accept (at_degrees 14) readings_a ≡ Ok concentrations_a
unfolding steps
accepted_14 = refl

accepted_15 : accept (at_degrees 15) readings_a ≡ Ok concentrations_a
unfolding steps
accepted_15 = refl

permitted_14 : T (permitted (at_degrees 14) concentrations_a (candidate 500 75 20))
unfolding steps
permitted_14 = tt

-- at 15 degrees no fraction is covered: the sludge is younger, and takes up less oxygen
none_at_15 : passing least_fraction 301 (keeps_fraction (at_degrees 15)) ≡ 0
unfolding steps
none_at_15 = refl

-- Refuted: that a warmer plant keeps its design. At 14 degrees there is one, at 15 none.
pub warmer_loses :
    (a b : Answer) → Chosen (at_degrees 14) readings_a a → Chosen (at_degrees 15) readings_a b
    → ((s : Sheet) × (a ≡ Ok s)) × (b ≡ Err Refusal.NoDesign)
warmer_loses a b c d =
    let s = design_chosen (at_degrees 14) concentrations_a (candidate 500 75 20) a permitted_14 (among (at_degrees 14) a accepted_14 c) in
    let none : (y : Candidate) → T (permitted (at_degrees 15) concentrations_a y) → ⊥ =
    λ y t.
    let k = (permitted_keeps (at_degrees 15) concentrations_a y).0 t in
    let at = (grid_ranges TankFlow.Horizontal y).0 k.grid in
    none_passes least_fraction 301 (keeps_fraction (at_degrees 15)) none_at_15 y.fraction at.fraction.least (omega (arith, at.fraction)) k.fraction in
    ((s.0, s.1), none_chosen (at_degrees 15) concentrations_a b none (among (at_degrees 15) b accepted_15 d))

-- ---- a lower sludge volume index

-- a small works with much storm water, in vertical flow with suction
abbrev pub at_index : ℕ → Plant
at_index index = plant_with 18 35 2_978 12 index Process.PreAnoxic TankFlow.Vertical Removal.Suction

accepted_169 : accept (at_index 169) readings_a ≡ Ok concentrations_a
unfolding steps
accepted_169 = refl

accepted_170 : accept (at_index 170) readings_a ≡ Ok concentrations_a
unfolding steps
accepted_170 = refl

permitted_170 : T (permitted (at_index 170) concentrations_a (candidate 500 37 20))
unfolding steps
permitted_170 = tt

permitted_169 : T (permitted (at_index 169) concentrations_a (candidate 500 36 21))
unfolding steps
permitted_169 = tt

total_170 : candidate_total (at_index 170) concentrations_a (candidate 500 37 20) ≡ 5_041
unfolding steps
total_170 = refl

-- at 169 no fraction below 500 is covered, and no settling tank comes to as little with it
below_500_at_169 : passing least_fraction 300 (keeps_fraction (at_index 169)) ≡ 0
unfolding steps
below_500_at_169 = refl

abbrev as_small : ℕ → ℕ → Bool
as_small r h =
    all_kept (tank_rules (at_index 169) (settling_of (at_index 169) r h))
    && leb (candidate_total (at_index 169) concentrations_a (candidate 500 r h)) 5_041

none_as_small : tanks_passing TankFlow.Vertical as_small ≡ 0
unfolding steps
none_as_small = refl

small_169 : (s : Sheet) → Least (at_index 169) concentrations_a (grid (at_index 169)) s → 5_041 < s.total
unfolding candidate candidate_of
small_169 s l =
    let p : Plant = at_index 169 in
    let y : Candidate = candidate_of s in
    let k = (permitted_keeps p concentrations_a y).0 l.allowed in
    let at = (grid_ranges TankFlow.Vertical y).0 l.member in
    let least : 500 ≤ y.fraction =
    elim (dec_le 500 y.fraction) [
      | yes most ↦ most
      | no less ↦ absurd (none_passes least_fraction 300 (keeps_fraction p) below_500_at_169 y.fraction at.fraction.least (omega arith) k.fraction)
    ] in
    let same : s.fraction ≡ 500 = omega (arith, at.fraction) in
    let own : candidate_total p concentrations_a y ≡ candidate_total p concentrations_a (candidate 500 s.return_ratio s.thickening) = rw same in
    let total = own_total p concentrations_a s l.figures in
    elim (dec_le s.total 5_041) [
      | yes small ↦
          absurd (no_tank_passes TankFlow.Vertical as_small none_as_small y k.grid (and_i (all_kept (tank_rules p (settling_of p y.return_ratio y.thickening))) (leb (candidate_total p concentrations_a (candidate 500 y.return_ratio y.thickening)) 5_041) k.tank (le→leb _ _ (omega arith))))
      | no large ↦ omega arith
    ]

-- Refuted: that a sludge that settles better never takes more. With an index of 170 the total is at most 5,041 m³, with 169 it is more.
pub record LargerTotal (a b : Answer) : Type 0 where
  pub at_170 : Sheet
  pub at_169 : Sheet
  pub first : a ≡ Ok at_170
  pub second : b ≡ Ok at_169
  pub larger : at_170.total < at_169.total

pub lower_index : (a b : Answer) → Chosen (at_index 170) readings_a a → Chosen (at_index 169) readings_a b → LargerTotal a b
lower_index a b c d =
    let y : Candidate = candidate 500 37 20 in
    let s = design_chosen (at_index 170) concentrations_a y a permitted_170 (among (at_index 170) a accepted_170 c) in
    let t = design_chosen (at_index 169) concentrations_a (candidate 500 36 21) b permitted_169 (among (at_index 169) b accepted_169 d) in
    let least = (s.2.rivals y ((permitted_keeps (at_index 170) concentrations_a y).0 permitted_170).grid permitted_170).total in
    let own = own_total (at_index 170) concentrations_a s.0 s.2.figures in
    let small = small_169 t.0 t.2 in
    record { at_170 = s.0; at_169 = t.0; first = s.1; second = t.1; larger = omega (arith, total_170) }
