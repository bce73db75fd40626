-- The limits of aeration's figures, by those of its steps in turn. Assumes nothing.
use Prim.Native.Nat.{ℕ, ◌-◌, ◌*◌, ◌≤◌}
use native.Mathlib.Nat.{mul-le-mul}
use native.Mathlib.Omega.{arith}
use mathlib.Core.Bool.{false}
use Rattle.rules.proofs.FigureBounds.{most_nitrogen, most_oxygen}
use Rattle.rules.specs.Ranges.{Between, GridFraction, PlantRanges, ConcentrationRanges}
use Rattle.rules.proofs.FigureBounds.{ReactorBounds}
use Rattle.rules.specs.AgeNitrate.{corrected_age}
use Rattle.rules.specs.CodBalance.{oxygen_by_cod, carbon_oxygen_by_cod}
use Rattle.rules.specs.AerationSteps.{aeration_uptake, carbon_oxygen, carbon_oxygen_in, nitrification_oxygen, denitrified_by_bod, saved_oxygen, hourly_oxygen, oxygen_transfer, paused_transfer, transfer_of, aeration_by, aeration_saving, aeration_of}
use Rattle.rules.specs.declared.Plant.{Plant}
use Rattle.rules.specs.declared.Concentrations.{Concentrations}
use Rattle.rules.specs.declared.Reactor.{Reactor}
use Rattle.rules.specs.declared.Aeration.{Aeration}
use Rattle.rules.specs.declared.Process.{Process}
use Rattle.rules.specs.declared.Way.{Way}
use Rattle.rules.proofs.Quotients.{up_le}
use Rattle.cod.proofs.Limits.{oxygen_most, oxygen_product}
use Rattle.aeration.proofs.Oxygen.{uptake_most, carbon_product, paused_product, paused_divisor}

-- a limit of the oxygen transfer, g/h
abbrev pub most_transfer : ℕ
most_transfer = 1_230_000_000

pub record AerationBounds (a : Aeration) : Type 0 where
  pub oxygen : a.oxygen ≤ most_oxygen
  pub transfer : a.transfer ≤ most_transfer

carbon_most : (way : Way) (flow : ℕ) (x : Concentrations) (u : ℕ) → flow ≤ 200_000 → ConcentrationRanges x → carbon_oxygen_in way flow x u ≤ 880_000_000
unfolding carbon_oxygen_in carbon_oxygen carbon_oxygen_by_cod
carbon_most Way.Bod flow x u hf hx = omega (arith, carbon_product flow x.bod (aeration_uptake u) hf hx.bod.most (uptake_most u))
carbon_most Way.Cod flow x u hf hx =
    let o : oxygen_by_cod false x.cod x.solids u ≤ 4_400_000 = omega (arith, oxygen_most false x.cod x.solids u, hx.cod.most) in
    omega (arith, oxygen_product flow (oxygen_by_cod false x.cod x.solids u) hf o)

nitrification_most : (flow w : ℕ) → flow ≤ 200_000 → w ≤ most_nitrogen → nitrification_oxygen flow w ≤ 430_000_000
unfolding nitrification_oxygen
nitrification_most flow w hf hw = omega (arith, mul-le-mul hf hw)

hourly_most : (net nitrification carbon nitrogen : ℕ) → net ≤ 880_000_000 → nitrification ≤ 430_000_000 → carbon ≤ 300 → nitrogen ≤ 300 → hourly_oxygen net nitrification carbon nitrogen ≤ most_oxygen
unfolding hourly_oxygen
hourly_most net nitrification carbon nitrogen hn hw hc hm = omega (arith, mul-le-mul hc hn, mul-le-mul hm hw)

plain_most : (saturation hourly : ℕ) → Between 6_000 15_000 saturation → hourly ≤ most_oxygen → oxygen_transfer saturation hourly ≤ most_transfer
unfolding oxygen_transfer
plain_most saturation hourly s h =
    let divisor : 4_000 ≤ saturation - 2_000 = omega arith in
    let product : saturation * hourly ≤ 15_000 * most_oxygen = mul-le-mul s.most h in
    let room : most_transfer * 4_000 ≤ most_transfer * (saturation - 2_000) = omega arith in
    (up_le (saturation * hourly) (saturation - 2_000) most_transfer (omega arith)).1 (omega arith)

paused_most : (saturation fraction hourly : ℕ) → Between 6_000 15_000 saturation → GridFraction fraction → hourly ≤ most_oxygen → paused_transfer saturation fraction hourly ≤ most_transfer
unfolding paused_transfer
paused_most saturation fraction hourly s f h =
    let divisor = paused_divisor saturation fraction s f in
    (up_le (1000 * saturation * hourly) ((saturation - 2_000) * (1000 - fraction)) most_transfer (omega (arith, divisor))).1
    (omega (arith, paused_product saturation hourly s.most h, divisor))

transfer_most : (process : Process) (saturation fraction hourly : ℕ) → Between 6_000 15_000 saturation → GridFraction fraction → hourly ≤ most_oxygen → transfer_of process saturation fraction hourly ≤ most_transfer
unfolding transfer_of
transfer_most Process.PreAnoxic saturation fraction hourly s f h = plain_most saturation hourly s h
transfer_most Process.Simultaneous saturation fraction hourly s f h = plain_most saturation hourly s h
transfer_most Process.Intermittent saturation fraction hourly s f h = paused_most saturation fraction hourly s f h
transfer_most (Process.StepFeed steps) saturation fraction hourly s f h = plain_most saturation hourly s h

pub aeration_bounds : (p : Plant) (x : Concentrations) (reactor : Reactor) → PlantRanges p → ConcentrationRanges x → ReactorBounds reactor → AerationBounds (aeration_of p x reactor)
unfolding aeration_of aeration_saving aeration_by
aeration_bounds p x reactor hp hx hr =
    let u = corrected_age reactor.age p.aeration_temperature in
    let carbon = carbon_oxygen_in p.way p.flow x u in
    let saved = saved_oxygen p.flow (denitrified_by_bod reactor.denitrified reactor.removed_by_dose) in
    let nitrification = nitrification_oxygen p.flow reactor.nitrified in
    let most : carbon - saved ≤ 880_000_000 = omega (arith, carbon_most p.way p.flow x u hp.flow.most hx) in
    let oxygen = hourly_most (carbon - saved) nitrification p.carbon_peak p.nitrogen_peak most (nitrification_most p.flow reactor.nitrified hp.flow.most hr.nitrified) hp.carbon_peak.most hp.nitrogen_peak.most in
    record { oxygen = oxygen; transfer = transfer_most p.process p.oxygen_saturation reactor.fraction _ hp.saturation hr.fraction oxygen }
