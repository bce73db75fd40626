-- Document 01, "Aeration and recirculation", with the pauses of document 02, item 6, and the oxygen from COD of item 12. Assumes
-- nothing.
use Rattle.std.specs.Prelude.{ℕ, ◌+◌, ◌-◌, ◌*◌, max}
use Rattle.rules.specs.Rounding.{down, up}
use Rattle.rules.specs.AgeNitrate.{corrected_age}
use Rattle.rules.specs.CodBalance.{carbon_oxygen_by_cod}
use Rattle.rules.specs.declared.Plant.{Plant}
use Rattle.rules.specs.declared.Concentrations.{Concentrations}
use Rattle.rules.specs.declared.Process.{Process}
use Rattle.rules.specs.declared.Way.{Way}
use Rattle.rules.specs.declared.Reactor.{Reactor}
use Rattle.rules.specs.declared.Aeration.{Aeration}

-- specific oxygen uptake for aeration, g/kg, from U(Ta) (5-24, up)
unfoldable pub aeration_uptake : ℕ → ℕ
aeration_uptake corrected = 560 + up (15000 * corrected) (100000 + 17 * corrected)

-- oxygen for carbon, g/d, from Q, C and the specific uptake (5-24)
unfoldable pub carbon_oxygen : ℕ → ℕ → ℕ → ℕ
carbon_oxygen flow bod uptake = up (flow * bod * uptake) 1_000_000

-- the same in a way, from Q and U(Ta)
unfoldable pub carbon_oxygen_in : Way → ℕ → Concentrations → ℕ → ℕ
carbon_oxygen_in Way.Bod flow x corrected = carbon_oxygen flow x.bod (aeration_uptake corrected)
carbon_oxygen_in Way.Cod flow x corrected = carbon_oxygen_by_cod flow x.cod x.solids corrected

-- oxygen for nitrification, g/d, from Q and W (5-25)
unfoldable pub nitrification_oxygen : ℕ → ℕ → ℕ
nitrification_oxygen flow w = up (43 * flow * w) 10_000

-- the nitrate that is left to the tank's BOD, mg/m3, from D and what the dose removes (document 02, item 2)
unfoldable pub denitrified_by_bod : ℕ → ℕ → ℕ
denitrified_by_bod d by_dose = d - by_dose

-- oxygen saved by denitrification, g/d, from Q and the nitrate that the tank's BOD denitrifies (5-26)
unfoldable pub saved_oxygen : ℕ → ℕ → ℕ
saved_oxygen flow d = down (29 * flow * d) 10_000

-- hourly oxygen, g/h, the larger of the carbon and the nitrogen peak (5-27), from carbon less saved, nitrification, fC
-- and fN. By BOD, where the nitrate is covered, saved is at most carbon (`saved_at_most_carbon` in crates/aeration/proofs).
unfoldable pub hourly_oxygen : ℕ → ℕ → ℕ → ℕ → ℕ
hourly_oxygen net nitrification carbon_peak nitrogen_peak =
    max (up (carbon_peak * net + 100 * nitrification) 2400) (up (100 * net + nitrogen_peak * nitrification) 2400)

-- oxygen transfer, g/h, from Cs and the hourly oxygen (5-28)
unfoldable pub oxygen_transfer : ℕ → ℕ → ℕ
oxygen_transfer saturation hourly = up (saturation * hourly) (saturation - 2_000)

-- the same where the blowers stand still for a part f of each cycle, from Cs, f and the hourly oxygen (5-29; document 02, item 6)
unfoldable pub paused_transfer : ℕ → ℕ → ℕ → ℕ
paused_transfer saturation fraction hourly = up (1000 * saturation * hourly) ((saturation - 2_000) * (1000 - fraction))

-- the oxygen transfer of a process: only the intermittent one pauses
unfoldable pub transfer_of : Process → ℕ → ℕ → ℕ → ℕ
transfer_of Process.PreAnoxic saturation fraction hourly = oxygen_transfer saturation hourly
transfer_of Process.Simultaneous saturation fraction hourly = oxygen_transfer saturation hourly
transfer_of Process.Intermittent saturation fraction hourly = paused_transfer saturation fraction hourly
transfer_of (Process.StepFeed steps) saturation fraction hourly = oxygen_transfer saturation hourly

-- recirculation, thousandths, pre-anoxic only, from W and N3 (5-19)
unfoldable pub recirculation : Process → ℕ → ℕ → ℕ
recirculation Process.PreAnoxic w target = up (1000 * w) target - 1000
recirculation Process.Simultaneous w target = 0
recirculation Process.Intermittent w target = 0
recirculation (Process.StepFeed steps) w target = 0

-- aeration and recirculation of a reactor, from carbon's oxygen at U(Ta), the transfer that an hourly oxygen takes and the nitrate
-- that it saves oxygen on
unfoldable pub aeration_by : (ℕ → ℕ) → (ℕ → ℕ) → ℕ → Plant → Reactor → Aeration
aeration_by carbon transfer d p reactor =
    let u = corrected_age reactor.age p.aeration_temperature in
    let net = carbon u - saved_oxygen p.flow d in
    let nitrification = nitrification_oxygen p.flow reactor.nitrified in
    let hourly = hourly_oxygen net nitrification p.carbon_peak p.nitrogen_peak in
    record {
      recirculation = recirculation p.process reactor.nitrified p.nitrate_target;
      oxygen = hourly;
      transfer = transfer hourly;
    }

-- the same in its plant's way, with its process's transfer, at its own fraction
unfoldable pub aeration_saving : ℕ → Plant → Concentrations → Reactor → Aeration
aeration_saving d p x reactor =
    aeration_by (carbon_oxygen_in p.way p.flow x) (transfer_of p.process p.oxygen_saturation reactor.fraction) d p reactor

-- the same of a reactor with its plant's dose
unfoldable pub aeration_of : Plant → Concentrations → Reactor → Aeration
aeration_of p x reactor = aeration_saving (denitrified_by_bod reactor.denitrified reactor.removed_by_dose) p x reactor
