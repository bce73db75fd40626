-- The steps that know no pauses in aeration (document 02, item 6), and what the pauses leave as it was: every answer of the other
-- processes, and of the intermittent one all but the transfer. Assumes nothing.
use Rattle.std.specs.Prelude.{◌≡◌, Bool, true, false, Ok, Err}
use Rattle.rules.specs.Accepting.{data_rules}
use Rattle.rules.specs.ReactorSteps.{reactor_of}
use Rattle.rules.specs.SettlingSteps.{settling_of}
use Rattle.rules.specs.AerationSteps.{carbon_oxygen_in, denitrified_by_bod, oxygen_transfer, aeration_by}
use Rattle.rules.specs.Examining.{sheet_from, sheet_of, candidate_rules, examine}
use Rattle.rules.specs.Choosing.{Chosen}
use Rattle.rules.specs.OtherSteps.{Calculation, examine_with, ChosenWith}
use Rattle.rules.specs.declared.Plant.{Plant}
use Rattle.rules.specs.declared.Process.{Process}
use Rattle.rules.specs.declared.Readings.{Readings}
use Rattle.rules.specs.declared.Concentrations.{Concentrations}
use Rattle.rules.specs.declared.Candidate.{Candidate}
use Rattle.rules.specs.declared.Reactor.{Reactor}
use Rattle.rules.specs.declared.Aeration.{Aeration}
use Rattle.rules.specs.declared.Sheet.{Sheet}
use Rattle.rules.specs.Results.{Answer}

-- document 01's transfer for every process
unfoldable pub aeration_without_pauses : Plant → Concentrations → Reactor → Aeration
aeration_without_pauses p x reactor =
    aeration_by (carbon_oxygen_in p.way p.flow x) (oxygen_transfer p.oxygen_saturation)
    (denitrified_by_bod reactor.denitrified reactor.removed_by_dose)
    p
    reactor

unfoldable pub sheet_without_pauses : Plant → Concentrations → Candidate → Sheet
sheet_without_pauses p x y =
    let reactor = reactor_of p x y.fraction in
    sheet_from p y reactor (settling_of p y.return_ratio y.thickening) (aeration_without_pauses p x reactor)

-- the rules are the ones that hold now
unfoldable pub steps_without_pauses : Calculation
steps_without_pauses = record { for_data = data_rules; for_candidate = candidate_rules; sheet = sheet_without_pauses }

-- the blowers of this process stand still for a part of each cycle
unfoldable pub pauses : Process → Bool
pauses Process.PreAnoxic = false
pauses Process.Simultaneous = false
pauses Process.Intermittent = true
pauses (Process.StepFeed steps) = false

-- a sheet with document 01's transfer for its hourly oxygen; the other fourteen figures stay
unfoldable pub unpaused_sheet : Plant → Sheet → Sheet
unpaused_sheet p s =
    record {
      fraction = s.fraction;
      return_ratio = s.return_ratio;
      thickening = s.thickening;
      age = s.age;
      sludge = s.sludge;
      mass = s.mass;
      solids = s.solids;
      reactor = s.reactor;
      surface = s.surface;
      depth = s.depth;
      settling = s.settling;
      total = s.total;
      recirculation = s.recirculation;
      oxygen = s.oxygen;
      transfer = oxygen_transfer p.oxygen_saturation s.oxygen;
    }

-- an answer with that transfer; a refusal stays
unfoldable pub unpaused : Plant → Answer → Answer
unpaused p (Ok s) = Ok (unpaused_sheet p s)
unpaused p (Err n) = Err n

-- For this plant, whatever its process: but for the transfer every sheet, every refusal and the choice are those of the steps
-- without pauses.
pub record SameButTransfer (p : Plant) : Type 0 where
  pub sheet : (x : Concentrations) (y : Candidate) → unpaused_sheet p (sheet_of p x y) ≡ sheet_without_pauses p x y
  pub answer : (r : Readings) (y : Candidate) → unpaused p (examine p r y) ≡ examine_with steps_without_pauses p r y
  pub chosen : (r : Readings) (a : Answer) → Chosen p r a → ChosenWith steps_without_pauses p r (unpaused p a)
  pub choice : (r : Readings) (a b : Answer) → Chosen p r a → ChosenWith steps_without_pauses p r b → unpaused p a ≡ b
