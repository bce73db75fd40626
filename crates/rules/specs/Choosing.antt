-- Demand 3: what it means that an answer is the one chosen. It speaks of the steps and of `permitted`, never of a
-- search, and is stated over any set of candidates; choosing takes the whole grid. Assumes nothing.
use Rattle.std.specs.Prelude.{ℕ, ◌≤◌, ◌≡◌, T, Ok, Err}
use Rattle.rules.specs.Accepting.{accept}
use Rattle.rules.specs.AgeNitrate.{on_grid}
use Rattle.rules.specs.ReactorSteps.{reactor_of}
use Rattle.rules.specs.SettlingSteps.{settling_of}
use Rattle.rules.specs.Examining.{total_of, sheet_of, permitted}
use Rattle.rules.specs.declared.Plant.{Plant}
use Rattle.rules.specs.declared.Readings.{Readings}
use Rattle.rules.specs.declared.Concentrations.{Concentrations}
use Rattle.rules.specs.declared.Candidate.{Candidate}
use Rattle.rules.specs.declared.Sheet.{Sheet}
use Rattle.rules.specs.declared.Refusal.{Refusal}
use Rattle.rules.specs.Results.{Acceptance}
use Rattle.rules.specs.Results.{Answer}

-- a set of candidates
abbrev pub Candidates : Type 1
Candidates = Candidate → Type 0

-- the whole grid of a plant
abbrev pub grid : Plant → Candidates
grid p y = T (on_grid p.tank y)

-- the candidate that a sheet names
unfoldable pub candidate_of : Sheet → Candidate
candidate_of s = record { fraction = s.fraction; return_ratio = s.return_ratio; thickening = s.thickening }

-- a candidate's total, m3
unfoldable pub candidate_total : Plant → Concentrations → Candidate → ℕ
candidate_total p x y = total_of p (reactor_of p x y.fraction) (settling_of p y.return_ratio y.thickening)

-- A rival y does not come before a design d, with these totals of candidates: it has at least its total; with the same total no
-- smaller fraction; with the same fraction too no smaller return ratio; with that the same too no shorter thickening time.
pub record NotBeforeBy (volume : Candidate → ℕ) (d y : Candidate) : Type 0 where
  pub total : volume d ≤ volume y
  pub fraction : volume d ≡ volume y → d.fraction ≤ y.fraction
  pub ratio : volume d ≡ volume y → d.fraction ≡ y.fraction → d.return_ratio ≤ y.return_ratio
  pub time : volume d ≡ volume y → d.fraction ≡ y.fraction → d.return_ratio ≡ y.return_ratio → d.thickening ≤ y.thickening

-- the same with the totals of a plant's candidates
abbrev pub NotBefore : Plant → Concentrations → Candidate → Candidate → Type 0
NotBefore p x d y = NotBeforeBy (candidate_total p x) d y

-- A sheet is the least design among a set of candidates: its candidate is in the set and permitted, its figures are
-- those that the steps define, and no permitted candidate of the set comes before it. Plant and concentrations are the
-- same for the design and every rival.
pub record Least (p : Plant) (x : Concentrations) (among : Candidates) (s : Sheet) : Type 0 where
  pub member : among (candidate_of s)
  pub allowed : T (permitted p x (candidate_of s))
  pub figures : s ≡ sheet_of p x (candidate_of s)
  pub rivals : (y : Candidate) → among y → T (permitted p x y) → NotBefore p x (candidate_of s) y

-- An answer is the one chosen among a set of candidates of accepted data: the least design, or 5 and nothing in the set
-- is permitted.
abbrev pub ChosenAmong : Plant → Concentrations → Candidates → Answer → Type 0
ChosenAmong p x among (Ok s) = Least p x among s
ChosenAmong p x among (Err n) = (n ≡ Refusal.NoDesign) × ((y : Candidate) → among y → T (permitted p x y) → ⊥)

-- the same once plant data and readings have their answer: a refusal of them stands
abbrev pub ChosenAccepted : Plant → Answer → Acceptance → Type 0
ChosenAccepted p a (Err n) = a ≡ Err n
ChosenAccepted p a (Ok x) = ChosenAmong p x (grid p) a

-- demand 3, whole: the answer is the one chosen for the plant data and readings
abbrev pub Chosen : Plant → Readings → Answer → Type 0
Chosen p r a = ChosenAccepted p a (accept p r)
