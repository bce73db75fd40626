-- Document 02, a sweep that can be put down: what a start and an advance answer, from any sweep that is handed on, and what is
-- promised over every list of calls after a start. Assumes nothing.
use Rattle.std.specs.Prelude.{ℕ, ◌+◌, ◌≤◌, ◌<◌, min, ◌⊎◌, ◌≡◌, Bool, true, false, ◌&&◌, cond, List, [], ◌∷◌, T, leb, ltb, Result, Ok, Err, Option, None}
use Rattle.rules.specs.Limits.{most_advance}
use Rattle.rules.specs.Rules.{all_kept}
use Rattle.rules.specs.Accepting.{values_of, data_rules, accept}
use Rattle.rules.specs.Examining.{examine, permitted}
use Rattle.rules.specs.Answers.{unfinished_number, sheet_figures}
use Rattle.rules.specs.Outcomes.{AllZero, Refuses}
use Rattle.rules.specs.Choosing.{Candidates, Chosen, Least}
use Rattle.rules.specs.TwoColumns.{TwoColumns}
use Rattle.rules.specs.Census.{grid_size}
use Rattle.rules.specs.Sweep.{Stretch, First, HandedOn, Together, BestAmong, best_kept, best_answer}
use Rattle.rules.specs.declared.Plant.{Plant}
use Rattle.rules.specs.declared.TankFlow.{TankFlow}
use Rattle.rules.specs.declared.Readings.{Readings}
use Rattle.rules.specs.declared.Concentrations.{Concentrations}
use Rattle.rules.specs.declared.Candidate.{Candidate}
use Rattle.rules.specs.declared.Sheet.{Sheet}
use Rattle.rules.specs.declared.Refusal.{Refusal}
use Rattle.rules.specs.Results.{Acceptance}
use Rattle.rules.specs.Results.{Answer}
use Rattle.rules.specs.declared.Progress.{Progress}
use Rattle.sweeping.specs.declared.Sweep.{Sweep}

-- A start, once the data have their answer: their refusal, or a sweep that has asked for nothing.
unfoldable pub start_by : Plant → Readings → Acceptance → Result Sweep Refusal
start_by p r (Err n) = Err n
start_by p r (Ok x) = Ok (record { plant = p; readings = r; asked = 0; best = None })

unfoldable pub started : Plant → Readings → Result Sweep Refusal
started p r = start_by p r (accept p r)

-- what is asked of an advance by n besides its data: at most 1,000 candidates, a number of the grid's ..
abbrev pub numbers_kept : TankFlow → ℕ → ℕ → Bool
numbers_kept flow asked n = leb n most_advance && leb asked (grid_size flow)

-- .. and a best that is permitted
abbrev pub goes_on_with : Concentrations → Sweep → ℕ → Bool
goes_on_with x s n = numbers_kept s.plant.tank s.asked n && best_kept s.plant x s.best

-- 19 is not due: this, and its plant data and readings are accepted
unfoldable pub goes_on : Sweep → ℕ → Bool
goes_on s n = all_kept (data_rules s.plant s.readings) && goes_on_with (values_of s.plant s.readings) s n

-- the candidates that an advance by n goes by: the best that is handed on, and its own
abbrev pub OwnCandidates : Sweep → ℕ → Candidates
OwnCandidates s n = Together (HandedOn s.best) (Stretch s.plant s.asked (s.asked + n))

-- what an advance says: unfinished, with the best, or what the best answers
unfoldable pub progress_of : Bool → Plant → Concentrations → Option Candidate → Progress
progress_of true p x b = Progress.Unfinished b
progress_of false p x b = Progress.Finished (best_answer p x b)

-- An advance that is not refused, from any sweep s to a sweep t with the answer g: the number grows by n, up to the grid's; the best is
-- that of the candidates that it goes by; it says "unfinished" exactly while the number is below the grid's.
pub record Moves (x : Concentrations) (s : Sweep) (n : ℕ) (t : Sweep) (g : Result Progress Refusal) : Type 0 where
  pub plant : t.plant ≡ s.plant
  pub readings : t.readings ≡ s.readings
  pub asked : t.asked ≡ min (s.asked + n) (grid_size s.plant.tank)
  pub best : BestAmong s.plant x (OwnCandidates s n) t.best
  pub progress : g ≡ Ok (progress_of (ltb (s.asked + n) (grid_size s.plant.tank)) s.plant x t.best)

-- an advance refused: 19, and nothing is moved
pub record Stays (s t : Sweep) (g : Result Progress Refusal) : Type 0 where
  pub sweep : t ≡ s
  pub refused : g ≡ Err Refusal.Advance

abbrev pub AdvanceBy : Bool → Concentrations → Sweep → ℕ → Sweep → Result Progress Refusal → Type 0
AdvanceBy true x s n t g = Moves x s n t g
AdvanceBy false x s n t g = Stays s t g

abbrev pub AdvancedFrom : Sweep → ℕ → Sweep → Result Progress Refusal → Type 0
AdvancedFrom s n t g = AdvanceBy (goes_on s n) (values_of s.plant s.readings) s n t g

-- the two columns of the sheet that a finished sweep answers with
abbrev pub ProgressColumns : Plant → Readings → Result Progress Refusal → Type 0
ProgressColumns p r (Ok (Progress.Finished a)) = TwoColumns p r a
ProgressColumns p r (Ok (Progress.Unfinished b)) = Unit {0}
ProgressColumns p r (Err n) = Unit {0}

-- What the number and the sheet of an advance's answer are: the least design of the candidates that it goes by ..
pub record Ends (s : Sweep) (n number : ℕ) (sheet : Sheet) : Type 0 where
  pub numbered : number ≡ 0
  pub goes_on : T (goes_on s n)
  pub whole : grid_size s.plant.tank ≤ s.asked + n
  pub least : Least s.plant (values_of s.plant s.readings) (OwnCandidates s n) sheet

-- .. or 100 and zeros while candidates are left ..
pub record GoesOn (s : Sweep) (n number : ℕ) (sheet : Sheet) : Type 0 where
  pub numbered : number ≡ unfinished_number
  pub goes_on : T (goes_on s n)
  pub left : s.asked + n < grid_size s.plant.tank
  pub zeros : AllZero (sheet_figures sheet)

-- .. or 19, or 5 where none is left and none is permitted
pub record NonePermitted (s : Sweep) (n : ℕ) : Type 0 where
  pub goes_on : T (goes_on s n)
  pub whole : grid_size s.plant.tank ≤ s.asked + n
  pub none : (y : Candidate) → OwnCandidates s n y → T (permitted s.plant (values_of s.plant s.readings) y) → ⊥

abbrev pub AdvanceDue : Sweep → ℕ → Refusal → Type 0
AdvanceDue s n due = ((due ≡ Refusal.Advance) × (goes_on s n ≡ false)) ⊎ ((due ≡ Refusal.NoDesign) × NonePermitted s n)

abbrev pub AdvanceOutcome : Sweep → ℕ → ℕ → Sheet → Type 0
AdvanceOutcome s n number sheet = Ends s n number sheet ⊎ (GoesOn s n number sheet ⊎ Refuses (AdvanceDue s n) number (sheet_figures sheet))

-- ---- lists of calls

-- a call on a sweep, and what it is answered with
pub data SweepCall : Type 0 where
  advance : ℕ → SweepCall
  look : Candidate → SweepCall

pub data SweepResponse : Type 0 where
  moved : Result Progress Refusal → SweepResponse
  looked : Answer → SweepResponse

-- one call takes a sweep to another: an advance keeps its contract; an examination gets its usual answer and moves nothing
abbrev pub Takes : Sweep → SweepCall → SweepResponse → Sweep → Type 0
Takes s (SweepCall.advance n) (SweepResponse.moved g) t = AdvancedFrom s n t g
Takes s (SweepCall.look y) (SweepResponse.looked a) t = (a ≡ examine s.plant s.readings y) × (t ≡ s)
Takes s (SweepCall.advance n) (SweepResponse.looked a) t = ⊥
Takes s (SweepCall.look y) (SweepResponse.moved g) t = ⊥

-- a list of calls made one after the other, from a sweep, with what each is answered
abbrev pub Made : Sweep → List SweepCall → List SweepResponse → Type 0
Made s [] [] = Unit {0}
Made s (c ∷ calls) (r ∷ responses) = (t : Sweep) × Takes s c r t × Made t calls responses
Made s [] (r ∷ responses) = ⊥
Made s (c ∷ calls) [] = ⊥

-- an advance refused asks for none
unfoldable pub asked_after : ℕ → ℕ → ℕ
asked_after asked n = cond (leb n most_advance) (asked + n) asked

-- What an advance answers once so many candidates have been asked for, itself included: unfinished, with the best of them, exactly
-- while they are fewer than the grid holds; from then on what choosing answers.
pub record AdvanceAnswers (p : Plant) (r : Readings) (asked : ℕ) (g : Result Progress Refusal) : Type 0 where
  pub unfinished : asked < grid_size p.tank → (b : Option Candidate) × (g ≡ Ok (Progress.Unfinished b)) × BestAmong p (values_of p r) (First p asked) b
  pub finished : grid_size p.tank ≤ asked → (a : Answer) × (g ≡ Ok (Progress.Finished a)) × Chosen p r a

-- an advance above 1,000 is refused, and only such a one is
abbrev pub AdvanceAnswersBy : Bool → Plant → Readings → ℕ → Result Progress Refusal → Type 0
AdvanceAnswersBy true p r asked g = AdvanceAnswers p r asked g
AdvanceAnswersBy false p r asked g = g ≡ Err Refusal.Advance

-- The promise over a list of calls, with the number of candidates asked for before it.
abbrev pub Promised : Plant → Readings → ℕ → List SweepCall → List SweepResponse → Type 0
Promised p r asked [] [] = Unit {0}
Promised p r asked (SweepCall.advance n ∷ calls) (SweepResponse.moved g ∷ responses) =
    AdvanceAnswersBy (leb n most_advance) p r (asked + n) g × Promised p r (asked_after asked n) calls responses
Promised p r asked (SweepCall.look y ∷ calls) (SweepResponse.looked a ∷ responses) = (a ≡ examine p r y) × Promised p r asked calls responses
Promised p r asked (SweepCall.advance n ∷ calls) (SweepResponse.looked a ∷ responses) = ⊥
Promised p r asked (SweepCall.look y ∷ calls) (SweepResponse.moved g ∷ responses) = ⊥
Promised p r asked [] (r' ∷ responses) = ⊥
Promised p r asked (c ∷ calls) [] = ⊥
