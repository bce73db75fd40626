-- What the calls promise of the number, the sheet, the figures and the count that they give: a complete sheet, or one
-- numbered refusal with zeros. It names the rules and the steps, not the order in which an answer is computed.
-- Assumes nothing.
use Rattle.std.specs.Prelude.{ℕ, suc, ◌≤◌, ◌<◌, ◌⊎◌, ◌≡◌, List, [], ◌∷◌, T, length, Result, Ok, Err}
use Rattle.rules.specs.Rules.{all_kept, FirstBroken}
use Rattle.rules.specs.Accepting.{values_of, data_rules}
use Rattle.rules.specs.Examining.{sheet_of, permitted, examination_rules}
use Rattle.rules.specs.Answers.{refusal_number, sheet_figures}
use Rattle.rules.specs.Explanations.{explained_figures}
use Rattle.rules.specs.Choosing.{grid, Least}
use Rattle.rules.specs.Explaining.{candidate_explained, explanation_rules}
use Rattle.rules.specs.Listing.{listing, listing_length}
use Rattle.rules.specs.declared.Plant.{Plant}
use Rattle.rules.specs.declared.Readings.{Readings}
use Rattle.rules.specs.declared.Candidate.{Candidate}
use Rattle.rules.specs.declared.Sheet.{Sheet}
use Rattle.rules.specs.declared.Refusal.{Refusal}
use Rattle.rules.specs.declared.Explained.{Explained}
use Rattle.rules.specs.Results.{Answer}

-- every figure of a list is 0
abbrev pub AllZero : List ℕ → Type 0
AllZero [] = Unit {0}
AllZero (n ∷ rest) = (n ≡ 0) × AllZero rest

-- a refusal that is due: its number, and zeros
pub record Refuses (due : Refusal → Type 0) (number : ℕ) (figures : List ℕ) : Type 0 where
  pub refusal : Refusal
  pub is_due : due refusal
  pub numbered : number ≡ refusal_number refusal
  pub zeros : AllZero figures

-- Demands 1 and 2, examining: the complete sheet of a candidate that breaks no rule of the data and of candidates ..
pub record Complete (p : Plant) (r : Readings) (y : Candidate) (number : ℕ) (sheet : Sheet) : Type 0 where
  pub numbered : number ≡ 0
  pub kept : T (all_kept (examination_rules p r y))
  pub figures : sheet ≡ sheet_of p (values_of p r) y

-- .. or the refusal of the first rule that it breaks
abbrev pub Examined : Plant → Readings → Candidate → ℕ → Sheet → Type 0
Examined p r y number sheet =
    Complete p r y number sheet ⊎ Refuses (FirstBroken (examination_rules p r y)) number (sheet_figures sheet)

-- Demand 3, choosing: the least design of accepted data ..
pub record Designs (p : Plant) (r : Readings) (number : ℕ) (sheet : Sheet) : Type 0 where
  pub numbered : number ≡ 0
  pub kept : T (all_kept (data_rules p r))
  pub least : Least p (values_of p r) (grid p) sheet

-- no candidate of the grid is permitted for the data, which are accepted
pub record NothingPermitted (p : Plant) (r : Readings) : Type 0 where
  pub kept : T (all_kept (data_rules p r))
  pub none : (y : Candidate) → grid p y → T (permitted p (values_of p r) y) → ⊥

-- .. or the first refusal of the data, or 5 where nothing is permitted
abbrev pub ChoosingDue : Plant → Readings → Refusal → Type 0
ChoosingDue p r n = FirstBroken (data_rules p r) n ⊎ ((n ≡ Refusal.NoDesign) × NothingPermitted p r)

abbrev pub ChosenOutcome : Plant → Readings → ℕ → Sheet → Type 0
ChosenOutcome p r number sheet = Designs p r number sheet ⊎ Refuses (ChoosingDue p r) number (sheet_figures sheet)

-- explaining: the figures of a candidate on the grid of accepted data, or the first refusal of the data's rules and 6
pub record Explains (p : Plant) (r : Readings) (y : Candidate) (number : ℕ) (figures : Explained) : Type 0 where
  pub numbered : number ≡ 0
  pub kept : T (all_kept (explanation_rules p r y))
  pub values : figures ≡ candidate_explained p (values_of p r) y

abbrev pub ExplainedOutcome : Plant → Readings → Candidate → ℕ → Explained → Type 0
ExplainedOutcome p r y number figures =
    Explains p r y number figures ⊎ Refuses (FirstBroken (explanation_rules p r y)) number (explained_figures figures)

-- writing: 0 and the listing's length where it fits the page, else 11 and 0
pub record WritingOutcome (answer : Answer) (page : List ℕ) (number count : ℕ) : Type 0 where
  pub fits : listing_length answer ≤ length page → (number ≡ 0) × (count ≡ listing_length answer)
  pub short : length page < listing_length answer → (number ≡ 11) × (count ≡ 0)

-- Item 13, writing by the listing's length: a page of just that length is never refused, and is the listing to its last byte; a
-- page one byte shorter always gets 11, and stays as it was
pub record ByLength (answer : Answer) (before after : List ℕ) (r : Result ℕ Refusal) : Type 0 where
  pub exact : length before ≡ listing_length answer → (r ≡ Ok (listing_length answer)) × (after ≡ listing answer)
  pub one_byte_short : suc (length before) ≡ listing_length answer → (r ≡ Err Refusal.ShortPage) × (after ≡ before)
