-- What writing a listing promises. Assumes nothing.
use Rattle.std.specs.Prelude.{ℕ, ◌^◌, ◌<◌, List, ◌≡◌, Result}
use Rattle.rules.specs.Listing.{listing, writing, page_after}
use Rattle.rules.specs.Results.{Answer}
use Rattle.rules.specs.declared.Refusal.{Refusal}
use Rattle.rules.specs.declared.Sheet.{Sheet}

-- what writing an answer's listing promises of its result and of the page, whole
pub record Writes (answer : Answer) (before after : List ℕ) (r : Result ℕ Refusal) : Type 0 where
  pub result : r ≡ writing (listing answer) before
  pub page : after ≡ page_after (listing answer) before

-- every figure of a sheet has 64 bits, as its type says
pub record SheetFits (s : Sheet) : Type 0 where
  pub fraction : s.fraction < 2 ^ 64
  pub ratio : s.return_ratio < 2 ^ 64
  pub thickening : s.thickening < 2 ^ 64
  pub age : s.age < 2 ^ 64
  pub sludge : s.sludge < 2 ^ 64
  pub mass : s.mass < 2 ^ 64
  pub solids : s.solids < 2 ^ 64
  pub reactor : s.reactor < 2 ^ 64
  pub surface : s.surface < 2 ^ 64
  pub depth : s.depth < 2 ^ 64
  pub settling : s.settling < 2 ^ 64
  pub total : s.total < 2 ^ 64
  pub recirculation : s.recirculation < 2 ^ 64
  pub oxygen : s.oxygen < 2 ^ 64
  pub transfer : s.transfer < 2 ^ 64
