-- The order of all rules that examining goes through, and of those for existing tanks, pinned; and the refusals' numbers are small, so that they fit every
-- number that carries them. Assumes nothing.
use mathlib.Core.Path.{◌≡◌, refl}
use mathlib.Core.List.{List, [], ◌∷◌}
use Prim.Native.Nat.{◌≤◌, ◌<◌}
use native.Mathlib.Omega.{arith}
use lib.Dec.{T, lit≤, lit<}
use Rattle.std.specs.Prelude.{Ok, Err}
use Rattle.rules.specs.PlantData.{within}
use Rattle.rules.specs.Ranges.{Between}
use Rattle.rules.specs.Census.{answer_numbers}
use Rattle.rules.specs.Rules.{Rule}
use Rattle.rules.specs.Accepting.{data_rules}
use Rattle.rules.specs.Examining.{candidate_rules, examination_rules}
use Rattle.rules.specs.Existing.{built_rules}
use Rattle.rules.specs.Answers.{refusal_number, answer_number}
use Rattle.rules.specs.declared.Plant.{Plant}
use Rattle.rules.specs.declared.Readings.{Readings}
use Rattle.rules.specs.declared.Candidate.{Candidate}
use Rattle.rules.specs.declared.Existing.{Existing}
use Rattle.rules.specs.declared.IndexSpan.{IndexSpan}
use Rattle.rules.specs.declared.Refusal.{Refusal}
use Rattle.rules.specs.Results.{Verdict}
use Rattle.rules.proofs.Tests.{within_between}

-- the refusals of a list of rules
abbrev refusals : List Rule → List Refusal
refusals [] = []
refusals (r ∷ later) = r.refusal ∷ refusals later

pub in_order : (p : Plant) (r : Readings) (y : Candidate) → refusals (examination_rules p r y)
    ≡ Refusal.PlantData
    ∷ Refusal.Bulking
    ∷ Refusal.NoNumber ∷ Refusal.ReadingRange
    ∷ Refusal.NoNumber ∷ Refusal.ReadingRange
    ∷ Refusal.NoNumber ∷ Refusal.ReadingRange
    ∷ Refusal.NoNumber ∷ Refusal.ReadingRange
    ∷ Refusal.NoNumber ∷ Refusal.ReadingRange
    ∷ Refusal.CodRatio
    ∷ Refusal.Terms
    ∷ Refusal.OffGrid
    ∷ Refusal.Nitrate
    ∷ Refusal.Nitrification
    ∷ Refusal.TermNitrate
    ∷ Refusal.Solids
    ∷ Refusal.Surface
    ∷ Refusal.Depth
    ∷ []
unfolding examination_rules data_rules candidate_rules
in_order p r y = refl

-- .. and of all that are asked of existing tanks
pub built_in_order : (p : Plant) (r : Readings) (e : Existing) (span : IndexSpan) → refusals (built_rules p r e span)
    ≡ Refusal.Span
    ∷ Refusal.BuiltSize
    ∷ Refusal.PlantData
    ∷ Refusal.Bulking
    ∷ Refusal.NoNumber ∷ Refusal.ReadingRange
    ∷ Refusal.NoNumber ∷ Refusal.ReadingRange
    ∷ Refusal.NoNumber ∷ Refusal.ReadingRange
    ∷ Refusal.NoNumber ∷ Refusal.ReadingRange
    ∷ Refusal.NoNumber ∷ Refusal.ReadingRange
    ∷ Refusal.CodRatio
    ∷ Refusal.Terms
    ∷ Refusal.OffGrid
    ∷ []
unfolding built_rules data_rules
built_in_order p r e span = refl

-- every refusal by its number: not 0, and small enough for a place of its own in a census
small : (n : Refusal) → T (within 1 31 (refusal_number n))
small n =
    elim n as (λ k. T (within 1 31 (refusal_number k))) [
      | Refusal.PlantData ↦ tt
      | Refusal.NoNumber ↦ tt
      | Refusal.ReadingRange ↦ tt
      | Refusal.CodRatio ↦ tt
      | Refusal.NoDesign ↦ tt
      | Refusal.OffGrid ↦ tt
      | Refusal.Nitrate ↦ tt
      | Refusal.Solids ↦ tt
      | Refusal.Surface ↦ tt
      | Refusal.Depth ↦ tt
      | Refusal.ShortPage ↦ tt
      | Refusal.DayLog ↦ tt
      | Refusal.DayValue ↦ tt
      | Refusal.Terms ↦ tt
      | Refusal.Nitrification ↦ tt
      | Refusal.TermNitrate ↦ tt
      | Refusal.Bulking ↦ tt
      | Refusal.Lines ↦ tt
      | Refusal.Advance ↦ tt
      | Refusal.Span ↦ tt
      | Refusal.BuiltSize ↦ tt
      | Refusal.Tariff ↦ tt
    ]

pub refusal_number_between : (n : Refusal) → Between 1 31 (refusal_number n)
refusal_number_between n = (within_between 1 31 (refusal_number n)).0 (small n)

pub refusal_number_most : (n : Refusal) → refusal_number n ≤ 255
refusal_number_most n = omega (arith, refusal_number_between n)

pub verdict_number_most : (v : Verdict) → answer_number v ≤ 255
unfolding answer_number
verdict_number_most (Ok u) = lit≤ tt
verdict_number_most (Err n) = refusal_number_most n

pub verdict_number_below : (v : Verdict) → answer_number v < answer_numbers
unfolding answer_number
verdict_number_below (Ok u) = lit< tt
verdict_number_below (Err n) = omega (arith, refusal_number_between n)
