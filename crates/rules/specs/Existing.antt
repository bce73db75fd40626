-- Document 02, item 10: existing tanks against a moody sludge. The sludge picks an index of a span, then the operator a return ratio
-- of the grid. No search stands here. Assumes nothing.
use Rattle.std.specs.Prelude.{ℕ, ◌≤◌, ◌<◌, ◌≡◌, Bool, ◌&&◌, List, [], ◌∷◌, ◌++◌, T, leb, Result, Ok, Err, Option, Some, None}
use Rattle.rules.specs.Limits.{least_index, most_index, least_fraction, most_fraction, least_time, most_time}
use Rattle.rules.specs.Rules.{Rule, rule, verdict}
use Rattle.rules.specs.PlantData.{within}
use Rattle.rules.specs.Accepting.{values_of, data_rules, accept_by}
use Rattle.rules.specs.Examining.{sheet_of, permitted}
use Rattle.rules.specs.OtherSteps.{with_index}
use Rattle.rules.specs.declared.Plant.{Plant}
use Rattle.rules.specs.declared.Readings.{Readings}
use Rattle.rules.specs.declared.Concentrations.{Concentrations}
use Rattle.rules.specs.declared.Candidate.{Candidate}
use Rattle.rules.specs.declared.Sheet.{Sheet}
use Rattle.rules.specs.declared.Existing.{Existing}
use Rattle.rules.specs.declared.IndexSpan.{IndexSpan}
use Rattle.rules.specs.declared.Refusal.{Refusal}
use Rattle.rules.specs.Results.{Acceptance}

-- the candidate that existing tanks are operated as, with a return ratio
abbrev pub operated : Existing → ℕ → Candidate
operated e ratio = record { fraction = e.fraction; return_ratio = ratio; thickening = e.thickening }

-- a sheet that needs no more reactor volume, surface and depth than are built
unfoldable pub fits_existing : Existing → Sheet → Bool
fits_existing e s = leb s.reactor e.reactor && (leb s.surface e.surface && leb s.depth e.depth)

-- A return ratio wins an index: at the plant with that index the candidate is permitted, and its sheet fits what is built.
unfoldable pub wins : Plant → Concentrations → Existing → ℕ → ℕ → Bool
wins p x e index ratio =
    permitted (with_index index p) x (operated e ratio) && fits_existing e (sheet_of (with_index index p) x (operated e ratio))

-- an index can be won: by some return ratio, which is on the grid since the candidate is permitted
abbrev pub CanBeWon : Plant → Concentrations → Existing → ℕ → Type 0
CanBeWon p x e index = (ratio : ℕ) × T (wins p x e index ratio)

-- an index of a span
abbrev pub InSpan : IndexSpan → ℕ → Type 0
InSpan span index = (span.least ≤ index) × (index ≤ span.most)

-- "held": each index of the span can be won
abbrev pub HoldsAtEach : Plant → Concentrations → Existing → IndexSpan → Type 0
HoldsAtEach p x e span = (index : ℕ) → InSpan span index → CanBeWon p x e index

-- the smallest index of the span that cannot be won
pub record SmallestLost (p : Plant) (x : Concentrations) (e : Existing) (span : IndexSpan) (index : ℕ) : Type 0 where
  pub member : InSpan span index
  pub lost : CanBeWon p x e index → ⊥
  pub smaller : (i : ℕ) → InSpan span i → i < index → CanBeWon p x e i

-- 20: the span is not empty and lies within 50..180
unfoldable pub span_valid : IndexSpan → Bool
span_valid span = leb span.least span.most && (leb least_index span.least && leb span.most most_index)

-- 21: no built size is 0
unfoldable pub sizes_positive : Existing → Bool
sizes_positive e = leb 1 e.reactor && (leb 1 e.surface && leb 1 e.depth)

-- 6: the fraction and the thickening time are on the grid
unfoldable pub operated_on_grid : Existing → Bool
operated_on_grid e = within least_fraction most_fraction e.fraction && within least_time most_time e.thickening

-- the rules in order: 20, 21, those of the data, in which the plant's own index is looked at, and 6
unfoldable pub built_rules : Plant → Readings → Existing → IndexSpan → List Rule
built_rules p r e span =
    rule Refusal.Span (span_valid span)
    ∷ rule Refusal.BuiltSize (sizes_positive e)
    ∷ (data_rules p r ++ (rule Refusal.OffGrid (operated_on_grid e) ∷ []))

unfoldable pub accept_built : Plant → Readings → Existing → IndexSpan → Acceptance
accept_built p r e span = accept_by (verdict (built_rules p r e span)) (values_of p r)

-- what is answered where no rule is broken: held and each index can be won, or the smallest index that cannot
abbrev pub HeldOrLost : Plant → Concentrations → Existing → IndexSpan → Result (Option ℕ) Refusal → Type 0
HeldOrLost p x e span (Ok None) = HoldsAtEach p x e span
HeldOrLost p x e span (Ok (Some index)) = SmallestLost p x e span index
HeldOrLost p x e span (Err n) = ⊥

-- the same once the rules have their answer: a refusal stands
abbrev pub BuiltAccepted : Plant → Existing → IndexSpan → Result (Option ℕ) Refusal → Acceptance → Type 0
BuiltAccepted p e span a (Err n) = a ≡ Err n
BuiltAccepted p e span a (Ok x) = HeldOrLost p x e span a

-- what existing tanks are answered with, for any plant data, readings, tanks and span
abbrev pub BuiltAnswered : Plant → Readings → Existing → IndexSpan → Result (Option ℕ) Refusal → Type 0
BuiltAnswered p r e span a = BuiltAccepted p e span a (accept_built p r e span)
