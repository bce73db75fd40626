-- What the call for existing tanks promises of its number and index: 0 and 0 where every index of the span can be won; 0 and the
-- smallest that cannot; or one numbered refusal and 0. Assumes nothing.
use Rattle.std.specs.Prelude.{ℕ, ◌⊎◌, ◌≡◌, [], ◌∷◌, T}
use Rattle.rules.specs.Rules.{all_kept, FirstBroken}
use Rattle.rules.specs.Accepting.{values_of}
use Rattle.rules.specs.Outcomes.{Refuses}
use Rattle.rules.specs.Existing.{HoldsAtEach, SmallestLost, built_rules}
use Rattle.rules.specs.declared.Plant.{Plant}
use Rattle.rules.specs.declared.Readings.{Readings}
use Rattle.rules.specs.declared.Existing.{Existing}
use Rattle.rules.specs.declared.IndexSpan.{IndexSpan}

-- held
pub record ToldHeld (p : Plant) (r : Readings) (e : Existing) (span : IndexSpan) (number index : ℕ) : Type 0 where
  pub kept : T (all_kept (built_rules p r e span))
  pub numbered : number ≡ 0
  pub zero : index ≡ 0
  pub holds : HoldsAtEach p (values_of p r) e span

-- lost
pub record ToldLost (p : Plant) (r : Readings) (e : Existing) (span : IndexSpan) (number index : ℕ) : Type 0 where
  pub kept : T (all_kept (built_rules p r e span))
  pub numbered : number ≡ 0
  pub smallest : SmallestLost p (values_of p r) e span index

abbrev pub BuiltOutcome : Plant → Readings → Existing → IndexSpan → ℕ → ℕ → Type 0
BuiltOutcome p r e span number index =
    ToldHeld p r e span number index
    ⊎ (ToldLost p r e span number index ⊎ Refuses (FirstBroken (built_rules p r e span)) number (index ∷ []))
