-- Rules in order: each with the refusal that it is broken with and whether it is kept. The refusal due is that of the first
-- rule broken. Assumes nothing.
use Rattle.std.specs.Prelude.{◌⊎◌, ◌≡◌, Bool, true, cond, not, ◌&&◌, List, [], ◌∷◌, T, Ok, Err}
use Rattle.rules.specs.declared.Refusal.{Refusal}
use Rattle.rules.specs.Results.{Verdict}

pub record Rule : Type 0 where
  pub refusal : Refusal
  pub kept : Bool

abbrev pub rule : Refusal → Bool → Rule
rule refusal kept = record { refusal = refusal; kept = kept }

-- every rule is kept
abbrev pub all_kept : List Rule → Bool
all_kept [] = true
all_kept (r ∷ later) = r.kept && all_kept later

-- the refusal of the first rule that is broken, or that none is
abbrev pub verdict : List Rule → Verdict
verdict [] = (Ok tt)
verdict (r ∷ later) = cond r.kept (verdict later) (Err r.refusal)

-- the verdict on a list, and on a second list that is looked at only where the first is kept
abbrev pub after : Verdict → Verdict → Verdict
after (Ok u) v = v
after (Err n) v = Err n

-- n is the refusal of the first rule that is broken: each rule before it is kept
abbrev pub FirstBroken : List Rule → Refusal → Type 0
FirstBroken [] n = ⊥
FirstBroken (r ∷ later) n = (T (not r.kept) × (r.refusal ≡ n)) ⊎ (T r.kept × FirstBroken later n)
