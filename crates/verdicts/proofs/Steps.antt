-- What the answer of `rule` tells of the rule: it was kept, or it was broken and the refusal is its own. Assumes nothing.
use Rattle.std.proofs.Common.{◌≡◌, Bool, true, false, cond, Ok, Err, refl}
use Rattle.rules.specs.Results.{Verdict}
use Rattle.rules.specs.declared.Refusal.{Refusal}

pub step_kept : (b : Bool) (n : Refusal) → ◌≡◌ {A = Verdict} (Ok tt) (cond b (Ok tt) (Err n)) → b ≡ true
step_kept true n e = refl
step_kept false n e = cc

pub step_broken : (b : Bool) (n : Refusal) {m : Refusal} → ◌≡◌ {A = Verdict} (Err m) (cond b (Ok tt) (Err n)) → (b ≡ false) × (m ≡ n)
step_broken true n e = (cc, cc)
step_broken false n e = (refl, cc)
