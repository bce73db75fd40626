-- What accepted data say of their acceptance, and what its refusal does, for whatever goes on from `accept`. Assumes nothing.
use mathlib.Core.Path.{◌≡◌, sym}
use Rattle.std.specs.Prelude.{Result, Ok, Err, IfOk}
use Rattle.rules.specs.Accepting.{accept}
use Rattle.rules.specs.declared.Plant.{Plant}
use Rattle.rules.specs.declared.Readings.{Readings}
use Rattle.rules.specs.declared.Refusal.{Refusal}
use Rattle.rules.specs.declared.accepted.Accepted.{Accepted}
use Rattle.accepting.specs.Acceptance.{acceptance_of}

-- the data are of the plant asked about, with the concentrations of the definition
pub accepted_data :
    (p : Plant) (x : Readings) {a : Accepted} (r : Result Accepted Refusal)
    → acceptance_of r ≡ accept p x
    → IfOk r (λ b. b.plant ≡ p)
    → r ≡ Ok a
    → (a.plant ≡ p) × (accept p x ≡ Ok a.concentrations)
accepted_data p x r value plant e = (rw e at plant, sym (rw e at value))

-- a refusal is the definition's
pub refused_data : (p : Plant) (x : Readings) {n : Refusal} (r : Result Accepted Refusal) → acceptance_of r ≡ accept p x → r ≡ Err n → accept p x ≡ Err n
refused_data p x r value e = sym (rw e at value)
