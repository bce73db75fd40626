-- What the inner functions of an advance promise: a place of the order as a fraction and a place of the table of tanks, and the least
-- key of a stretch of the order and of the best that is handed on. Nothing of it is in an exported contract. Assumes nothing.
use Rattle.std.specs.Prelude.{ℕ, ◌+◌, ◌/◌, ◌%◌, ◌≤◌, ◌<◌, ◌≡◌, false, T, Result, Ok, Err, Option, None}
use Rattle.rules.specs.Limits.{least_fraction}
use Rattle.rules.specs.Sweep.{per_fraction, Stretch, HandedOn, best_kept}
use Rattle.rules.specs.declared.accepted.Accepted.{Accepted}
use Rattle.rules.specs.declared.TankFlow.{TankFlow}
use Rattle.rules.specs.declared.Candidate.{Candidate}
use Rattle.rules.specs.declared.Refusal.{Refusal}
use Rattle.choosing.specs.declared.keys.Key.{Key}
use Rattle.choosing.specs.Keys.{LeastKey}
use Rattle.choosing.specs.Runs.{kept_mass}
use Rattle.sweeping.specs.declared.Spot.{Spot}

abbrev pub spot_of : TankFlow → ℕ → Spot
spot_of flow i = record { fraction = least_fraction + i / per_fraction flow; tank = i % per_fraction flow }

-- no fraction from one on, before another, keeps its rules
abbrev pub NoneCovered : Accepted → ℕ → ℕ → Type 0
NoneCovered d first past = (f : ℕ) → first ≤ f → f < past → kept_mass d.plant d.concentrations f ≡ None

-- the least key of a stretch of the order
abbrev pub LeastOfStretch : Accepted → ℕ → ℕ → Option Key → Type 0
LeastOfStretch d from to key = LeastKey d.plant d.concentrations (Stretch d.plant from to) key

-- the least key of the best that is handed on
abbrev pub LeastOfHandedOn : Accepted → Option Candidate → Option Key → Type 0
LeastOfHandedOn d b key = LeastKey d.plant d.concentrations (HandedOn b) key

-- the key of a best that is handed on, which is permitted or none yet; or it is not permitted
abbrev pub HandedKey : Accepted → Option Candidate → Result (Option Key) Refusal → Type 0
HandedKey d b (Ok k) = T (best_kept d.plant d.concentrations b) × LeastOfHandedOn d b k
HandedKey d b (Err n) = best_kept d.plant d.concentrations b ≡ false
