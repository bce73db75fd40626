-- `readings` meets its contract: each literal is the f32 nearest to Case A's number, by computation. Assumes nothing.
use Rattle.std.proofs.Common.{refl}
use lib.Ieee.{of_bits, round}
use Rattle.rules.specs.Cases.{readings_a, readings_with, f32}
use Rattle.sheet.proofs.readings.Goals as goal

pub returns : goal.returns
unfolding of_bits round readings_a readings_with f32
returns c = refl
