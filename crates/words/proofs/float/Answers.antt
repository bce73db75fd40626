-- `float` meets its contract: the library's call is given these bits. Assumes nothing.
use Rattle.std.proofs.Common.{◌∙◌, ap, arith}
use lib.Ieee.{binary32, of_bits}
use Rattle.words.proofs.float.Goals as goal

pub returns : goal.returns
returns c = c.f32_from_bits_with_nan.ensures ∙ ap (of_bits binary32) (omega arith)
