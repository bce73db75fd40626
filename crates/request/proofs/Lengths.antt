-- A request whose data are decoded has the length of one with its call's own words. Assumes nothing.
use Rattle.std.proofs.Common.{◌≡◌, ℕ, List, length, Ok, arith}
use Rattle.std.proofs.lemmas.Bool.Decides.{nat_tests}
use Rattle.request.specs.Layout.{decode}
use Rattle.request.specs.Frames.{request_length, frame_of}
use Rattle.request.specs.declared.Data.{Data}

pub data_length : (bytes : List ℕ) (own : ℕ) (x : Data) → decode bytes own ≡ Ok x → length bytes ≡ request_length own
unfolding decode frame_of
data_length bytes own x e = grind (arith, nat_tests)
