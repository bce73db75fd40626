-- A run of bytes or of figures, stored up to the end of a list. Assumes nothing.
use Rattle.std.proofs.Common.{◌≡◌, ℕ, ◌+◌, ◌≤◌, List, ◌++◌, length, take, arith}
use Rattle.std.proofs.lemmas.List.Edits.{sets}
use Rattle.std.proofs.Math.ListN.{drop_of_length-le}
use Rattle.std.proofs.Math.Seq.{sets-eq}
use mathlib.Core.List.{append-nil}

pub stored_last : (at : ℕ) (l own : List ℕ) → at + length own ≡ length l → sets l at own ≡ take at l ++ own
stored_last at l own e =
    let room : at + length own ≤ length l = omega arith in
    let end : length l ≤ at + length own = omega arith in
    rw (sets-eq own l at room, drop_of_length-le l end, append-nil)
