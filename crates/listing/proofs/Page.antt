-- Laws of writing over a page: piece after piece from the front, and byte after byte from the back. Assumes nothing.
use mathlib.Core.Path.{◌≡◌, refl, sym, ◌∙◌}
use mathlib.Core.List.{List, [], ◌∷◌, ◌++◌}
use Prim.Native.Nat.{ℕ, suc, ◌+◌, ◌≤◌}
use native.Mathlib.Nat.{add-zero}
use native.Mathlib.Omega.{arith}
use lib.ListN.{length, set}
use lib.Seq.{sets, set_comm}

-- two pieces, the second right after the first
pub sets-append : (x y p : List ℕ) (at : ℕ) → sets p at (x ++ y) ≡ sets (sets p at x) (at + length x) y
sets-append [] y p at = rw add-zero
sets-append (b ∷ x) y p at =
    let e : suc at + length x ≡ at + suc (length x) = omega arith in
    rw (sets-append x y (set p at b) (suc at), e)

-- a byte past a piece, before the piece or after it
sets-set : (x p : List ℕ) (at place b : ℕ) → at + length x ≤ place → sets (set p place b) at x ≡ set (sets p at x) place b
sets-set [] p at place b h = refl
sets-set (a ∷ x) p at place b h =
    rw (set_comm p place at b a (λ e. omega arith)) (sets-set x (set p at a) (suc at) place b (omega arith))

-- the last byte of a piece first
pub sets_last :
    (x p : List ℕ) (at place b : ℕ) → place ≡ at + length x → sets (set p place b) at x ≡ sets p at (x ++ (b ∷ []))
sets_last x p at place b e = rw e (sets-set x p at (at + length x) b (omega arith) ∙ sym (sets-append x (b ∷ []) p at))
