-- An array that a closure fills place by place. Assumes nothing.
use denote.Param.Members.{Mut, Called}
use Rattle.std.proofs.Common.{◌≡◌, sym, subst, ℕ, zero, suc, ◌+◌, ◌<◌, List, arith}
use Rattle.std.specs.Array.{IsFromFnResult, IsFromFnResultFrom}
use Rattle.std.proofs.Math.ListN.{get_or}
use Rattle.rules.specs.Sums.{values_from}
use Rattle.rules.proofs.SumLaws.{list_of_values}

-- If each call of the closure f at an index gives what P holds of, and leaves f as it was, then P holds of each element.
module _ {F B : Type 0} (g : Mut F (ℕ × Unit {0}) B) (P : ℕ → B → Type 0) (f : F)
    (call : (i : ℕ) (y : B) (q : F) → Called g f (i, tt) y q → P i y × (q ≡ f)) where
  elements : (n i : ℕ) (ys : List B) → IsFromFnResultFrom g f ys i n → (k j : ℕ) (d : B) → k < n → i + k ≡ j → P j (get_or ys j d)
  elements zero i ys a k j d b e = absurd (omega arith)
  elements (suc n) i ys (q, y, at, called, later) zero j d b e =
      let here : i ≡ j = omega arith in subst (λ m. P m (get_or ys m d)) here (subst (P i) (sym (at.1 d)) (call i y q called).0)
  elements (suc n) i ys (q, y, at, called, later) (suc k) j d b e =
      let rest = subst (λ p. IsFromFnResultFrom g p ys (i + 1) n) (call i y q called).1 later in
      elements n (i + 1) ys rest k j d (omega arith) (omega arith)

  pub each_element : (n : ℕ) (ys : List B) → IsFromFnResult g f ys n → (i : ℕ) (d : B) → i < n → P i (get_or ys i d)
  each_element n ys a i d b = elements n 0 ys a.each i i d b (omega arith)

-- If it gives h of the index, then the array has the values of h.
pub from_fn_same :
    {F B : Type 0} (g : Mut F (ℕ × Unit {0}) B) (h : ℕ → B) (f : F)
    → ((i : ℕ) (y : B) (q : F) → Called g f (i, tt) y q → (y ≡ h i) × (q ≡ f))
    → (ys : List B) (n : ℕ) (d : B) → IsFromFnResult g f ys n → ys ≡ values_from 0 n h
from_fn_same g h f call ys n d a = list_of_values d n h ys a.long (λ k b. each_element g (λ i y. y ≡ h i) f call n ys a k d b)
