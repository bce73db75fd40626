-- A split's first shares, tested and added up, in the words of the iterators' methods. Assumes nothing.
use mathlib.Core.Path.{◌≡◌, refl, sym, ap, subst, ◌∙◌}
use mathlib.Core.Bool.{Bool, true, false, ◌&&◌}
use mathlib.Core.List.{List}
use Prim.Native.Nat.{ℕ, zero, suc, ◌+◌, ◌≤◌, ◌<◌}
use native.Mathlib.Numerals.{add-one}
use native.Mathlib.Omega.{arith}
use lib.Dec.{leb}
use lib.ListN.{length, get_or, take}
use lib.Seq.{take-suc}
use Rattle.std.specs.List.{list_all, sum_by}
use Rattle.std.proofs.lemmas.List.Folds.{list_all-append}
use Rattle.std.proofs.lemmas.List.Sums.{sum_by_more}
use Rattle.rules.specs.Sums.{sum_from}
use Rattle.rules.specs.Lines.{share, shares_to, shares_positive}
use Rattle.rules.specs.declared.Split.{Split}
use Rattle.rules.proofs.LineLaws.{shares_step}

alone : (b c : Bool) → (b && c) ≡ (b && (c && true))
alone true true = refl
alone true false = refl
alone false c = refl

-- one share more at a time is `all` of them
pub positive_all : (l : List ℕ) (n : ℕ) → n ≤ length l → shares_positive l n ≡ list_all (λ s. leb 1 s) (take n l)
unfolding shares_positive
positive_all l zero h = refl
positive_all l (suc n) h =
    let below : n < length l = omega (arith, h) in
    rw (positive_all l n (omega (arith, h)), take-suc l n 0 below, list_all-append) (alone (list_all (λ s. leb 1 s) (take n l)) (leb 1 (get_or l n 0)))

-- one share more at a time is the sum of them
pub shares_sum : (split : Split) (n : ℕ) → n ≤ length split.shares → shares_to split n ≡ sum_by (λ s. s) (take n split.shares)
unfolding shares_to sum_from
shares_sum split zero h = refl
shares_sum split (suc n) h =
    let before = ap (λ (s : ℕ). s + share split n) (shares_sum split n (omega (arith, h))) in
    let more = sum_by_more (λ s. s) split.shares n 0 (omega (arith, h)) in
    subst (λ (k : ℕ). shares_to split k ≡ sum_by (λ s. s) (take k split.shares)) (add-one n) (shares_step split n ∙ (before ∙ sym more))
