-- A tally while it grows: one verdict more raises the number at its place, and no number passes that of the verdicts.
-- Assumes nothing.
use mathlib.Core.Path.{◌≡◌, refl, sym, ap, ◌∙◌, subst}
use mathlib.Core.Bool.{Bool, true, false}
use mathlib.Core.List.{List}
use Prim.Native.Nat.{ℕ, ◌+◌, ◌-◌, ◌*◌, ◌≤◌, ◌<◌}
use native.Mathlib.Nat.{mul-le-mul}
use native.Mathlib.Omega.{arith}
use borrow.Author.Tests.{eqb-true, eqb-false}
use lib.Dec.{eqb}
use lib.ListN.{length, get_or, set, length-set, replicate, length-replicate, get_or-replicate}
use lib.Seq.{get_or-set_same, get_or-set_other}
use Rattle.rules.specs.Limits.{least_fraction, least_ratio, least_time}
use Rattle.rules.specs.Census.{one, answer_numbers}
use Rattle.rules.specs.declared.Plant.{Plant}
use Rattle.rules.specs.declared.Concentrations.{Concentrations}
use Rattle.rules.proofs.SumLaws.{sum_next, sum_none, sum_most}
use Rattle.rules.proofs.CensusLaws.{one_same, one_other, one_most}
use Rattle.census.specs.Tallies.{most_tanks, fraction_number, tank_number, fraction_count, ratio_count, tank_count, at, Tally, AtMost}

-- the same counts, the same tally
pub recounted : (g h : ℕ → ℕ) (l : List ℕ) → ((k : ℕ) → g k ≡ h k) → Tally g l → Tally h l
recounted g h l e t = record { size = t.size; holds = λ k b. t.holds k b ∙ e k }

-- nothing tallied yet
pub nothing : (g : ℕ → ℕ) → ((k : ℕ) → g k ≡ 0) → Tally g (replicate answer_numbers 0)
nothing g e = record { size = length-replicate {A = ℕ} answer_numbers 0; holds = λ k b. get_or-replicate {A = ℕ} answer_numbers k 0 0 b ∙ sym (e k) }

-- one verdict more
pub raised : (g : ℕ → ℕ) (l : List ℕ) (n : ℕ) → n < answer_numbers → Tally g l → Tally (λ k. g k + one n k) (set l n (at l n + 1))
raised g l n b t = record { size = length-set l n (at l n + 1) ∙ t.size; holds = λ k m. go k m (eqb n k) refl }
  where
    here : n < length l
    here = omega (arith, t.size)

    go : (k : ℕ) → k < answer_numbers → (e : Bool) → eqb n k ≡ e → get_or (set l n (at l n + 1)) k 0 ≡ g k + one n k
    go k m true e =
        let same : n ≡ k = eqb-true n k e in
        subst (λ (j : ℕ). get_or (set l n (at l n + 1)) j 0 ≡ g j + one n j) same
        (get_or-set_same l n (at l n + 1) 0 here ∙ omega (arith, t.holds n b, one_same n))
    go k m false e =
        get_or-set_other l n k (at l n + 1) 0 (λ s. eqb-false n k e (sym s))
        ∙ omega (arith, t.holds k m, one_other n k (eqb-false n k e))

-- ---- fractions

pub no_fraction : (p : Plant) (x : Concentrations) → Tally (fraction_count p x (least_fraction - least_fraction)) (replicate answer_numbers 0)
no_fraction p x = nothing _ (λ k. sum_none least_fraction (λ f. one (fraction_number p x f) k))

pub fraction_tallied :
    (p : Plant) (x : Concentrations) (f n : ℕ) (l : List ℕ)
    → least_fraction ≤ f → n ≡ fraction_number p x f → n < answer_numbers
    → Tally (fraction_count p x (f - least_fraction)) l
    → Tally (fraction_count p x (f + 1 - least_fraction)) (set l n (at l n + 1))
fraction_tallied p x f n l least e b t =
    recounted _ _ _ (λ k. ap (λ (j : ℕ). fraction_count p x (f - least_fraction) k + one j k) e ∙ sym (sum_next least_fraction f (λ f. one (fraction_number p x f) k) least)) (raised _ l n b t)

pub fractions_most : (p : Plant) (x : Concentrations) (n : ℕ) (l : List ℕ) → Tally (fraction_count p x n) l → AtMost n l
fractions_most p x n l t =
    record { size = t.size; most = λ k b. omega (arith, t.holds k b, sum_most least_fraction n 1 (λ f. one (fraction_number p x f) k) (λ f. one_most (fraction_number p x f) k)) }

-- ---- settling tanks

-- the tanks of the thickening times passed, with n return ratios each, and of the return ratios passed of the present one
abbrev pub tanks_passed : Plant → ℕ → ℕ → ℕ → ℕ → ℕ
tanks_passed p n h r k = tank_count p n (h - least_time) k + ratio_count p h (r - least_ratio) k

pub no_tank : (p : Plant) (n : ℕ) → Tally (tank_count p n (least_time - least_time)) (replicate answer_numbers 0)
no_tank p n = nothing _ (λ k. sum_none least_time (λ h. ratio_count p h n k))

pub time_begun : (p : Plant) (n h : ℕ) (l : List ℕ) → Tally (tank_count p n (h - least_time)) l → Tally (tanks_passed p n h least_ratio) l
time_begun p n h l t =
    recounted _ _ l (λ k. let none : ratio_count p h (least_ratio - least_ratio) k ≡ 0 = sum_none least_ratio (λ r. one (tank_number p r h) k) in omega arith) t

pub tank_tallied :
    (p : Plant) (m h r n : ℕ) (l : List ℕ)
    → least_ratio ≤ r → n ≡ tank_number p r h → n < answer_numbers
    → Tally (tanks_passed p m h r) l
    → Tally (tanks_passed p m h (r + 1)) (set l n (at l n + 1))
tank_tallied p m h r n l least e b t =
    recounted _ _ _
    (λ k.
    let same : one n k ≡ one (tank_number p r h) k = ap (λ (j : ℕ). one j k) e in
    let next : ratio_count p h (r + 1 - least_ratio) k ≡ ratio_count p h (r - least_ratio) k + one (tank_number p r h) k = sum_next least_ratio r (λ r. one (tank_number p r h) k) least in
    omega arith)
    (raised _ l n b t)

pub time_done :
    (p : Plant) (h end : ℕ) (l : List ℕ)
    → least_time ≤ h
    → Tally (tanks_passed p (end - least_ratio) h end) l
    → Tally (tank_count p (end - least_ratio) (h + 1 - least_time)) l
time_done p h end l least t = recounted _ _ l (λ k. sym (sum_next least_time h (λ h. ratio_count p h (end - least_ratio) k) least)) t

ratios_most : (p : Plant) (h n k : ℕ) → ratio_count p h n k ≤ n
ratios_most p h n k = omega (arith, sum_most least_ratio n 1 (λ r. one (tank_number p r h) k) (λ r. one_most (tank_number p r h) k))

times_most : (p : Plant) (n m k : ℕ) → tank_count p n m k ≤ m * n
times_most p n m k = sum_most least_time m n (λ h. ratio_count p h n k) (λ h. ratios_most p h n k)

pub tanks_most : (p : Plant) (n m : ℕ) (l : List ℕ) → n ≤ 71 → m ≤ 6 → Tally (tank_count p n m) l → AtMost most_tanks l
tanks_most p n m l a b t =
    record { size = t.size; most = λ k c. omega (arith, t.holds k c, times_most p n m k, mul-le-mul b a) }

pub passed_most : (p : Plant) (n h r : ℕ) (l : List ℕ) → n ≤ 71 → h - least_time ≤ 6 → r ≤ 101 → Tally (tanks_passed p n h r) l → AtMost 600 l
passed_most p n h r l a b d t =
    record { size = t.size; most = λ k c. omega (arith, t.holds k c, times_most p n (h - least_time) k, mul-le-mul b a, ratios_most p h (r - least_ratio) k) }
