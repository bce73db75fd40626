-- Laws of sums and lists over consecutive whole numbers, each by one induction. Assumes nothing.
use mathlib.Core.Path.{◌≡◌, refl, sym, ap, ap₂, ◌∙◌}
use mathlib.Core.List.{List, ◌∷◌, map}
use Prim.Native.Nat.{ℕ, zero, suc, ◌+◌, ◌-◌, ◌*◌, ◌≤◌, ◌<◌}
use native.Mathlib.Numerals.{add-one}
use native.Mathlib.Omega.{arith}
use borrow.Author.Count.{below_more}
use lib.ListN.{length, get_or}
use Rattle.std.specs.List.{range_with_len}
use Rattle.std.proofs.lemmas.List.{get_or_past}
use Rattle.std.proofs.lemmas.List.FromFn.{length-map-range_with_len, get_or-map-range_with_len, fill_by_all}
use Rattle.rules.specs.Sums.{sum_from, values_from}

-- one number more
pub sum_step : (a n : ℕ) (g : ℕ → ℕ) → sum_from a (n + 1) g ≡ sum_from a n g + g (a + n)
unfolding sum_from
sum_step a n g = rw (add-one n)

-- a sum from 0 on, with the next summand added
pub sum_grown : (g : ℕ → ℕ) (i s v : ℕ) → s ≡ sum_from 0 i g → v ≡ g i → s + v ≡ sum_from 0 (i + 1) g
sum_grown g i s v e h =
    let here : i ≡ 0 + i = omega arith in
    ap₂ ◌+◌ e (h ∙ ap g here) ∙ sym (sum_step 0 i g)

-- the same, for the number that a loop has come to
pub sum_next : (a i : ℕ) (g : ℕ → ℕ) → a ≤ i → sum_from a (i + 1 - a) g ≡ sum_from a (i - a) g + g i
sum_next a i g h =
    let one_more : i + 1 - a ≡ i - a + 1 = omega arith in
    let here : a + (i - a) ≡ i = omega arith in
    rw one_more (sum_step a (i - a) g ∙ ap (λ (j : ℕ). sum_from a (i - a) g + g j) here)

pub sum_none : (a : ℕ) (g : ℕ → ℕ) → sum_from a (a - a) g ≡ 0
unfolding sum_from
sum_none a g = let none : a - a ≡ 0 = omega arith in rw none

-- the same summands, the same sum
pub sum_same : (a n : ℕ) (g h : ℕ → ℕ) → ((i : ℕ) → a ≤ i → i < a + n → g i ≡ h i) → sum_from a n g ≡ sum_from a n h
unfolding sum_from
sum_same a zero g h e = refl
sum_same a (suc n) g h e = ap₂ ◌+◌ (sum_same a n g h (λ i l m. e i l (omega arith))) (e (a + n) (omega arith) (omega arith))

pub sum_plus : (a n : ℕ) (g h : ℕ → ℕ) → sum_from a n (λ i. g i + h i) ≡ sum_from a n g + sum_from a n h
unfolding sum_from
sum_plus a zero g h = refl
sum_plus a (suc n) g h = omega (arith, sum_plus a n g h)

pub sum_times : (a n c : ℕ) (g : ℕ → ℕ) → sum_from a n (λ i. c * g i) ≡ c * sum_from a n g
unfolding sum_from
sum_times a zero c g = omega arith
sum_times a (suc n) c g = omega (arith, sum_times a n c g)

pub sum_times_right : (a n c : ℕ) (g : ℕ → ℕ) → sum_from a n (λ i. g i * c) ≡ sum_from a n g * c
unfolding sum_from
sum_times_right a zero c g = omega arith
sum_times_right a (suc n) c g = omega (arith, sum_times_right a n c g)

pub sum_constant : (a n c : ℕ) → sum_from a n (λ i. c) ≡ n * c
unfolding sum_from
sum_constant a zero c = omega arith
sum_constant a (suc n) c = omega (arith, sum_constant a n c)

pub sum_most : (a n c : ℕ) (g : ℕ → ℕ) → ((i : ℕ) → g i ≤ c) → sum_from a n g ≤ n * c
unfolding sum_from
sum_most a zero c g h = omega arith
sum_most a (suc n) c g h = omega (arith, sum_most a n c g h, h (a + n))

-- the order of two sums
pub sum_swap :
    (a n b m : ℕ) (g : ℕ → ℕ → ℕ)
    → sum_from a n (λ i. sum_from b m (λ j. g i j)) ≡ sum_from b m (λ j. sum_from a n (λ i. g i j))
unfolding sum_from
sum_swap a zero b m g = let none : sum_from b m (λ j. 0) ≡ m * 0 = sum_constant b m 0 in omega arith
sum_swap a (suc n) b m g =
    ap (λ (s : ℕ). s + sum_from b m (λ j. g (a + n) j)) (sum_swap a n b m g)
    ∙ sym (sum_plus b m (λ j. sum_from a n (λ i. g i j)) (λ j. g (a + n) j))

-- a sum is 0 exactly when every summand is
pub sum_zero : (a n : ℕ) (g : ℕ → ℕ) → ((i : ℕ) → a ≤ i → i < a + n → g i ≡ 0) → sum_from a n g ≡ 0
sum_zero a n g e = sum_same a n g (λ i. 0) e ∙ (let none : sum_from a n (λ i. 0) ≡ n * 0 = sum_constant a n 0 in omega arith)

pub zero_sum : (a n : ℕ) (g : ℕ → ℕ) → sum_from a n g ≡ 0 → (i : ℕ) → a ≤ i → i < a + n → g i ≡ 0
unfolding sum_from
zero_sum a zero g e i l m = absurd (omega arith)
zero_sum a (suc n) g e i l m =
    below_more (λ (j : ℕ). a ≤ j → g j ≡ 0) (a + n) (λ j m l. zero_sum a n g (omega arith) j l m) (λ l. omega arith) i (omega arith) l

-- ---- the values in a list

-- as the library has them
values_mapped : {A : Type 0} (a n : ℕ) (g : ℕ → A) → values_from a n g ≡ map g (range_with_len a n)
unfolding values_from
values_mapped a zero g = refl
values_mapped a (suc n) g = λ j. g a ∷ values_mapped (a + 1) n g j

pub values_length : {A : Type 0} (a n : ℕ) (g : ℕ → A) → length (values_from a n g) ≡ n
values_length a n g = rw values_mapped (length-map-range_with_len g a n)

pub values_at : {A : Type 0} (d : A) (a n : ℕ) (g : ℕ → A) (i : ℕ) → i < n → get_or (values_from a n g) i d ≡ g (a + i)
values_at d a n g i l = rw values_mapped (get_or-map-range_with_len g a n i (a + i) d l refl)

-- past them stands the default
pub values_past : {A : Type 0} (d : A) (a n : ℕ) (g : ℕ → A) (i : ℕ) → n ≤ i → get_or (values_from a n g) i d ≡ d
values_past d a n g i l = get_or_past (values_from a n g) i d (omega (arith, values_length a n g))

-- a list that holds the values is the list of them
pub list_of_values : {A : Type 0} (d : A) (n : ℕ) (g : ℕ → A) (l : List A) → length l ≡ n → ((i : ℕ) → i < n → get_or l i d ≡ g i) → l ≡ values_from 0 n g
list_of_values d n g l size holds = rw values_mapped (fill_by_all g l n d size holds)

-- the same values, the same list
pub values_same : {A : Type 0} (d : A) (n : ℕ) (g h : ℕ → A) → ((k : ℕ) → k < n → g k ≡ h k) → values_from 0 n g ≡ values_from 0 n h
values_same d n g h e =
    list_of_values d n h (values_from 0 n g) (values_length 0 n g)
    (λ i m.
    let here : 0 + i ≡ i = omega arith in
    values_at d 0 n g i m ∙ (ap g here ∙ e i m))
