-- A value and a day as they are converted: what the conversion gives decides, and no load passes its limit. Assumes nothing.
use mathlib.Core.Path.{◌≡◌, refl, sym, ap, ◌∙◌}
use mathlib.Core.Bool.{Bool, true, false, cond, not, ◌&&◌}
use Prim.Native.Nat.{ℕ, ◌*◌, ◌≤◌, ◌<◌}
use native.Mathlib.Omega.{arith}
use borrow.Author.Tests.{le-leb, lt-leb}
use lib.Dec.{T, leb, leb→le, lit<}
use lib.Ieee.Fits.{and_l, and_r}
use native.Mathlib.Nat.{mul-le-mul}
use lib.Ieee.{Float}
use Rattle.std.specs.Prelude.{Result, Ok, Err}
use Rattle.rules.specs.LabReadings.{no_number, thousandths}
use Rattle.rules.specs.DayLog.{most_flow, most_bod, value_kept, day_kept, day_load}
use Rattle.rules.specs.declared.Day.{Day}
use Rattle.rules.specs.declared.Refusal.{Refusal}
use Rattle.accepting.specs.CutOff.{too_large, measurement}
use Rattle.accepting.specs.declared.MeasurementError.{MeasurementError}
use Rattle.accepting.proofs.Conversions.{thousandths_least}
use Rattle.loads.specs.Windows.{day_value, kept_load, most_load, moved, stepped}
use Rattle.loads.specs.declared.Window.{Window}

-- a value by what its conversion gives
abbrev value_by : ℕ → Result ℕ MeasurementError → Result ℕ Refusal
value_by most (Ok n) = cond (leb n most) (Ok n) (Err Refusal.DayValue)
value_by most (Err e) = Err Refusal.DayValue

-- a value at or above the cut-off is above both limits
value_by_lem : (most : ℕ) (x : Float) → most ≤ most_flow → value_by most (measurement 1 x) ≡ day_value most x
unfolding measurement day_value
value_by_lem most x small = go (no_number x) (too_large x) refl
  where
    of : Bool → Result ℕ Refusal
    of b = cond b (Ok (thousandths 1 x)) (Err Refusal.DayValue)

    large : too_large x ≡ true → leb (thousandths 1 x) most ≡ false
    large e = lt-leb (thousandths 1 x) most (omega (arith, thousandths_least 8_388_608_000 1 x (lit< tt) (omega arith) e))

    go :
        (n t : Bool) → too_large x ≡ t
        → value_by most (cond n (Err MeasurementError.NoNumber) (cond t (Err MeasurementError.TooLarge) (Ok (thousandths 1 x))))
        ≡ of (not n && leb (thousandths 1 x) most)
    go true t e = refl
    go false true e = sym (ap of (large e))
    go false false e = refl

-- so a value is what its conversion gives, where that is not above its limit
module _ (most : ℕ) (x : Float) (small : most ≤ most_flow) where
  pub value_within : (n : ℕ) → Ok n ≡ measurement 1 x → n ≤ most → Ok n ≡ day_value most x
  value_within n e h = rw (le-leb n most h) at (ap (value_by most) e ∙ value_by_lem most x small)

  pub value_above : (n : ℕ) → Ok n ≡ measurement 1 x → most < n → Err Refusal.DayValue ≡ day_value most x
  value_above n e h = rw (lt-leb n most h) at (ap (value_by most) e ∙ value_by_lem most x small)

  pub value_none : (r : MeasurementError) → Err r ≡ measurement 1 x → Err Refusal.DayValue ≡ day_value most x
  value_none r e = ap (value_by most) e ∙ value_by_lem most x small

-- what a result by a test says of the test, where it is a value and where it is a refusal
given : {A : Type 0} (b : Bool) (v x : A) (n : Refusal) → Ok x ≡ cond b (Ok v) (Err n) → (b ≡ true) × (x ≡ v)
given true v x n e = (refl, cc)
given false v x n e = cc

refused : {A : Type 0} (b : Bool) (v : A) (m n : Refusal) → ◌≡◌ {A = Result A Refusal} (Err n) (cond b (Ok v) (Err m)) → (b ≡ false) × (n ≡ m)
refused true v m n e = cc
refused false v m n e = (refl, cc)

-- a value that is kept keeps its limit, and so does a day's load
value_most : (most : ℕ) (x : Float) → T (value_kept most x) → thousandths 1 x ≤ most
value_most most x t = leb→le (thousandths 1 x) most (and_r (not (no_number x)) (leb (thousandths 1 x) most) t)

pub load_most : (x : Day) → T (day_kept x) → day_load x ≤ most_load
unfolding day_kept day_load
load_most x t =
    omega (
      arith,
      mul-le-mul
          (value_most most_flow x.flow (and_l (value_kept most_flow x.flow) (value_kept most_bod x.bod) t))
          (value_most most_bod x.bod (and_r (value_kept most_flow x.flow) (value_kept most_bod x.bod) t)),
    )

module _ (x : Day) where
  -- a step by the load of its day
  pub stepped_by : (w : Window) (n : ℕ) → Ok n ≡ kept_load x → Ok (moved w n) ≡ stepped w x
  unfolding kept_load stepped
  stepped_by w n e = let g = given (day_kept x) (day_load x) n _ e in rw (g.0, g.1) refl

  pub not_stepped : (w : Window) (n : Refusal) → Err n ≡ kept_load x → Err n ≡ stepped w x
  unfolding kept_load stepped
  not_stepped w n e = let r = refused (day_kept x) (day_load x) _ n e in rw (r.0, r.1) refl

  -- what a step tells of its day
  pub step_given : (w v : Window) → Ok v ≡ stepped w x → (day_kept x ≡ true) × (v ≡ moved w (day_load x))
  unfolding stepped
  step_given w v = given (day_kept x) _ v _

  pub step_refused : (w : Window) (n : Refusal) → Err n ≡ stepped w x → (day_kept x ≡ false) × (n ≡ Refusal.DayValue)
  unfolding stepped
  step_refused w n = refused (day_kept x) (moved w (day_load x)) _ n

  -- a day by its flow and its BOD
  pub flow_refused : (n : Refusal) → Err n ≡ day_value most_flow x.flow → Err n ≡ kept_load x
  unfolding day_value kept_load day_kept
  flow_refused n e = let f = refused (value_kept most_flow x.flow) (thousandths 1 x.flow) _ n e in rw (f.0, f.1)

  pub bod_refused : (flow : ℕ) (n : Refusal) → Ok flow ≡ day_value most_flow x.flow → Err n ≡ day_value most_bod x.bod → Err n ≡ kept_load x
  unfolding day_value kept_load day_kept
  bod_refused flow n e h =
      let f = given (value_kept most_flow x.flow) (thousandths 1 x.flow) flow _ e in
      let b = refused (value_kept most_bod x.bod) (thousandths 1 x.bod) _ n h in
      rw (f.0, b.0, b.1)

  pub both_given : (flow bod : ℕ) → Ok flow ≡ day_value most_flow x.flow → Ok bod ≡ day_value most_bod x.bod → Ok (flow * bod) ≡ kept_load x
  unfolding day_value kept_load day_kept day_load
  both_given flow bod e h =
      let f = given (value_kept most_flow x.flow) (thousandths 1 x.flow) flow _ e in
      let b = given (value_kept most_bod x.bod) (thousandths 1 x.bod) bod _ h in
      rw (f.0, b.0, f.1, b.1)
