-- What an advance does to the best: the key of the best that is handed on, and the best of it and of the stretch. Assumes nothing.
use mathlib.Core.Path.{◌≡◌, refl, sym, ap, ◌∙◌, subst}
use mathlib.Core.Logic.{◌⊎◌, inl, inr}
use mathlib.Core.Bool.{Bool, true, false}
use Prim.Native.Nat.{ℕ, ◌+◌, min}
use native.Mathlib.Omega.{arith}
use lib.Dec.{T, ltb}
use Rattle.std.specs.Prelude.{Ok, Err, Option, Some, None}
use Rattle.rules.specs.Examining.{sheet_of, sheet_from, permitted, judge}
use Rattle.rules.specs.Choosing.{candidate_total, NotBefore}
use Rattle.rules.specs.Census.{grid_size}
use Rattle.rules.specs.Sweep.{Stretch, HandedOn, Together, BestAmong, best_kept}
use Rattle.rules.specs.declared.accepted.Accepted.{Accepted}
use Rattle.rules.specs.declared.Candidate.{Candidate}
use Rattle.rules.specs.declared.Sheet.{Sheet}
use Rattle.rules.specs.declared.Refusal.{Refusal}
use Rattle.rules.proofs.RangeFacts.{grid_ranges}
use Rattle.rules.proofs.Examined.{judge_sheet, judge_permitted}
use Rattle.rules.proofs.SweepOrder.{order_below}
use Rattle.rules.proofs.BestLaws.{best_kept_lem}
use Rattle.choosing.specs.declared.keys.Key.{Key}
use Rattle.choosing.specs.Keys.{LesserOf, key_best}
use Rattle.choosing.proofs.Joining.{not_before_self, joined}
use Rattle.choosing.proofs.Choice.{names_best}
use Rattle.sweeping.specs.declared.Sweep.{Sweep}
use Rattle.sweeping.specs.Spots.{LeastOfStretch, LeastOfHandedOn}
use Rattle.sweeping.specs.Sweeps.{OwnCandidates, progress_of, Moves}

module _ (d : Accepted) where
  -- none yet has no key
  pub handed_none : T (best_kept d.plant d.concentrations None) × LeastOfHandedOn d None None
  unfolding best_kept
  handed_none = (tt, λ y m t. absurd m)

  -- a candidate with a sheet is permitted, and the sheet's total makes its key
  pub handed_kept :
      (y : Candidate) (s : Sheet) → judge d.plant d.concentrations y ≡ Ok s
      → T (best_kept d.plant d.concentrations (Some y))
      × LeastOfHandedOn d (Some y) (Some (record { total = s.total; fraction = y.fraction; return_ratio = y.return_ratio; thickening = y.thickening }))
  unfolding best_kept candidate_total sheet_of sheet_from
  handed_kept y s e =
      let j = (judge_sheet d.plant d.concentrations y s).0 e in
      let total : candidate_total d.plant d.concentrations y ≡ s.total = ap (λ (t : Sheet). t.total) j.1 in (
        j.0,
        (sym total, (refl, j.0, λ z m t. subst (NotBefore d.plant d.concentrations y) (sym m) (not_before_self (candidate_total d.plant d.concentrations) y))),
      )

  -- one that is refused is not
  pub handed_broken : (y : Candidate) (n : Refusal) → judge d.plant d.concentrations y ≡ Err n → best_kept d.plant d.concentrations (Some y) ≡ false
  unfolding best_kept
  handed_broken y n e = go (permitted d.plant d.concentrations y) refl
    where
      go : (b : Bool) → permitted d.plant d.concentrations y ≡ b → b ≡ false
      go false q = refl
      go true q =
          absurd
          (let k : Err n ≡ Ok (sheet_of d.plant d.concentrations y) = sym e ∙ judge_permitted d.plant d.concentrations y (rw q tt) in
          let z : ◌≡◌ {A = ℕ} 0 1 = cc in
          omega arith)

  -- the best of what is handed on and of a stretch, whose end may be past the grid's
  pub moved_best :
      (b : Option Candidate) (asked n : ℕ) (key least best : Option Key) → LeastOfHandedOn d b key
      → LeastOfStretch d asked (min (asked + n) (grid_size d.plant.tank)) least
      → LesserOf key least best
      → BestAmong d.plant d.concentrations (Together (HandedOn b) (Stretch d.plant asked (asked + n))) (key_best best)
  moved_best b asked n key least best l m less =
      names_best d.plant d.concentrations (Together (HandedOn b) (Stretch d.plant asked (asked + n))) best
      (joined d.plant d.concentrations (HandedOn b) (Stretch d.plant asked (min (asked + n) (grid_size d.plant.tank)))
      (Together (HandedOn b) (Stretch d.plant asked (asked + n)))
      key least best
      (λ y. (narrower y, wider y))
      l m less)
    where
      wider : (y : Candidate) → HandedOn b y ⊎ Stretch d.plant asked (min (asked + n) (grid_size d.plant.tank)) y → Together (HandedOn b) (Stretch d.plant asked (asked + n)) y
      wider y (inl h) = inl h
      wider y (inr s) = inr (record { on_grid = s.on_grid; since = s.since; before = omega (arith, s.before) })

      narrower : (y : Candidate) → Together (HandedOn b) (Stretch d.plant asked (asked + n)) y → HandedOn b y ⊎ Stretch d.plant asked (min (asked + n) (grid_size d.plant.tank)) y
      narrower y (inl h) = inl h
      narrower y (inr s) =
          inr (record { on_grid = s.on_grid; since = s.since; before = omega (arith, s.before, order_below d.plant.tank y ((grid_ranges d.plant.tank y).0 s.on_grid)) })

-- an advance that is not refused
module _ (d : Accepted) (s : Sweep) (n to : ℕ) (key least best : Option Key) (own : d.plant ≡ s.plant) (reached : to ≡ min (s.asked + n) (grid_size s.plant.tank)) (l : LeastOfHandedOn d s.best key) (m : LeastOfStretch d s.asked to least) (less : LesserOf key least best) where
  moved : BestAmong s.plant d.concentrations (OwnCandidates s n) (key_best best)
  moved = rw own at (moved_best d s.best s.asked n key least best l (rw (reached, ← own) at m) less)

  pub moves :
      (b : Option Candidate) (q : Bool) → b ≡ key_best best → ltb (s.asked + n) (grid_size s.plant.tank) ≡ q
      → Moves d.concentrations s n (record { plant = s.plant; readings = s.readings; asked = to; best = b }) (Ok (progress_of q s.plant d.concentrations b))
  moves b q named e = record { plant = refl; readings = refl; asked = reached; best = rw named moved; progress = rw e }

  pub moved_kept : (b : Option Candidate) → b ≡ key_best best → T (best_kept d.plant d.concentrations b)
  moved_kept b named = rw (own, named) (best_kept_lem s.plant d.concentrations (OwnCandidates s n) (key_best best) moved)
