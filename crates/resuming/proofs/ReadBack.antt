-- A state is read back as it was written: its data are those of the request or of the state before it, and its number and its best are
-- those of the sweep. So a list of calls on the bytes is a list of calls on sweeps. Assumes nothing.
use Rattle.std.proofs.Common.{◌≡◌, refl, sym, ◌∙◌, subst, true, ℕ, ◌≤◌, ◌<◌, List, ◌∷◌, length, Ok, Option, Some, None, arith}
use Rattle.std.proofs.lemmas.Bool.Decides.{nat_tests}
use Rattle.words.specs.Bytes.{word, word_bytes, chunked, low_bytes}
use Rattle.rules.specs.Accepting.{values_of}
use Rattle.rules.specs.Choosing.{Candidates}
use Rattle.rules.specs.Ranges.{OnGrid}
use Rattle.rules.specs.Sweep.{BestAmong}
use Rattle.rules.specs.declared.Plant.{Plant}
use Rattle.rules.specs.declared.Concentrations.{Concentrations}
use Rattle.rules.specs.declared.Candidate.{Candidate}
use Rattle.rules.proofs.RangeFacts.{on_grid_lem}
use Rattle.rules.proofs.Examined.{permitted_keeps}
use Rattle.request.specs.Frames.{request_length}
use Rattle.request.specs.Layout.{decode}
use Rattle.request.specs.declared.Data.{Data}
use Rattle.request.proofs.Lengths.{data_length}
use Rattle.sweeping.specs.Sweeps.{started, start_by, goes_on, OwnCandidates, AdvancedFrom}
use Rattle.sweeping.specs.declared.Sweep.{Sweep}
use Rattle.sweeping.specs.declared.Advanced.{Advanced}
use Rattle.sweeping.proofs.Places.{grid_most}
use Rattle.sweeping.proofs.Refuted.{advance_moves}
use Rattle.resuming.specs.States.{sweep_words, best_of, best_words, sweep_of, state_bytes}
use Rattle.resuming.proofs.StateWords.{own_word, data_kept}

-- ---- number and best

-- a best that three words hold
abbrev Storable : Option Candidate → Type 0
Storable None = Unit {0}
Storable (Some y) = OnGrid y

-- number and best by their four words
own_read :
    (asked : ℕ) (b : Option Candidate) → asked < 4_294_967_296 → Storable b
    → (word (word_bytes (asked ∷ best_words b)) 0 ≡ asked)
    × (best_of (word (word_bytes (asked ∷ best_words b)) 1) (word (word_bytes (asked ∷ best_words b)) 2) (word (word_bytes (asked ∷ best_words b)) 3) ≡ b)
unfolding word chunked low_bytes best_of best_words
own_read asked None few stored = (omega arith, refl)
own_read asked (Some y) few stored =
    let words = word_bytes (asked ∷ best_words (Some y)) in
    let fraction : word words 1 ≡ y.fraction = omega arith in
    let ratio : word words 2 ≡ y.return_ratio = omega arith in
    let time : word words 3 ≡ y.thickening = omega arith in
    let some : best_of y.fraction y.return_ratio y.thickening ≡ Some y = grind (arith, nat_tests, stored.fraction) in
    (omega arith, (λ j. best_of (fraction j) (ratio j) (time j)) ∙ some)

pub sweep_kept :
    (bytes : List ℕ) (x : Data) (s : Sweep) → request_length 0 ≤ length bytes → s.plant ≡ x.plant → s.readings ≡ x.readings → s.asked < 4_294_967_296 → Storable s.best
    → sweep_of (state_bytes bytes s) x ≡ s
sweep_kept bytes x s long p r few stored =
    let own = own_word bytes s long in
    let read = own_read s.asked s.best few stored in
    λ j.
    record {
      plant = sym p j;
      readings = sym r j;
      asked = (own 0 ∙ read.0) j;
      best = ((λ k. best_of (own 1 k) (own 2 k) (own 3 k)) ∙ read.1) j;
    }

-- ---- the calls

-- a start's sweep
start_sweep : (x : Data) (s : Sweep) → started x.plant x.readings ≡ Ok s → record { plant = x.plant; readings = x.readings; asked = 0; best = None } ≡ s
unfolding started start_by
start_sweep x s e = grind arith

-- a best of a set is on the grid
best_stored : (p : Plant) (c : Concentrations) (among : Candidates) (b : Option Candidate) → BestAmong p c among b → Storable b
best_stored p c among None h = tt
best_stored p c among (Some d) h = on_grid_lem p.tank d ((permitted_keeps p c d).0 h.1).grid

-- The state of a start holds the request's data and the sweep.
pub start_kept :
    (request : List ℕ) (x : Data) (s : Sweep) → decode request 0 ≡ Ok x → started x.plant x.readings ≡ Ok s
    → (decode (state_bytes request s) sweep_words ≡ Ok x) × (sweep_of (state_bytes request s) x ≡ s)
start_kept request x s e h =
    let own = start_sweep x s h in
    (data_kept request 0 x s e, subst (λ (t : Sweep). sweep_of (state_bytes request t) x ≡ t) own (sweep_kept request x _ (omega (arith, data_length request 0 x e)) refl refl (omega arith) tt))

-- The state of an advance that is not refused holds the same data and the sweep after it.
pub advance_kept :
    (state : List ℕ) (x : Data) (n : ℕ) (a : Advanced) → decode state sweep_words ≡ Ok x → goes_on (sweep_of state x) n ≡ true → AdvancedFrom (sweep_of state x) n a.sweep a.progress
    → (decode (state_bytes state a.sweep) sweep_words ≡ Ok x) × (sweep_of (state_bytes state a.sweep) x ≡ a.sweep)
advance_kept state x n a e on h =
    let m = advance_moves (sweep_of state x) n a.sweep a.progress on h in (
      data_kept state sweep_words x a.sweep e,
      sweep_kept state x a.sweep (omega (arith, data_length state sweep_words x e)) m.plant m.readings (omega (arith, m.asked, grid_most x.plant.tank))
          (best_stored x.plant (values_of x.plant x.readings) (OwnCandidates (sweep_of state x) n) a.sweep.best m.best),
    )
