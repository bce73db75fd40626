-- The bytes of a state: what is stored over a request or over an earlier state. Assumes nothing.
use Rattle.std.proofs.Common.{◌≡◌, refl, ℕ, ◌*◌, ◌≤◌, List, ◌∷◌, ◌++◌, length, take, drop, Option, Some, None, arith, length-append, length-take-le, ◌∙◌}
use Rattle.std.proofs.Math.Nat.{zero-add}
use Rattle.std.proofs.lemmas.List.{take_all}
use Rattle.std.proofs.lemmas.List.Edits.{sets}
use Rattle.words.specs.Bytes.{word_bytes}
use Rattle.words.proofs.Stores.{stored_run, sets_start, length_word_bytes}
use Rattle.rules.specs.declared.Candidate.{Candidate}
use Rattle.request.specs.Frames.{data_words, request_length}
use Rattle.putting.proofs.Runs.{stored_last}
use Rattle.sweeping.specs.declared.Sweep.{Sweep}
use Rattle.resuming.specs.States.{sweep_words, best_words, state_bytes}

three_long : (b : Option Candidate) → length (best_words b) ≡ 3
unfolding best_words
three_long None = refl
three_long (Some y) = refl

-- the bytes of number and best
abbrev pub own_bytes : Sweep → List ℕ
own_bytes s = word_bytes (s.asked ∷ best_words s.best)

pub own_length : (s : Sweep) → length (own_bytes s) ≡ 4 * sweep_words
own_length s = omega (arith, length_word_bytes (s.asked ∷ best_words s.best), three_long s.best)

pub state_length : (bytes : List ℕ) (s : Sweep) → request_length 0 ≤ length bytes → length (state_bytes bytes s) ≡ request_length sweep_words
unfolding state_bytes
state_length bytes s h =
    length-append (take (4 * data_words) bytes) (own_bytes s) ∙ omega (arith, length-take-le (4 * data_words) bytes h, own_length s)

-- stored over an earlier state
pub state_stored : (state : List ℕ) (s : Sweep) → length state ≡ request_length sweep_words → sets state (4 * data_words) (own_bytes s) ≡ state_bytes state s
unfolding state_bytes
state_stored state s e = stored_last (4 * data_words) state (own_bytes s) (omega (arith, own_length s))

-- stored at a start, after the bytes of the request
pub start_stored :
    (request state : List ℕ) (s : Sweep) → length request ≡ request_length 0 → request_length sweep_words ≤ length state
    → sets (sets state 0 request) (4 * data_words) (own_bytes s) ≡ state_bytes request s ++ drop (length (state_bytes request s)) state
unfolding state_bytes
start_stored request state s e room =
    let fits : length (request ++ own_bytes s) ≤ length state = omega (arith, length-append request (own_bytes s), own_length s) in
    rw (take_all (4 * data_words) request (omega arith), ← e)
    (rw zero-add at (stored_run request (own_bytes s) state 0) ∙ sets_start (request ++ own_bytes s) state fits)
