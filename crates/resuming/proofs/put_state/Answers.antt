-- The state is on the page, and all its bytes are counted. Assumes nothing.
use Rattle.std.proofs.Common.{◌≡◌, refl, length, arith}
use Rattle.request.specs.Frames.{request_length}
use Rattle.putting.proofs.Outcomes.{long_page}
use Rattle.resuming.specs.States.{sweep_words, state_bytes}
use Rattle.resuming.proofs.Bytes.{state_length, start_stored}
use Rattle.resuming.proofs.put_state.Goals as goal

pub returns : goal.returns
returns c =
    let request = c.args.request.now in
    let state = c.args.state.now in
    let s = c.args.sweep in
    let size : length (state_bytes request s) ≡ request_length sweep_words = state_length request s (omega arith) in
    rw (c.put_sweep.ensures, c.put_bytes.ensures, start_stored request state s (omega arith) (omega arith), long_page 0 (state_bytes request s) state (omega arith), size) refl
