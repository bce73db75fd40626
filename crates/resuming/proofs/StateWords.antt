-- The words of a state: those of the data are the request's or the earlier state's, and with them what they are decoded to. Assumes
-- nothing.
use Rattle.std.proofs.Common.{◌≡◌, refl, ◌∙◌, ℕ, zero, suc, ◌+◌, ◌*◌, ◌≤◌, ◌<◌, List, ◌∷◌, length, get_or, take, Ok, arith, length-take-le, get_or-append-add, get_or-take}
use Rattle.std.proofs.lemmas.List.{get_or_append_left}
use Rattle.std.proofs.lemmas.Bool.Decides.{nat_tests}
use Rattle.words.specs.Bytes.{word, words_from}
use Rattle.rules.specs.Sums.{values_from}
use Rattle.request.specs.Frames.{plant_words, way_word, data_words, request_length, frame_of}
use Rattle.request.specs.ConsentLayout.{consent_of}
use Rattle.request.specs.Layout.{decode}
use Rattle.request.specs.declared.Data.{Data}
use Rattle.request.proofs.Lengths.{data_length}
use Rattle.sweeping.specs.declared.Sweep.{Sweep}
use Rattle.resuming.specs.States.{sweep_words, state_bytes}
use Rattle.resuming.proofs.Bytes.{own_bytes, state_length}

-- a word of the data, and one after them
module _ (bytes : List ℕ) (s : Sweep) (long : request_length 0 ≤ length bytes) where
  front : length (take (4 * data_words) bytes) ≡ 4 * data_words
  front = length-take-le (4 * data_words) bytes long

  data_byte : (i : ℕ) → i < 4 * data_words → get_or (state_bytes bytes s) i 0 ≡ get_or bytes i 0
  unfolding state_bytes
  data_byte i h = get_or_append_left (take (4 * data_words) bytes) (own_bytes s) 0 i (omega (arith, front)) ∙ get_or-take (4 * data_words) bytes i 0 h

  pub data_word : (i : ℕ) → i < data_words → word (state_bytes bytes s) i ≡ word bytes i
  unfolding word
  data_word i h =
      rw (data_byte (4 * i) (omega arith), data_byte (4 * i + 1) (omega arith), data_byte (4 * i + 2) (omega arith), data_byte (4 * i + 3) (omega arith))

  own_byte : (i k : ℕ) → i ≡ 4 * data_words + k → get_or (state_bytes bytes s) i 0 ≡ get_or (own_bytes s) k 0
  unfolding state_bytes
  own_byte i k e = let at : i ≡ length (take (4 * data_words) bytes) + k = omega (arith, front) in rw at (get_or-append-add (take (4 * data_words) bytes) (own_bytes s) k 0)

  pub own_word : (i : ℕ) → word (state_bytes bytes s) (data_words + i) ≡ word (own_bytes s) i
  unfolding word
  own_word i =
      let n = 4 * (data_words + i) in
      rw (own_byte n (4 * i) (omega arith), own_byte (n + 1) (4 * i + 1) (omega arith), own_byte (n + 2) (4 * i + 2) (omega arith), own_byte (n + 3) (4 * i + 3) (omega arith))

-- the data are decoded from their words
module _ (a b : List ℕ) (same : (i : ℕ) → i < data_words → word a i ≡ word b i) where
  same_words : (count i : ℕ) → i + count ≤ data_words → words_from a i count ≡ words_from b i count
  unfolding words_from
  same_words zero i h = refl
  same_words (suc count) i h = λ j. same i (omega arith) j ∷ same_words count (i + 1) (omega arith) j

  same_consent : consent_of a plant_words ≡ consent_of b plant_words
  unfolding values_from
  same_consent = grind (arith, same)

-- The data of a state are those of the bytes that it was written with.
pub data_kept :
    (bytes : List ℕ) (own : ℕ) (x : Data) (s : Sweep) → decode bytes own ≡ Ok x → decode (state_bytes bytes s) sweep_words ≡ Ok x
unfolding decode frame_of
data_kept bytes own x s e =
    let long : request_length 0 ≤ length bytes = omega (arith, data_length bytes own x e) in
    let size : length (state_bytes bytes s) ≡ request_length sweep_words = state_length bytes s long in
    let same : (i : ℕ) → i < data_words → word (state_bytes bytes s) i ≡ word bytes i = data_word bytes s long in
    let words = same_words (state_bytes bytes s) bytes same plant_words 0 (omega arith) in
    let consent = same_consent (state_bytes bytes s) bytes same in
    let way = same way_word (omega arith) in
    let first = same 0 (omega arith) in
    grind (arith, nat_tests)
