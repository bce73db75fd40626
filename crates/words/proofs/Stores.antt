-- Runs of stores, what is left of numbers while a loop stores them, and the library's bytes of a number. Assumes nothing.
use mathlib.Core.Path.{◌≡◌, refl, ap, ◌∙◌}
use mathlib.Core.List.{List, [], ◌∷◌, ◌++◌, map}
use Prim.Native.Nat.{ℕ, zero, suc, ◌+◌, ◌*◌, ◌/◌, ◌%◌, ◌^◌, ◌≤◌, ◌<◌}
use native.Mathlib.Omega.{arith}
use borrow.Rule.Slice.PartMut.{put_mid}
use lib.ListN.{length, get_or, set, drop, length-append, drop_of_length-le}
use lib.Seq.{sets, sets-eq, drop-cons, paste}
use Rattle.std.proofs.Math.Nat.{add-zero, zero-add, div-one, pow-suc, div-div-eq-div-mul}
use Rattle.std.proofs.Math.Numerals.{add-one}
use Rattle.std.proofs.Common.{append_assoc}
use Rattle.std.proofs.lemmas.List.Edits.{paste_all}
use Rattle.std.proofs.lemmas.List.FromFn.{fill_by_all}
use Rattle.std.specs.List.{range_with_len}
use Rattle.std.proofs.lemmas.Slice.{put_mid-paste}
use Rattle.std.specs.Int.{Width, bytes_low_first, byte_len, to_le_bytes}
use Rattle.words.specs.Bytes.{word, words_from, low_bytes, chunked, number_bytes, word_bytes}

-- a run, and right after it those that are left
pub stored_run : (x rest l : List ℕ) (i : ℕ) → sets (sets l i x) (i + length x) rest ≡ sets l i (x ++ rest)
stored_run [] rest l i = rw (add-zero)
stored_run (a ∷ x) rest l i =
    let e : i + suc (length x) ≡ suc i + length x = omega arith in
    rw e (stored_run x rest (set l i a) (suc i))

-- a run from the list's start
pub sets_start : (x l : List ℕ) → length x ≤ length l → sets l 0 x ≡ x ++ drop (length x) l
sets_start x l fits = let room : 0 + length x ≤ length l = omega arith in rw (sets-eq x l 0 room, zero-add)

length_low : (count n : ℕ) → length (low_bytes count n) ≡ count
unfolding low_bytes
length_low zero n = refl
length_low (suc count) n = ap suc (length_low count (n / 256))

-- chunks of one size
pub length_chunks : {A : Type 0} (chunk : A → List ℕ) (k : ℕ) → ((a : A) → length (chunk a) ≡ k) → (l : List A) → length (chunked chunk l) ≡ k * length l
unfolding chunked
length_chunks chunk k size [] = omega arith
length_chunks chunk k size (a ∷ l) = length-append (chunk a) (chunked chunk l) ∙ omega (arith, length_chunks chunk k size l, size a)

pub length_numbers : (numbers : List ℕ) → length (number_bytes numbers) ≡ 8 * length numbers
length_numbers numbers = length_chunks (low_bytes 8) 8 (length_low 8) numbers

pub length_word_bytes : (words : List ℕ) → length (word_bytes words) ≡ 4 * length words
length_word_bytes words = length_chunks (low_bytes 4) 4 (length_low 4) words

-- words in turn, as the library has a function's values
words_mapped : (bytes : List ℕ) (i count : ℕ) → words_from bytes i count ≡ map (word bytes) (range_with_len i count)
unfolding words_from
words_mapped bytes i zero = refl
words_mapped bytes i (suc count) = λ j. word bytes i ∷ words_mapped bytes (i + 1) count j

-- a list that has at each index the word there
pub words_by_index : (bytes words : List ℕ) → ((k : ℕ) → k < length words → get_or words k 0 ≡ word bytes k) → words ≡ words_from bytes 0 (length words)
words_by_index bytes words each = rw words_mapped (fill_by_all (word bytes) words (length words) 0 refl each)

-- the library's bytes of a number are its lowest
low_first : (i k n : ℕ) → bytes_low_first i k n ≡ low_bytes k (n / 256 ^ i)
unfolding low_bytes
low_first i zero n = refl
low_first zero (suc k) n = rw div-one (ap (λ (left : List ℕ). n % 256 ∷ left) (low_first 1 k n))
low_first (suc i) (suc k) n =
    let next : n / 256 ^ suc (suc i) ≡ n / 256 ^ suc i / 256 = rw (pow-suc, div-div-eq-div-mul) in
    ap (λ (left : List ℕ). n / 256 ^ suc i % 256 ∷ left) (rw (← next) (low_first (suc (suc i)) k n))

low_le_bytes : (w : Width) (n : ℕ) → to_le_bytes w n ≡ low_bytes (byte_len w) n
low_le_bytes w n = rw low_first (rw div-one)

-- a whole list, copied into another from an index on
pub pasted : {A : Type 0} (l x : List A) (at n : ℕ) → n ≡ length x → at + length x ≤ length l → paste l at x n ≡ sets l at x
pasted l x at n e fits = paste_all l at x n e ∙ rw (e, sets-eq x l at fits, append_assoc)

-- one element's chunk more is stored from an index on, and at the end all of them
pub chunk_stored :
    {A : Type 0} (chunk : A → List ℕ) (d : A) (l : List A) (page after : List ℕ) (at next i : ℕ)
    → i < length l
    → next ≡ at + length (chunk (get_or l i d))
    → after ≡ sets page at (chunk (get_or l i d))
    → sets after next (chunked chunk (drop (i + 1) l)) ≡ sets page at (chunked chunk (drop i l))
unfolding chunked
chunk_stored chunk d l page after at next i below step e =
    let left : chunked chunk (drop i l) ≡ chunk (get_or l i d) ++ chunked chunk (drop (i + 1) l) = rw (add-one, drop-cons l i d below) in
    rw (left, step, e) (stored_run (chunk (get_or l i d)) (chunked chunk (drop (i + 1) l)) page at)

pub chunks_stored :
    {A : Type 0} (chunk : A → List ℕ) (l : List A) (page whole : List ℕ) (at i : ℕ)
    → length l ≤ i
    → sets page at (chunked chunk (drop i l)) ≡ whole
    → page ≡ whole
unfolding chunked
chunks_stored chunk l page whole at i end e = rw (drop_of_length-le l end) at e

-- so a number's bytes, copied into their part of the page
pub number_stored :
    (w : Width) (numbers page now : List ℕ) (from at k next i n : ℕ)
    → i < length numbers
    → from ≡ at
    → k ≡ byte_len w
    → next ≡ at + byte_len w
    → at + byte_len w ≤ length page
    → now ≡ to_le_bytes w n
    → n ≡ get_or numbers i 0
    → sets (put_mid from k page now) next (chunked (low_bytes (byte_len w)) (drop (i + 1) numbers))
    ≡ sets page at (chunked (low_bytes (byte_len w)) (drop i numbers))
number_stored w numbers page now from at k next i n below start part step fits bytes number =
    let low : List ℕ = low_bytes (byte_len w) (get_or numbers i 0) in
    let size : length low ≡ byte_len w = length_low (byte_len w) (get_or numbers i 0) in
    let copied : now ≡ low = bytes ∙ rw number (low_le_bytes w (get_or numbers i 0)) in
    let after : put_mid from k page now ≡ sets page at low =
    rw start (put_mid-paste at k page now low (byte_len w) copied (omega arith) (omega arith) ∙ pasted page low at (byte_len w) (omega arith) (omega arith)) in
    chunk_stored (low_bytes (byte_len w)) 0 numbers page _ at next i below (omega arith) after
