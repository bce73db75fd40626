-- Two numbers as bytes, and the words of the first of them. Assumes nothing.
use mathlib.Core.Path.{◌≡◌, refl}
use mathlib.Core.List.{[], ◌∷◌}
use Rattle.words.specs.Bytes.{word, words_from, low_bytes, chunked, number_bytes}

pub two_numbers :
    number_bytes (0x0123_4567_89ab_cdef ∷ 300 ∷ [])
    ≡ 0xef ∷ 0xcd ∷ 0xab ∷ 0x89 ∷ 0x67 ∷ 0x45 ∷ 0x23 ∷ 0x01 ∷ 0x2c ∷ 0x01 ∷ 0 ∷ 0 ∷ 0 ∷ 0 ∷ 0 ∷ 0 ∷ []
unfolding chunked low_bytes
two_numbers = refl

pub two_words : words_from (number_bytes (0x0123_4567_89ab_cdef ∷ [])) 0 2 ≡ 0x89ab_cdef ∷ 0x0123_4567 ∷ []
unfolding chunked low_bytes words_from word
two_words = refl
