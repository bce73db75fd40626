-- Words and numbers as bytes, the lowest byte first: a word is a 32-bit unsigned number in four bytes, a number one of 64
-- bits in eight. Assumes nothing.
use Rattle.std.specs.Prelude.{ℕ, zero, suc, ◌+◌, ◌*◌, ◌/◌, ◌%◌, List, [], ◌∷◌, ◌++◌, get_or}

-- the word at the index i
unfoldable pub word : List ℕ → ℕ → ℕ
word bytes i =
    get_or bytes (4 * i) 0
    + 0x100 * get_or bytes (4 * i + 1) 0
    + 0x1_0000 * get_or bytes (4 * i + 2) 0
    + 0x100_0000 * get_or bytes (4 * i + 3) 0

-- so many words, from the index i on
unfoldable pub words_from : List ℕ → ℕ → ℕ → List ℕ
words_from bytes i zero = []
words_from bytes i (suc count) = word bytes i ∷ words_from bytes (i + 1) count

-- a number's k lowest bytes
unfoldable pub low_bytes : ℕ → ℕ → List ℕ
low_bytes zero n = []
low_bytes (suc k) n = n % 256 ∷ low_bytes k (n / 256)

-- what each element of a list gives, one after the other
unfoldable pub chunked : {A : Type 0} → (A → List ℕ) → List A → List ℕ
chunked chunk [] = []
chunked chunk (a ∷ rest) = chunk a ++ chunked chunk rest

-- the bytes of a list of numbers, eight for each
abbrev pub number_bytes : List ℕ → List ℕ
number_bytes numbers = chunked (low_bytes 8) numbers

-- and of a list of words, four for each
abbrev pub word_bytes : List ℕ → List ℕ
word_bytes words = chunked (low_bytes 4) words
