-- Case A's request to choose and to examine, byte by byte: decoded, they are Case A's plant, readings and candidate. Another
-- version, a byte too many and a kind's unknown code are malformed, in this order. Assumes nothing.
use mathlib.Core.Path.{◌≡◌, refl}
use mathlib.Core.List.{List, [], ◌∷◌, ◌++◌}
use Prim.Native.Nat.{ℕ, ◌+◌}
use mathlib.Core.Bool.{true}
use lib.Ieee.{of_bits, round}
use lib.ListN.{set, take, replicate}
use Rattle.std.specs.Prelude.{Ok, Err}
use Rattle.rules.specs.Consent.{no_term}
use Rattle.rules.specs.Sums.{values_from}
use Rattle.rules.specs.Cases.{variant, case_a, f32, readings_with, readings_a, candidate}
use Rattle.rules.specs.WithoutDose.{with_dose}
use Rattle.rules.specs.WithoutTerms.{with_consent}
use Rattle.rules.specs.WithoutWay.{with_way}
use Rattle.rules.specs.declared.Consent.{Consent}
use Rattle.rules.specs.declared.Way.{Way}
use Rattle.rules.specs.declared.Split.{Split}
use Rattle.words.specs.Bytes.{word, words_from}
use Rattle.request.specs.Layout.{kinds_known, decode_words, decode, asked_candidate, asked_split, asked_line}
use Rattle.request.specs.ConsentLayout.{decode_inquiry}
use Rattle.request.specs.Frames.{plant_words, way_word, candidate_words, works_words, line_words, frame_of}
use Rattle.request.specs.declared.Fault.{Fault}

-- the words before the consent's, one a line
unfoldable pub plant_a : List ℕ
plant_a =
    0x04 ∷ 0x00 ∷ 0x00 ∷ 0x00
    ∷ 0xb0 ∷ 0x04 ∷ 0x00 ∷ 0x00
    ∷ 0x88 ∷ 0x13 ∷ 0x00 ∷ 0x00
    ∷ 0x58 ∷ 0x02 ∷ 0x00 ∷ 0x00
    ∷ 0x0c ∷ 0x00 ∷ 0x00 ∷ 0x00
    ∷ 0x14 ∷ 0x00 ∷ 0x00 ∷ 0x00
    ∷ 0x64 ∷ 0x00 ∷ 0x00 ∷ 0x00
    ∷ 0x10 ∷ 0x27 ∷ 0x00 ∷ 0x00
    ∷ 0xe8 ∷ 0x03 ∷ 0x00 ∷ 0x00
    ∷ 0x78 ∷ 0x00 ∷ 0x00 ∷ 0x00
    ∷ 0xc8 ∷ 0x00 ∷ 0x00 ∷ 0x00
    ∷ 0x28 ∷ 0x23 ∷ 0x00 ∷ 0x00
    ∷ 0xe8 ∷ 0x03 ∷ 0x00 ∷ 0x00
    ∷ 0x88 ∷ 0x13 ∷ 0x00 ∷ 0x00
    ∷ 0x00 ∷ 0x00 ∷ 0x00 ∷ 0x00
    ∷ 0x00 ∷ 0x00 ∷ 0x00 ∷ 0x00
    ∷ 0x00 ∷ 0x00 ∷ 0x00 ∷ 0x00
    ∷ 0x00 ∷ 0x00 ∷ 0x00 ∷ 0x00
    ∷ 0x00 ∷ 0x00 ∷ 0x00 ∷ 0x00
    ∷ 0x00 ∷ 0x00 ∷ 0x00 ∷ 0x00
    ∷ 0x00 ∷ 0x00 ∷ 0x48 ∷ 0x43
    ∷ 0x00 ∷ 0x00 ∷ 0x00 ∷ 0x00
    ∷ 0x00 ∷ 0x00 ∷ 0xc8 ∷ 0x43
    ∷ 0x00 ∷ 0x00 ∷ 0x00 ∷ 0x00
    ∷ 0x00 ∷ 0x00 ∷ 0x16 ∷ 0x43
    ∷ 0x00 ∷ 0x00 ∷ 0x00 ∷ 0x00
    ∷ 0x00 ∷ 0x00 ∷ 0x38 ∷ 0x42
    ∷ 0x00 ∷ 0x00 ∷ 0x00 ∷ 0x00
    ∷ 0x00 ∷ 0x00 ∷ 0x00 ∷ 0x41
    ∷ 0x00 ∷ 0x00 ∷ 0x00 ∷ 0x00
    ∷ []

-- the data: with a consent without terms, by BOD
unfoldable pub data_a : List ℕ
data_a = plant_a ++ replicate 104 0

-- with the candidate's words
unfoldable pub request_a : List ℕ
request_a = data_a ++ (0x2c ∷ 0x01 ∷ 0x00 ∷ 0x00 ∷ 0x4b ∷ 0x00 ∷ 0x00 ∷ 0x00 ∷ 0x14 ∷ 0x00 ∷ 0x00 ∷ 0x00 ∷ [])

pub case_a_lem :
    (decode data_a 0 ≡ Ok (record { plant = case_a; readings = readings_a }))
    × (decode request_a candidate_words ≡ Ok (record { plant = case_a; readings = readings_a }))
    × (asked_candidate request_a ≡ candidate 300 75 20)
unfolding plant_a data_a request_a frame_of decode decode_words words_from values_from word of_bits case_a variant readings_a readings_with f32 round candidate
case_a_lem = (refl, refl, refl)

-- a dose of 65,539, the last word before the consent's
pub dosed : decode (set (set data_a 116 3) 118 1) 0 ≡ Ok (record { plant = with_dose 65_539 case_a; readings = readings_a })
unfolding plant_a data_a frame_of decode decode_words words_from values_from word of_bits case_a variant with_dose readings_a readings_with f32 round
dosed = refl

-- a term from 1 November to 30 April at 8 degrees with a target of 13,000, the first of one; and the same terms with 29 February
-- asked for
pub consent_a : List ℕ
consent_a = 1 ∷ 0 ∷ 0 ∷ 0 ∷ 11 ∷ 0 ∷ 0 ∷ 0 ∷ 1 ∷ 0 ∷ 0 ∷ 0 ∷ 4 ∷ 0 ∷ 0 ∷ 0 ∷ 30 ∷ 0 ∷ 0 ∷ 0 ∷ 8 ∷ 0 ∷ 0 ∷ 0 ∷ 0xc8 ∷ 0x32 ∷ 0 ∷ 0 ∷ replicate 72 0

abbrev winter : Consent
winter =
    record {
      count = 1;
      terms =
          record { first = record { month = 11; day = 1 }; last = record { month = 4; day = 30 }; temperature = 8; nitrate_target = 13_000 }
          ∷ no_term
          ∷ no_term
          ∷ no_term
          ∷ [];
    }

pub termed : decode (plant_a ++ (consent_a ++ replicate 4 0)) 0 ≡ Ok (record { plant = with_consent winter case_a; readings = readings_a })
unfolding plant_a consent_a frame_of decode decode_words words_from values_from word of_bits case_a variant with_consent readings_a readings_with f32 round
termed = refl

-- the way by COD, the word after the consent's
pub by_cod_lem : decode (set data_a 220 1) 0 ≡ Ok (record { plant = with_way Way.Cod case_a; readings = readings_a })
unfolding plant_a data_a frame_of decode decode_words words_from values_from word of_bits case_a variant with_way readings_a readings_with f32 round
by_cod_lem = refl

pub asked :
    decode_inquiry ((4 ∷ 0 ∷ 0 ∷ 0 ∷ []) ++ (consent_a ++ (2 ∷ 0 ∷ 0 ∷ 0 ∷ 29 ∷ 0 ∷ 0 ∷ 0 ∷ [])))
    ≡ Ok (record { consent = winter; date = record { month = 2; day = 29 } })
unfolding consent_a frame_of decode_inquiry values_from word
asked = refl

-- a works of three lines with the shares 400, 350 and 250, and its second line
unfoldable pub works_a : List ℕ
works_a =
    data_a
    ++ (3 ∷ 0 ∷ 0 ∷ 0 ∷ 0x90 ∷ 0x01 ∷ 0 ∷ 0 ∷ 0x5e ∷ 0x01 ∷ 0 ∷ 0 ∷ 0xfa ∷ 0 ∷ 0 ∷ 0 ∷ replicate 20 0)

unfoldable pub line_a : List ℕ
line_a = works_a ++ (2 ∷ 0 ∷ 0 ∷ 0 ∷ [])

abbrev split_a : Split
split_a = record { count = 3; shares = 400 ∷ 350 ∷ 250 ∷ 0 ∷ 0 ∷ 0 ∷ 0 ∷ 0 ∷ [] }

pub lined :
    (decode works_a works_words ≡ Ok (record { plant = case_a; readings = readings_a }))
    × (decode line_a line_words ≡ Ok (record { plant = case_a; readings = readings_a }))
    × (asked_split works_a ≡ split_a)
    × (asked_split line_a ≡ split_a)
    × (asked_line line_a ≡ 2)
unfolding plant_a data_a works_a line_a frame_of decode decode_words words_from values_from word of_bits case_a variant readings_a readings_with f32 round
lined = (refl, refl, refl, refl, refl)

-- malformed in more than one way, the first test decides: a request of version 3 as it was, with a word less, whatever its kinds;
-- a byte too many, whatever its kinds; and no first word at all
pub earlier_version : decode (take 220 (set (set data_a 0 3) 56 5)) 0 ≡ Err Fault.Version
unfolding plant_a data_a frame_of decode word
earlier_version = refl

pub too_long : decode (set request_a 56 5 ++ (0 ∷ [])) candidate_words ≡ Err Fault.Length
unfolding plant_a data_a request_a frame_of decode word
too_long = refl

pub too_short : decode (1 ∷ 0 ∷ 0 ∷ []) 0 ≡ Err Fault.Length
unfolding frame_of decode
too_short = refl

-- a kind, by its byte of the request: its last code is known, and the one after it is malformed
abbrev KnownTo : ℕ → ℕ → Type 0
KnownTo byte last =
    (kinds_known (words_from (set request_a byte last) 0 plant_words) (word (set request_a byte last) way_word) ≡ true)
    × (decode (set request_a byte (last + 1)) candidate_words ≡ Err Fault.Kind)

-- all eleven kinds: the process, the precipitant, the tank flow, the sludge removal, the primary settling, the five readings and the
-- way
pub known_kinds :
    KnownTo 56 4
    × KnownTo 60 1
    × KnownTo 64 1
    × KnownTo 68 2
    × KnownTo 72 2
    × KnownTo 76 2
    × KnownTo 84 2
    × KnownTo 92 2
    × KnownTo 100 2
    × KnownTo 108 2
    × KnownTo 220 1
unfolding plant_a data_a request_a frame_of decode decode_words words_from word
known_kinds = ((refl, refl), (refl, refl), (refl, refl), (refl, refl), (refl, refl), (refl, refl), (refl, refl), (refl, refl), (refl, refl), (refl, refl), (refl, refl))

-- each call takes its own length alone
pub own_words :
    (decode request_a 0 ≡ Err Fault.Length)
    × (decode data_a candidate_words ≡ Err Fault.Length)
    × (decode data_a works_words ≡ Err Fault.Length)
    × (decode works_a line_words ≡ Err Fault.Length)
    × (decode line_a works_words ≡ Err Fault.Length)
unfolding plant_a data_a request_a works_a line_a frame_of decode word
own_words = (refl, refl, refl, refl, refl)
