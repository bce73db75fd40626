-- Wrong readings of a record differ from the definitions on concrete data: Case A's listing is 194 bytes long, so that a page
-- of one byte more than the 193 asked for gives another number. Assumes nothing.
use Rattle.std.proofs.Common.{◌≡◌, refl, ℕ, List, [], ◌∷◌, replicate, Option, Some, None}
use lib.Ieee.{of_bits}
use Rattle.words.specs.Bytes.{word, words_from}
use Rattle.rules.specs.Sums.{values_from}
use Rattle.rules.specs.Listing.{writing}
use Rattle.rules.proofs.Computing.{steps}
use Rattle.request.specs.Layout.{decode_words, decode}
use Rattle.request.specs.Frames.{frame_of}
use Rattle.request.proofs.CaseA.{plant_a, data_a, request_a}
use Rattle.putting.specs.Outcomes.{number_of, put_on, on_data}
use Rattle.interface.specs.Calls.{examined}
use Rattle.compare.specs.Records.{operation_of, header_with, header_of}
use Rattle.compare.specs.declared.Operation.{Operation}
use Rattle.compare.specs.declared.Header.{Header}

-- Case A examined on a page of this length: the number
abbrev pub number_on : ℕ → ℕ
number_on room = (examined request_a (replicate room 0)).number

pub page_lengths : (number_on 193 ≡ 11) × (number_on 194 ≡ 0)
unfolding steps examined on_data put_on number_of plant_a data_a request_a frame_of decode decode_words words_from values_from word of_bits writing
page_lengths = (refl, refl)

-- a header of three words of two bytes
abbrev pub header : ℕ → ℕ → ℕ → ℕ → ℕ → ℕ → List ℕ
header a b c d e f = a ∷ b ∷ 0 ∷ 0 ∷ c ∷ d ∷ 0 ∷ 0 ∷ e ∷ f ∷ 0 ∷ 0 ∷ []

-- what it asks for
abbrev pub asked : Operation → ℕ → ℕ → Option Header
asked operation length room = Some (record { operation = operation; length = length; room = room })

pub page_of_512 : header_of (header 0 0 0 2 1 2) ≡ asked Operation.Examine 513 512
unfolding header_of header_with operation_of word
page_of_512 = refl

pub page_of_513 : header_of (header 0 0 1 2 0 0) ≡ None
unfolding header_of header_with operation_of word
page_of_513 = refl

pub request_of_4096 : header_of (header 1 0 0 0 0 16) ≡ asked Operation.Choose 4_096 0
unfolding header_of header_with operation_of word
request_of_4096 = refl

pub request_of_4097 : header_of (header 1 0 0 0 1 16) ≡ None
unfolding header_of header_with operation_of word
request_of_4097 = refl

-- its first byte alone would be read as a request to choose
pub operation_257 : header_of (header 1 1 0 2 0 0) ≡ None
unfolding header_of header_with operation_of word
operation_257 = refl

-- the codes of existing tanks and of prices, with their requests' lengths, and the first that is none
pub operations :
    (header_of (header 2 0 8 0 252 0) ≡ asked Operation.Built 252 8)
    × (header_of (header 3 0 128 0 24 1) ≡ asked Operation.PriceChoose 280 128)
    × (header_of (header 4 0 128 0 36 1) ≡ asked Operation.PriceExamine 292 128)
    × (header_of (header 5 0 128 0 36 1) ≡ None)
unfolding header_of header_with operation_of word
operations = (refl, refl, refl, refl)
