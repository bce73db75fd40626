-- The two calls for a price: what their requests hold after the data, and what they give back, whole, for every byte string and every
-- page. Assumes nothing.
use Rattle.std.specs.Prelude.{ℕ, ◌+◌, ◌*◌, List, Result}
use Rattle.words.specs.Bytes.{word, number_bytes}
use Rattle.rules.specs.Limits.{most_bands}
use Rattle.rules.specs.Answers.{answer_number, price_figures}
use Rattle.rules.specs.Price.{examine_priced, ChosenPriced}
use Rattle.rules.specs.declared.Candidate.{Candidate}
use Rattle.rules.specs.declared.Tariff.{Tariff}
use Rattle.request.specs.Frames.{data_words, candidate_words}
use Rattle.request.specs.Layout.{decode, asked_candidate}
use Rattle.request.specs.declared.Data.{Data}
use Rattle.putting.specs.Outcomes.{Outcome, put_on, on_data, Answering}
use Rattle.rules.specs.declared.Refusal.{Refusal}
use Rattle.rules.specs.declared.PricedSheet.{PricedSheet}
use Rattle.rules.specs.Sums.{values_from}

-- the words of a tariff: the number of bands, six limits, six prices and the surcharge
abbrev pub tariff_words : ℕ
tariff_words = 2 + 2 * most_bands

-- the tariff that stands in a request from a word on
abbrev pub asked_tariff : List ℕ → ℕ → Tariff
asked_tariff bytes at =
    record {
      count = word bytes at;
      bands = values_from 0 most_bands (λ k. record { limit = word bytes (at + 1 + k); price = word bytes (at + 7 + k) });
      surcharge = word bytes (at + 13);
    }

-- a priced answer's figures on a page: the sheet's in the listing's order, then the price; zeros with a refusal
abbrev pub price_put : Result PricedSheet Refusal → List ℕ → Outcome
price_put a page = put_on (answer_number a) (number_bytes (price_figures a)) page

-- the price of the design chosen: the tariff stands after the data; the answer is one (`priced_once`)
abbrev pub PricedFor : Tariff → Data → Result PricedSheet Refusal → Type 0
PricedFor t x a = ChosenPriced x.plant x.readings t a

abbrev pub ChosenAndPriced : List ℕ → List ℕ → Outcome → Type 0
ChosenAndPriced bytes page o = Answering (PricedFor (asked_tariff bytes data_words)) price_put page o (decode bytes tariff_words)

-- the price of a candidate examined: the tariff stands after the candidate
abbrev pub priced_at : Candidate → Tariff → List ℕ → Data → Outcome
priced_at y t page x = price_put (examine_priced x.plant x.readings y t) page

unfoldable pub examined_and_priced : List ℕ → List ℕ → Outcome
examined_and_priced bytes page =
    on_data (priced_at (asked_candidate bytes) (asked_tariff bytes (data_words + candidate_words)) page) page (decode bytes (candidate_words + tariff_words))
