-- A call writes no more bytes than its page has, and a part of a page that is lent and comes back leaves the rest as it was.
-- Assumes nothing.
use Rattle.std.proofs.Common.{◌≡◌, ◌∙◌, ℕ, ◌≤◌, List, ◌++◌, length, take, drop, Result, Ok, Err, arith, length-take-le}
use Rattle.std.proofs.Math.Seq.{take_at, drop_at}
use Rattle.request.specs.declared.Fault.{Fault}
use Rattle.request.specs.declared.Data.{Data}
use Rattle.putting.specs.Outcomes.{Outcome, outcome, put_on, malformed, on_data, answered, value_put, Answering}
use Rattle.putting.proofs.Outcomes.{short_page, long_page}
use Rattle.quoting.specs.Quotes.{price_put, examined_and_priced}
use Rattle.interface.specs.Calls.{examined}
use Rattle.compare.specs.Records.{Call, Answers}
use Rattle.compare.specs.declared.Operation.{Operation}

-- bytes are on the page, or none of them
put_within : (own : ℕ) (bytes page : List ℕ) → (put_on own bytes page).written ≤ length page
put_within own bytes page = grind (arith, short_page own bytes page, long_page own bytes page)

data_within :
    (answer : Data → Outcome) (page : List ℕ) (d : Result Data Fault) → ((x : Data) → (answer x).written ≤ length page)
    → (on_data answer page d).written ≤ length page
unfolding on_data malformed
data_within answer page (Err fault) each = omega arith
data_within answer page (Ok x) each = each x

answering_within :
    {A : Type 0} (keeps : Data → A → Type 0) (put : A → List ℕ → Outcome) (page : List ℕ) (o : Outcome) (d : Result Data Fault)
    → ((a : A) → (put a page).written ≤ length page)
    → Answering keeps put page o d
    → o.written ≤ length page
unfolding malformed
answering_within keeps put page o (Err fault) each e = rw e (omega arith)
answering_within keeps put page o (Ok x) each (a, c, e) = rw e (each a)

pub call_within :
    (operation : Operation) (request page : List ℕ) (o : Outcome) → Call operation request page o → o.written ≤ length page
unfolding examined examined_and_priced
call_within Operation.Examine request page o e = rw e (data_within _ page _ (λ x. put_within _ _ page))
call_within Operation.Choose request page o e = answering_within _ answered page o _ (λ a. put_within _ _ page) e
call_within Operation.Built request page o e = answering_within _ value_put page o _ (λ a. put_within _ _ page) e
call_within Operation.PriceChoose request page o e = answering_within _ price_put page o _ (λ a. put_within _ _ page) e
call_within Operation.PriceExamine request page o e = rw e (data_within _ page _ (λ x. put_within _ _ page))

-- a list whose first n elements were lent, and came back as others
pub answers :
    (whole part : List ℕ) (n : ℕ) (operation : Operation) (request : List ℕ) (number written : ℕ)
    → n ≤ length whole
    → length part ≡ length (take n whole)
    → Call operation request (take n whole) (outcome number part written)
    → Answers operation request n whole (part ++ drop n whole) number written
answers whole part n operation request number written room kept called =
    let l : length part ≡ n = kept ∙ length-take-le n whole room in
    let w : written ≤ length (take n whole) = call_within operation request (take n whole) (outcome number part written) called in
    record {
      called = rw (take_at part (drop n whole) n l) called;
      others = drop_at part (drop n whole) n l;
      within = omega arith;
    }
