-- The two outcomes of writing a listing, by the test of its length: it fits, or it is longer than the page.
-- Assumes nothing.
use mathlib.Core.Path.{◌≡◌, refl, sym, ap, ◌∙◌}
use mathlib.Core.List.{List, ◌++◌, append-nil}
use Prim.Native.Nat.{ℕ, ◌≤◌, ◌<◌}
use native.Mathlib.Nat.{zero-add}
use native.Mathlib.Decide.{dec_le}
use native.Mathlib.Omega.{arith}
use lib.ListN.{length, drop, length-append, drop_of_length-le}
use lib.Seq.{sets, sets-eq}
use borrow.Author.Tests.{le-leb, lt-leb}
use Rattle.std.specs.Prelude.{Result, Ok, Err}
use Rattle.rules.specs.Listing.{listing, listing_length, writing, page_after}
use Rattle.rules.specs.Outcomes.{ByLength}
use Rattle.rules.specs.declared.Refusal.{Refusal}
use Rattle.rules.specs.Results.{Answer}
use Rattle.listing.specs.Pages.{Writes}

-- where the bytes fit: their number, and the page with them in front
module _ (bytes page : List ℕ) (room : length bytes ≤ length page) where
  pub writing_fits : writing bytes page ≡ Ok (length bytes)
  unfolding writing
  writing_fits = rw (le-leb (length bytes) (length page) room)

  pub page_fits : page_after bytes page ≡ bytes ++ drop (length bytes) page
  unfolding page_after
  page_fits = rw (le-leb (length bytes) (length page) room)

-- where they are longer than the page: 11, and the page as it was
module _ (bytes page : List ℕ) (long : length page < length bytes) where
  pub writing_long : writing bytes page ≡ Err Refusal.ShortPage
  unfolding writing
  writing_long = rw (lt-leb (length bytes) (length page) long)

  pub page_long : page_after bytes page ≡ page
  unfolding page_after
  page_long = rw (lt-leb (length bytes) (length page) long)

-- what the code has shown is the promise, in each of the two
pub fits :
    (answer : Answer) (page after : List ℕ) (count : ℕ) → length (listing answer) ≤ length page → count ≡ length (listing answer)
    → after ≡ sets page 0 (listing answer) → Writes answer page after (Ok count)
fits answer page after count room c e =
    let start : sets page 0 (listing answer) ≡ listing answer ++ drop (length (listing answer)) page = rw zero-add at (sets-eq (listing answer) page 0 (omega arith)) in
    record {
      result = ap Ok c ∙ sym (writing_fits (listing answer) page room);
      page = e ∙ start ∙ sym (page_fits (listing answer) page room);
    }

pub too_long :
    (answer : Answer) (page : List ℕ) → length page < length (listing answer)
    → Writes answer page page (Err Refusal.ShortPage)
too_long answer page long = record { result = sym (writing_long (listing answer) page long); page = sym (page_long (listing answer) page long) }

-- a page of just the listing's length, and one a byte shorter
pub by_length :
    (answer : Answer) (before after : List ℕ) (r : Result ℕ Refusal) → Writes answer before after r
    → ByLength answer before after r
by_length answer before after r w =
    record {
      exact = λ e.
          let room : listing_length answer ≤ length before = omega (arith, e) in
          let end : length before ≤ listing_length answer = omega (arith, e) in (
            w.result ∙ writing_fits (listing answer) before room,
            w.page ∙ page_fits (listing answer) before room ∙ rw (drop_of_length-le before end, append-nil) refl,
          );
      one_byte_short = λ e.
          let short : length before < listing_length answer = omega (arith, e) in
          (w.result ∙ writing_long (listing answer) before short, w.page ∙ page_long (listing answer) before short);
    }

-- a number of bytes that writing gives is within the page
pub bytes_within :
    (answer : Answer) (page after : List ℕ) (count : ℕ) → Writes answer page after (Ok count) → count ≤ length after
bytes_within answer page after count w =
    elim (dec_le (length (listing answer)) (length page)) [
      | yes room ↦
          let r : Ok count ≡ Ok (length (listing answer)) = w.result ∙ writing_fits (listing answer) page room in
          let n : count ≡ length (listing answer) = cc in
          rw (w.page ∙ page_fits (listing answer) page room, length-append) (omega arith)
      | no short ↦
          let r : Ok count ≡ Err Refusal.ShortPage = w.result ∙ writing_long (listing answer) page (omega arith) in
          let z : ◌≡◌ {A = ℕ} 0 1 = cc in
          absurd (omega arith)
    ]
