-- On a page that is long enough the figures stand first, eight bytes each, and the page's later bytes stay. Assumes nothing.
use mathlib.Core.Path.{ap}
use Rattle.std.proofs.Common.{◌≡◌, ◌≤◌, ◌*◌, ◌++◌, ◌∙◌, arith, length, drop, sym, ℕ}
use Rattle.words.specs.Bytes.{number_bytes}
use Rattle.words.proofs.Stores.{sets_start, length_numbers}
use Rattle.putting.specs.Outcomes.{outcome}
use Rattle.putting.proofs.Outcomes.{long_page}
use Rattle.putting.proofs.put_numbered.Goals as goal

pub returns : goal.returns
returns c =
    let bytes = number_bytes c.args.figures.now in
    let page = c.args.page.now in
    let long : length bytes ≡ 8 * length c.args.figures.now = length_numbers c.args.figures.now in
    let fits : length bytes ≤ length page = omega arith in
    rw (c.put_numbers.ensures, sets_start bytes page fits)
    (ap (λ (n : ℕ). outcome c.args.number (bytes ++ drop (length bytes) page) n) (sym long) ∙ sym (long_page c.args.number bytes page fits))
