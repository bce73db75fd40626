-- `figures` meets its contract: sums and sheets stored in a list of their size are the list. Assumes nothing.
use mathlib.Core.Path.{◌≡◌, refl, ap, ◌∙◌}
use mathlib.Core.List.{List, ◌++◌, append-nil}
use Prim.Native.Nat.{ℕ, ◌+◌, ◌*◌, ◌<◌}
use native.Mathlib.Omega.{arith}
use lib.ListN.{length, get_or, drop, length-append, drop_of_length-le}
use lib.Seq.{sets}
use Rattle.words.specs.Bytes.{chunked}
use Rattle.words.proofs.Stores.{stored_run, sets_start, length_chunks, chunk_stored, chunks_stored}
use Rattle.rules.specs.Limits.{most_lines}
use Rattle.rules.specs.Answers.{empty_sheet, sheet_figures}
use Rattle.rules.specs.Works.{sum_figures, works_figures}
use Rattle.rules.specs.declared.Sheet.{Sheet}
use Rattle.rules.specs.declared.Works.{Works}
use Rattle.works.specs.Entries.{works_count}
use Rattle.works.proofs.figures.Goals as goal

-- a sheet has fifteen figures
fifteen : (s : Sheet) → length (sheet_figures s) ≡ 15
unfolding sheet_figures
fifteen s = refl

-- one sheet more is stored
next :
    (sheets : List Sheet) (list after : List ℕ) (i : ℕ)
    → i < length sheets
    → after ≡ sets list (8 + 15 * i) (sheet_figures (get_or sheets i empty_sheet))
    → sets after (8 + 15 * (i + 1)) (chunked sheet_figures (drop (i + 1) sheets)) ≡ sets list (8 + 15 * i) (chunked sheet_figures (drop i sheets))
next sheets list after i below e =
    let step : 8 + 15 * (i + 1) ≡ 8 + 15 * i + length (sheet_figures (get_or sheets i empty_sheet)) = omega (arith, fifteen (get_or sheets i empty_sheet)) in
    chunk_stored sheet_figures empty_sheet sheets list after (8 + 15 * i) (8 + 15 * (i + 1)) i below step e

-- sums and sheets stored in a list of their size are the list
whole :
    (w : Works) (list summed filled : List ℕ)
    → length w.sheets ≡ most_lines
    → length list ≡ works_count
    → summed ≡ sets list 0 (sum_figures w.sums)
    → filled ≡ sets summed 8 (chunked sheet_figures w.sheets)
    → filled ≡ works_figures w
unfolding works_figures sum_figures
whole w list summed filled sheets size e f =
    let sums = sum_figures w.sums in
    let rest = chunked sheet_figures w.sheets in
    let long : length rest ≡ 15 * length w.sheets = length_chunks sheet_figures 15 fifteen w.sheets in
    let all : length (sums ++ rest) ≡ works_count = length-append sums rest ∙ omega (arith, long) in
    let none : drop (length (sums ++ rest)) list ≡ drop works_count list = ap (λ (n : ℕ). drop n list) all in
    f
    ∙ (ap (λ (l : List ℕ). sets l 8 rest) e
    ∙ (stored_run sums rest list 0
    ∙ (sets_start (sums ++ rest) list (omega arith) ∙ (ap (λ (l : List ℕ). sums ++ rest ++ l) (none ∙ drop_of_length-le list {i = works_count} (omega arith)) ∙ append-nil (sums ++ rest)))))

pub loop-i-init : goal.loop-i-init
loop-i-init c = refl

pub loop-i-preserved : goal.loop-i-preserved
unfolding empty_sheet
loop-i-preserved c =
    next c.args.works.sheets c.loop-i.figures _ c.loop-i.i (omega arith) (c.store-in-loop-i.ensures ∙ ap (sets c.loop-i.figures (8 + 15 * c.loop-i.i)) c.figures.ensures.value)
    ∙ c.loop-i.invariant

pub returns : goal.returns
unfolding sum_figures
returns c =
    let sheets = c.args.works.sheets in
    let all = chunks_stored sheet_figures sheets c.loop-i.figures _ (8 + 15 * c.loop-i.i) c.loop-i.i (omega arith) c.loop-i.invariant in
    whole c.args.works c.args.figures.now c.store.new.list c.loop-i.figures (omega arith) c.requires c.store.ensures all
