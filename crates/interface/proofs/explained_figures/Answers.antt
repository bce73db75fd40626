-- The first nine figures, and then those of the terms, fill the list. Assumes nothing.
use Rattle.std.proofs.Common.{◌≡◌, refl, ◌∙◌, ◌+◌, ◌*◌, length, arith}
use Rattle.words.specs.Bytes.{chunked}
use Rattle.words.proofs.Stores.{length_chunks, chunk_stored, chunks_stored}
use Rattle.rules.specs.declared.TermExplained.{TermExplained}
use Rattle.rules.specs.Explanations.{no_term_explained, term_figures, explained_figures}
use Rattle.putting.proofs.Runs.{stored_last}
use Rattle.interface.proofs.explained_figures.Goals as goal

-- a term has five figures
five : (e : TermExplained) → length (term_figures e) ≡ 5
unfolding term_figures
five e = refl

pub loop-i-preserved : goal.loop-i-preserved
unfolding term_figures
loop-i-preserved c =
    chunk_stored term_figures no_term_explained c.args.explained.now.terms c.loop-i.figures _ (9 + 5 * c.loop-i.i) (9 + 5 * (c.loop-i.i + 1)) c.loop-i.i (omega arith) (omega arith) c.store-in-loop-i.ensures
    ∙ c.loop-i.invariant

pub returns : goal.returns
unfolding explained_figures
returns c =
    let terms = c.args.explained.now.terms in
    let long : 9 + length (chunked term_figures terms) ≡ 29 = omega (arith, length_chunks term_figures 5 five terms) in
    chunks_stored term_figures terms c.loop-i.figures _ (9 + 5 * c.loop-i.i) c.loop-i.i (omega arith) c.loop-i.invariant
    ∙ rw (c.store.ensures, c.answer_number.ensures.value) (stored_last 9 _ (chunked term_figures terms) long)
