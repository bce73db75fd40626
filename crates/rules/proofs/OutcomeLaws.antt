-- The number, the sheet, the figures and the count that an answer carries are what the calls promise of them. Each goes
-- by the answer's cases. Assumes nothing.
use mathlib.Core.Logic.{inl, inr}
use mathlib.Core.Path.{◌≡◌, refl, ap, sym, ◌∙◌, subst}
use mathlib.Core.Bool.{Bool, true, false, cond}
use mathlib.Core.List.{List, [], ◌∷◌}
use Prim.Native.Nat.{ℕ, zero, suc, ◌+◌, ◌≤◌, ◌<◌}
use native.Mathlib.Omega.{arith}
use lib.Dec.{leb}
use lib.ListN.{length}
use borrow.Author.Tests.{leb-true, leb-false}
use Rattle.std.specs.Prelude.{Result, Ok, Err}
use Rattle.std.proofs.lemmas.Bool.{cond_both}
use Rattle.rules.specs.Sums.{values_from}
use Rattle.rules.specs.Rules.{verdict, after}
use Rattle.rules.specs.Accepting.{values_of, data_rules, accept_by, accept}
use Rattle.rules.specs.AgeNitrate.{on_grid}
use Rattle.rules.specs.Examining.{grid_rule, examine}
use Rattle.rules.specs.Answers.{refusal_number, empty_sheet, answer_number, answer_sheet, written_count, sheet_figures}
use Rattle.rules.specs.Explanations.{explanation_figures, term_figures, explained_figures}
use Rattle.rules.specs.Choosing.{grid, ChosenAccepted, Chosen, Least}
use Rattle.rules.specs.Explaining.{candidate_explained, explain_candidate, explain_accepted, explain, explanation_rules}
use Rattle.rules.specs.Listing.{listing, writing}
use Rattle.rules.specs.Outcomes.{AllZero, Examined, ChosenOutcome, ExplainedOutcome, WritingOutcome}
use Rattle.rules.specs.declared.Plant.{Plant}
use Rattle.rules.specs.declared.Readings.{Readings}
use Rattle.rules.specs.declared.Concentrations.{Concentrations}
use Rattle.rules.specs.declared.Candidate.{Candidate}
use Rattle.rules.specs.declared.Refusal.{Refusal}
use Rattle.rules.specs.Results.{Verdict}
use Rattle.rules.specs.Results.{Acceptance}
use Rattle.rules.specs.Results.{Answer}
use Rattle.rules.specs.declared.Explained.{Explained}
use Rattle.rules.proofs.RuleLists.{all_kept_verdict, broken_verdict, verdict_append}
use Rattle.rules.proofs.AcceptedData.{accepted_none_due, data_refused_when_due}
use Rattle.rules.proofs.Examined.{refused_when_due, sheet_when_kept}
use Rattle.words.specs.Bytes.{chunked}

-- the sheet of a refusal is fifteen zeros
pub empty_zeros : AllZero (sheet_figures empty_sheet)
unfolding empty_sheet sheet_figures
empty_zeros = (refl, (refl, (refl, (refl, (refl, (refl, (refl, (refl, (refl, (refl, (refl, (refl, (refl, (refl, (refl, tt)))))))))))))))

-- examining
pub examined_outcome : (p : Plant) (r : Readings) (y : Candidate) (a : Answer) → a ≡ examine p r y → Examined p r y (answer_number a) (answer_sheet a)
unfolding answer_number answer_sheet
examined_outcome p r y (Ok s) e =
    let h = (sheet_when_kept p r y s).0 (sym e) in
    inl (record { numbered = refl; kept = h.0; figures = sym h.1 })
examined_outcome p r y (Err n) e =
    inr (record { refusal = n; is_due = (refused_when_due p r y n).0 (sym e); numbered = refl; zeros = empty_zeros })

-- choosing
pub chosen_outcome : (p : Plant) (r : Readings) (a : Answer) → Chosen p r a → ChosenOutcome p r (answer_number a) (answer_sheet a)
unfolding answer_number answer_sheet
chosen_outcome p r (Ok s) h = go (accept p r) refl h
  where
    go : (o : Acceptance) → accept p r ≡ o → ChosenAccepted p (Ok s) o → ChosenOutcome p r 0 s
    go (Err n) q e = cc
    go (Ok x) q l =
        let given = accepted_none_due p r x q in
        inl (record { numbered = refl; kept = given.0; least = subst (λ (v : Concentrations). Least p v (grid p) s) (sym given.1) l })
chosen_outcome p r (Err n) h = go (accept p r) refl h
  where
    go : (o : Acceptance) → accept p r ≡ o → ChosenAccepted p (Err n) o → ChosenOutcome p r (refusal_number n) empty_sheet
    go (Err m) q e =
        let same : m ≡ n = cc in
        inr (record { refusal = n; is_due = inl ((data_refused_when_due p r n).0 (q ∙ ap Err same)); numbered = refl; zeros = empty_zeros })
    go (Ok x) q l =
        let given = accepted_none_due p r x q in
        inr (record { refusal = n; is_due = inr (l.0, record { kept = given.0; none = λ y g t. l.1 y g (rw given.1 at t) }); numbered = refl; zeros = empty_zeros })

-- a list of zeros
pub zeros : (a n : ℕ) → AllZero (values_from a n (λ k. 0))
unfolding values_from
zeros a zero = tt
zeros a (suc n) = (refl, zeros (a + 1) n)

-- explaining: what a verdict on the data's rules and 6 makes of the figures
explain_by : Verdict → Explained → Result Explained Refusal
explain_by (Ok u) e = Ok e
explain_by (Err n) e = Err n

explain_by_rules : (p : Plant) (r : Readings) (y : Candidate) → explain p r y ≡ explain_by (verdict (explanation_rules p r y)) (candidate_explained p (values_of p r) y)
unfolding explain explain_accepted explain_candidate accept accept_by explanation_rules explain_by
explain_by_rules p r y =
    go (verdict (data_rules p r))
    ∙ ap (λ (v : Verdict). explain_by v figures) (sym (verdict_append (data_rules p r) (grid_rule p y ∷ [])))
  where
    figures : Explained
    figures = candidate_explained p (values_of p r) y

    grid_kept : (b : Bool) → cond b (Ok figures) (Err Refusal.OffGrid) ≡ explain_by (cond b (Ok tt) (Err Refusal.OffGrid)) figures
    grid_kept true = refl
    grid_kept false = refl

    go : (v : Verdict) → explain_accepted p y (accept_by v (values_of p r)) ≡ explain_by (after v (verdict (grid_rule p y ∷ []))) figures
    go (Ok u) = grid_kept (on_grid p.tank y)
    go (Err n) = refl

pub explained_outcome : (p : Plant) (r : Readings) (y : Candidate) (e : Result Explained Refusal) → e ≡ explain p r y → ExplainedOutcome p r y (answer_number e) (explanation_figures e)
unfolding answer_number explanation_figures explained_figures term_figures explain_by values_from chunked
explained_outcome p r y e q = go (verdict (explanation_rules p r y)) refl e (q ∙ explain_by_rules p r y)
  where
    go :
        (v : Verdict)
        → verdict (explanation_rules p r y) ≡ v
        → (e : Result Explained Refusal)
        → e ≡ explain_by v (candidate_explained p (values_of p r) y)
        → ExplainedOutcome p r y (answer_number e) (explanation_figures e)
    go (Ok u) k (Ok f) h = inl (record { numbered = refl; kept = (all_kept_verdict (explanation_rules p r y)).1 k; values = cc })
    go (Ok u) k (Err n) h = cc
    go (Err m) k (Ok f) h = cc
    go (Err m) k (Err n) h =
        let same : m ≡ n = cc in
        inr (record { refusal = n; is_due = (broken_verdict (explanation_rules p r y) n).1 (k ∙ ap Err same); numbered = refl; zeros = zeros 0 29 })

-- writing
pub writing_outcome : (a : Answer) (page : List ℕ) (w : Result ℕ Refusal) → w ≡ writing (listing a) page → WritingOutcome a page (answer_number w) (written_count w)
unfolding writing answer_number written_count
writing_outcome a page w e =
    rw e
    (cond_both (leb (length (listing a)) (length page)) (Ok (length (listing a))) (Err Refusal.ShortPage)
    (λ (v : Result ℕ Refusal). WritingOutcome a page (answer_number v) (written_count v))
    (λ q. record { fits = λ h. (refl, refl); short = λ h. absurd (let l : length (listing a) ≤ length page = leb-true _ _ q in omega arith) })
    (λ q. record { fits = λ h. absurd (let l : length page < length (listing a) = leb-false _ _ q in omega arith); short = λ h. (refl, refl) }))
