-- `works` meets its contract: a refusal of the whole data stands; else the lines' answers are the ones that the works is put together from.
-- Assumes nothing.
use Rattle.std.proofs.Common.{◌≡◌, ℕ, ◌≤◌, ◌<◌, Bool, ◌∷◌, length, take, sym, ap, subst, ◌∙◌, arith}
use Rattle.std.proofs.lemmas.Result.{err_from_is_err_and}
use Rattle.rules.specs.Results.{Acceptance}
use Rattle.rules.specs.Rules.{rule, verdict}
use Rattle.rules.specs.Accepting.{values_of, data_rules, accept_by}
use Rattle.rules.specs.Lines.{split_valid, line_of, LineChosen}
use Rattle.rules.specs.Works.{works_rules, accept_works, works_of, WorksAccepted}
use Rattle.rules.specs.declared.Plant.{Plant}
use Rattle.rules.specs.declared.Readings.{Readings}
use Rattle.rules.specs.declared.Split.{Split}
use Rattle.rules.specs.declared.Refusal.{Refusal}
use Rattle.rules.proofs.LineLaws.{valid_split}
use Rattle.rules.proofs.WorksOutcomes.{works_ranges}
use Rattle.works.specs.Entries.{answer_at}
use Rattle.works.proofs.Filled.{lines_taken, lines_bounded, taken_bounded}
use Rattle.works.proofs.works.Goals as goal

-- what is answered for the whole data
accepted :
    (p : Plant) (r : Readings) (split : Split) (b : Bool) (o : Acceptance)
    → b ≡ split_valid split
    → o ≡ accept_by (verdict (rule Refusal.Lines b ∷ data_rules p r)) (values_of p r)
    → accept_works p r split ≡ o
unfolding accept_works works_rules
accepted p r split b o e h = sym (h ∙ ap (λ (v : Bool). accept_by (verdict (rule Refusal.Lines v ∷ data_rules p r)) (values_of p r)) e)

pub invariant_of-lines : goal.invariant_of-lines
invariant_of-lines c = record {
  valid = (works_ranges c.args.plant c.args.readings c.args.split _ (accepted _ _ _ _ _ c.split_valid.ensures c.in_ok-accepted.ensures.value)).valid;
}

-- the answers are as many as the split has lines, in an array of eight, each the line's own
chosen :
    (c : goal.After-answers-answers)
    → let answers = c.answers-answers.result in
    let n = c.args.split.count in
    (n ≤ length answers) × (length (take n answers) ≡ n) × ((i : ℕ) → i < n → LineChosen (line_of c.args.plant c.args.split i) c.in_ok-accepted.accepted.concentrations (answer_at (take n answers) i))
chosen c =
    lines_taken _ _ _ c.args.split.count c.answers-answers.result (valid_split c.args.split (invariant_of-lines c.before.before.before).valid).lines.most
    (rw c.in_ok-accepted.ensures.plant at c.answers-answers.ensures)

pub slice_bounds-answers-end : goal.slice_bounds-answers-end
slice_bounds-answers-end c = (chosen c).0

pub slice_bounds-put_together-end : goal.slice_bounds-put_together-end
slice_bounds-put_together-end c = sym (chosen c.before).1

pub put_together-requires : goal.put_together-requires
put_together-requires c =
    let known = c.in_ok-accepted.accepted in
    let valid = (invariant_of-lines c.before.before.before.before).valid in
    let bounds = lines_bounded known.plant known.concentrations c.args.split c.answers-answers.result known.plant_ranges known.concentration_ranges valid c.answers-answers.ensures in
    (omega (arith, (valid_split c.args.split valid).lines, (chosen c.before).1), taken_bounded c.args.split.count c.answers-answers.result (chosen c.before).0 bounds)

pub returns-in_err-accepted : goal.returns-in_err-accepted
returns-in_err-accepted c =
    let p = err_from_is_err_and c.from_residual.result c.from_residual.ensures.1 in
    rw (accepted c.args.plant c.args.readings c.args.split _ _ c.split_valid.ensures c.in_err-accepted.ensures.value, p.1, p.2)

pub returns : goal.returns
returns c =
    let e = accepted c.args.plant c.args.readings c.args.split _ _ c.split_valid.ensures c.in_ok-accepted.ensures.value in
    let all = chosen c.before.before in
    let answers = answer_at (take c.args.split.count c.answers-answers.result) in
    subst (WorksAccepted c.args.plant c.args.split c.put_together.result) (sym e)
    (record { answers = answers; each = all.2; together = c.put_together.ensures ∙ ap (works_of answers) all.1 })
