-- `line` meets its contract: a refusal of the split, the number or the whole data stands; else the answer is the line's own. Assumes nothing.
use Rattle.std.proofs.Common.{◌≡◌, ◌-◌, Bool, ◌&&◌, ◌∷◌, Ok, sym, ap, subst, ◌∙◌, arith, ℕ}
use Rattle.std.proofs.lemmas.Result.{err_from_is_err_and}
use lib.Dec.{T}
use Rattle.rules.specs.Results.{Acceptance}
use Rattle.rules.specs.Rules.{rule, verdict}
use Rattle.rules.specs.PlantData.{within}
use Rattle.rules.specs.Ranges.{Between}
use Rattle.rules.specs.Accepting.{values_of, data_rules, accept_by}
use Rattle.rules.specs.Lines.{split_valid, line_of, line_rules, accept_line, LineAccepted}
use Rattle.rules.specs.declared.Plant.{Plant}
use Rattle.rules.specs.declared.Readings.{Readings}
use Rattle.rules.specs.declared.Split.{Split}
use Rattle.rules.specs.declared.Concentrations.{Concentrations}
use Rattle.rules.specs.declared.Refusal.{Refusal}
use Rattle.rules.proofs.Tests.{within_between}
use Rattle.rules.proofs.LineOutcomes.{line_accepted}
use Rattle.works.proofs.line.Goals as goal

module _ (p : Plant) (r : Readings) (split : Split) (number : ℕ) {b : Bool} (valid : b ≡ (split_valid split && within 1 split.count number)) where
  -- what is answered for the split, the number and the whole data
  answered : (o : Acceptance) → o ≡ accept_by (verdict (rule Refusal.Lines b ∷ data_rules p r)) (values_of p r) → accept_line p r split number ≡ o
  unfolding accept_line line_rules
  answered o h = sym (h ∙ ap (λ (v : Bool). accept_by (verdict (rule Refusal.Lines v ∷ data_rules p r)) (values_of p r)) valid)

  -- what follows where they are accepted
  known : (x : Concentrations) → Ok x ≡ accept_by (verdict (rule Refusal.Lines b ∷ data_rules p r)) (values_of p r) → T (split_valid split) × Between 1 split.count number
  known x h = let given = line_accepted p r split number x (answered (Ok x) h) in (given.0.valid, (within_between 1 split.count number).0 given.1)

pub overflow_sub-number : goal.overflow_sub-number
overflow_sub-number c =
    (known c.args.plant c.args.readings c.args.split c.args.number c.line_valid.ensures c.in_ok-accepted.accepted.concentrations c.in_ok-accepted.ensures.value).1.least

pub invariant_of-lines : goal.invariant_of-lines
invariant_of-lines c = record {
  valid = (known c.args.plant c.args.readings c.args.split c.args.number c.line_valid.ensures c.in_ok-accepted.accepted.concentrations c.in_ok-accepted.ensures.value).0;
}

pub answer-requires : goal.answer-requires
answer-requires c =
    omega (arith, (known c.args.plant c.args.readings c.args.split c.args.number c.line_valid.ensures c.in_ok-accepted.accepted.concentrations c.in_ok-accepted.ensures.value).1)

pub returns-in_err-accepted : goal.returns-in_err-accepted
returns-in_err-accepted c =
    let p = err_from_is_err_and c.from_residual.result c.from_residual.ensures.1 in
    rw (answered c.args.plant c.args.readings c.args.split c.args.number c.line_valid.ensures _ c.in_err-accepted.ensures.value, p.1, p.2)

pub returns : goal.returns
returns c =
    subst (LineAccepted (line_of c.args.plant c.args.split (c.args.number - 1)) c.answer.result)
    (sym (answered c.args.plant c.args.readings c.args.split c.args.number c.line_valid.ensures _ c.in_ok-accepted.ensures.value))
    (rw c.in_ok-accepted.ensures.plant at c.answer.ensures)
