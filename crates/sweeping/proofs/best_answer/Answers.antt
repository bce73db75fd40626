-- `best_answer` meets its contract: a permitted candidate is judged by its sheet. Assumes nothing.
use mathlib.Core.Path.{◌∙◌}
use Rattle.rules.specs.Sweep.{best_kept, best_answer}
use Rattle.rules.proofs.Examined.{judge_permitted}
use Rattle.sweeping.proofs.best_answer.Goals as goal

pub returns-in-None : goal.returns-in-None
unfolding best_answer
returns-in-None c = rw c.in-None.is

pub returns-in-Some : goal.returns-in-Some
unfolding best_answer best_kept
returns-in-Some c =
    rw c.in-Some.is
    (c.judge.ensures
    ∙ judge_permitted c.args.accepted.now.plant c.args.accepted.now.concentrations c.in-Some.candidate (rw c.in-Some.is at c.requires))
