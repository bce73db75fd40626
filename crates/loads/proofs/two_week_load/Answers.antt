-- `two_week_load` meets its contract: the log is not whole, or the pass over it decides. Assumes nothing.
use Rattle.std.proofs.Common.{◌≡◌, List, ℕ, true, sym, ◌∙◌, arith}
use denote.Floats.{passes}
use Rattle.rules.specs.DayLog.{log_whole}
use Rattle.rules.specs.DayLogOutcome.{Whole}
use Rattle.rules.proofs.DayLogLaws.{log_whole_lem}
use Rattle.loads.proofs.Passing.{not_whole}
use Rattle.loads.proofs.two_week_load.Goals as goal

held : (log : List ℕ) → log_whole log ≡ true → Whole log
held log e = (log_whole_lem log).0 (passes _ e)

pub returns-then-not-log_whole : goal.returns-then-not-log_whole
returns-then-not-log_whole c = not_whole c.args.log.now (sym c.log_whole.ensures ∙ c.if-not-log_whole.true)

pub word-requires : goal.word-requires
word-requires c = omega (arith, held c.args.log.now (sym c.log_whole.ensures ∙ c.if-not-log_whole.false))

pub pass-requires : goal.pass-requires
pass-requires c = (held c.args.log.now (sym c.log_whole.ensures ∙ c.if-not-log_whole.false), c.word.ensures)
