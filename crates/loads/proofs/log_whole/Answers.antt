-- `log_whole` meets its contract: a count in its range says how long the log is. The other ways out close by search.
-- Assumes nothing.
use Rattle.std.proofs.Common.{◌≡◌, true, sym, ◌∙◌}
use Rattle.rules.specs.PlantData.{within}
use Rattle.rules.specs.DayLog.{day_count, log_whole}
use Rattle.loads.proofs.log_whole.Goals as goal

pub returns-then-within : goal.returns-then-within
unfolding log_whole
returns-then-within c =
    let in_range : within 14 3_660 (day_count c.args.log.now) ≡ true = rw c.word-count.ensures at (sym c.within.ensures ∙ c.if-within.true) in
    rw (in_range, c.word-count.ensures)
