-- What is accepted keeps 6 and 20. Assumes nothing.
use Rattle.std.proofs.Common.{sym}
use Rattle.existing.proofs.Winning.{built_accepted}
use Rattle.existing.proofs.built.Goals as goal

pub held_or_lost-requires : goal.held_or_lost-requires
held_or_lost-requires c =
    let kept = built_accepted c.args.plant c.args.readings c.args.existing c.args.span _ (sym c.in_ok-accepted.ensures.value) in
    (kept.2, kept.3)
