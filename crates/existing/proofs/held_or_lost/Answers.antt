-- Where the fraction keeps its rules, what was tried with the tanks is what is held or lost; where it does not, the least index is lost.
-- Assumes nothing.
use Rattle.std.proofs.Common.{arith}
use Rattle.existing.proofs.Winning.{operated_ranges, fraction_by_verdict, tried_held, least_lost}
use Rattle.existing.proofs.held_or_lost.Goals as goal

pub new-requires : goal.new-requires
new-requires c = omega (arith, c.from.ensures, (operated_ranges c.args.existing c.requires.0).0)

pub returns-then-is_err : goal.returns-then-is_err
returns-then-is_err c =
    let reactor = rw (c.new-basis.ensures, c.new.ensures, c.from.ensures) at c.reactor-reactor.ensures in
    let kept = fraction_by_verdict _ _ c.args.existing.fraction _ _ reactor (rw c.new-basis.ensures at c.fraction_verdict.ensures) in
    least_lost _ _ c.args.existing c.args.span c.requires.1 (rw (kept, c.is_err.ensures.negation, c.if-is_err.true))

pub returns : goal.returns
returns c =
    let reactor = rw (c.new-basis.ensures, c.new.ensures, c.from.ensures) at c.reactor-reactor.ensures in
    let kept = fraction_by_verdict _ _ c.args.existing.fraction _ _ reactor (rw c.new-basis.ensures at c.fraction_verdict.ensures) in
    tried_held _ _ c.args.existing c.args.span _ _ c.requires.0 (rw (kept, c.is_err.ensures.negation, c.if-is_err.false) tt) (rw (← reactor)) c.first_lost.ensures
