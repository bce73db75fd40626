-- One return ratio more is one verdict more, and a thickening time is done with its last one. Assumes nothing.
use Rattle.std.proofs.Common.{◌≡◌, ◌+◌, ◌-◌, arith}
use Rattle.rules.specs.Limits.{least_ratio}
use Rattle.census.proofs.Tallying.{no_tank, time_begun, tank_tallied, time_done, passed_most}
use Rattle.census.proofs.tank_tally.Goals as goal
use Rattle.census.proofs.tank_tally.Goals.{else-ratio-test, then-ratio-test+else-r-last}

pub time-init : goal.time-init
time-init c = no_tank c.args.accepted.now.plant (c.args.last + 1 - least_ratio)

pub ratio-init : goal.ratio-init
ratio-init c = time_begun c.args.accepted.now.plant (c.args.last + 1 - least_ratio) c.time.h c.time.tally c.time.invariant

pub overflow_add-tally : goal.overflow_add-tally
overflow_add-tally c =
    let most = passed_most c.args.accepted.now.plant (c.args.last + 1 - least_ratio) c.time.h c.ratio.r c.ratio.tally (omega arith) (omega arith) (omega arith) c.ratio.invariant in
    record { fits = omega (arith, most.most c.tank_number.result c.tank_number.ensures.1) }

pub ratio-preserved : goal.ratio-preserved
ratio-preserved c =
    tank_tallied c.args.accepted.now.plant (c.args.last + 1 - least_ratio) c.time.h c.ratio.r c.tank_number.result c.ratio.tally c.ratio.auto.r
    (rw (c.new-thickened.ensures.0, c.new-thickened.ensures.1, c.new.ensures, c.from.ensures, c.new-in-ratio.ensures, c.from-in-ratio.ensures) at c.tank_number.ensures.0)
    c.tank_number.ensures.1
    c.ratio.invariant

pub time-preserved : goal.time-preserved
time-preserved c =
    elim c.ratio-test.branch [
      | else-ratio-test w ↦ absurd (omega arith)
      | then-ratio-test+else-r-last w ↦
          let end : c.ratio.r + 1 ≡ c.args.last + 1 = omega arith in
          let last =
          tank_tallied c.args.accepted.now.plant (c.args.last + 1 - least_ratio) c.time.h c.ratio.r w.tank_number.result c.ratio.tally c.ratio.auto.r
          (rw (c.new-thickened.ensures.0, c.new-thickened.ensures.1, c.new.ensures, c.from.ensures, w.new-in-ratio.ensures, w.from-in-ratio.ensures) at w.tank_number.ensures.0)
          w.tank_number.ensures.1
          c.ratio.invariant in
          rw w.tally-is (time_done c.args.accepted.now.plant c.time.h (c.args.last + 1) _ c.time.auto.h (rw end at last))
    ]
