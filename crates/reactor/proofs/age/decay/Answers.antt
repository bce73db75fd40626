-- `age::decay` meets its contract: the test on the temperature picks the case of the definition. Assumes nothing.
use Rattle.std.proofs.Common.{◌≡◌, arith}
use borrow.Author.Tests.{le-leb, lt-leb}
use Rattle.rules.specs.AgeNitrate.{decay}
use Rattle.reactor.proofs.AgeLimits.{decay_most}
use Rattle.reactor.proofs.age.decay.Goals as goal

cool : (c : goal.After-per_degree) → c.per_degree.result ≡ decay c.get-temperature.result
unfolding decay
cool c = simp (le-leb c.get-temperature.result 15 c.if-temperature-le15.true) c.per_degree.ensures

warm : (c : goal.After-per_degree-else-temperature-le15) → c.per_degree-else-temperature-le15.result ≡ decay c.get-temperature.result
unfolding decay
warm c = simp (lt-leb c.get-temperature.result 15 c.if-temperature-le15.false) c.per_degree-else-temperature-le15.ensures

pub new-requires : goal.new-requires
new-requires c =
    let n = c.get-temperature.ensures.1 in
    omega (arith, cool c, decay_most c.get-temperature.result n.least n.most)

pub returns-then-temperature-le15 : goal.returns-then-temperature-le15
returns-then-temperature-le15 c = rw (c.new.ensures, ← c.get-temperature.ensures.0) (cool c.before)

pub new-requires-else-temperature-le15 : goal.new-requires-else-temperature-le15
new-requires-else-temperature-le15 c =
    let n = c.get-temperature.ensures.1 in
    omega (arith, warm c, decay_most c.get-temperature.result n.least n.most)

pub returns-else-temperature-le15 : goal.returns-else-temperature-le15
returns-else-temperature-le15 c = rw (c.new-else-temperature-le15.ensures, ← c.get-temperature.ensures.0) (warm c.before)
