-- `age::growth` meets its contract: the test on the temperature picks the case of the definition. Assumes nothing.
use mathlib.Core.Path.{◌≡◌}
use Prim.Native.Nat.{ℕ, ◌≤◌}
use borrow.Author.Tests.{le-leb, lt-leb}
use Rattle.rules.specs.AgeNitrate.{growth}
use Rattle.rules.specs.Ranges.{Between}
use Rattle.reactor.proofs.AgeLimits.{growth_most, growth_between}
use Rattle.reactor.proofs.age.growth.Goals as goal

-- the value has its limits
in_limits : (n : ℕ) → Between 4 20 n → {r : ℕ} → r ≡ growth n → (r ≡ growth n) × Between 1 2_942_000 r × (10 ≤ n → r ≤ 1_633_000)
in_limits n b e = (e, rw e (growth_between n b), λ h. rw e (growth_most n h b.most))

pub returns-then-temperature-le15 : goal.returns-then-temperature-le15
unfolding growth
returns-then-temperature-le15 c =
    rw (← c.get-temperature.ensures.0) (in_limits c.get-temperature.result c.get-temperature.ensures.1 (simp (le-leb c.get-temperature.result 15 c.if-temperature-le15.true) c.per_degree.ensures))

pub returns-else-temperature-le15 : goal.returns-else-temperature-le15
unfolding growth
returns-else-temperature-le15 c =
    rw (← c.get-temperature.ensures.0)
    (in_limits c.get-temperature.result c.get-temperature.ensures.1
    (simp (lt-leb c.get-temperature.result 15 c.if-temperature-le15.false) c.per_degree-else-temperature-le15.ensures))
