-- `added` meets its contract: sums of at most eight sheets are far below what the type holds. Assumes nothing.
use mathlib.Core.Path.{refl}
use native.Mathlib.Omega.{arith}
use Rattle.works.specs.Entries.{sums_with}
use Rattle.works.proofs.added.Goals as goal

pub returns : goal.returns
unfolding sums_with
returns c =
    let s = c.requires.1 in
    let t = c.requires.2 in (
      refl,
      record {
        sludge = omega (arith, s.sludge, t.sludge);
        mass = omega (arith, s.mass, t.mass);
        surface = omega (arith, s.surface, t.surface);
        reactor = omega (arith, s.reactor, t.reactor);
        settling = omega (arith, s.settling, t.settling);
        total = omega (arith, s.total, t.total);
        oxygen = omega (arith, s.oxygen, t.oxygen);
        transfer = omega (arith, s.transfer, t.transfer);
      },
    )
