-- `sheet_from` meets its contract: the two volumes are their steps, the rest is handed on. Assumes nothing.
use Rattle.std.proofs.Common.{refl}
use Rattle.rules.specs.Examining.{sheet_from, total_of}
use Rattle.examining.proofs.sheet_from.Goals as goal

pub returns : goal.returns
unfolding sheet_from total_of
returns c =
    rw (
      c.get.ensures.0,
      c.fraction.ensures,
      c.get-2.ensures.0,
      c.return_ratio.ensures,
      c.get-3.ensures.0,
      c.thickening.ensures,
      c.get-4.ensures.0,
      c.get-5.ensures.0,
      c.get-6.ensures.0,
      c.get-7.ensures.0,
      c.get-8.ensures.0,
      c.get-9.ensures.0,
      c.get-settling_volume.ensures.0,
      c.reactor_volume-volume.ensures.0,
      c.reactor_solids-solids.ensures.value,
    ) refl
