-- The least key among the candidates of the fractions that are passed, and the least mass of a covered one of them.
use Rattle.choosing.specs.Runs.{LeastOfRun, LeastOfFractions, Lightest}
use Rattle.choosing.proofs.tanks.Tanks.fractions.Given as goal

abbrev pub invariant-fraction : goal.invariant-fraction
invariant-fraction l =
    record {
      least : LeastOfFractions l.self.basis.now.data l.first l.f l.best;
      lightest : Lightest l.self.basis.now.data l.first l.f l.lightest;
    }

-- of a fraction's tanks, those that are passed
abbrev pub invariant-tank : goal.invariant-tank
invariant-tank l = LeastOfRun l.self.basis.now.data l.f 0 l.i l.of_fraction
