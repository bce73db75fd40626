-- The lines passed have their answers in their places. Assumes nothing.
use Rattle.works.specs.Entries.{LinesChosen}
use Rattle.works.proofs.Lines.answers.Given as goal

abbrev pub invariant-line : goal.invariant-line
invariant-line l = LinesChosen l.self.accepted.now.plant l.self.accepted.now.concentrations l.self.split.now l.i l.answers
