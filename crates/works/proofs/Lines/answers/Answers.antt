-- `Lines::answers` meets its contract. Assumes nothing.
use Rattle.std.proofs.Common.{◌≡◌, ℕ, subst, arith}
use Rattle.rules.proofs.LineLaws.{valid_split}
use Rattle.works.specs.Entries.{LinesChosen}
use Rattle.works.proofs.Filled.{lines_none, lines_next}
use Rattle.works.proofs.Lines.answers.Goals as goal

pub line-init : goal.line-init
line-init c = lines_none _ _ _ _

pub bounds-answers-i : goal.bounds-answers-i
bounds-answers-i c = omega (arith, (valid_split c.args.self.now.split.now c.args.self.now.valid).lines)

pub line-preserved : goal.line-preserved
line-preserved c =
    lines_next _ _ _ c.line.i c.answer.result c.line.answers (omega (arith, (valid_split c.args.self.now.split.now c.args.self.now.valid).lines)) c.answer.ensures c.line.invariant

pub returns : goal.returns
returns c =
    let lines = c.args.self.now in
    let all : c.line.i ≡ lines.split.now.count = omega arith in
    subst (λ (n : ℕ). LinesChosen lines.accepted.now.plant lines.accepted.now.concentrations lines.split.now n c.line.answers) all c.line.invariant
