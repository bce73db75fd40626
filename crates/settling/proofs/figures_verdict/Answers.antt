-- A rule that is kept leaves the verdict to those after it, and one that is broken is the verdict. Assumes nothing.
use Rattle.std.proofs.Common.{◌≡◌, ◌∙◌, Bool, true, false, cond, leb, Ok, Err, refl}
use Rattle.std.proofs.lemmas.Result.{err_from_is_err_and}
use Rattle.rules.specs.Results.{Verdict}
use Rattle.rules.specs.declared.Refusal.{Refusal}
use Rattle.settling.proofs.figures_verdict.Goals as goal

kept : (b : Bool) (n : Refusal) (later : Verdict) → ◌≡◌ {A = Verdict} (Ok tt) (cond b (Ok tt) (Err n)) → later ≡ cond b later (Err n)
kept true n later e = refl
kept false n later e = cc

broken : (b : Bool) (n : Refusal) {m : Refusal} (later : Verdict) → ◌≡◌ {A = Verdict} (Err m) (cond b (Ok tt) (Err n)) → ◌≡◌ {A = Verdict} (Err m) (cond b later (Err n))
broken true n later e = cc
broken false n later e = e

pub returns-in_err-rule : goal.returns-in_err-rule
returns-in_err-rule c volume =
    let p = err_from_is_err_and c.from_residual.result c.from_residual.ensures.1 in
    rw (p.1, p.2, ← c.solids_kept-solids.ensures) (broken _ _ _ c.in_err-rule.ensures)

pub returns-in_err-rule-2 : goal.returns-in_err-rule-2
returns-in_err-rule-2 c volume =
    let p = err_from_is_err_and c.from_residual-in_err-rule-2.result c.from_residual-in_err-rule-2.ensures.1 in
    let surface : ◌≡◌ {A = Verdict} (Err c.in_err-rule-2.field-0.0) (cond (leb c.args.surface c.args.plant.now.site_surface) (Ok tt) (Err Refusal.Surface)) =
    rw c.from.ensures at c.in_err-rule-2.ensures in
    rw (p.1, p.2, ← c.solids_kept-solids.ensures) (broken _ _ _ surface ∙ kept _ _ _ c.in_ok-rule.ensures)

pub returns : goal.returns
returns c volume =
    let surface : ◌≡◌ {A = Verdict} (Ok tt) (cond (leb c.args.surface c.args.plant.now.site_surface) (Ok tt) (Err Refusal.Surface)) =
    rw c.from.ensures at c.in_ok-rule-2.ensures in
    let depth : c.rule-3.result ≡ cond (leb c.args.depth c.args.plant.now.site_depth) (Ok tt) (Err Refusal.Depth) =
    rw c.from-2.ensures at c.rule-3.ensures in
    rw (depth, ← c.solids_kept-solids.ensures) (kept _ _ _ surface ∙ kept _ _ _ c.in_ok-rule.ensures)
