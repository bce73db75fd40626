-- `accept_split` meets its contract: 18 is the first rule of the list. Assumes nothing.
use Rattle.std.proofs.Common.{◌≡◌, Bool, true, false, cond, Ok, Err, ◌∷◌}
use Rattle.std.proofs.lemmas.Result.{err_from_is_err_and}
use Rattle.rules.specs.Results.{Verdict, Acceptance}
use Rattle.rules.specs.Rules.{rule, verdict}
use Rattle.rules.specs.Accepting.{values_of, data_rules, accept_by, accept}
use Rattle.rules.specs.declared.Plant.{Plant}
use Rattle.rules.specs.declared.Readings.{Readings}
use Rattle.rules.specs.declared.Refusal.{Refusal}
use Rattle.works.proofs.accept_split.Goals as goal

-- what the rules in order give, for a split that is not valid and for one that is
broken :
    (b : Bool) (p : Plant) (r : Readings) {n : Refusal}
    → ◌≡◌ {A = Verdict} (Err n) (cond b (Ok tt) (Err Refusal.Lines))
    → ◌≡◌ {A = Acceptance} (Err n) (accept_by (verdict (rule Refusal.Lines b ∷ data_rules p r)) (values_of p r))
unfolding accept_by
broken true p r e = cc
broken false p r e = cc

kept :
    (b : Bool) (p : Plant) (r : Readings) (a : Acceptance)
    → ◌≡◌ {A = Verdict} (Ok tt) (cond b (Ok tt) (Err Refusal.Lines))
    → a ≡ accept p r
    → a ≡ accept_by (verdict (rule Refusal.Lines b ∷ data_rules p r)) (values_of p r)
unfolding accept
kept true p r a e h = h
kept false p r a e h = cc

pub returns-in_err-rule-clause-value : goal.returns-in_err-rule-clause-value
returns-in_err-rule-clause-value c =
    let p = err_from_is_err_and c.from_residual.result c.from_residual.ensures.1 in
    rw (p.1, p.2) (broken _ _ _ c.in_err-rule.ensures)

pub returns-clause-value : goal.returns-clause-value
returns-clause-value c = kept _ _ _ _ c.in_ok-rule.ensures c.accept.ensures.value
