-- Each exit of examining, over plain values: what the tests on the way there make of the definition. Assumes nothing.
use mathlib.Core.Path.{◌≡◌, ap, sym, subst, ◌∙◌}
use mathlib.Core.Bool.{true, false}
use lib.Dec.{T}
use Rattle.std.specs.Prelude.{Ok, Err}
use Rattle.rules.specs.Rules.{verdict, after}
use Rattle.rules.specs.AgeNitrate.{on_grid}
use Rattle.rules.specs.Ranges.{OnGrid}
use Rattle.rules.proofs.RangeFacts.{on_grid_lem}
use Rattle.rules.specs.ReactorSteps.{reactor_of}
use Rattle.rules.specs.SettlingSteps.{settling_of}
use Rattle.rules.specs.Examining.{fraction_rules, tank_rules, candidate_rules, permitted, answer_by, judge, sheet_of}
use Rattle.rules.proofs.RuleLists.{all_kept_verdict, verdict_append}
use Rattle.rules.proofs.Examined.{permitted_keeps}
use Rattle.examining.specs.Stages.{judge_tank}
use Rattle.rules.specs.declared.Plant.{Plant}
use Rattle.rules.specs.declared.Concentrations.{Concentrations}
use Rattle.rules.specs.declared.Candidate.{Candidate}
use Rattle.rules.specs.declared.Reactor.{Reactor}
use Rattle.rules.specs.declared.Settling.{Settling}
use Rattle.rules.specs.declared.Refusal.{Refusal}
use Rattle.rules.specs.Results.{Verdict}

-- a candidate that passed the grid's test
pub inside : (p : Plant) (y : Candidate) → on_grid p.tank y ≡ true → OnGrid y
inside p y e = on_grid_lem p.tank y (subst T (sym e) tt)

module _ (p : Plant) (x : Concentrations) (y : Candidate) where
  pub off_grid : on_grid p.tank y ≡ false → Err Refusal.OffGrid ≡ judge p x y
  unfolding judge candidate_rules answer_by
  off_grid e = rw e

  abbrev settled : Settling
  settled = settling_of p y.return_ratio y.thickening

  module _ (grid : on_grid p.tank y ≡ true) (r : Reactor) (er : r ≡ reactor_of p x y.fraction) where
    -- on the grid the verdicts on the fraction and on the tank decide, one after the other
    decided : judge p x y ≡ answer_by (after (verdict (fraction_rules p x r)) (verdict (tank_rules p settled))) (sheet_of p x y)
    unfolding judge candidate_rules
    decided = rw (grid, ← er) (ap (λ (w : Verdict). answer_by w (sheet_of p x y)) (verdict_append (fraction_rules p x r) (tank_rules p settled)))

    pub fraction_broken : (n : Refusal) → verdict (fraction_rules p x r) ≡ Err n → Err n ≡ judge p x y
    unfolding answer_by
    fraction_broken n e = sym (decided ∙ rw e)

    pub to_the_tank : verdict (fraction_rules p x r) ≡ (Ok tt) → judge_tank p x y ≡ judge p x y
    unfolding judge_tank
    to_the_tank e = sym (decided ∙ rw e)

  -- a permitted candidate gets its sheet from its tank's verdict
  pub permitted_by_tank : T (permitted p x y) → judge_tank p x y ≡ Ok (sheet_of p x y)
  unfolding judge_tank answer_by
  permitted_by_tank t = rw ((all_kept_verdict (tank_rules p settled)).0 ((permitted_keeps p x y).0 t).tank)
