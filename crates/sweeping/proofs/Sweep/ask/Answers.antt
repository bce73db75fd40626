-- `Sweep::ask` meets its contract: the data, the numbers, then the best that is handed on, then the advance; number, sheet and
-- columns follow. Assumes nothing.
use mathlib.Core.Path.{refl, sym}
use Rattle.std.specs.Prelude.{Ok, Err}
use Rattle.rules.specs.declared.Refusal.{Refusal}
use Rattle.sweeping.proofs.AdvanceBy.{numbers_facts, numbers_broken, best_broken, all_kept_lem, data_refused, data_accepted, advance_columns, advance_outcome}
use Rattle.sweeping.proofs.Sweep.ask.Goals as goal

pub returns-in_default : goal.returns-in_default
returns-in_default c =
    let s = c.args.self.now in
    let h = data_refused s c.args.n s (Err Refusal.Advance) _ (sym c.in_default.ensures.value) (record { sweep = refl; refused = refl }) in
    record { advanced_from = h; columns = tt; numbered = advance_outcome s c.args.n s (Err Refusal.Advance) h }

pub returns-then-not-numbers_kept : goal.returns-then-not-numbers_kept
returns-then-not-numbers_kept c =
    let s = c.args.self.now in
    let h =
    data_accepted s c.args.n s (Err Refusal.Advance) c.in-Ok.accepted.concentrations (sym c.in-Ok.ensures.value)
    (numbers_broken c.in-Ok.accepted.concentrations s c.args.n s (Err Refusal.Advance) (sym c.if-not-numbers_kept.ensures) (record { sweep = refl; refused = refl })) in
    record { advanced_from = h; columns = tt; numbered = advance_outcome s c.args.n s (Err Refusal.Advance) h }

pub returns-in_default-handed_on : goal.returns-in_default-handed_on
returns-in_default-handed_on c =
    let s = c.args.self.now in
    let h =
    data_accepted s c.args.n s (Err Refusal.Advance) c.in-Ok.accepted.concentrations (sym c.in-Ok.ensures.value)
    (best_broken c.in-Ok.accepted.concentrations s c.args.n s (Err Refusal.Advance) (rw c.in-Ok.ensures.plant at c.in_default-handed_on.ensures) (record { sweep = refl; refused = refl })) in
    record { advanced_from = h; columns = tt; numbered = advance_outcome s c.args.n s (Err Refusal.Advance) h }

pub go_on-requires : goal.go_on-requires
go_on-requires c =
    let numbers = numbers_facts c.args.self.now c.args.n (sym c.if-not-numbers_kept.ensures) in
    (c.in-Ok.ensures.plant, numbers.0, numbers.1, c.in-Ok-handed_on.ensures.1, c.in-Ok-handed_on.ensures.0)

pub returns : goal.returns
returns c =
    let s = c.args.self.now in
    let x = c.in-Ok.accepted.concentrations in
    let kept = rw c.in-Ok.ensures.plant at c.in-Ok-handed_on.ensures.0 in
    let h =
    data_accepted s c.args.n c.go_on.new.self (Ok c.go_on.result) x (sym c.in-Ok.ensures.value)
    (all_kept_lem x s c.args.n c.go_on.new.self (Ok c.go_on.result) (sym c.if-not-numbers_kept.ensures) kept c.go_on.ensures) in
    record {
      advanced_from = h;
      columns = advance_columns s c.args.n c.go_on.new.self (Ok c.go_on.result) h;
      numbered = advance_outcome s c.args.n c.go_on.new.self (Ok c.go_on.result) h;
    }
