-- `convert_heads` meets its contract: a head count in its range gives a product that fits, and its thousandths at the flow. Assumes
-- nothing.
use Rattle.std.proofs.Common.{refl, sym, ◌∙◌, arith, ◌≡◌, true}
use Rattle.rules.specs.PlantData.{within}
use Rattle.accepting.proofs.Conversions.{heads, heads_most}
use Rattle.accepting.proofs.convert_heads.Goals as goal

pub overflow_mul-from : goal.overflow_mul-from
overflow_mul-from c =
    omega (arith, heads_most c.args.settling c.args.parameter _ _ _ (sym c.within.ensures ∙ c.if-not-within.false) c.from.ensures c.per_head-grams.ensures)

pub overflow_mul-from-2 : goal.overflow_mul-from-2
overflow_mul-from-2 c =
    omega (arith, heads_most c.args.settling c.args.parameter _ _ _ (sym c.within.ensures ∙ c.if-not-within.false) c.from.ensures c.per_head-grams.ensures)

pub round_up-n-requires : goal.round_up-n-requires
round_up-n-requires c =
    omega (arith, heads_most c.args.settling c.args.parameter _ _ _ (sym c.within.ensures ∙ c.if-not-within.false) c.from.ensures c.per_head-grams.ensures)

pub returns : goal.returns
returns c =
    let inside : within 1 2_000_000 c.args.heads ≡ true = sym c.within.ensures ∙ c.if-not-within.false in
    rw (c.judge_result.ensures, c.round_up-n.ensures, c.per_head-grams.ensures, c.from.ensures, c.from-2.ensures, heads c.args.flow c.args.settling c.args.parameter c.args.heads, inside) refl
