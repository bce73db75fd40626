-- `accept` meets its contract: the first refusal due, or data whose ranges follow from their acceptance. Assumes nothing.
use Rattle.std.proofs.Common.{sym, ◌∙◌}
use Rattle.std.proofs.lemmas.Result.{err_from_is_err_and}
use denote.Floats.{passes}
use Rattle.rules.proofs.AcceptedData.{accepted_ranges}
use Rattle.rules.proofs.RangeFacts.{flow_between}
use Rattle.accepting.proofs.Gathering.{out_of_range, index_too_high, readings_refused, terms_refused, accepted}
use Rattle.accepting.proofs.accept.Goals as goal

pub returns-then-not-plant_in_range-clause-value : goal.returns-then-not-plant_in_range-clause-value
returns-then-not-plant_in_range-clause-value c =
    out_of_range c.args.plant c.args.readings (sym c.plant_in_range.ensures ∙ c.if-not-plant_in_range.true)

pub returns-then-plant-gt-MOST_INDEX-clause-value : goal.returns-then-plant-gt-MOST_INDEX-clause-value
returns-then-plant-gt-MOST_INDEX-clause-value c =
    index_too_high c.args.plant c.args.readings (sym c.plant_in_range.ensures ∙ c.if-not-plant_in_range.false) c.if-plant-gt-MOST_INDEX.true

pub accept_readings-requires : goal.accept_readings-requires
accept_readings-requires c = flow_between c.args.plant (passes _ (sym c.plant_in_range.ensures ∙ c.if-not-plant_in_range.false))

pub returns-in_err-concentrations-clause-value : goal.returns-in_err-concentrations-clause-value
returns-in_err-concentrations-clause-value c =
    let p = err_from_is_err_and c.from_residual.result c.from_residual.ensures.1 in
    rw (p.1, p.2)
    (readings_refused c.args.plant c.args.readings (sym c.plant_in_range.ensures ∙ c.if-not-plant_in_range.false) c.if-plant-gt-MOST_INDEX.false
    _ c.in_err-concentrations.ensures)

pub returns-then-not-consent_valid-clause-value : goal.returns-then-not-consent_valid-clause-value
returns-then-not-consent_valid-clause-value c =
    terms_refused c.args.plant c.args.readings (sym c.plant_in_range.ensures ∙ c.if-not-plant_in_range.false) c.if-plant-gt-MOST_INDEX.false
    _ c.in_ok-concentrations.ensures (sym c.consent_valid.ensures ∙ c.if-not-consent_valid.true)

pub invariant_of-result : goal.invariant_of-result
invariant_of-result c =
    let e =
    accepted c.args.plant c.args.readings (sym c.plant_in_range.ensures ∙ c.if-not-plant_in_range.false) c.if-plant-gt-MOST_INDEX.false
    _ c.in_ok-concentrations.ensures (sym c.consent_valid.ensures ∙ c.if-not-consent_valid.false) in
    let ranges = accepted_ranges c.args.plant c.args.readings _ (sym e) in
    record { plant_ranges = ranges.0; concentration_ranges = ranges.1 }

pub returns-clause-value : goal.returns-clause-value
returns-clause-value c =
    accepted c.args.plant c.args.readings (sym c.plant_in_range.ensures ∙ c.if-not-plant_in_range.false) c.if-plant-gt-MOST_INDEX.false
    _ c.in_ok-concentrations.ensures (sym c.consent_valid.ensures ∙ c.if-not-consent_valid.false)
