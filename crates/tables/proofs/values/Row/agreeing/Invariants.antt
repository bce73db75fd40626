-- The loop's invariant: the count is how many of the values passed agree. Assumes nothing.
use Rattle.std.proofs.Common.{◌≡◌, ◌≤◌}
use Rattle.tables.specs.Values.{value_at, agreeing}
use Rattle.tables.proofs.values.Row.agreeing.Given as goal

abbrev pub invariant-loop-column : goal.invariant-loop-column
invariant-loop-column l = (l.count ≤ l.column) × (l.count ≡ agreeing (value_at l.self) l.printed l.column)
