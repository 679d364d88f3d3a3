use Rattle.std.proofs.Common.{◌≤◌}
use Rattle.rest_tests.proofs.tables.drawn_label.Given as goal

-- the first value of the rank doesn't come after the value
abbrev pub invariant-loop-value : goal.invariant-loop-value
invariant-loop-value l = l.first ≤ l.value
