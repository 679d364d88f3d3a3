use Rattle.std.proofs.Common.{◌≡◌, Some, map}
use Rattle.link_state.proofs.tables.all_of.Given as goal

abbrev pub invariant-loop-item : goal.invariant-loop-item
invariant-loop-item g l = map Some l.items.items ≡ l.yielded
