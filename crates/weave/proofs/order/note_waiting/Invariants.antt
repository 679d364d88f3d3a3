use Rattle.std.proofs.Common.{◌≡◌}
use Rattle.weave.specs.Blocks.{view_of}
use Rattle.weave.proofs.order.note_waiting.Given as goal

abbrev pub invariant-loop : goal.invariant-loop
invariant-loop g l = view_of g.N.NodeCore.state g.N.NodeCore.note l.block ≡ view_of g.N.NodeCore.state g.N.NodeCore.note l.fn.block
