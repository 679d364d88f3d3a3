use Rattle.std.proofs.Common.{◌≡◌, ◌<◌, ℕ, [], length}
use Rattle.weave.specs.Gathered.{machine_across, view_at}
use Rattle.weave.proofs.at_once.first_waiting.Given as goal

-- nothing waits on the arcs so far
abbrev pub invariant-loop-id : goal.invariant-loop-id
invariant-loop-id g l = (a : ℕ) → a < l.id → (machine_across l.net (length l.blocks) (view_at g.N.NodeCore.state g.N.NodeCore.note l.blocks)).link a ≡ []
