use Rattle.std.proofs.Common.{◌≡◌, ◌+◌, ◌<◌, ◌++◌, ℕ, Some, map, length, vec_len}
use Rattle.std.specs.Vec.Iter.{into_iter_items}
use Rattle.node_core.specs.Configs.{waits_on}
use Rattle.node_core.specs.Kinds.{listener}
use Rattle.weave.specs.Arcs.{KeepsSeats}
use Rattle.weave.specs.Lanes.{inside}
use Rattle.weave.specs.Gathered.{block_of, view_at}
use Rattle.weave.proofs.dealing.lay_all.Given as goal

-- what waits on the arcs so far is with their listeners
abbrev pub invariant-loop-queue : goal.invariant-loop-queue
invariant-loop-queue g l =
    let views = view_at g.N.NodeCore.state g.N.NodeCore.note in
    record {
      count : vec_len l.blocks ≡ vec_len l.fn.blocks;
      number : l.number ≡ length l.yielded;
      left : l.number + length (into_iter_items l.queue-iterator) ≡ length l.net.arcs;
      whole : l.yielded ++ into_iter_items l.queue-iterator ≡ l.fn.links.items;
      seats : KeepsSeats (views l.fn.blocks.items) (views l.blocks.items);
      lane_is : (a i : ℕ) → a < l.number → listener l.net a ≡ Some i → (views l.blocks.items (block_of (vec_len l.fn.blocks) i)).lane a ≡ inside (map g.N.NodeCore.note (waits_on l.yielded a));
    }
