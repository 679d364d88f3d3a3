use Rattle.std.proofs.Common.{◌≡◌, ◌≤◌, ℕ, ◌++◌, map, length, vec_len}
use Rattle.std.specs.Vec.Iter.{into_iter_items}
use Rattle.node_core.specs.Kinds.{on_arc}
use Rattle.node_core.specs.Configs.{numbered, waits_on, spare_on}
use Rattle.node_core.proofs.links.send_all.Given as goal

-- with the messages that are left all are on their arcs, and there is room for those
abbrev pub invariant-loop-arc : goal.invariant-loop-arc
invariant-loop-arc g l = record {
  count : vec_len l.links ≡ vec_len l.fn.links;
  sent : (b : ℕ) → waits_on l.links.items b ++ on_arc b (map numbered (into_iter_items l.arc-iterator)) ≡ waits_on l.fn.links.items b ++ on_arc b (map numbered l.fn.out);
  room : (b : ℕ) → length (on_arc b (map numbered (into_iter_items l.arc-iterator))) ≤ spare_on l.links.items b;
}
