use Rattle.std.proofs.Common.{◌≡◌, ◌<◌, ℕ, ◌++◌, false, map, vec_len}
use Rattle.std.specs.List.{AllByRecursion}
use Rattle.std.specs.Vec.Iter.{into_iter_items}
use Rattle.node_core.specs.Kinds.{on_arc}
use Rattle.node_core.specs.Machine.{begun_messages}
use Rattle.node_core.specs.Configs.{waits_on}
use Rattle.node_core.proofs.stepping.begin_all.Given as goal

-- with the nodes that are left all have begun, and what they send is on the links
abbrev pub invariant-loop-node : goal.invariant-loop-node
invariant-loop-node g l =
    let k = g.N.NodeCore.kind in
    let state = g.N.NodeCore.state in
    let note = g.N.NodeCore.note in
    let left = into_iter_items l.node-iterator in
    record {
      unbegun : AllByRecursion (λ n. k.is_begun (state n) ≡ false) left;
      arcs : AllByRecursion (λ n. AllByRecursion (λ p. p.0 < vec_len l.fn.links) (k.begin (state n)).1) left;
      count : vec_len l.links ≡ vec_len l.fn.links;
      nodes : map state l.begun.items ++ map (λ n. (k.begin (state n)).0) left ≡ map (λ n. (k.begin (state n)).0) l.fn.nodes.items;
      sent : (b : ℕ) → map note (waits_on l.links.items b) ++ on_arc b (begun_messages k (map state left)) ≡ map note (waits_on l.fn.links.items b) ++ on_arc b (begun_messages k (map state l.fn.nodes.items));
    }
