use Rattle.std.proofs.Common.{◌≡◌, ◌∷◌, ◌++◌, ◌∙◌, ◌<◌, ℕ, map, subst, sym}
use Rattle.std.specs.List.{AllByRecursion}
use Rattle.std.specs.Vec.Iter.{into_iter_items}
use Rattle.node_core.specs.Kinds.{on_arc}
use Rattle.node_core.specs.Machine.{begun_messages}
use Rattle.node_core.specs.Configs.{waits_on}
use Rattle.node_core.proofs.Parts.{begun_nodes, begun_more}
use Rattle.node_core.proofs.stepping.begin_all.Goals as goal

pub begin-requires-clause-arcs : goal.begin-requires-clause-arcs
begin-requires-clause-arcs g c =
    let k = g.N.NodeCore.kind in
    let left = into_iter_items c.next.new.self in
    let split : into_iter_items c.loop-node.node-iterator ≡ c.in-Some.node ∷ left = c.in-Some.ensures.steps.0 in
    let sends = (rw split at c.loop-node.invariant.arcs).0 in
    subst (λ count. AllByRecursion (λ (p : ℕ × g.N.NodeCore.Note). p.0 < count) (k.begin (g.N.NodeCore.state c.in-Some.node)).1) (sym c.loop-node.invariant.count) sends

pub loop-node-preserved : goal.loop-node-preserved
loop-node-preserved g c =
    let k = g.N.NodeCore.kind in
    let state = g.N.NodeCore.state in
    let note = g.N.NodeCore.note in
    let left = into_iter_items c.next.new.self in
    let all = c.args.nodes.items in
    let split : into_iter_items c.loop-node.node-iterator ≡ c.in-Some.node ∷ left = c.in-Some.ensures.steps.0 in
    record {
      unbegun = (rw split at c.loop-node.invariant.unbegun).1;
      arcs = (rw split at c.loop-node.invariant.arcs).1;
      count = c.begin.ensures.count ∙ c.loop-node.invariant.count;
      nodes = begun_nodes state (λ n. (k.begin (state n)).0) c.loop-node.begun.items c.push.new.self.items c.in-Some.node c.in_ok-begin.field-0 left (map (λ n. (k.begin (state n)).0) all) c.in_ok-push.ensures.items c.in_ok-begin.ensures.node (rw split at c.loop-node.invariant.nodes);
      sent = λ b. begun_more k b (map note (waits_on c.loop-node.links.items b)) (map note (waits_on c.begin.new.links.items b)) (state c.in-Some.node) (map state left) (map note (waits_on c.args.links.now.items b) ++ on_arc b (begun_messages k (map state all))) (c.in_ok-begin.ensures.sent b) (rw split at (c.loop-node.invariant.sent b));
    }
