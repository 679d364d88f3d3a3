use Rattle.std.proofs.Common.{◌≡◌, ◌+◌, ◌++◌, [], ap, arith, map, subst, sym, ◌∙◌}
use Rattle.std.proofs.lemmas.List.{append-nil}
use Rattle.std.specs.Vec.Iter.{into_iter_items}
use Rattle.net_graph.specs.Nets.{PureNet}
use Rattle.path_vector.specs.Node.{carried}
use Rattle.path_vector.specs.Nodes.{state_of}
use Rattle.vector_runs.specs.Runs.{AreBegun}
use Rattle.vector_runs.proofs.Phases.{nothing_left, pushed_node}
use Rattle.vector_runs.proofs.nodes.carried_nodes.Goals as goal

pub carry-requires-clause-begun : goal.carry-requires-clause-begun
carry-requires-clause-begun g c =
    let inv = c.loop-node.invariant.begun in
    (subst (λ z. AreBegun inv.0 inv.2 (map state_of z)) c.in-Some.ensures.steps.0 inv.3).2

pub carry-requires-clause-net : goal.carry-requires-clause-net
carry-requires-clause-net g c =
    let inv = c.loop-node.invariant.begun in
    let net = c.args.net.now in
    let of : c.in-Some.node.net ≡ inv.0 = (subst (λ z. AreBegun inv.0 inv.2 (map state_of z)) c.in-Some.ensures.steps.0 inv.3).0 in
    subst (λ (z : PureNet). net ≡ record z { arcs = net.arcs }) (sym of) inv.1

pub loop-node-preserved : goal.loop-node-preserved
loop-node-preserved g c =
    let inv = c.loop-node.invariant.begun in
    let net = c.args.net.now in
    let left = into_iter_items c.next.new.self in
    let are = subst (λ z. AreBegun inv.0 inv.2 (map state_of z)) c.in-Some.ensures.steps.0 inv.3 in
    let all = map (carried net) (map state_of c.args.old) in
    let so_far = subst (λ z. map state_of c.loop-node.nodes.items ++ map (carried net) (map state_of z) ≡ all) c.in-Some.ensures.steps.0 c.loop-node.invariant.nodes in
    record {
      begun = (inv.0, inv.1, inv.2 + 1, are.3);
      nodes = pushed_node state_of c.loop-node.nodes.items c.push.new.self.items c.in_ok-carry.field-0 (carried net (state_of c.in-Some.node)) (map (carried net) (map state_of left)) all c.in_ok-push.ensures.items c.in_ok-carry.ensures so_far;
    }

pub returns : goal.returns
returns g c =
    let net = c.args.net.now in
    let left = c.loop-node.node-iterator in
    let all = map (carried net) (map state_of c.args.old) in
    let none : into_iter_items left ≡ [] = nothing_left (into_iter_items left) (let few = c.in-None.ensures.steps.0 in let count = left.rest.ok.0 in omega arith) in
    ap (map state_of) c.from_vec.ensures ∙ (sym (append-nil (map state_of c.loop-node.nodes.items))
    ∙ subst (λ z. map state_of c.loop-node.nodes.items ++ map (carried net) (map state_of z) ≡ all) none c.loop-node.invariant.nodes)
