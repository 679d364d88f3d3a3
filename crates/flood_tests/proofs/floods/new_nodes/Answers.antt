use Rattle.std.proofs.Common.{◌≡◌, ◌+◌, ◌++◌, ◌∷◌, [], ap, arith, length, map, subst, sym, ◌∙◌}
use Rattle.std.specs.List.{range_with_len}
use Rattle.std.proofs.lemmas.List.FromFn.{map-range_with_len_more}
use Rattle.node_core.specs.Machine.{AreUnbegun}
use Rattle.flood_node.specs.Node.{flooding, new_node}
use Rattle.flood_node.specs.Ready.{new_are_unbegun}
use Rattle.flood_tests.proofs.floods.new_nodes.Goals as goal

pub loop-number-preserved : goal.loop-number-preserved
loop-number-preserved c =
    let net = c.args.net.now in
    let old = c.loop-number.nodes.items in
    let n = c.loop-number.number in
    let place : 0 + n ≡ n = omega arith in
    c.in_ok-push.ensures.items ∙ (ap (λ z. old ++ z ∷ []) c.in_ok-new.ensures ∙ (ap (λ z. z ++ new_node net n ∷ []) c.loop-number.invariant ∙ sym (map-range_with_len_more (new_node net) 0 n n place)))

pub returns-clause-nodes : goal.returns-clause-nodes
returns-clause-nodes c =
    let net = c.args.net.now in
    let whole : c.loop-number.number ≡ length net.nodes = let few = c.loop-number-test.false in let more = c.loop-number.auto.number-end in let count = c.node_count-number-end.ensures.count in omega arith in
    let new = c.from_vec.ensures ∙ (c.loop-number.invariant ∙ ap (λ n. map (new_node net) (range_with_len 0 n)) whole) in
    subst (AreUnbegun flooding net 0) (sym new) (new_are_unbegun net)
