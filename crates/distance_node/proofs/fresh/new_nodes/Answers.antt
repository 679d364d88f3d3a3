use Rattle.std.proofs.Common.{◌≡◌, ◌+◌, ◌++◌, ◌∷◌, [], ap, arith, length, map, sym, ◌∙◌}
use Rattle.std.specs.List.{range_with_len}
use Rattle.std.proofs.lemmas.List.{map-append}
use Rattle.std.proofs.lemmas.List.FromFn.{map-range_with_len_more}
use Rattle.distance_node.specs.Node.{new_node}
use Rattle.distance_node.specs.Nodes.{state_of}
use Rattle.distance_node.proofs.fresh.new_nodes.Goals as goal

pub loop-number-preserved : goal.loop-number-preserved
loop-number-preserved g c =
    let net = c.args.net.now in
    let old = c.loop-number.nodes.items in
    let n = c.loop-number.number in
    let place : 0 + n ≡ n = omega arith in
    record {
      nodes = ap (map state_of) c.in_ok-push.ensures.items ∙ (map-append state_of old (c.in_ok-new.field-0 ∷ [])
          ∙ (ap (λ z. z ++ state_of c.in_ok-new.field-0 ∷ []) c.loop-number.invariant.nodes ∙ (ap (λ z. map (new_node net) (range_with_len 0 n) ++ z ∷ []) c.in_ok-new.ensures
          ∙ sym (map-range_with_len_more (new_node net) 0 n n place))));
    }

pub returns : goal.returns
returns g c =
    let net = c.args.net.now in
    let whole : c.loop-number.number ≡ length net.nodes = let few = c.loop-number-test.false in let more = c.loop-number.auto.number-end in let count = c.node_count-count.ensures.count in omega arith in
    ap (map state_of) c.from_vec.ensures ∙ (c.loop-number.invariant.nodes ∙ ap (λ n. map (new_node net) (range_with_len 0 n)) whole)
