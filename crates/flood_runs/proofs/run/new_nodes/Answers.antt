use Rattle.std.proofs.Common.{◌≡◌, ◌+◌, ◌++◌, ◌∷◌, [], ap, arith, length, map, sym, ◌∙◌}
use Rattle.std.specs.List.{range_with_len}
use Rattle.std.proofs.lemmas.List.FromFn.{map-range_with_len_more}
use Rattle.flood_node.specs.Node.{new_node}
use Rattle.flood_runs.proofs.run.new_nodes.Goals as goal

pub loop-number-preserved : goal.loop-number-preserved
loop-number-preserved c =
    let net = c.args.net.now in
    let n = c.loop-number.number in
    let place : 0 + n ≡ n = omega arith in
    record {
      nodes = c.in_ok-push.ensures.items ∙ (ap (λ z. z ++ c.in_ok-new.field-0 ∷ []) c.loop-number.invariant.nodes ∙ (ap (λ z. map (new_node net) (range_with_len 0 n) ++ z ∷ []) c.in_ok-new.ensures
          ∙ sym (map-range_with_len_more (new_node net) 0 n n place)));
    }

pub returns : goal.returns
returns c =
    let net = c.args.net.now in
    let whole : c.loop-number.number ≡ length net.nodes = let few = c.loop-number-test.false in let more = c.loop-number.auto.number-end in let count = c.node_count-count.ensures.count in omega arith in
    c.from_vec.ensures ∙ (c.loop-number.invariant.nodes ∙ ap (λ n. map (new_node net) (range_with_len 0 n)) whole)
