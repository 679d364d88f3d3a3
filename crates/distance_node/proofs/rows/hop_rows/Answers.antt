use Rattle.std.proofs.Common.{◌≡◌, ◌<◌, ◌++◌, ap, arith, length, map, subst, sym, ◌∙◌}
use Rattle.std.specs.List.{range_with_len}
use Rattle.net_graph.specs.Nets.{PureNet}
use Rattle.distance_node.specs.Nodes.{state_of}
use Rattle.distance_node.specs.Rows.{pure_hop_row, dest_rows, HopRows, rows_for}
use Rattle.distance_node.proofs.HopLists.{all_within, first_is, no_first, no_rows, rows_next}
use Rattle.distance_node.proofs.rows.hop_rows.Goals as goal

pub returns-in_default : goal.returns-in_default
returns-in_default g c net all =
    ap (map pure_hop_row) c.new.ensures
    ∙ sym (ap (λ nodes. HopRows net (map state_of nodes)) (no_first c.args.nodes.now c.in_default.ensures.value) ∙ no_rows (range_with_len 0 (length net.dests)))

pub push_dest_rows-requires : goal.push_dest_rows-requires
push_dest_rows-requires g c =
    let within : c.loop-dest.dest < length c.in-Some.first.now.net.dests = let l = c.loop-dest-test.true in let count = c.dest_count-count.ensures.count in omega arith in
    all_within (λ n. n.net) c.args.nodes.now c.in-Some.first.now c.requires.0 c.in-Some.ensures.value c.requires.1 c.loop-dest.dest within

pub loop-dest-preserved : goal.loop-dest-preserved
loop-dest-preserved g c =
    let states = map state_of c.args.nodes.now in
    record {
      rows = c.in_ok-push_dest_rows.ensures ∙ ap (λ z. z ++ dest_rows states c.loop-dest.dest) c.loop-dest.invariant.rows ∙ sym (rows_next states c.loop-dest.dest);
    }

pub returns : goal.returns
returns g c net all =
    let states = map state_of c.args.nodes.now in
    let first = first_is (λ n. n.net) c.args.nodes.now c.in-Some.first.now net c.in-Some.ensures.value all in
    let whole : c.loop-dest.dest ≡ length net.dests = subst (λ (z : PureNet). c.loop-dest.dest ≡ length z.dests) first (let few = c.loop-dest-test.false in let more = c.loop-dest.auto.dest-end in let count = c.dest_count-count.ensures.count in omega arith) in
    ap (map pure_hop_row) c.from_vec.ensures ∙ c.loop-dest.invariant.rows ∙ ap (λ n. rows_for states (range_with_len 0 n)) whole
