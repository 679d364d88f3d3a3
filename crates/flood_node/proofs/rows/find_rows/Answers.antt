use Rattle.std.proofs.Common.{length, refl, sym, ap, ◌∙◌, subst, arith}
use Rattle.std.proofs.lemmas.Option.{slice_get_read, slice_get_within}
use Rattle.std.proofs.lemmas.Result.{on_ok_weaker}
use Rattle.net_graph.specs.Nets.{PureNet}
use Rattle.flood_node.specs.Node.{has_card}
use Rattle.flood_node.specs.FoundRows.{found_rows}
use Rattle.flood_node.specs.Rows.{IsAsReported}
use Rattle.flood_node.proofs.Finding.{begun_all}
use Rattle.flood_node.proofs.Solved.{found_wide, leader_solved}
use Rattle.flood_node.proofs.rows.find_rows.Goals as goal

pub solve_reported-requires-clause-leaders : goal.solve_reported-requires-clause-leaders
solve_reported-requires-clause-leaders g c =
    c.requires.leaders.count ∙ (begun_all c.args.net.now c.args.nodes.now c.requires.nodes ∙ sym (ap (λ (n : PureNet). length n.nodes) c.in_ok-reported.ensures.but_origins))

pub solve_reported-requires-clause-nodes : goal.solve_reported-requires-clause-nodes
solve_reported-requires-clause-nodes g c = found_wide c.args.net.now c.args.nodes.now c.args.leaders.now c.args.leader c.args.leader 0 (found_rows c.args.found.now.items) c.requires.leaders c.requires.found

pub returns : goal.returns
returns g c =
    let net = c.args.net.now in
    let nodes = c.args.nodes.now in
    let leaders = c.args.leaders.now in
    let leader = c.args.leader in
    let node = c.index-nodes-leader.result in
    let reported = c.in_ok-reported.reported in
    let leads = slice_get_within leaders leader leader c.requires.leader in
    let count = c.requires.leaders.count in
    let there = slice_get_read nodes (length nodes) leader node refl (omega (arith, leads, count)) c.index-nodes-leader.is in
    let is_reported = subst (λ l. IsAsReported net (has_card l) reported) c.cards.ensures c.in_ok-reported.ensures in
    on_ok_weaker c.solve_reported.result (λ so. leader_solved net nodes leaders c.requires.leaders leader c.requires.leader c.requires.nodes node there reported is_reported
    (found_rows c.args.found.now.items) (found_rows c.solve_reported.new.found.items) so c.requires.found) c.solve_reported.ensures
