use Rattle.std.proofs.Common.{ap, length, ◌∙◌}
use Rattle.std.proofs.lemmas.Result.{on_ok_weaker}
use Rattle.net_graph.specs.Nets.{PureNet}
use Rattle.flood_node.specs.Rows.{is_placed, reported_origins}
use Rattle.flood_node.proofs.reported.add_reported.Goals as goal

pub returns : goal.returns
returns c =
    let net = c.args.net.now in
    let all = reported_origins net (is_placed c.args.cards.now) (length net.nodes) in
    on_ok_weaker c.add_origins.result (λ e. e ∙ ap (λ (d : PureNet). record d { origins = all }) c.in_ok-add_arcs.ensures) c.add_origins.ensures
