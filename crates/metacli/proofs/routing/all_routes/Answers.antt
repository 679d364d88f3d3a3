use Rattle.std.proofs.Common.{◌∙◌}
use Rattle.std.proofs.lemmas.List.{length-map}
use Rattle.word_tables.specs.Rows.{table_rows}
use Rattle.metacli.proofs.Found.{Laws, routes_on, rows_on}
use Rattle.metacli.proofs.routing.all_routes.Goals as goal

pub returns-clause-routes : goal.returns-clause-routes
returns-clause-routes g c =
    let net = c.args.net.now in
    let is_net = c.node_count-nodes.ensures.net in
    let laws : Laws net = record {
      optimal = λ first second dest t best. c.best_first_is_optimal.ensures net dest t is_net first second best;
      stable = λ all dest t best. c.best_first_is_stable.ensures net dest t is_net all best;
      monotone = λ all. c.strict_is_monotone.ensures net all;
      settled = λ rows stable. c.stable_rows_are_settled.ensures net rows stable;
      rows = λ dest t within best. c.best_first_rows_are_the_networks.ensures net dest t is_net within best;
    } in
    let rows = c.in_ok-rows.rows in
    routes_on net laws (table_rows rows) c.in_ok-rows.ensures.best (length-map rows.tables _ ∙ c.in_ok-rows.ensures.words.count) c.args.solution c.requires.fit

pub returns-clause-rows : goal.returns-clause-rows
returns-clause-rows g c =
    let net = c.args.net.now in
    let is_net = c.node_count-nodes.ensures.net in
    let laws : Laws net = record {
      optimal = λ first second dest t best. c.best_first_is_optimal.ensures net dest t is_net first second best;
      stable = λ all dest t best. c.best_first_is_stable.ensures net dest t is_net all best;
      monotone = λ all. c.strict_is_monotone.ensures net all;
      settled = λ rows stable. c.stable_rows_are_settled.ensures net rows stable;
      rows = λ dest t within best. c.best_first_rows_are_the_networks.ensures net dest t is_net within best;
    } in
    let rows = c.in_ok-rows.rows in
    rows_on net laws (table_rows rows) c.in_ok-rows.ensures.best (length-map rows.tables _ ∙ c.in_ok-rows.ensures.words.count)
