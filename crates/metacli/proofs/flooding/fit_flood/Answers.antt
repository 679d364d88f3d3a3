use Rattle.std.proofs.lemmas.Result.{IfOk-weaker}
use Rattle.metacli.proofs.Floods.{Laws, flood_found}
use Rattle.metacli.proofs.flooding.fit_flood.Goals as goal

pub returns : goal.returns
returns g c =
    let net = c.args.net.now in
    let is_net = c.flood_by_width.ensures.net in
    let laws : Laws net = record {
      spent = λ turns rows journal quiet run. c.floods_are_spent_exactly.ensures.spent net turns rows journal quiet is_net run;
      made = λ turns rows journal run. c.floods_are_spent_exactly.ensures.quiet net turns rows journal is_net run;
      link_state = λ turns rows routed journal run are. c.quiet_floods_are_link_states.ensures net turns rows routed journal is_net run are;
      rows_in = λ turns rows journal quiet run. c.flood_rows_are_the_networks.ensures net turns rows journal quiet is_net run;
    } in
    IfOk-weaker c.flood_by_width.result _ _ (flood_found net laws c.requires.fit c.args.turns) c.flood_by_width.ensures.run
