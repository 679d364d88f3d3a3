use Rattle.std.proofs.lemmas.Result.{IfOk-weaker}
use Rattle.metacli.proofs.Exchanges.{Laws, exchange_found}
use Rattle.metacli.proofs.exchanging.fit_exchange.Goals as goal

pub returns : goal.returns
returns g c =
    let net = c.args.net.now in
    let is_net = c.exchange_by_width.ensures.net in
    let strict = c.requires.fit.0 in
    let isotone = c.requires.fit.1.0 in
    let laws : Laws net = record {
      best = λ turns hops journal run. c.quiet_hops_lead_along_best_walks.ensures net turns hops journal is_net strict isotone run;
      link_state = λ turns hops routed journal run are. c.quiet_values_are_link_states.ensures net turns hops routed journal is_net strict isotone run are;
      rows_in = λ turns hops journal quiet run. c.distance_rows_are_the_networks.ensures net turns hops journal quiet is_net run;
    } in
    IfOk-weaker c.exchange_by_width.result _ _ (exchange_found net laws c.requires.fit c.args.turns) c.exchange_by_width.ensures.run
