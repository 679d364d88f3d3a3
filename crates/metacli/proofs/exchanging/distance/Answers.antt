use Rattle.std.proofs.Common.{map, subst}
use Rattle.distance_node.specs.Rows.{pure_hop_row}
use Rattle.net_graph.specs.Views.{pure_change}
use Rattle.topology_file.specs.NetText.{changed_net}
use Rattle.topology_file.specs.Views.{pure_file}
use Rattle.metacli.specs.Found.{IsFoundExchange}
use Rattle.metacli.proofs.Exchanges.{hop_rows_after_all}
use Rattle.metacli.proofs.exchanging.distance.Goals as goal

pub returns-in-Ok-found-clause-printable : goal.returns-in-Ok-found-clause-printable
returns-in-Ok-found-clause-printable g c =
    let file = c.args.file in
    let found = subst (IsFoundExchange (changed_net (pure_file file)) c.args.turns) c.in-Ok-found.is c.in-Ok.ensures.found in
    record {
      printable = hop_rows_after_all file.net (map pure_change file.changes) (map pure_hop_row c.in-Ok-found.run'.hops) found.2;
      after = tt;
    }
