use Rattle.std.proofs.Common.{map, subst}
use Rattle.net_graph.specs.Views.{pure_change, pure_row}
use Rattle.topology_file.specs.NetText.{changed_net}
use Rattle.topology_file.specs.Views.{pure_file}
use Rattle.metacli.specs.Found.{IsFoundFlood}
use Rattle.metacli.proofs.RowsAfter.{rows_after_all}
use Rattle.metacli.proofs.flooding.flood.Goals as goal

pub returns-in-Ok-found-clause-printable : goal.returns-in-Ok-found-clause-printable
returns-in-Ok-found-clause-printable g c =
    let file = c.args.file in
    let found = subst (IsFoundFlood (changed_net (pure_file file)) c.args.turns) c.in-Ok-found.is c.in-Ok.ensures.found in
    record {
      printable = rows_after_all file.net (map pure_change file.changes) (map pure_row c.in-Ok-found.run'.rows) found.2;
      after = tt;
    }
