use Rattle.std.proofs.Common.{map, subst}
use Rattle.net_graph.specs.Views.{pure_change}
use Rattle.report_check.specs.Views.{pure_hops}
use Rattle.topology_file.specs.NetText.{changed_net}
use Rattle.topology_file.specs.Views.{pure_file}
use Rattle.metacli.specs.Found.{AreFoundHops}
use Rattle.metacli.proofs.NextHops.{printed_after_all}
use Rattle.metacli.proofs.hopping.outcome_of.Goals as goal

pub returns-in-Ok-clause-printable : goal.returns-in-Ok-clause-printable
returns-in-Ok-clause-printable c =
    let file = c.args.file in
    let found = subst (AreFoundHops (changed_net (pure_file file))) c.in-Ok.is c.requires.found in
    record {
      printable = printed_after_all file.net (map pure_change file.changes) (map pure_hops c.in-Ok.many) found.2;
      after = tt;
    }
