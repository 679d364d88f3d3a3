use Rattle.std.proofs.Common.{map, subst}
use Rattle.net_graph.specs.Views.{pure_change}
use Rattle.topology_file.specs.NetText.{changed_net}
use Rattle.topology_file.specs.Views.{pure_file}
use Rattle.word_tables.specs.Rows.{pure_word_rows}
use Rattle.metacli.specs.Found.{IsFoundOn}
use Rattle.metacli.proofs.RowsAfter.{rows_after_all, words_after_all}
use Rattle.metacli.proofs.routing.outcome_of.Goals as goal

pub returns-in-Ok-clause-printable : goal.returns-in-Ok-clause-printable
returns-in-Ok-clause-printable c =
    let file = c.args.file in
    let changes = map pure_change file.changes in
    let rows = c.in-Ok.rows in
    let found = subst (IsFoundOn c.args.solution (changed_net (pure_file file))) c.in-Ok.is c.requires.found in
    record {
      printable = rows_after_all file.net changes (pure_word_rows rows) found.2;
      after = words_after_all file.net changes rows found.3;
    }
