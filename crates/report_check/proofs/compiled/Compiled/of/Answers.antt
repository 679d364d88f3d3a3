use Rattle.net_graph.specs.RouteLaws.{table_value_in}
use Rattle.net_graph.specs.Views.{rows_of}
use Rattle.report_check.proofs.compiled.Compiled.of.Goals as goal

pub sigs_of_rows-requires : goal.sigs_of_rows-requires
sigs_of_rows-requires g c = λ k. rw c.requires.algebra (table_value_in c.args.net.now c.args.table.now.dest.0 (rows_of c.args.table.now) c.requires.table k)

pub returns-clause-compiled : goal.returns-clause-compiled
returns-clause-compiled g c = record {
  is_net = c.in_ok-sigs_of_own.ensures.net;
  is_table = c.requires.table;
  of_arcs = c.requires.labels;
  of_rows = c.in_ok-sigs_of_rows.ensures;
  of_origins = c.in_ok-sigs_of_own.ensures.sigs;
}
