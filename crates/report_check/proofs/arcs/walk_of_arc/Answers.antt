use Rattle.net_graph.specs.Views.{rows_of}
use Rattle.stable_check.specs.Offering.{rows_in}
use Rattle.report_check.proofs.arcs.walk_of_arc.Goals as goal

pub is_preferred-requires-clause-row : goal.is_preferred-requires-clause-row
is_preferred-requires-clause-row c = rw c.route_at.ensures (rows_in c.args.net.now c.args.table.now.dest.0 (rows_of c.args.table.now) c.requires.table c.args.arc.now.tail.0)
