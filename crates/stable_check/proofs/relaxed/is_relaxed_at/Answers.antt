use Rattle.net_graph.specs.Views.{rows_of}
use Rattle.stable_check.specs.Offering.{origin_in, rows_in}
use Rattle.stable_check.proofs.relaxed.is_relaxed_at.Goals as goal

pub is_preferred-requires-clause-value : goal.is_preferred-requires-clause-value
is_preferred-requires-clause-value c = rw (c.at.ensures c.args.net.now c.args.table.now.dest.0 c.requires.own) (origin_in c.args.net.now c.requires.net c.args.table.now.dest.0 c.args.node.0)

pub is_preferred-requires-clause-row : goal.is_preferred-requires-clause-row
is_preferred-requires-clause-row c = rw c.route_at.ensures (rows_in c.args.net.now c.args.table.now.dest.0 (rows_of c.args.table.now) c.requires.table c.args.node.0)
