use Rattle.std.proofs.Common.{refl, arith}
use Rattle.net_graph.specs.Views.{rows_of}
use Rattle.stable_check.specs.Offering.{all_choices}
use Rattle.stable_check.proofs.stable.is_stable.Goals as goal

pub returns : goal.returns
returns c = (
  λ e. all_choices c.args.net.now c.args.table.now.dest.0 c.loop-node.node (rows_of c.args.table.now) c.requires.table
      (omega (arith, c.loop-node-test.false, c.loop-node.auto.node-end, c.node_count-node-end.ensures.count)) c.loop-node.invariant,
  λ h. refl,
)
