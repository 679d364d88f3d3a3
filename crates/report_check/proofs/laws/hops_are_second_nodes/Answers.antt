use Rattle.net_graph.specs.Nets.{origin_value}
use Rattle.net_graph.specs.Tables.{carrier, value_at}
use Rattle.report_check.proofs.Equals.{passes, tested}
use Rattle.report_check.proofs.NextHops.{hop_walk, walk_hop}
use Rattle.report_check.proofs.laws.hops_are_second_nodes.Goals as goal

pub returns-clause-heads : goal.returns-clause-heads
returns-clause-heads c = λ net dest t i j n m o. (
  λ h. hop_walk net n dest t i j o h,
  λ w. walk_hop net n m dest t i j o ((c.relaxed_is_optimal.ensures net dest t n m).1 o) w.0 w.1 w.2,
)

pub returns-clause-here : goal.returns-clause-here
returns-clause-here c = λ net dest t i. (tested (carrier net) (origin_value net dest i) (value_at t i), passes (carrier net) (origin_value net dest i) (value_at t i))
