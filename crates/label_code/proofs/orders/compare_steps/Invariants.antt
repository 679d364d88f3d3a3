use Rattle.std.proofs.Common.{◌≡◌, length}
use Rattle.label_code.specs.Orders.{RunOrder}
use Rattle.label_code.proofs.orders.compare_steps.Given as goal

-- what is left decides as the whole code does
abbrev pub invariant-loop-op : goal.invariant-loop-op
invariant-loop-op l = record {
  same : RunOrder l.code l.first l.second ≡ RunOrder l.fn.code l.fn.first l.fn.second;
}

abbrev pub decreases-loop-op : goal.decreases-loop-op
decreases-loop-op l = length l.code
