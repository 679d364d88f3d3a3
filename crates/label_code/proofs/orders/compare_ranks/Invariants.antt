use Rattle.std.proofs.Common.{◌≡◌, length}
use Rattle.label_code.specs.Orders.{RunOrder}
use Rattle.label_code.proofs.orders.compare_ranks.Given as goal

-- what is left decides as the whole code does
abbrev pub invariant-loop-code : goal.invariant-loop-code
invariant-loop-code l = record {
  same : RunOrder l.code l.first l.second ≡ RunOrder l.fn.code l.fn.first l.fn.second;
}

abbrev pub decreases-loop-code : goal.decreases-loop-code
decreases-loop-code l = length l.code
