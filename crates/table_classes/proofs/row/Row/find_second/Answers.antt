use Rattle.std.proofs.Common.{arith}
use Rattle.table_classes.specs.Rows.{pair_fact}
use Rattle.table_classes.specs.Found.{FailsBetween}
use Rattle.table_classes.proofs.Searches.{passed}
use Rattle.table_classes.proofs.row.Row.find_second.Goals as goal

pub loop-v-preserved : goal.loop-v-preserved
loop-v-preserved c = passed (FailsBetween c.args.self.now (pair_fact c.args.fact) c.args.u) c.loop-v.v c.fails_between.result
    c.loop-v.invariant c.fails_between.ensures c.if-fails_between.false

pub returns : goal.returns
returns c = λ v h. c.loop-v.invariant v (omega arith)
