use Rattle.std.proofs.Common.{arith}
use Rattle.table_classes.specs.Rows.{value_fact}
use Rattle.table_classes.specs.Found.{FailsAtPlace}
use Rattle.table_classes.proofs.Searches.{passed, holds_of_values}
use Rattle.table_classes.proofs.row.Row.find_value.Goals as goal

pub loop-u-preserved : goal.loop-u-preserved
loop-u-preserved c = passed (FailsAtPlace c.args.self.now (value_fact c.args.fact)) c.loop-u.u c.fails_at.result
    c.loop-u.invariant c.fails_at.ensures c.if-fails_at.false

pub returns : goal.returns
returns c = holds_of_values c.args.self.now c.args.fact c.count-u-end.ensures.row (λ u h. c.loop-u.invariant u (omega arith))
