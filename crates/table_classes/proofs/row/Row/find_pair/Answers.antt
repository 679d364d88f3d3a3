use Rattle.std.proofs.Common.{◌<◌, ℕ, length, arith}
use borrow.Author.Count.{below_more}
use Rattle.table_classes.specs.Rows.{pair_fact}
use Rattle.table_classes.specs.Found.{FailsBetween}
use Rattle.table_classes.proofs.Searches.{holds_of_pairs}
use Rattle.table_classes.proofs.row.Row.find_pair.Goals as goal

pub loop-u-preserved : goal.loop-u-preserved
loop-u-preserved c =
    below_more (λ u. (v : ℕ) → v < length c.args.self.now.names → ¬ FailsBetween c.args.self.now (pair_fact c.args.fact) u v)
    c.loop-u.u c.loop-u.invariant c.in_default.ensures

pub returns : goal.returns
returns c = holds_of_pairs c.args.self.now c.args.fact c.count-u-end.ensures.row (λ u h. c.loop-u.invariant u (omega arith))
