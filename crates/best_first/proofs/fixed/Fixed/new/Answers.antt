use Rattle.best_first.proofs.Numbering.{rows_none}
use Rattle.best_first.proofs.fixed.Fixed.new.Goals as goal

pub returns-clause-rows : goal.returns-clause-rows
returns-clause-rows g c = rw c.in_ok-none_of.ensures (rows_none c.in_ok-with_capacity.field-0.items c.args.count)
