use Rattle.table_classes.proofs.Fails.{image_within}
use Rattle.table_classes.proofs.row.Row.image.Goals as goal

pub returns-clause-within : goal.returns-clause-within
returns-clause-within c = image_within c.args.self.now c.count.ensures.row c.args.place c.entry.result c.entry.ensures
