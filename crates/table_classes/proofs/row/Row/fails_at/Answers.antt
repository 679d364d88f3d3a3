use Rattle.table_classes.proofs.Fails.{dead_fails, strict_fails}
use Rattle.table_classes.proofs.row.Row.fails_at.Goals as goal

pub returns-in-Dead-default : goal.returns-in-Dead-default
returns-in-Dead-default c = rw (c.in-Dead-default.is-0, c.is_some.ensures)
    (dead_fails c.args.self.now c.args.u c.image-image.result c.image-image.ensures.image)

pub returns-in-Strict-Some : goal.returns-in-Strict-Some
returns-in-Strict-Some c = rw c.in-Strict-Some.is-0
    (strict_fails c.args.self.now c.args.u c.in-Strict-Some.image c.is_preferred-in-Strict-Some.result c.in-Strict-Some.ensures.image
    c.is_preferred-in-Strict-Some.ensures)
