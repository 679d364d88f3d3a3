use Rattle.std.proofs.Common.{sym, ◌∙◌}
use Rattle.table_classes.proofs.Fails.{condensed_fails, narrow_fails}
use Rattle.table_classes.proofs.row.Row.fails_between.Goals as goal

pub is_preferred-requires-in-Condensed-Some-Some-clause-first : goal.is_preferred-requires-in-Condensed-Some-Some-clause-first
is_preferred-requires-in-Condensed-Some-Some-clause-first c = rw c.in-Condensed-Some-Some.is-1 at c.requires.within

pub returns-in-Condensed-Some-Some : goal.returns-in-Condensed-Some-Some
returns-in-Condensed-Some-Some c = rw c.in-Condensed-Some-Some.is-0
    (condensed_fails c.args.self.now c.args.u c.args.v c.in-Condensed-Some-Some.first c.in-Condensed-Some-Some.second
    c.is_preferred-in-Condensed-Some-Some.result (sym c.in-Condensed-Some-Some.is-1 ∙ c.requires.image) c.in-Condensed-Some-Some.ensures.image
    c.is_preferred-in-Condensed-Some-Some.ensures)

pub returns-in-Narrow-Some-Some : goal.returns-in-Narrow-Some-Some
returns-in-Narrow-Some-Some c = rw c.in-Narrow-Some-Some.is-0
    (narrow_fails c.args.self.now c.args.u c.args.v c.in-Narrow-Some-Some.field-0-1 c.in-Narrow-Some-Some.field-0-2
    c.is_preferred-in-Narrow-Some-Some.result (sym c.in-Narrow-Some-Some.is-1 ∙ c.requires.image) c.in-Narrow-Some-Some.ensures.image
    c.is_preferred-in-Narrow-Some-Some.ensures)
