use Rattle.std.proofs.Common.{sym, subst}
use Rattle.std.proofs.lemmas.Result.{on_ok_weaker}
use Rattle.alg_model.specs.Expressions.{row_label}
use Rattle.alg_classes.specs.Profiles.{ProfileOf}
use Rattle.table_classes.proofs.Answers.{profile_of_row}
use Rattle.table_classes.proofs.Gains.{gains_none, gains_found}
use Rattle.table_classes.proofs.list.add_row.Goals as goal

pub returns-then-has : goal.returns-then-has
returns-then-has c =
    let a = c.args.alg.now in
    let place = c.args.place in
    gains_none a place c.args.list.now c.profile.result
    (subst (ProfileOf a.expression (row_label place)) (sym c.profile.ensures)
    (profile_of_row a.expression (row_label place) c.of.result c.of-found.result (rw c.tree.ensures.tree at c.of.ensures) c.of-found.ensures))
    (c.has.ensures.0 c.if-has.true)

pub returns : goal.returns
returns c =
    let a = c.args.alg.now in
    let place = c.args.place in
    on_ok_weaker c.add.result
    (gains_found a place c.args.list.now c.add.new.self c.class.result c.of.result c.of-found.result c.requires.table c.requires.label
    (rw c.tree.ensures.tree at c.of.ensures) c.of-found.ensures c.class.ensures)
    c.add.ensures.ok
