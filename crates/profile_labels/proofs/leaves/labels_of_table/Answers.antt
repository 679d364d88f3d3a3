use Rattle.std.proofs.Common.{arith}
use Rattle.alg_classes.specs.Classes.{alg_in}
use Rattle.alg_model.specs.Expressions.{row_label}
use Rattle.alg_model.specs.Views.{expression_of}
use Rattle.profile_labels.proofs.Places.{none_before, added_more, row_with, rows_cover}
use Rattle.profile_labels.proofs.leaves.labels_of_table.Goals as goal

pub loop-place-init : goal.loop-place-init
loop-place-init c = λ e. none_before (alg_in (expression_of c.args.tree.now) e) row_label c.new-list.result c.new-list.ensures

pub loop-place-preserved : goal.loop-place-preserved
loop-place-preserved c = λ e.
    let a = alg_in (expression_of c.args.tree.now) e in
    let place = c.loop-place.place in
    let label = (c.table_row_count-place-end.ensures place).0 (omega arith) in
    let is = row_with a place c.table_tree_profile.result c.requires.table label c.table_tree_profile.ensures in
    added_more a row_label place c.loop-place.list c.add_label.new.list c.table_tree_profile.result is (c.loop-place.invariant e)
    (c.in_ok-add_label.ensures a is)

pub returns : goal.returns
returns c = λ e.
    rows_cover (alg_in (expression_of c.args.tree.now) e) c.loop-place.place c.loop-place.list c.requires.table
    (λ r i. let below = (c.table_row_count-place-end.ensures r).1 i in omega arith) (c.loop-place.invariant e)
