use Rattle.std.proofs.Common.{arith, sym, subst}
use borrow.Author.Count.{below_more}
use Rattle.alg_model.specs.Expressions.{row_label}
use Rattle.alg_model.specs.Application.{IsLabel}
use Rattle.alg_classes.specs.Classes.{AreDistinct, IsCovered}
use Rattle.table_classes.specs.RowLaws.{each_row}
use Rattle.table_classes.proofs.Gains.{still_covered}
use Rattle.table_classes.proofs.list.table_class_list.Goals as goal

pub loop-place-preserved : goal.loop-place-preserved
loop-place-preserved c =
    let a = c.args.alg.now in
    let place = c.loop-place.place in
    let old = c.loop-place.list in
    let new = c.add_row.new.list in
    let gains = c.in_ok-add_row.ensures in
    record {
      distinct = subst AreDistinct c.list.view_is c.list.invariant;
      each = gains.each c.loop-place.invariant.each;
      covered = below_more (λ r. IsCovered a new (row_label r)) place
          (λ r h. still_covered a place old new (row_label r) gains (c.loop-place.invariant.covered r h)) gains.covered;
    }

pub returns : goal.returns
returns c =
    let a = c.args.alg.now in
    record {
      distinct = c.loop-place.invariant.distinct;
      each = c.loop-place.invariant.each;
      labels = each_row a.expression c.requires (IsCovered a c.loop-place.list)
          (λ r i.
          let below = (c.table_row_count-place-end.ensures r).1 (subst (λ b. IsLabel b (row_label r)) (sym c.tree.ensures.tree) i) in
          c.loop-place.invariant.covered r (omega arith));
    }
