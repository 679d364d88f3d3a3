use Rattle.union_classes.proofs.CoverLaws.{sum_class_of}
use Rattle.union_classes.proofs.sums.sum_class.Goals as goal

pub returns-clause-class : goal.returns-clause-class
returns-clause-class c = λ a b e formed is_x is_y. sum_class_of a b e c.args.x.now c.args.y.now _ is_x is_y (record {
  profile = c.sum_profile.ensures.rule;
  label = c.in_ok-both_label.ensures;
  examples = c.in_ok-beside.ensures;
})
