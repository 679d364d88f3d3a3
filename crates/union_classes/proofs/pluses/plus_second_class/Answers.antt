use Rattle.std.proofs.Common.{refl}
use Rattle.union_classes.proofs.CoverLaws.{plus_second_class_of}
use Rattle.union_classes.proofs.pluses.plus_second_class.Goals as goal

pub returns-clause-class : goal.returns-clause-class
returns-clause-class c = λ a b e formed is.
    plus_second_class_of a b e c.args.y.now _ formed is refl c.in_ok-second_label.ensures c.in_ok-copy_examples.ensures
