use Rattle.std.proofs.Common.{refl}
use Rattle.union_classes.proofs.CoverLaws.{plus_first_class_of}
use Rattle.union_classes.proofs.pluses.plus_first_class.Goals as goal

pub returns-clause-class : goal.returns-clause-class
returns-clause-class c = λ a b e formed is.
    plus_first_class_of a b e c.args.x.now _ is refl c.in_ok-first_label.ensures c.in_ok-copy_examples.ensures
