use Rattle.std.proofs.Common.{subst}
use Rattle.alg_classes.specs.Classes.{IsGrownBy}
use Rattle.union_classes.proofs.ConstLaws.{right_covers}
use Rattle.union_classes.proofs.rights.right_class_list.Goals as goal

pub returns : goal.returns
returns c = λ a e same. right_covers a e c.in_ok-keep_class.field-0 c.add.new.self c.in_ok-keep_class.ensures.label
    (c.in_ok-keep_class.ensures.class a e same)
    (subst (λ old. IsGrownBy old c.in_ok-keep_class.field-0 c.add.new.self) c.new-rights.ensures c.in_ok-add.ensures.ok)
