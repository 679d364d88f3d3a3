use Rattle.std.proofs.Common.{subst, []}
use Rattle.alg_model.specs.Expressions.{left}
use Rattle.alg_model.specs.Formation.{IsCarrier}
use Rattle.alg_model.specs.Views.{pure_carrier}
use Rattle.alg_classes.specs.Classes.{ClassOf, alg_in}
use Rattle.alg_classes.specs.Growth.{Grown}
use Rattle.union_classes.specs.Made.{OfConstants}
use Rattle.union_classes.proofs.ConstLaws.{left_covers}
use Rattle.union_classes.proofs.lefts.left_class_list.Goals as goal

pub returns : goal.returns
returns c = λ a e bound same.
    let zs = c.add_consts.new.lefts in
    left_covers a e zs (subst IsCarrier same c.requires)
    (subst (λ d. Grown (ClassOf (alg_in (left a) e)) (OfConstants d) [] zs) same
    (subst (λ old. Grown (ClassOf (alg_in (left a) e)) (OfConstants (pure_carrier c.args.carrier.now)) old zs) c.new-lefts.ensures
    (c.in_ok-add_consts.ensures a e bound same)))
