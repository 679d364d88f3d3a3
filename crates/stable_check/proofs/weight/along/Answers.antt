use Rattle.std.proofs.Common.{sym, lit≤, ◌*◌}
use Rattle.alg_model.specs.declared.alg.TheConstants.{MAX_VALUE_NUMBER}
use Rattle.alg_model.specs.declared.edition.TheConstants.{MAX_LABEL_NUMBER}
use Rattle.alg_model.specs.Laws.{at_most_more}
use Rattle.alg_model.specs.Views.{pure_label, pure_value}
use Rattle.stable_check.specs.declared.weight.TheConstants.{MAX_WALK_NODES}
use Rattle.stable_check.specs.Offering.{label_is}
use Rattle.stable_check.proofs.weight.along.Goals as goal

pub apply-requires-clause-label : goal.apply-requires-clause-label
apply-requires-clause-label c = rw c.alg.ensures.alg (label_is c.args.net.now c.requires.net c.args.tail.0 c.args.head.0 (pure_label c.in-Some-label_between.label.now) (sym c.in-Some-label_between.ensures)).label_in

pub apply-requires-clause-small_label : goal.apply-requires-clause-small_label
apply-requires-clause-small_label c = (label_is c.args.net.now c.requires.net c.args.tail.0 c.args.head.0 (pure_label c.in-Some-label_between.label.now) (sym c.in-Some-label_between.ensures)).small

pub apply-requires-clause-small_value : goal.apply-requires-clause-small_value
apply-requires-clause-small_value c =
    let small = rw c.in-Some.is at c.requires.value in
    at_most_more (MAX_WALK_NODES * MAX_LABEL_NUMBER) MAX_VALUE_NUMBER (pure_value c.in-Some.value.now) (lit≤ tt) small.bound
