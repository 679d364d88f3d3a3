use Rattle.alg_model.specs.Views.{pure_label}
use Rattle.base_classes.proofs.Lists.{one_added}
use Rattle.base_classes.proofs.list.add_class.Goals as goal

pub returns : goal.returns
returns c place some none h = one_added c.args.alg.now c.add.result c.args.list.now c.add.new.self c.in_ok-base_class.field-0
    (pure_label c.in-Some.label) place c.in_ok-base_class.ensures.class c.in_ok-base_class.ensures.label (rw c.in-Some.is at some) c.add.ensures.ok h
