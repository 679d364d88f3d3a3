use Rattle.std.proofs.Common.{refl, ◌∙◌, ap}
use Rattle.alg_classes.specs.Instances.{pure_instance}
use Rattle.settled_laws.specs.SmallInstances.{small_label_on, small_value_under}
use Rattle.alg_model.specs.Views.{pure_label, pure_value}
use Rattle.wedge_nets.proofs.Instances.{is_gadget}
use Rattle.wedge_nets.proofs.instance.small_instance.Goals as goal

pub returns : goal.returns
returns c =
    let label = pure_label c.args.instance.now.label in
    let value = pure_value c.args.instance.now.first in
    is_gadget c.args.alg.now (pure_instance c.args.instance.now) _ c.tree.ensures.formed c.requires.property c.requires.violates refl
    (c.in_ok-label.ensures.0 ∙ ap (λ a. small_label_on a label value) c.tree.ensures.tree)
    (c.in_ok-label.ensures.1 ∙ ap (λ a. small_value_under a label value) c.tree.ensures.tree) refl
