use Rattle.alg_model.specs.Views.{expression_of, pure_label}
use Rattle.base_classes.proofs.Bounds.{class_is}
use Rattle.base_classes.proofs.class.base_class.Goals as goal

pub returns-clause-class : goal.returns-clause-class
returns-clause-class c = class_is c.args.alg.now _ (pure_label c.args.label.now)
    (expression_of c.tree.result.now) (expression_of c.tree-2.result.now) c.tree.ensures.formed c.requires.base c.requires.label
    c.tree.ensures.tree c.tree-2.ensures.tree c.in_ok-copy.ensures c.rule-profile.ensures c.in_ok-examples.ensures
