use Rattle.std.proofs.Common.{◌∙◌, ap}
use Rattle.alg_model.specs.Views.{expression_of, pure_label}
use Rattle.base_classes.specs.Witnesses.{of_one, of_two}
use Rattle.base_classes.proofs.Bounds.{examples_of_witness}
use Rattle.base_classes.proofs.examples.examples.Goals as goal

pub returns : goal.returns
returns c =
    examples_of_witness (expression_of c.args.tree.now) (pure_label c.args.label.now) c.args.profile.now _
    c.requires.base c.requires.ranges c.requires.label c.requires.profile
    (c.one-2.ensures ∙ ap of_one c.in_ok-example-2.ensures)
    (c.one.ensures ∙ ap of_one c.in_ok-example.ensures)
    (c.one-3.ensures ∙ ap of_one c.in_ok-example-3.ensures)
    (c.one-4.ensures ∙ ap of_one c.in_ok-example-4.ensures)
    (c.two.ensures ∙ ap of_two c.in_ok-example-5.ensures)
    (c.two-2.ensures ∙ ap of_two c.in_ok-example-6.ensures)
    (c.two-3.ensures ∙ ap of_two c.in_ok-example-7.ensures)
    (c.two-4.ensures ∙ ap of_two c.in_ok-example-8.ensures)
