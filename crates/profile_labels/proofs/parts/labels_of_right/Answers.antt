use Rattle.std.proofs.Common.{ap, ◌∙◌}
use Rattle.alg_model.specs.Carriers.{carrier_of}
use Rattle.alg_model.specs.Expressions.{right}
use Rattle.alg_model.specs.Views.{expression_of}
use Rattle.alg_classes.specs.Classes.{alg_in}
use Rattle.profile_labels.proofs.parts.labels_of_right.Goals as goal

pub returns : goal.returns
returns c =
    let a = expression_of c.args.a.now in
    let e = c.args.alg.now.edition in
    c.labels_of.ensures (alg_in (right a) e) (c.in_ok-classes.ensures a e (c.in_ok-carrier.ensures.carrier ∙ ap carrier_of c.of.ensures))
