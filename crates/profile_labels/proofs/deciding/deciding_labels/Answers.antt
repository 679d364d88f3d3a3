use Rattle.std.proofs.Common.{sym, subst}
use Rattle.alg_classes.specs.Classes.{alg_in}
use Rattle.profile_labels.specs.Outlines.{CoversBy}
use Rattle.profile_labels.proofs.DecidingLaws.{decides_by_outlines}
use Rattle.profile_labels.proofs.deciding.deciding_labels.Goals as goal

pub returns : goal.returns
returns c =
    let a = c.args.alg.now in
    let all = subst (λ x. CoversBy (alg_in x a.edition) c.in_ok-outlines.outlines) c.tree.ensures.tree c.in_ok-outlines.ensures in
    let covers = subst (CoversBy a) (sym c.as_slice.ensures) all in
    decides_by_outlines a c.as_slice.result.now c.new-labels.result c.add_deciding.new.labels c.new-labels.ensures covers (c.in_ok-add_deciding.ensures a covers.each)
