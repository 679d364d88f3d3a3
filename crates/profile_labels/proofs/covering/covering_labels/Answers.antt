use Rattle.std.proofs.Common.{sym, subst}
use Rattle.alg_classes.specs.Classes.{alg_in}
use Rattle.profile_labels.specs.Outlines.{CoversBy}
use Rattle.profile_labels.proofs.DecidingLaws.{grown_covers}
use Rattle.profile_labels.proofs.covering.covering_labels.Goals as goal

pub returns : goal.returns
returns c =
    let a = c.args.alg.now in
    let all = subst (λ x. CoversBy (alg_in x a.edition) c.in_ok-outlines.outlines) c.tree.ensures.tree c.in_ok-outlines.ensures in
    let covers = subst (CoversBy a) (sym c.as_slice.ensures) all in
    grown_covers a c.as_slice.result.now c.new-labels.result c.make_labels.new.labels c.new-labels.ensures covers (c.in_ok-make_labels.ensures a covers.each)
