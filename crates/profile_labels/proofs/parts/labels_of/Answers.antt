use Rattle.std.proofs.Common.{sym, subst}
use Rattle.alg_classes.specs.Classes.{Covers}
use Rattle.profile_labels.proofs.StepLaws.{classes_cover}
use Rattle.profile_labels.proofs.parts.labels_of.Goals as goal

pub returns : goal.returns
returns c = λ a covers.
    let all = subst (Covers a) (sym c.classes.ensures.classes) covers in
    classes_cover a c.classes.result.now c.new-list.result c.add_labels.new.list c.new-list.ensures all (c.in_ok-add_labels.ensures a all.each)
