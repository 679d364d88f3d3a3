use Rattle.std.proofs.Common.{subst}
use Rattle.std.proofs.lemmas.Result.{on_ok_weaker}
use Rattle.alg_classes.specs.Classes.{alg_in}
use Rattle.alg_model.specs.Views.{expression_of, pure_label}
use Rattle.base_classes.specs.Lists.{candidate}
use Rattle.profile_labels.specs.Labels.{IsLabelWith}
use Rattle.profile_labels.proofs.Places.{added_more, base_with}
use Rattle.profile_labels.proofs.leaves.add_candidate.Goals as goal

pub returns-in-Some : goal.returns-in-Some
returns-in-Some c = λ e is h.
    let tree = expression_of c.args.tree.now in
    let a = alg_in tree e in
    let p = c.base_tree_profile.result in
    let some = c.in-Some.ensures.some in
    let with = base_with a (pure_label c.in-Some.label) p is c.requires.base some.1 c.base_tree_profile.ensures in
    on_ok_weaker c.add_label.result
    (added_more a (candidate tree) c.args.place c.args.list.now c.add_label.new.list p (subst (λ l. IsLabelWith a l p) some.0 with) h)
    (c.add_label.ensures a with)
