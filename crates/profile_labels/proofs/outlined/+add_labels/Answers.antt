use Rattle.std.proofs.Common.{◌-◌, ◌∷◌, length, take, drop, OnOk}
use Rattle.std.proofs.lemmas.Result.{on_ok_weaker}
use Rattle.std.specs.List.{AllByRecursion}
use Rattle.alg_model.specs.Views.{pure_label}
use Rattle.alg_classes.specs.Classes.{ClassOf, HasProfile}
use Rattle.alg_classes.specs.Growth.{Only}
use Rattle.alg_classes.specs.GrowthLaws.{grown_then}
use Rattle.alg_classes.specs.ListLaws.{taken_apart}
use Rattle.profile_labels.specs.Growth.{Grown}
use Rattle.profile_labels.specs.Outlines.{OutlinedOf}
use Rattle.profile_labels.proofs.StepLaws.{label_of_class, first_or_rest}
use Rattle.profile_labels.proofs.outlined.+add_labels.Goals as goal

pub returns-in_ok-add_label-in-len1-up : goal.returns-in_ok-add_label-in-len1-up
returns-in_ok-add_label-in-len1-up t c = λ a are.
    let class = c.class-item.result in
    let rest = take (length c.args.classes.now - 1) (drop 1 c.args.classes.now) in
    let old = c.args.list.now in
    let mid = c.add_label.new.list in
    taken_apart
    (λ classes. AllByRecursion (ClassOf a) classes → OnOk c.add_labels.result (Grown (OutlinedOf a) (HasProfile classes) old c.add_labels.new.list))
    c.args.classes.now class c.in-len1-up.len_at_least c.class-item.is
    (λ both.
    let l = pure_label c.in_ok-copy-in-len1-up.field-0 in
    let one = c.in_ok-add_label-in-len1-up.ensures a (label_of_class a class l both.0 c.in_ok-copy-in-len1-up.ensures) in
    on_ok_weaker c.add_labels.result
    (grown_then (OutlinedOf a) (Only class.profile) (HasProfile rest) (HasProfile (class ∷ rest)) old mid c.add_labels.new.list (first_or_rest class rest) one)
    (c.add_labels.ensures a both.1)) are
