use Rattle.std.proofs.Common.{sym, ◌∙◌}
use Rattle.std.proofs.lemmas.Result.{on_ok_weaker}
use Rattle.alg_model.specs.Carriers.{carrier_of}
use Rattle.alg_model.specs.CarrierLaws.{carriers_are}
use Rattle.alg_model.specs.Expressions.{scoped}
use Rattle.alg_model.specs.Views.{expression_of}
use Rattle.alg_classes.specs.Classes.{alg_in}
use Rattle.alg_classes.specs.Flat.{best}
use Rattle.profile_labels.specs.declared.extreme.Extreme.TheVariants.{Worst}
use Rattle.profile_labels.specs.Outlines.{OutlinedOf, extreme_of}
use Rattle.profile_labels.proofs.ExtremeLaws.{none_where_not, worst_where_there}
use Rattle.profile_labels.proofs.StepLaws.{grown_by_best, grown_by_both}
use Rattle.profile_labels.proofs.parts.add_outers.Goals as goal

pub returns-then-has_worst : goal.returns-then-has_worst
returns-then-has_worst c = λ a e formed bound are.
    let b = expression_of c.args.second.now in
    let d = carrier_of b in
    let there = worst_where_there d (best d) (sym c.has_worst.ensures ∙ c.if-has_worst.true) in
    on_ok_weaker c.add_outers_to-then-has_worst.result
    (grown_by_both (OutlinedOf (alg_in (scoped a b) e)) d (extreme_of d Worst) c.args.xs.now c.args.list.now c.add_outers_to.new.list
    c.add_outers_to-then-has_worst.new.list (carriers_are b c.requires) there (c.in_ok-add_outers_to.ensures a e formed bound are))
    (c.add_outers_to-then-has_worst.ensures a e formed bound are)

pub returns-else-has_worst : goal.returns-else-has_worst
returns-else-has_worst c = λ a e formed bound are.
    let b = expression_of c.args.second.now in
    let d = carrier_of b in
    let none = none_where_not d (sym c.has_worst.ensures ∙ c.if-has_worst.false) in
    grown_by_best (OutlinedOf (alg_in (scoped a b) e)) d c.args.xs.now c.args.list.now c.add_outers_to.new.list (carriers_are b c.requires) none
    (c.in_ok-add_outers_to.ensures a e formed bound are)
