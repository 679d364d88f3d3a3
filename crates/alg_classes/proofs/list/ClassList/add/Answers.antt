use Rattle.std.proofs.Common.{subst}
use Rattle.alg_classes.specs.Classes.{HasProfile}
use Rattle.alg_classes.proofs.Profiles.{distinct_after_push}
use Rattle.alg_classes.proofs.list.ClassList.add.Goals as goal

pub invariant_of-self : goal.invariant_of-self
invariant_of-self c = distinct_after_push c.push.result c.self.inside.classes c.push.new.self c.args.class c.self.invariant
    (λ h. let e = c.has.ensures.1 (subst (λ x. HasProfile x c.args.class.profile) c.self.view_is h) in let f = c.if-has.false in cc) c.push.ensures.ok c.push.ensures.err
