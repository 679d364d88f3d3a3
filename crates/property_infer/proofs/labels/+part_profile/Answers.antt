use Rattle.alg_model.specs.PartLaws.{formed_plus}
use Rattle.alg_model.specs.Views.{expression_of, pure_label}
use Rattle.union_classes.specs.LabelLaws.{plus_first_profile_of, plus_second_profile_of}
use Rattle.property_infer.proofs.labels.+part_profile.Goals as goal

pub returns-in-First-label : goal.returns-in-First-label
returns-in-First-label t c =
    let part = rw c.deref-in-First-label.ensures at c.part_profile-in-First-label.ensures in
    rw (c.in-Plus.ensures.operator, c.in-First-label.is)
    (plus_first_profile_of (expression_of c.in-Plus.a.now) (expression_of c.in-Plus.b.now) (pure_label c.in-First-label.l.value) _ part)

pub returns-in-Second-label : goal.returns-in-Second-label
returns-in-Second-label t c =
    let a = expression_of c.in-Plus.a.now in
    let b = expression_of c.in-Plus.b.now in
    let same = (formed_plus a b (rw c.in-Plus.ensures.operator at c.requires.formed)).2 in
    let part = rw c.deref-in-Second-label.ensures at c.part_profile-in-Second-label.ensures in
    rw (c.in-Plus.ensures.operator, c.in-Second-label.is) (plus_second_profile_of a b (pure_label c.in-Second-label.m.value) _ same part)
