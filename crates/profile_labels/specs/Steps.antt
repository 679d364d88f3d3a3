-- How labels of an operator come from those of its parts.
use Rattle.alg_model.specs.Expressions.{PureAlg, PureLabel, pair_label, both_label, first_label, second_label, outer, inner}
use Rattle.alg_model.specs.Carriers.{carrier_of}
use Rattle.alg_classes.specs.declared.profile.Profile.{Profile}
use Rattle.alg_classes.specs.Pairs.{pair_profile}
use Rattle.union_classes.specs.Sums.{beside_profile, first_profile, second_profile}
use Rattle.profile_labels.specs.declared.joint.Joint.{Joint}
use Rattle.profile_labels.specs.declared.joint.Joint.TheVariants.{Lex, Sum}
use Rattle.profile_labels.specs.declared.step.Step.{Step}
use Rattle.profile_labels.specs.declared.step.Step.TheVariants.{After, UnionFirst, UnionSecond, PlusFirst, PlusSecond, Outer, Inner}
use Rattle.profile_labels.specs.Labels.{IsLabelWith}
use Rattle.profile_labels.specs.Outlines.{extreme_of, outline_label}

-- two labels joined, and their profiles
abbrev pub joint_label : Joint → PureLabel → PureLabel → PureLabel
joint_label Lex l m = pair_label l m
joint_label Sum l m = both_label l m

abbrev pub joint_profile : Joint → Profile → Profile → Profile
joint_profile Lex p q = pair_profile p q
joint_profile Sum p q = beside_profile p q

-- the label and the profile that a step makes of a part's
abbrev pub step_label : Step → PureLabel → PureLabel
step_label (After joint x) l = joint_label joint (outline_label x.now.outline.value) l
step_label UnionFirst l = first_label l
step_label UnionSecond l = second_label l
step_label PlusFirst l = first_label l
step_label PlusSecond l = second_label l
step_label (Outer second end set) l = outer l (extreme_of (carrier_of second) end)
step_label (Inner kept) l = inner l

abbrev pub step_profile : Step → Profile → Profile
step_profile (After joint x) p = joint_profile joint x.now.profile p
step_profile UnionFirst p = first_profile p
step_profile UnionSecond p = second_profile p
step_profile PlusFirst p = p
step_profile PlusSecond p = p
step_profile (Outer second end set) p = pair_profile p set
step_profile (Inner kept) p = pair_profile kept p

-- the step makes labels of c, with their profiles, of those of a
abbrev pub Makes : Step → PureAlg → PureAlg → Type 0
Makes step a c = (l : PureLabel) (p : Profile) → IsLabelWith a l p → IsLabelWith c (step_label step l) (step_profile step p)

-- the same of two parts
abbrev pub Joins : Joint → PureAlg → PureAlg → PureAlg → Type 0
Joins joint a b c = (l m : PureLabel) (p q : Profile) → IsLabelWith a l p → IsLabelWith b m q
    → IsLabelWith c (joint_label joint l m) (joint_profile joint p q)
