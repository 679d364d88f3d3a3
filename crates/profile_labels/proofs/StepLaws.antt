-- The laws of what steps make, for the proofs of the calls.
use Rattle.std.proofs.Common.{◌≡◌, refl, sym, ap, subst, ◌∙◌, ◌⊎◌, inl, inr, ⊎_elim, List, [], ◌∷◌, Some, None}
use Rattle.std.specs.List.{AllByRecursion}
use Rattle.alg_model.specs.declared.edition.Edition.{Edition}
use Rattle.alg_model.specs.Expressions.{Expression, lex, scoped, union, sum, plus, PureAlg, PureCarrier, PureValue}
use Rattle.alg_model.specs.Expressions.{PureLabel, pair_label, both_label, first_label, second_label, outer, inner}
use Rattle.alg_model.specs.Views.{pure_label}
use Rattle.alg_model.specs.Application.{IsLabel}
use Rattle.alg_model.specs.Bounds.{AtMost, greatest_number}
use Rattle.alg_model.specs.Carriers.{carrier_of, In}
use Rattle.alg_model.specs.Formation.{IsFormed, IsCarrier}
use Rattle.alg_model.specs.Laws.{formed_plus}
use Rattle.alg_classes.specs.declared.profile.Profile.{Profile}
use Rattle.alg_classes.specs.declared.class.Class.{Class}
use Rattle.alg_classes.specs.Classes.{ClassOf, HasProfile, Covers, alg_in}
use Rattle.alg_classes.specs.ClassLaws.{class_profile}
use Rattle.alg_classes.specs.Flat.{best}
use Rattle.alg_classes.specs.Growth.{Only}
use Rattle.alg_classes.specs.GrowthLaws.{grown_then}
use Rattle.alg_classes.specs.Pairs.{pair_profile}
use Rattle.alg_classes.specs.Worst.{worst}
use Rattle.alg_classes.specs.WorstLaws.{as_best, as_either}
use Rattle.lex_classes.specs.LexLaws.{rule_is_exact}
use Rattle.scoped_classes.specs.Scoped.{outer_rule, inner_rule, OfOuters}
use Rattle.scoped_classes.specs.ScopedLaws.{outer_rule_is_exact, inner_rule_is_exact}
use Rattle.union_classes.specs.LabelLaws.{sum_profile_of, first_profile_of, second_profile_of, plus_first_profile_of, plus_second_profile_of}
use Rattle.union_classes.specs.Sums.{beside_profile, first_profile, second_profile}
use Rattle.profile_labels.specs.declared.joint.Joint.TheVariants.{Lex, Sum}
use Rattle.profile_labels.specs.declared.outlined.Outlined.{Outlined}
use Rattle.profile_labels.specs.declared.step.Step.{Step}
use Rattle.profile_labels.specs.declared.step.Step.TheVariants.{UnionFirst, UnionSecond, PlusFirst, PlusSecond}
use Rattle.profile_labels.specs.Labels.{IsLabelWith}
use Rattle.profile_labels.specs.Outlines.{outline_label, AreDistinct, OutlinedOf, IsCoveredBy, CoversBy}
use Rattle.profile_labels.specs.Growth.{Grown, Over}
use Rattle.profile_labels.specs.Steps.{step_label, step_profile, Makes, Joins}

-- what is made of a label with its profile is one
pub made : (a c : PureAlg) (s : Step) (x z : Outlined) → Makes s a c → OutlinedOf a x → z.profile ≡ step_profile s x.profile
    → outline_label z.outline.value ≡ step_label s (outline_label x.outline.value) → OutlinedOf c z
made a c s x z makes is profile label =
    subst (λ l. IsLabelWith c l z.profile) (sym label)
    (subst (IsLabelWith c (step_label s (outline_label x.outline.value))) (sym profile) (makes (outline_label x.outline.value) x.profile is))

-- a copy of a class's label has the class's profile
pub label_of_class : (a : PureAlg) (class : Class) (l : PureLabel) → ClassOf a class → l ≡ pure_label class.label → IsLabelWith a l class.profile
label_of_class a class l is same = subst (λ l. IsLabelWith a l class.profile) (sym same) (record {
  label = is.label;
  small = is.label_bound;
  profile = class_profile a class is;
})

pub first_or_rest : (class : Class) (classes : List Class) (p : Profile) → HasProfile (class ∷ classes) p → (p ≡ class.profile) ⊎ HasProfile classes p
first_or_rest class classes p h = ⊎_elim (λ e. inl (sym e)) (λ g. inr g) h

-- an empty list has none of another kind, and no two of one profile
begun : (P : Outlined → Type 0) (old : List Outlined) → old ≡ [] → AllByRecursion P old
begun P old empty = subst (AllByRecursion P) (sym empty) tt

begun_distinct : (old : List Outlined) → old ≡ [] → AreDistinct old
begun_distinct old empty = subst AreDistinct (sym empty) tt

-- the labels of classes that cover an algebra cover it
pub classes_cover : (a : PureAlg) (classes : List Class) (old xs : List Outlined) → old ≡ [] → Covers a classes
    → Grown (OutlinedOf a) (HasProfile classes) old xs → CoversBy a xs
classes_cover a classes old xs empty covers g = record {
  distinct = g.distinct (begun_distinct old empty);
  each = g.each (begun (OutlinedOf a) old empty);
  labels = λ l i. let c = covers.labels l i in (c.0, c.1, g.reached c.0 c.2);
}

-- Labels of each operator from those of its parts.
pub joins_lex : (a b : Expression) (e : Edition) → IsFormed (lex a b) → Joins Lex (alg_in a e) (alg_in b e) (alg_in (lex a b) e)
joins_lex a b e formed = λ l m p q i j. record {
  label = (i.label, j.label);
  small = (i.small, j.small);
  profile = rule_is_exact p q a b l m formed i.label j.label i.profile j.profile;
}

pub joins_sum : (a b : Expression) (e : Edition) → IsFormed (sum a b) → Joins Sum (alg_in a e) (alg_in b e) (alg_in (sum a b) e)
joins_sum a b e formed = λ l m p q i j. record {
  label = (i.label, j.label);
  small = (i.small, j.small);
  profile = sum_profile_of a b l m p q formed i.label j.label i.profile j.profile;
}

pub makes_union_first : (a b : Expression) (e : Edition) → IsFormed (union a b) → Makes UnionFirst (alg_in a e) (alg_in (union a b) e)
makes_union_first a b e formed = λ l p i. record {
  label = i.label;
  small = i.small;
  profile = first_profile_of a b l p formed i.label i.profile;
}

pub makes_union_second : (a b : Expression) (e : Edition) → IsFormed (union a b) → Makes UnionSecond (alg_in b e) (alg_in (union a b) e)
makes_union_second a b e formed = λ m q i. record {
  label = i.label;
  small = i.small;
  profile = second_profile_of a b m q formed i.label i.profile;
}

pub makes_plus_first : (a b : Expression) (e : Edition) → Makes PlusFirst (alg_in a e) (alg_in (plus a b) e)
makes_plus_first a b e = λ l p i. record {
  label = i.label;
  small = i.small;
  profile = plus_first_profile_of a b l p i.profile;
}

pub makes_plus_second : (a b : Expression) (e : Edition) → IsFormed (plus a b) → Makes PlusSecond (alg_in b e) (alg_in (plus a b) e)
makes_plus_second a b e formed = λ m q i. record {
  label = i.label;
  small = i.small;
  profile = plus_second_profile_of a b m q (formed_plus a b formed).2 i.profile;
}

pub makes_outer : (a b : Expression) (e : Edition) (d : PureCarrier) (v : PureValue) → IsFormed (scoped a b) → d ≡ carrier_of b → In d v
    → AtMost (greatest_number e) v → (l : PureLabel) (p : Profile) → IsLabelWith (alg_in a e) l p
    → IsLabelWith (alg_in (scoped a b) e) (outer l v) (outer_rule d v p)
makes_outer a b e d v formed same is small l p i =
    let label : IsLabel (scoped a b) (outer l v) = (i.label, subst (λ d. In d v) same is) in
    record {
      label = label;
      small = (i.small, small);
      profile = outer_rule_is_exact d v p a b l formed same label i.profile;
    }

pub makes_inner : (a b : Expression) (e : Edition) (c : PureCarrier) → IsFormed (scoped a b) → c ≡ carrier_of a → (m : PureLabel) (q : Profile)
    → IsLabelWith (alg_in b e) m q → IsLabelWith (alg_in (scoped a b) e) (inner m) (inner_rule c q)
makes_inner a b e c formed same m q i = record {
  label = i.label;
  small = i.small;
  profile = inner_rule_is_exact c q a b m formed same i.label i.profile;
}

-- Lists of them cover the operator's algebra, where those of the parts do.
each_pair : (a b : Expression) (P : PureLabel → Type 0) → ((l m : PureLabel) → IsLabel a l → IsLabel b m → P (pair_label l m))
    → (k : PureLabel) → IsLabel (lex a b) k → P k
each_pair a b P f (pair_label l m) is = f l m is.0 is.1
each_pair a b P f _ is = absurd is

each_both : (a b : Expression) (P : PureLabel → Type 0) → ((l m : PureLabel) → IsLabel a l → IsLabel b m → P (both_label l m))
    → (k : PureLabel) → IsLabel (sum a b) k → P k
each_both a b P f (both_label l m) is = f l m is.0 is.1
each_both a b P f _ is = absurd is

each_of_union : (a b : Expression) (P : PureLabel → Type 0) → ((l : PureLabel) → IsLabel a l → P (first_label l))
    → ((m : PureLabel) → IsLabel b m → P (second_label m)) → (k : PureLabel) → IsLabel (union a b) k → P k
each_of_union a b P f g (first_label l) is = f l is
each_of_union a b P f g (second_label m) is = g m is
each_of_union a b P f g _ is = absurd is

each_of_plus : (a b : Expression) (P : PureLabel → Type 0) → ((l : PureLabel) → IsLabel a l → P (first_label l))
    → ((m : PureLabel) → IsLabel b m → P (second_label m)) → (k : PureLabel) → IsLabel (plus a b) k → P k
each_of_plus a b P f g (first_label l) is = f l is
each_of_plus a b P f g (second_label m) is = g m is
each_of_plus a b P f g _ is = absurd is

each_of_scoped : (a b : Expression) (P : PureLabel → Type 0)
    → ((l : PureLabel) (v : PureValue) → IsLabel a l → In (carrier_of b) v → P (outer l v))
    → ((m : PureLabel) → IsLabel b m → P (inner m)) → (k : PureLabel) → IsLabel (scoped a b) k → P k
each_of_scoped a b P f g (outer l v) is = f l v is.0 is.1
each_of_scoped a b P f g (inner m) is = g m is
each_of_scoped a b P f g _ is = absurd is

pub lex_covers : (a b : Expression) (e : Edition) (xs ys old zs : List Outlined) → IsFormed (lex a b) → old ≡ [] → CoversBy (alg_in a e) xs → CoversBy (alg_in b e) ys
    → Grown (OutlinedOf (alg_in (lex a b) e)) (Over (λ p. Over (λ q. Only (pair_profile p q)) ys) xs) old zs → CoversBy (alg_in (lex a b) e) zs
lex_covers a b e xs ys old zs formed empty cx cy g = record {
  distinct = g.distinct (begun_distinct old empty);
  each = g.each (begun (OutlinedOf (alg_in (lex a b) e)) old empty);
  labels = each_pair a b (IsCoveredBy (alg_in (lex a b) e) zs) (λ l m i j.
      let s = cx.labels l i in
      let t = cy.labels m j in
      let r = pair_profile s.0 t.0 in
      (r, rule_is_exact s.0 t.0 a b l m formed i j s.1 t.1, g.reached r (s.0, s.2, (t.0, t.2, refl))));
}

pub sum_covers : (a b : Expression) (e : Edition) (xs ys old zs : List Outlined) → IsFormed (sum a b) → old ≡ [] → CoversBy (alg_in a e) xs → CoversBy (alg_in b e) ys
    → Grown (OutlinedOf (alg_in (sum a b) e)) (Over (λ p. Over (λ q. Only (beside_profile p q)) ys) xs) old zs → CoversBy (alg_in (sum a b) e) zs
sum_covers a b e xs ys old zs formed empty cx cy g = record {
  distinct = g.distinct (begun_distinct old empty);
  each = g.each (begun (OutlinedOf (alg_in (sum a b) e)) old empty);
  labels = each_both a b (IsCoveredBy (alg_in (sum a b) e) zs) (λ l m i j.
      let s = cx.labels l i in
      let t = cy.labels m j in
      let r = beside_profile s.0 t.0 in
      (r, sum_profile_of a b l m s.0 t.0 formed i j s.1 t.1, g.reached r (s.0, s.2, (t.0, t.2, refl))));
}

pub union_covers : (a b : Expression) (e : Edition) (xs ys old mid zs : List Outlined) → IsFormed (union a b) → old ≡ []
    → CoversBy (alg_in a e) xs → CoversBy (alg_in b e) ys
    → Grown (OutlinedOf (alg_in (union a b) e)) (Over (λ p. Only (first_profile p)) xs) old mid
    → Grown (OutlinedOf (alg_in (union a b) e)) (Over (λ q. Only (second_profile q)) ys) mid zs → CoversBy (alg_in (union a b) e) zs
union_covers a b e xs ys old mid zs formed empty cx cy g h = record {
  distinct = h.distinct (g.distinct (begun_distinct old empty));
  each = h.each (g.each (begun (OutlinedOf (alg_in (union a b) e)) old empty));
  labels = each_of_union a b (IsCoveredBy (alg_in (union a b) e) zs)
      (λ l i. let s = cx.labels l i in let r = first_profile s.0 in (r, first_profile_of a b l s.0 formed i s.1, h.kept r (g.reached r (s.0, s.2, refl))))
      (λ m i. let t = cy.labels m i in let r = second_profile t.0 in (r, second_profile_of a b m t.0 formed i t.1, h.reached r (t.0, t.2, refl)));
}

pub plus_covers : (a b : Expression) (e : Edition) (xs ys old mid zs : List Outlined) → IsFormed (plus a b) → old ≡ []
    → CoversBy (alg_in a e) xs → CoversBy (alg_in b e) ys
    → Grown (OutlinedOf (alg_in (plus a b) e)) (Over (λ p. Only p) xs) old mid
    → Grown (OutlinedOf (alg_in (plus a b) e)) (Over (λ q. Only q) ys) mid zs → CoversBy (alg_in (plus a b) e) zs
plus_covers a b e xs ys old mid zs formed empty cx cy g h = record {
  distinct = h.distinct (g.distinct (begun_distinct old empty));
  each = h.each (g.each (begun (OutlinedOf (alg_in (plus a b) e)) old empty));
  labels = each_of_plus a b (IsCoveredBy (alg_in (plus a b) e) zs)
      (λ l i. let s = cx.labels l i in (s.0, plus_first_profile_of a b l s.0 s.1, h.kept s.0 (g.reached s.0 (s.0, s.2, refl))))
      (λ m i. let t = cy.labels m i in (t.0, plus_second_profile_of a b m t.0 (formed_plus a b formed).2 t.1, h.reached t.0 (t.0, t.2, refl)));
}

pub scoped_covers : (a b : Expression) (e : Edition) (c d : PureCarrier) (xs ys old mid zs : List Outlined) → IsFormed (scoped a b) → old ≡ []
    → c ≡ carrier_of a → d ≡ carrier_of b → CoversBy (alg_in a e) xs → CoversBy (alg_in b e) ys
    → Grown (OutlinedOf (alg_in (scoped a b) e)) (Over (OfOuters d) xs) old mid
    → Grown (OutlinedOf (alg_in (scoped a b) e)) (Over (λ q. Only (inner_rule c q)) ys) mid zs → CoversBy (alg_in (scoped a b) e) zs
scoped_covers a b e c d xs ys old mid zs formed empty same_c same_d cx cy g h = record {
  distinct = h.distinct (g.distinct (begun_distinct old empty));
  each = h.each (g.each (begun (OutlinedOf (alg_in (scoped a b) e)) old empty));
  labels = each_of_scoped a b (IsCoveredBy (alg_in (scoped a b) e) zs)
      (λ l v is i.
      let p = cx.labels l is in
      let r = outer_rule d v p.0 in (
        r,
        outer_rule_is_exact d v p.0 a b l formed same_d (is, i) p.1,
        h.kept r (g.reached r (p.0, p.2, (v, subst (λ d. In d v) (sym same_d) i, refl))),
      ))
      (λ m is.
      let q = cy.labels m is in
      let r = inner_rule c q.0 in
      (r, inner_rule_is_exact c q.0 a b m formed same_c is q.1, h.reached r (q.0, q.2, refl)));
}

-- The best value and the worst, where there is one, make the profiles of all labels that set the second part.
pub grown_by_best : (P : Outlined → Type 0) (d : PureCarrier) (xs old new : List Outlined) → IsCarrier d → worst d ≡ None
    → Grown P (Over (λ p. Only (outer_rule d (best d) p)) xs) old new → Grown P (Over (OfOuters d) xs) old new
grown_by_best P d xs old new is none g = record {
  kept = g.kept;
  reached = λ r t. let m = t.2 in g.reached r (t.0, t.1, m.2 ∙ ap (pair_profile t.0) (as_best d m.0 is none m.1));
  each = g.each;
  distinct = g.distinct;
}

pub grown_by_both : (P : Outlined → Type 0) (d : PureCarrier) (w : PureValue) (xs old mid new : List Outlined) → IsCarrier d → worst d ≡ Some w
    → Grown P (Over (λ p. Only (outer_rule d (best d) p)) xs) old mid → Grown P (Over (λ p. Only (outer_rule d w p)) xs) mid new
    → Grown P (Over (OfOuters d) xs) old new
grown_by_both P d w xs old mid new is worst_is = grown_then P (Over (λ p. Only (outer_rule d (best d) p)) xs) (Over (λ p. Only (outer_rule d w p)) xs)
    (Over (OfOuters d) xs) old mid new (λ r t. let m = t.2 in ⊎_elim
    (λ f. inl (t.0, t.1, m.2 ∙ ap (pair_profile t.0) f))
    (λ f. inr (t.0, t.1, m.2 ∙ ap (pair_profile t.0) f))
    (as_either d m.0 w is worst_is m.1))
