-- The laws of scoped classes, for the proofs of their calls.
use Rattle.std.proofs.Common.{◌≡◌, refl, sym, ap, subst, ◌∙◌, ◌⊎◌, inl, inr, ⊎_elim, List, [], Some, None}
use Rattle.alg_model.specs.Numbers.{max_instance_number}
use Rattle.alg_model.specs.declared.edition.Edition.{Edition}
use Rattle.alg_model.specs.Expressions.{Expression, scoped, PureCarrier, pairs, PureValue, pair, PureLabel, outer, inner}
use Rattle.alg_model.specs.Views.{pure_label}
use Rattle.alg_model.specs.Application.{IsLabel, App}
use Rattle.alg_model.specs.Bounds.{AtMost, greatest_number}
use Rattle.alg_model.specs.Carriers.{carrier_of, In}
use Rattle.alg_model.specs.Formation.{IsFormed, IsCarrier}
use Rattle.alg_model.specs.Laws.{formed_scoped}
use Rattle.alg_model.specs.CarrierLaws.{carriers_are}
use Rattle.alg_classes.specs.declared.profile.Profile.{Profile}
use Rattle.alg_classes.specs.declared.class.Class.{Class}
use Rattle.alg_classes.specs.declared.fact.Fact.{Fact}
use Rattle.alg_classes.specs.Profiles.{IsProfile, ProfileOf}
use Rattle.alg_classes.specs.Classes.{PureExamples, pure_examples, IsSettledBy, ExamplesAtMost, alg_in, ClassOf, IsCovered, Covers}
use Rattle.alg_classes.specs.ClassLaws.{images_kept}
use Rattle.alg_classes.specs.Inhabited.{carrier_inhabited}
use Rattle.alg_classes.specs.RuleLaws.{IsKnown, class_from}
use Rattle.alg_classes.specs.Constants.{constant, kept, constant_profile, kept_profile, constant_is_profile, kept_is_profile, constant_keeps, kept_keeps}
use Rattle.alg_classes.specs.Flat.{best}
use Rattle.alg_classes.specs.Growth.{Grown, Only, Over}
use Rattle.alg_classes.specs.GrowthLaws.{grown_then}
use Rattle.alg_classes.specs.Pairs.{paired, pair_profile, pair_examples}
use Rattle.alg_classes.specs.PairLaws.{pair_settled, pair_profile_is, pair_bound, same_actions}
use Rattle.alg_classes.specs.Worst.{worst}
use Rattle.alg_classes.specs.WorstLaws.{as_best, as_either}
use Rattle.scoped_classes.specs.Scoped.{outer_rule, inner_rule, IsOuterProfile, IsInnerProfile, OfOuters}

-- What the labels do.

outer_parts : (a b : Expression) (l : PureLabel) (w v : PureValue) → paired (App a l) (constant w) v ≡ App (scoped a b) (outer l w) v
outer_parts a b l w (pair u v) = refl
outer_parts a b l w _ = refl

inner_parts : (a b : Expression) (m : PureLabel) (v : PureValue) → paired kept (App b m) v ≡ App (scoped a b) (inner m) v
inner_parts a b m (pair u v) = refl
inner_parts a b m _ = refl

outer_acts : (a b : Expression) (l : PureLabel) (w : PureValue) → paired (App a l) (constant w) ≡ App (scoped a b) (outer l w)
outer_acts a b l w = same_actions (paired (App a l) (constant w)) (App (scoped a b) (outer l w)) (outer_parts a b l w)

inner_acts : (a b : Expression) (m : PureLabel) → paired kept (App b m) ≡ App (scoped a b) (inner m)
inner_acts a b m = same_actions (paired kept (App b m)) (App (scoped a b) (inner m)) (inner_parts a b m)

-- The rules are exact.

outer_profile_is : (a b : Expression) (l : PureLabel) (v : PureValue) (p : Profile) → IsFormed (scoped a b) → IsLabel (scoped a b) (outer l v)
    → ProfileOf a l p → ProfileOf (scoped a b) (outer l v) (outer_rule (carrier_of b) v p)
outer_profile_is a b l v p formed is h =
    let c = carrier_of a in
    let d = carrier_of b in
    let parts = formed_scoped a b formed in
    subst (λ f. IsProfile (pairs c d) f (outer_rule d v p)) (outer_acts a b l v)
    (pair_profile_is c d (App a l) (constant v) p (constant_profile d v) (images_kept a l parts.0 is.0) (constant_keeps d v is.1)
    (carrier_inhabited a parts.0) (carrier_inhabited b parts.1) h (constant_is_profile d v (carriers_are b parts.1) is.1))

inner_profile_is : (a b : Expression) (m : PureLabel) (q : Profile) → IsFormed (scoped a b) → IsLabel (scoped a b) (inner m)
    → ProfileOf b m q → ProfileOf (scoped a b) (inner m) (inner_rule (carrier_of a) q)
inner_profile_is a b m q formed is h =
    let c = carrier_of a in
    let d = carrier_of b in
    let parts = formed_scoped a b formed in
    subst (λ f. IsProfile (pairs c d) f (inner_rule c q)) (inner_acts a b m)
    (pair_profile_is c d kept (App b m) (kept_profile c) q (kept_keeps c) (images_kept b m parts.1 is)
    (carrier_inhabited a parts.0) (carrier_inhabited b parts.1) (kept_is_profile c (carriers_are a parts.0)) h)

pub outer_rule_is_exact : (d : PureCarrier) (v : PureValue) (p : Profile) → IsOuterProfile d v p (outer_rule d v p)
outer_rule_is_exact d v p = λ a b l formed is label h.
    subst (λ d. ProfileOf (scoped a b) (outer l v) (outer_rule d v p)) (sym is) (outer_profile_is a b l v p formed label h)

pub inner_rule_is_exact : (c : PureCarrier) (q : Profile) → IsInnerProfile c q (inner_rule c q)
inner_rule_is_exact c q = λ a b m formed is label h.
    subst (λ c. ProfileOf (scoped a b) (inner m) (inner_rule c q)) (sym is) (inner_profile_is a b m q formed label h)

-- Examples of both parts settle the scoped label.

outer_settled : (a b : Expression) (l : PureLabel) (v : PureValue) (p q : Profile) (x y : PureExamples) → IsFormed (scoped a b) → IsLabel (scoped a b) (outer l v)
    → IsSettledBy (carrier_of a) (App a l) p x → IsSettledBy (carrier_of b) (constant v) q y
    → IsSettledBy (carrier_of (scoped a b)) (App (scoped a b) (outer l v)) (pair_profile p q) (pair_examples x y)
outer_settled a b l v p q x y formed is s t =
    let c = carrier_of a in
    let d = carrier_of b in
    let parts = formed_scoped a b formed in
    let known_a : IsKnown c (App a l) p x = record { kept = images_kept a l parts.0 is.0; inhabited = carrier_inhabited a parts.0; settled = s } in
    let known_b : IsKnown d (constant v) q y = record { kept = constant_keeps d v is.1; inhabited = carrier_inhabited b parts.1; settled = t } in
    subst (λ f. IsSettledBy (pairs c d) f (pair_profile p q) (pair_examples x y)) (outer_acts a b l v)
    (pair_settled c d (App a l) (constant v) p q x y known_a known_b)

inner_settled : (a b : Expression) (m : PureLabel) (p q : Profile) (x y : PureExamples) → IsFormed (scoped a b) → IsLabel (scoped a b) (inner m)
    → IsSettledBy (carrier_of a) kept p x → IsSettledBy (carrier_of b) (App b m) q y
    → IsSettledBy (carrier_of (scoped a b)) (App (scoped a b) (inner m)) (pair_profile p q) (pair_examples x y)
inner_settled a b m p q x y formed is s t =
    let c = carrier_of a in
    let d = carrier_of b in
    let parts = formed_scoped a b formed in
    let known_a : IsKnown c kept p x = record { kept = kept_keeps c; inhabited = carrier_inhabited a parts.0; settled = s } in
    let known_b : IsKnown d (App b m) q y = record { kept = images_kept b m parts.1 is; inhabited = carrier_inhabited b parts.1; settled = t } in
    subst (λ f. IsSettledBy (pairs c d) f (pair_profile p q) (pair_examples x y)) (inner_acts a b m)
    (pair_settled c d kept (App b m) p q x y known_a known_b)

-- A class that is made by a rule is the product's; the other part's examples are y, or x.
pub made_outer : (a b : Expression) (e : Edition) (d : PureCarrier) (v : PureValue) (x z : Class) (y : PureExamples) → IsFormed (scoped a b)
    → d ≡ carrier_of b → In d v → AtMost (greatest_number e) v → ClassOf (alg_in a e) x
    → IsSettledBy d (constant v) (constant_profile d v) y → ExamplesAtMost max_instance_number y
    → z.profile ≡ outer_rule d v x.profile → pure_label z.label ≡ outer (pure_label x.label) v
    → ((k : Fact) → pure_examples z.examples k ≡ pair_examples (pure_examples x.examples) y k) → ClassOf (alg_in (scoped a b) e) z
made_outer a b e d v x z y formed same i v_bound is settled small profile_is label_is examples_are =
    let label : IsLabel (scoped a b) (outer (pure_label x.label) v) = (is.label, subst (λ d. In d v) same i) in
    class_from (alg_in (scoped a b) e) z (outer (pure_label x.label) v) (outer_rule d v x.profile)
    (pair_examples (pure_examples x.examples) y) label_is profile_is examples_are label (is.label_bound, v_bound)
    (outer_settled a b (pure_label x.label) v x.profile (constant_profile d v) (pure_examples x.examples) y formed label is.settled
    (subst (λ c. IsSettledBy c (constant v) (constant_profile d v) y) same settled))
    (pair_bound max_instance_number (pure_examples x.examples) y is.bound small)

pub made_inner : (a b : Expression) (e : Edition) (c : PureCarrier) (y z : Class) (x : PureExamples) → IsFormed (scoped a b)
    → c ≡ carrier_of a → ClassOf (alg_in b e) y
    → IsSettledBy c kept (kept_profile c) x → ExamplesAtMost max_instance_number x
    → z.profile ≡ inner_rule c y.profile → pure_label z.label ≡ inner (pure_label y.label)
    → ((k : Fact) → pure_examples z.examples k ≡ pair_examples x (pure_examples y.examples) k) → ClassOf (alg_in (scoped a b) e) z
made_inner a b e c y z x formed same is settled small profile_is label_is examples_are =
    class_from (alg_in (scoped a b) e) z (inner (pure_label y.label)) (inner_rule c y.profile)
    (pair_examples x (pure_examples y.examples)) label_is profile_is examples_are is.label is.label_bound
    (inner_settled a b (pure_label y.label) (kept_profile c) y.profile x (pure_examples y.examples) formed is.label
    (subst (λ d. IsSettledBy d kept (kept_profile c) x) same settled) is.settled)
    (pair_bound max_instance_number x (pure_examples y.examples) small is.bound)

-- The constants: the best value and the worst, where there is one, make the profiles of all.
over_best : (d : PureCarrier) (xs : List Class) → IsCarrier d → worst d ≡ None → (r : Profile) → Over (OfOuters d) xs r
    → Over (λ p. Only (outer_rule d (best d) p)) xs r
over_best d xs is none r t =
    let made = t.2 in
    (t.0, t.1, made.2 ∙ ap (pair_profile t.0) (as_best d made.0 is none made.1))

over_either : (d : PureCarrier) (w : PureValue) (xs : List Class) → IsCarrier d → worst d ≡ Some w → (r : Profile) → Over (OfOuters d) xs r
    → Over (λ p. Only (outer_rule d (best d) p)) xs r ⊎ Over (λ p. Only (outer_rule d w p)) xs r
over_either d w xs is worst_is r t =
    let made = t.2 in
    ⊎_elim
    (λ f. inl (t.0, t.1, made.2 ∙ ap (pair_profile t.0) f))
    (λ f. inr (t.0, t.1, made.2 ∙ ap (pair_profile t.0) f))
    (as_either d made.0 w is worst_is made.1)

pub grown_by_best : (P : Class → Type 0) (d : PureCarrier) (xs old new : List Class) → IsCarrier d → worst d ≡ None
    → Grown P (Over (λ p. Only (outer_rule d (best d) p)) xs) old new → Grown P (Over (OfOuters d) xs) old new
grown_by_best P d xs old new is none g = record {
  kept = g.kept;
  reached = λ r t. g.reached r (over_best d xs is none r t);
  each = g.each;
  distinct = g.distinct;
}

pub grown_by_both : (P : Class → Type 0) (d : PureCarrier) (w : PureValue) (xs old mid new : List Class) → IsCarrier d → worst d ≡ Some w
    → Grown P (Over (λ p. Only (outer_rule d (best d) p)) xs) old mid → Grown P (Over (λ p. Only (outer_rule d w p)) xs) mid new
    → Grown P (Over (OfOuters d) xs) old new
grown_by_both P d w xs old mid new is worst_is = grown_then P (Over (λ p. Only (outer_rule d (best d) p)) xs) (Over (λ p. Only (outer_rule d w p)) xs)
    (Over (OfOuters d) xs) old mid new (over_either d w xs is worst_is)

-- a label of the product is of one of the two kinds
each_of_both : (a b : Expression) (P : PureLabel → Type 0)
    → ((l : PureLabel) (v : PureValue) → IsLabel a l → In (carrier_of b) v → P (outer l v))
    → ((m : PureLabel) → IsLabel b m → P (inner m)) → (k : PureLabel) → IsLabel (scoped a b) k → P k
each_of_both a b P f g (outer l v) is = f l v is.0 is.1
each_of_both a b P f g (inner m) is = g m is
each_of_both a b P f g _ is = absurd is

-- so a list that has grown by both covers it
pub grown_covers : (a b : Expression) (e : Edition) (c d : PureCarrier) (xs ys mid zs : List Class) → IsFormed (scoped a b)
    → c ≡ carrier_of a → d ≡ carrier_of b → Covers (alg_in a e) xs → Covers (alg_in b e) ys
    → Grown (ClassOf (alg_in (scoped a b) e)) (Over (OfOuters d) xs) [] mid
    → Grown (ClassOf (alg_in (scoped a b) e)) (Over (λ q. Only (inner_rule c q)) ys) mid zs
    → Covers (alg_in (scoped a b) e) zs
grown_covers a b e c d xs ys mid zs formed same_c same_d covers_x covers_y g h = record {
  distinct = h.distinct (g.distinct tt);
  each = h.each (g.each tt);
  labels = each_of_both a b (IsCovered (alg_in (scoped a b) e) zs)
      (λ l v is i.
      let p = covers_x.labels l is in
      let r = outer_rule d v p.0 in (
        r,
        outer_rule_is_exact d v p.0 a b l formed same_d (is, i) p.1,
        h.kept r (g.reached r (p.0, p.2, (v, subst (λ d. In d v) (sym same_d) i, refl))),
      ))
      (λ m is.
      let q = covers_y.labels m is in
      let r = inner_rule c q.0 in
      (r, inner_rule_is_exact c q.0 a b m formed same_c is q.1, h.reached r (q.0, q.2, refl)));
}
