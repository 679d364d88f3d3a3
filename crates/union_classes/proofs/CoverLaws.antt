-- Classes of the labels of sums, unions and pluses, and lists of them that cover.
use Rattle.std.proofs.Common.{◌≡◌, refl, subst, ℕ, List, [], ◌∷◌, Bool, true, false, Option, Some, None}
use Rattle.std.specs.Prelude.{option_map}
use Rattle.alg_model.specs.declared.alg.TheConstants.{MAX_INSTANCE_NUMBER}
use Rattle.alg_model.specs.declared.edition.Edition.{Edition}
use Rattle.alg_model.specs.declared.tree.Value.{Value}
use Rattle.alg_model.specs.Expressions.{Expression, PureAlg, union, sum, plus}
use Rattle.alg_model.specs.Expressions.{PureLabel, both_label, first_label, second_label, PureValue}
use Rattle.alg_model.specs.Views.{pure_value, pure_label}
use Rattle.alg_model.specs.Carriers.{carrier_of}
use Rattle.alg_model.specs.Application.{IsLabel, App}
use Rattle.alg_model.specs.Bounds.{LabelAtMost, greatest_number}
use Rattle.alg_model.specs.Formation.{IsFormed}
use Rattle.alg_model.specs.Laws.{formed_plus}
use Rattle.alg_classes.specs.declared.profile.Profile.{Profile}
use Rattle.alg_classes.specs.declared.class.Examples.{Examples}
use Rattle.alg_classes.specs.declared.class.Class.{Class}
use Rattle.alg_classes.specs.declared.fact.Fact.{Fact}
use Rattle.alg_classes.specs.declared.fact.Fact.TheVariants.{Total, Dead, Monotone, Strict, Isotone, Cancellative, Condensed, Narrow}
use Rattle.alg_classes.specs.Facts.{Action, PureExample, at, between}
use Rattle.alg_classes.specs.Classes.{PureExamples, pure_examples, pure_at, Settles, IsSettledBy, ExampleAtMost, ExamplesAtMost, ClassOf, alg_in, IsCovered, Covers}
use Rattle.alg_classes.specs.Growth.{Grown, Only, Over}
use Rattle.alg_classes.specs.RuleLaws.{class_from}
use Rattle.alg_classes.specs.Inhabited.{carrier_inhabited, labels_inhabited}
use Rattle.alg_classes.specs.Constants.{denied_examples}
use Rattle.union_classes.specs.Sums.{of_either, across, or_else, beside_profile, first_profile, second_profile, beside_examples}
use Rattle.union_classes.specs.Made.{AreExamples, IsSumOf, IsFirstOf, IsSecondOf, IsValueOf, SomeValueOf, either_value, shown_value}
use Rattle.union_classes.specs.LabelLaws.{sum_settled, union_first_settled, union_second_settled, plus_first_settled, plus_second_settled, sum_profile_of, first_profile_of, second_profile_of, plus_first_profile_of, plus_second_profile_of}

each_example : (x : Examples) (w : PureExamples) → AreExamples x w → (k : Fact) → pure_examples x k ≡ w k
each_example x w are Total = are.outside
each_example x w are Dead = are.inside
each_example x w are Monotone = are.not_mono
each_example x w are Strict = are.not_strict
each_example x w are Isotone = are.not_iso
each_example x w are Cancellative = are.not_canc
each_example x w are Condensed = are.not_cond
each_example x w are Narrow = are.not_narrow

-- bounds on the examples of composed labels
either_at_most : (n : ℕ) (o p : Option PureExample) → ExampleAtMost n o → ExampleAtMost n p → ExampleAtMost n (of_either o p)
either_at_most n (Some (at u)) p i j = i
either_at_most n (Some (between u v)) p i j = i
either_at_most n None None i j = tt
either_at_most n None (Some (at u)) i j = j
either_at_most n None (Some (between u v)) i j = j

across_at_most : (n : ℕ) (o p : Option PureExample) → ExampleAtMost n o → ExampleAtMost n p → ExampleAtMost n (across o p)
across_at_most n None p i j = tt
across_at_most n (Some (between u v)) p i j = tt
across_at_most n (Some (at u)) None i j = tt
across_at_most n (Some (at u)) (Some (between v w)) i j = tt
across_at_most n (Some (at u)) (Some (at v)) i j = (i, j)

or_else_at_most : (n : ℕ) (o p : Option PureExample) → ExampleAtMost n o → ExampleAtMost n p → ExampleAtMost n (or_else o p)
or_else_at_most n (Some e) p i j = i
or_else_at_most n None p i j = j

beside_at_most : (n : ℕ) (x y : PureExamples) → ExamplesAtMost n x → ExamplesAtMost n y → ExamplesAtMost n (beside_examples x y)
beside_at_most n x y i j Total = either_at_most n (x Total) (y Total) (i Total) (j Total)
beside_at_most n x y i j Dead = either_at_most n (x Dead) (y Dead) (i Dead) (j Dead)
beside_at_most n x y i j Monotone = either_at_most n (x Monotone) (y Monotone) (i Monotone) (j Monotone)
beside_at_most n x y i j Strict = either_at_most n (x Strict) (y Strict) (i Strict) (j Strict)
beside_at_most n x y i j Cancellative = either_at_most n (x Cancellative) (y Cancellative) (i Cancellative) (j Cancellative)
beside_at_most n x y i j Isotone = or_else_at_most n (of_either (x Isotone) (y Isotone)) (across (x Total) (y Dead))
    (either_at_most n (x Isotone) (y Isotone) (i Isotone) (j Isotone)) (across_at_most n (x Total) (y Dead) (i Total) (j Dead))
beside_at_most n x y i j Condensed = or_else_at_most n (of_either (x Condensed) (y Condensed)) (across (x Dead) (y Dead))
    (either_at_most n (x Condensed) (y Condensed) (i Condensed) (j Condensed)) (across_at_most n (x Dead) (y Dead) (i Dead) (j Dead))
beside_at_most n x y i j Narrow = or_else_at_most n (of_either (x Narrow) (y Narrow)) (across (x Dead) (y Dead))
    (either_at_most n (x Narrow) (y Narrow) (i Narrow) (j Narrow)) (across_at_most n (x Dead) (y Dead) (i Dead) (j Dead))

denied_at_most : (v : PureValue) (a : PureAlg) → IsValueOf a v → ExamplesAtMost MAX_INSTANCE_NUMBER (denied_examples v)
denied_at_most v a is Total = is.1
denied_at_most v a is Dead = tt
denied_at_most v a is Monotone = tt
denied_at_most v a is Strict = tt
denied_at_most v a is Isotone = tt
denied_at_most v a is Cancellative = tt
denied_at_most v a is Condensed = tt
denied_at_most v a is Narrow = tt

-- a class that the program makes of a label, a profile and examples that settle each other
class_made : (a : PureAlg) (z : Class) (l : PureLabel) (p : Profile) (w : PureExamples)
    → pure_label z.label ≡ l → z.profile ≡ p → AreExamples z.examples w
    → IsLabel a.expression l → LabelAtMost (greatest_number a.edition) l
    → IsSettledBy (carrier_of a.expression) (App a.expression l) p w → ExamplesAtMost MAX_INSTANCE_NUMBER w → ClassOf a z
class_made a z l p w label profile examples = class_from a z l p w label profile (each_example z.examples w examples)

pub sum_class_of : (a b : Expression) (e : Edition) (x y z : Class) → ClassOf (alg_in a e) x → ClassOf (alg_in b e) y
    → IsSumOf x y z → ClassOf (alg_in (sum a b) e) z
sum_class_of a b e x y z cx cy made =
    let l = pure_label x.label in
    let m = pure_label y.label in
    let ex = pure_examples x.examples in
    let ey = pure_examples y.examples in
    class_made (alg_in (sum a b) e) z (both_label l m) (beside_profile x.profile y.profile) (beside_examples ex ey)
    made.label made.profile made.examples (cx.label, cy.label) (cx.label_bound, cy.label_bound)
    (sum_settled a b l m x.profile y.profile ex ey cx.settled cy.settled) (beside_at_most MAX_INSTANCE_NUMBER ex ey cx.bound cy.bound)

pub first_class_of : (a b : Expression) (e : Edition) (x : Class) (v : PureValue) (z : Class) → IsValueOf (alg_in b e) v
    → ClassOf (alg_in a e) x → IsFirstOf x v z → ClassOf (alg_in (union a b) e) z
first_class_of a b e x v z is cx made =
    let l = pure_label x.label in
    let ex = pure_examples x.examples in
    class_made (alg_in (union a b) e) z (first_label l) (first_profile x.profile) (beside_examples ex (denied_examples v))
    made.label made.profile made.examples cx.label cx.label_bound
    (union_first_settled a b l x.profile ex v is.0 cx.settled)
    (beside_at_most MAX_INSTANCE_NUMBER ex (denied_examples v) cx.bound (denied_at_most v (alg_in b e) is))

pub second_class_of : (a b : Expression) (e : Edition) (y : Class) (u : PureValue) (z : Class) → IsValueOf (alg_in a e) u
    → ClassOf (alg_in b e) y → IsSecondOf y u z → ClassOf (alg_in (union a b) e) z
second_class_of a b e y u z is cy made =
    let m = pure_label y.label in
    let ey = pure_examples y.examples in
    class_made (alg_in (union a b) e) z (second_label m) (second_profile y.profile) (beside_examples (denied_examples u) ey)
    made.label made.profile made.examples cy.label cy.label_bound
    (union_second_settled a b m y.profile ey u is.0 cy.settled)
    (beside_at_most MAX_INSTANCE_NUMBER (denied_examples u) ey (denied_at_most u (alg_in a e) is) cy.bound)

pub plus_first_class_of : (a b : Expression) (e : Edition) (x z : Class) → ClassOf (alg_in a e) x
    → z.profile ≡ x.profile → pure_label z.label ≡ first_label (pure_label x.label) → AreExamples z.examples (pure_examples x.examples)
    → ClassOf (alg_in (plus a b) e) z
plus_first_class_of a b e x z cx profile label examples =
    let l = pure_label x.label in
    class_made (alg_in (plus a b) e) z (first_label l) x.profile (pure_examples x.examples)
    label profile examples cx.label cx.label_bound (plus_first_settled a b l x.profile (pure_examples x.examples) cx.settled) cx.bound

pub plus_second_class_of : (a b : Expression) (e : Edition) (y z : Class) → IsFormed (plus a b) → ClassOf (alg_in b e) y
    → z.profile ≡ y.profile → pure_label z.label ≡ second_label (pure_label y.label) → AreExamples z.examples (pure_examples y.examples)
    → ClassOf (alg_in (plus a b) e) z
plus_second_class_of a b e y z formed cy profile label examples =
    let m = pure_label y.label in
    class_made (alg_in (plus a b) e) z (second_label m) y.profile (pure_examples y.examples)
    label profile examples cy.label cy.label_bound
    (plus_second_settled a b m y.profile (pure_examples y.examples) (formed_plus a b formed).2 cy.settled) cy.bound

-- a label of a sum has two parts, and one of a union or of a plus is one of either side
each_both : (a b : Expression) (P : PureLabel → Type 0) → ((l m : PureLabel) → IsLabel a l → IsLabel b m → P (both_label l m))
    → (l : PureLabel) → IsLabel (sum a b) l → P l
each_both a b P f (both_label l m) i = f l m i.0 i.1
each_both a b P f _ i = absurd i

each_of_union : (a b : Expression) (P : PureLabel → Type 0) → ((l : PureLabel) → IsLabel a l → P (first_label l))
    → ((m : PureLabel) → IsLabel b m → P (second_label m)) → (l : PureLabel) → IsLabel (union a b) l → P l
each_of_union a b P f g (first_label l) i = f l i
each_of_union a b P f g (second_label m) i = g m i
each_of_union a b P f g _ i = absurd i

each_of_plus : (a b : Expression) (P : PureLabel → Type 0) → ((l : PureLabel) → IsLabel a l → P (first_label l))
    → ((m : PureLabel) → IsLabel b m → P (second_label m)) → (l : PureLabel) → IsLabel (plus a b) l → P l
each_of_plus a b P f g (first_label l) i = f l i
each_of_plus a b P f g (second_label m) i = g m i
each_of_plus a b P f g _ i = absurd i

-- lists of all classes of the parts cover
pub sums_cover : (a b : Expression) (e : Edition) (xs ys zs : List Class) → IsFormed (sum a b)
    → Covers (alg_in a e) xs → Covers (alg_in b e) ys
    → Grown (ClassOf (alg_in (sum a b) e)) (Over (λ p. Over (λ q. Only (beside_profile p q)) ys) xs) [] zs
    → Covers (alg_in (sum a b) e) zs
sums_cover a b e xs ys zs formed cx cy g = record {
  distinct = g.distinct tt;
  each = g.each tt;
  labels = each_both a b (IsCovered (alg_in (sum a b) e) zs) (λ l m il im.
      let s = cx.labels l il in
      let t = cy.labels m im in
      (beside_profile s.0 t.0, sum_profile_of a b l m s.0 t.0 formed il im s.1 t.1, g.reached (beside_profile s.0 t.0) (s.0, s.2, (t.0, t.2, refl))));
}

pub unions_cover : (a b : Expression) (e : Edition) (xs ys mid zs : List Class) → IsFormed (union a b)
    → Covers (alg_in a e) xs → Covers (alg_in b e) ys
    → Grown (ClassOf (alg_in (union a b) e)) (Over (λ p. Only (first_profile p)) xs) [] mid
    → Grown (ClassOf (alg_in (union a b) e)) (Over (λ q. Only (second_profile q)) ys) mid zs
    → Covers (alg_in (union a b) e) zs
unions_cover a b e xs ys mid zs formed cx cy g h = record {
  distinct = h.distinct (g.distinct tt);
  each = h.each (g.each tt);
  labels = each_of_union a b (IsCovered (alg_in (union a b) e) zs)
      (λ l il.
      let s = cx.labels l il in
      (first_profile s.0, first_profile_of a b l s.0 formed il s.1, h.kept (first_profile s.0) (g.reached (first_profile s.0) (s.0, s.2, refl))))
      (λ m im.
      let t = cy.labels m im in
      (second_profile t.0, second_profile_of a b m t.0 formed im t.1, h.reached (second_profile t.0) (t.0, t.2, refl)));
}

pub pluses_cover : (a b : Expression) (e : Edition) (xs ys mid zs : List Class) → IsFormed (plus a b)
    → Covers (alg_in a e) xs → Covers (alg_in b e) ys
    → Grown (ClassOf (alg_in (plus a b) e)) (Over Only xs) [] mid
    → Grown (ClassOf (alg_in (plus a b) e)) (Over Only ys) mid zs
    → Covers (alg_in (plus a b) e) zs
pluses_cover a b e xs ys mid zs formed cx cy g h = record {
  distinct = h.distinct (g.distinct tt);
  each = h.each (g.each tt);
  labels = each_of_plus a b (IsCovered (alg_in (plus a b) e) zs)
      (λ l il. let s = cx.labels l il in (s.0, plus_first_profile_of a b l s.0 s.1, h.kept s.0 (g.reached s.0 (s.0, s.2, refl))))
      (λ m im. let t = cy.labels m im in (t.0, plus_second_profile_of a b m t.0 (formed_plus a b formed).2 t.1, h.reached t.0 (t.0, t.2, refl)));
}

-- a class that is settled over a carrier with a value shows one
value_of_examples : (a : PureAlg) (f : Action) (b1 b2 : Bool) (inside outside : Option Value) → IsFormed a.expression
    → Settles (carrier_of a.expression) f Dead b1 (option_map pure_at inside) → Settles (carrier_of a.expression) f Total b2 (option_map pure_at outside)
    → ExampleAtMost MAX_INSTANCE_NUMBER (option_map pure_at inside) → ExampleAtMost MAX_INSTANCE_NUMBER (option_map pure_at outside)
    → SomeValueOf a (option_map pure_value (either_value inside outside))
value_of_examples a f false b2 (Some v) o formed s t i j = (s.0, i)
value_of_examples a f true b2 (Some v) o formed s t i j = absurd s
value_of_examples a f b1 false None (Some v) formed s t i j = (t.0, j)
value_of_examples a f b1 true None (Some v) formed s t i j = absurd t
value_of_examples a f true true None None formed s t i j =
    let v = carrier_inhabited a.expression formed in
    let e = s v.0 v.1 in
    let w = t v.0 v.1 in
    let g = w.1 in
    absurd (cc)
value_of_examples a f true false None None formed s t i j = absurd t
value_of_examples a f false b2 None None formed s t i j = absurd s

-- classes that cover a formed algebra show a value of it
pub value_shown : (a : PureAlg) (classes : List Class) → IsFormed a.expression → Covers a classes → SomeValueOf a (option_map pure_value (shown_value classes))
value_shown a [] formed covers = let l = labels_inhabited a.expression formed in absurd (covers.labels l.0 l.1).2
value_shown a (z ∷ zs) formed covers =
    let is = covers.each.0 in
    value_of_examples a (App a.expression (pure_label z.label)) z.profile.dead z.profile.total z.examples.inside z.examples.outside formed
    (is.settled Dead) (is.settled Total) (is.bound Dead) (is.bound Total)

pub never_unshown : (a : PureAlg) (classes : List Class) → IsFormed a.expression → Covers a classes → ¬ (shown_value classes ≡ None)
never_unshown a classes formed covers e = subst (λ o. SomeValueOf a (option_map pure_value o)) e (value_shown a classes formed covers)

pub shown_is : (a : PureAlg) (classes : List Class) (v : Value) → IsFormed a.expression → Covers a classes → shown_value classes ≡ Some v → IsValueOf a (pure_value v)
shown_is a classes v formed covers e = subst (λ o. SomeValueOf a (option_map pure_value o)) e (value_shown a classes formed covers)
