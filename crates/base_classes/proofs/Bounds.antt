-- The numbers of labels of base algebras and of the examples of their facts are bounded, and so what the
-- table tells and its witnesses make a class.
use Rattle.std.proofs.Common.{◌≡◌, refl, ◌∙◌, Option, None, option_map, ℕ, ◌≤◌, ◌<◌, ◌==◌, sym, subst, Bool, true, false, Some, arith}
use Rattle.std.specs.Prelude.{if◌then◌else◌}
use Rattle.alg_model.specs.declared.alg.TheConstants.{MAX_INSTANCE_NUMBER}
use Rattle.alg_model.specs.Expressions.{Expression, PureAlg, PureCarrier, PureValue, add, cap, worst, width, pref, orig, seq, simseq, tags, guard, gate}
use Rattle.alg_model.specs.Expressions.{PureLabel, number_label, symbol_label, need, bar}
use Rattle.alg_model.specs.Views.{pure_label}
use Rattle.alg_model.specs.Carriers.{carrier_of}
use Rattle.alg_model.specs.Application.{IsLabel, App}
use Rattle.alg_model.specs.Bounds.{ExpressionAtMost, LabelAtMost, greatest_number}
use Rattle.alg_model.specs.BoundLaws.{greatest_is_bounded}
use Rattle.alg_model.specs.declared.edition.Edition.{Edition}
use Rattle.alg_model.specs.Formation.{IsAlg, MeetsRanges}
use Rattle.alg_model.specs.Forms.{IsBase}
use Rattle.alg_classes.specs.declared.class.Class.{Class}
use Rattle.alg_classes.specs.declared.class.Examples.{Examples}
use Rattle.alg_classes.specs.declared.profile.Profile.{Profile}
use Rattle.alg_classes.specs.declared.fact.Fact.{Fact}
use Rattle.alg_classes.specs.declared.fact.Fact.TheVariants.{Total, Dead, Monotone, Strict, Isotone, Cancellative, Condensed, Narrow}
use Rattle.alg_classes.specs.Facts.{Action, PureExample, at, between, FailsAt}
use Rattle.alg_classes.specs.Profiles.{bit}
use Rattle.alg_classes.specs.ClassLaws.{on_all}
use Rattle.alg_classes.specs.Classes.{pure_at, pure_between, Settles, IsSettledBy, ExampleAtMost, ExamplesAtMost, ClassOf, pure_examples}
use Rattle.base_classes.specs.declared.examples.Numbers.{Numbers}
use Rattle.base_classes.specs.Kinds.{number_in}
use Rattle.base_classes.specs.Profiles.{base_profile_of}
use Rattle.base_classes.specs.Witnesses.{Witness, AreExamples, of_one, of_two, unless, failing, base_witness_of, number_witness, set_witness, guard_witness, sequence_witness, unit_witness, other_symbol}
use Rattle.base_classes.specs.Witnesses.{add_numbers, cap_numbers, worst_numbers, width_numbers, pref_numbers, orig_numbers}
use Rattle.base_classes.specs.BaseLaws.{base_settled}
use Rattle.base_classes.specs.CandidateLaws.{label_bounded}

abbrev Bounded : Witness → Type 0
Bounded w = (k : Fact) → ExampleAtMost MAX_INSTANCE_NUMBER (Some (w k))

numbers_bounded : (n : Numbers) → n.outside ≤ MAX_INSTANCE_NUMBER → n.kept ≤ MAX_INSTANCE_NUMBER
    → n.merged.0 ≤ MAX_INSTANCE_NUMBER → n.merged.1 ≤ MAX_INSTANCE_NUMBER → n.apart.0 ≤ MAX_INSTANCE_NUMBER → n.apart.1 ≤ MAX_INSTANCE_NUMBER
    → Bounded (number_witness n)
numbers_bounded n a b c d e f = on_all (λ k. ExampleAtMost MAX_INSTANCE_NUMBER (Some (number_witness n k)))
    a (omega arith) (omega arith) b (omega arith) (c, d) (e, f) (e, f)

sets_bounded : (o s : ℕ) → Bounded (set_witness o s)
sets_bounded o s = on_all (λ k. ExampleAtMost MAX_INSTANCE_NUMBER (Some (set_witness o s k))) tt tt tt tt (tt, tt) tt tt tt

guards_bounded : (l : PureLabel) → Bounded (guard_witness l)
guards_bounded (need k) = sets_bounded _ _
guards_bounded (bar k) = sets_bounded _ _
guards_bounded _ = sets_bounded 0 0

sequences_bounded : (own other : ℕ) → own ≤ MAX_INSTANCE_NUMBER → other ≤ MAX_INSTANCE_NUMBER → Bounded (sequence_witness own other)
sequences_bounded own other a b = on_all (λ k. ExampleAtMost MAX_INSTANCE_NUMBER (Some (sequence_witness own other k)))
    (a, tt) tt tt tt ((a, tt), (b, tt)) tt (tt, (b, tt)) (tt, (b, tt))

units_bounded : Bounded unit_witness
units_bounded = on_all (λ k. ExampleAtMost MAX_INSTANCE_NUMBER (Some (unit_witness k))) tt tt tt tt tt tt (tt, tt) (tt, tt)

small_symbol : (b : Bool) → (if b then 1 else 0) ≤ MAX_INSTANCE_NUMBER
small_symbol true = omega arith
small_symbol false = omega arith

witness_bounded : (n : ℕ) (a : Expression) (l : PureLabel) → n < MAX_INSTANCE_NUMBER → IsBase a → ExpressionAtMost n a → LabelAtMost n l → IsLabel a l → Bounded (base_witness_of a l)
witness_bounded n (add low high) l h b e m i = numbers_bounded add_numbers (omega arith) (omega arith) (omega arith) (omega arith) (omega arith) (omega arith)
witness_bounded n (cap top low high) l h b e m i = numbers_bounded (cap_numbers top (number_in l)) (omega (arith, e.0)) (omega arith) (omega arith) (omega arith) (omega arith) (omega arith)
witness_bounded n (worst top low high) (number_label j) h b e m i = numbers_bounded (worst_numbers top j) (omega arith) (omega (arith, e.0)) (omega arith) (omega (arith, m)) (omega arith) (omega (arith, e.0))
witness_bounded n (width top low high) (number_label j) h b e m i = numbers_bounded (width_numbers top j) (omega arith) (omega arith) (omega (arith, e.0)) (omega (arith, m)) (omega (arith, e.0)) (omega arith)
witness_bounded n (pref top) (number_label j) h b e m i = numbers_bounded (pref_numbers top j) (omega arith) (omega (arith, m)) (omega (arith, e)) (omega arith) (omega (arith, e)) (omega arith)
witness_bounded n (orig top) l h b e m i = numbers_bounded (orig_numbers top) (omega arith) (omega arith) (omega arith) (omega (arith, e)) (omega arith) (omega (arith, e))
witness_bounded n (seq k) (symbol_label j) h b e m i = sequences_bounded j j (omega (arith, m)) (omega (arith, m))
witness_bounded n (simseq k) (symbol_label j) h b e m i = sequences_bounded j (other_symbol j) (omega (arith, m)) (small_symbol (j == 0))
witness_bounded n (tags k) l h b e m i = sets_bounded 0 0
witness_bounded n (guard k) l h b e m i = guards_bounded l
witness_bounded n gate l h b e m i = units_bounded
witness_bounded n (worst top low high) l h b e m i = absurd i
witness_bounded n (width top low high) l h b e m i = absurd i
witness_bounded n (pref top) l h b e m i = absurd i
witness_bounded n (seq k) l h b e m i = absurd i
witness_bounded n (simseq k) l h b e m i = absurd i
witness_bounded n a l h b e m i = absurd b

failing_bounded : (n : ℕ) (b : Bool) (e : PureExample) → ExampleAtMost n (Some e) → ExampleAtMost n (unless b e)
failing_bounded n true e h = tt
failing_bounded n false e h = h

-- an edition's greatest number is below the bound
edition_bounded : (e : Edition) → greatest_number e < MAX_INSTANCE_NUMBER
edition_bounded e = omega (arith, greatest_is_bounded e)

-- an example by the witness settles its fact as the table tells
pub example_settled : (a : Expression) (l : PureLabel) (p : Profile) (k : Fact) (o : Option PureExample) → IsBase a → MeetsRanges a → IsLabel a l
    → p ≡ base_profile_of a l → o ≡ failing p (base_witness_of a l) k → Settles (carrier_of a) (App a l) k (bit (base_profile_of a l) k) o
example_settled a l p k o base ranges i reported e =
    subst (Settles (carrier_of a) (App a l) k (bit (base_profile_of a l) k)) (sym e)
    (subst (λ q. Settles (carrier_of a) (App a l) k (bit (base_profile_of a l) k) (failing q (base_witness_of a l) k)) (sym reported) (base_settled a l base ranges i k))

-- and no number of it is above the bound
pub example_bounded : (e : Edition) (a : Expression) (l : PureLabel) (p : Profile) (k : Fact) (o : Option PureExample) → IsBase a
    → ExpressionAtMost (greatest_number e) a → IsLabel a l → o ≡ failing p (base_witness_of a l) k → ExampleAtMost MAX_INSTANCE_NUMBER o
example_bounded e a l p k o base small i is =
    subst (ExampleAtMost MAX_INSTANCE_NUMBER) (sym is) (failing_bounded MAX_INSTANCE_NUMBER (bit p k) (base_witness_of a l k)
    (witness_bounded (greatest_number e) a l (edition_bounded e) base small (label_bounded (greatest_number e) a l base small i) i k))

-- so do examples of all facts
examples_settled : (a : Expression) (l : PureLabel) (p : Profile) (x : Examples) → IsBase a → MeetsRanges a → IsLabel a l
    → p ≡ base_profile_of a l → AreExamples x p (base_witness_of a l) → IsSettledBy (carrier_of a) (App a l) p (pure_examples x)
examples_settled a l p x base ranges i reported e = λ k.
    subst (λ q. Settles (carrier_of a) (App a l) k (bit q k) (pure_examples x k)) (sym reported)
    (example_settled a l p k (pure_examples x k) base ranges i reported (e k))

examples_bounded : (e : Edition) (a : Expression) (l : PureLabel) (p : Profile) (x : Examples) → IsBase a → ExpressionAtMost (greatest_number e) a
    → IsLabel a l → AreExamples x p (base_witness_of a l) → ExamplesAtMost MAX_INSTANCE_NUMBER (pure_examples x)
examples_bounded e a l p x base small i are = λ k. example_bounded e a l p k (pure_examples x k) base small i (are k)

-- an example that settles a fact is one value, or two, as the fact wants
one_value : (c : PureCarrier) (f : Action) (k : Fact) (b : Bool) (o : Option PureExample) → Settles c f k b o
    → ((u v : PureValue) → ¬ FailsAt c f k (between u v)) → of_one o ≡ o
one_value c f k b None s not_two = refl
one_value c f k b (Some (at v)) s not_two = refl
one_value c f k true (Some (between u v)) s not_two = absurd s
one_value c f k false (Some (between u v)) s not_two = absurd (not_two u v s.1)

two_values : (c : PureCarrier) (f : Action) (k : Fact) (b : Bool) (o : Option PureExample) → Settles c f k b o
    → ((v : PureValue) → ¬ FailsAt c f k (at v)) → of_two o ≡ o
two_values c f k b None s not_one = refl
two_values c f k b (Some (between u v)) s not_one = refl
two_values c f k true (Some (at v)) s not_one = absurd s
two_values c f k false (Some (at v)) s not_one = absurd (not_one v s.1)

-- so what is left of each is the whole example
pub examples_of_witness : (a : Expression) (l : PureLabel) (p : Profile) (x : Examples) → IsBase a → MeetsRanges a → IsLabel a l
    → p ≡ base_profile_of a l
    → option_map pure_at x.outside ≡ of_one (failing p (base_witness_of a l) Total)
    → option_map pure_at x.inside ≡ of_one (failing p (base_witness_of a l) Dead)
    → option_map pure_at x.not_mono ≡ of_one (failing p (base_witness_of a l) Monotone)
    → option_map pure_at x.not_strict ≡ of_one (failing p (base_witness_of a l) Strict)
    → option_map pure_between x.not_iso ≡ of_two (failing p (base_witness_of a l) Isotone)
    → option_map pure_between x.not_canc ≡ of_two (failing p (base_witness_of a l) Cancellative)
    → option_map pure_between x.not_cond ≡ of_two (failing p (base_witness_of a l) Condensed)
    → option_map pure_between x.not_narrow ≡ of_two (failing p (base_witness_of a l) Narrow)
    → AreExamples x p (base_witness_of a l)
examples_of_witness a l p x base ranges i reported h1 h2 h3 h4 h5 h6 h7 h8 =
    let c = carrier_of a in
    let f = App a l in
    let w = base_witness_of a l in
    let s : IsSettledBy c f p (failing p w) = subst (λ q. IsSettledBy c f q (failing q w)) (sym reported) (base_settled a l base ranges i) in
    let one : (k : Fact) → ((u v : PureValue) → ¬ FailsAt c f k (between u v)) → of_one (failing p w k) ≡ failing p w k =
    λ k n. one_value c f k (bit p k) (failing p w k) (s k) n in
    let two : (k : Fact) → ((v : PureValue) → ¬ FailsAt c f k (at v)) → of_two (failing p w k) ≡ failing p w k =
    λ k n. two_values c f k (bit p k) (failing p w k) (s k) n in
    on_all (λ k. pure_examples x k ≡ failing p w k)
    (h1 ∙ one Total (λ u v n. n)) (h2 ∙ one Dead (λ u v n. n)) (h3 ∙ one Monotone (λ u v n. n)) (h4 ∙ one Strict (λ u v n. n))
    (h5 ∙ two Isotone (λ v n. n)) (h6 ∙ two Cancellative (λ v n. n)) (h7 ∙ two Condensed (λ v n. n)) (h8 ∙ two Narrow (λ v n. n))

-- a copy of the label, what the table tells of it, and the examples by its witnesses make a class of it
pub class_is : (a : PureAlg) (class : Class) (l : PureLabel) (x y : Expression) → IsAlg a → IsBase a.expression → IsLabel a.expression l
    → x ≡ a.expression → y ≡ a.expression → pure_label class.label ≡ l → class.profile ≡ base_profile_of x l
    → AreExamples class.examples class.profile (base_witness_of y l) → ClassOf a class
class_is a class l x y is base i ex ey copied reported examples =
    let p : class.profile ≡ base_profile_of a.expression l = subst (λ z. class.profile ≡ base_profile_of z l) ex reported in
    let e : AreExamples class.examples class.profile (base_witness_of a.expression l) =
    subst (λ z. AreExamples class.examples class.profile (base_witness_of z l)) ey examples in
    record {
      label = subst (IsLabel a.expression) (sym copied) i;
      label_bound = subst (LabelAtMost (greatest_number a.edition)) (sym copied)
          (label_bounded (greatest_number a.edition) a.expression l base is.bound i);
      settled = subst (λ m. IsSettledBy (carrier_of a.expression) (App a.expression m) class.profile (pure_examples class.examples)) (sym copied)
          (examples_settled a.expression l class.profile class.examples base is.formed.ranges i p e);
      bound = examples_bounded a.edition a.expression l class.profile class.examples base is.bound i e;
    }
