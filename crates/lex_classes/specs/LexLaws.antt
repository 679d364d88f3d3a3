-- The laws of lexical classes, for the proofs of their calls.
use Rattle.std.proofs.Common.{◌≡◌, refl, List, []}
use Rattle.alg_model.specs.Numbers.{max_instance_number}
use Rattle.alg_model.specs.declared.edition.Edition.{Edition}
use Rattle.alg_model.specs.Expressions.{Expression, lex, PureLabel, pair_label}
use Rattle.alg_model.specs.Views.{pure_label}
use Rattle.alg_model.specs.Application.{IsLabel}
use Rattle.alg_model.specs.Formation.{IsFormed}
use Rattle.alg_classes.specs.declared.profile.Profile.{Profile}
use Rattle.alg_classes.specs.declared.class.Class.{Class}
use Rattle.alg_classes.specs.declared.fact.Fact.{Fact}
use Rattle.alg_classes.specs.Classes.{pure_examples, alg_in, ClassOf, IsCovered, Covers}
use Rattle.alg_classes.specs.Pairs.{pair_profile, pair_examples}
use Rattle.alg_classes.specs.PairLaws.{lex_settled, lex_profile_is, pair_bound}
use Rattle.alg_classes.specs.RuleLaws.{class_from}
use Rattle.alg_classes.specs.Growth.{Grown}
use Rattle.lex_classes.specs.Lexical.{IsLexProfile, OfAllPairs}

-- the rule's profile is the product's
pub rule_is_exact : (p q : Profile) → IsLexProfile p q (pair_profile p q)
rule_is_exact p q = λ a b l m. lex_profile_is a b l m p q

-- a class that is made by the rule from two classes is the product's
pub made_class : (a b : Expression) (e : Edition) (x y z : Class) → IsFormed (lex a b) → ClassOf (alg_in a e) x → ClassOf (alg_in b e) y
    → z.profile ≡ pair_profile x.profile y.profile
    → pure_label z.label ≡ pair_label (pure_label x.label) (pure_label y.label)
    → ((k : Fact) → pure_examples z.examples k ≡ pair_examples (pure_examples x.examples) (pure_examples y.examples) k)
    → ClassOf (alg_in (lex a b) e) z
made_class a b e x y z formed is_x is_y profile_is label_is examples_are =
    class_from (alg_in (lex a b) e) z (pair_label (pure_label x.label) (pure_label y.label)) (pair_profile x.profile y.profile)
    (pair_examples (pure_examples x.examples) (pure_examples y.examples)) label_is profile_is examples_are
    (is_x.label, is_y.label) (is_x.label_bound, is_y.label_bound)
    (lex_settled a b (pure_label x.label) (pure_label y.label) x.profile y.profile (pure_examples x.examples) (pure_examples y.examples)
    formed is_x.label is_y.label is_x.settled is_y.settled)
    (pair_bound max_instance_number (pure_examples x.examples) (pure_examples y.examples) is_x.bound is_y.bound)

-- a label of the product is a pair of labels
each_pair : (a b : Expression) (P : PureLabel → Type 0) → ((l m : PureLabel) → IsLabel a l → IsLabel b m → P (pair_label l m))
    → (k : PureLabel) → IsLabel (lex a b) k → P k
each_pair a b P f (pair_label l m) is = f l m is.0 is.1
each_pair a b P f _ is = absurd is

-- a list that has grown by all pairs covers the product
pub grown_covers : (a b : Expression) (e : Edition) (xs ys zs : List Class) → IsFormed (lex a b)
    → Covers (alg_in a e) xs → Covers (alg_in b e) ys
    → Grown (ClassOf (alg_in (lex a b) e)) (OfAllPairs xs ys) [] zs → Covers (alg_in (lex a b) e) zs
grown_covers a b e xs ys zs formed covers_x covers_y g = record {
  distinct = g.distinct tt;
  each = g.each tt;
  labels = each_pair a b (IsCovered (alg_in (lex a b) e) zs) (λ l m is_l is_m.
      let p = covers_x.labels l is_l in
      let q = covers_y.labels m is_m in
      let r = pair_profile p.0 q.0 in
      (r, lex_profile_is a b l m p.0 q.0 formed is_l is_m p.1 q.1, g.reached r (p.0, p.2, (q.0, q.2, refl))));
}
