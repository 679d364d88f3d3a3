-- What examples of one action beside another tell, by what those of each tell, and so of one that denies.
use Rattle.std.proofs.Common.{Bool, true, false, ℕ, Option, Some, None, inl, inr}
use Rattle.std.specs.Prelude.{option_map}
use Rattle.alg_model.specs.Numbers.{max_instance_number}
use Rattle.alg_model.specs.Expressions.{PureCarrier, sides}
use Rattle.alg_classes.specs.declared.fact.Fact.{Fact}
use Rattle.alg_classes.specs.declared.fact.Fact.TheVariants.{Total, Dead, Monotone, Strict, Isotone, Cancellative, Condensed, Narrow}
use Rattle.alg_classes.specs.Facts.{Action, Holds, PureExample, at, between}
use Rattle.alg_classes.specs.Classes.{Settles, ExampleAtMost}
use Rattle.union_classes.specs.Sums.{beside, on_first, on_second, across}
use Rattle.union_classes.specs.SideLaws.{refuted_on_first, refuted_on_second, refuted_isotone, refuted_condensed, refuted_narrow, both_total, both_dead, both_monotone, both_strict, both_cancellative, both_isotone, both_condensed, both_narrow}
use Rattle.property_infer.specs.Answers.{Answers}

-- as values of a side, the numbers of an example are the same
first_bound : (n : ℕ) (e : PureExample) → ExampleAtMost n (Some e) → ExampleAtMost n (Some (on_first e))
first_bound n (at u) b = b
first_bound n (between u v) b = b

second_bound : (n : ℕ) (e : PureExample) → ExampleAtMost n (Some e) → ExampleAtMost n (Some (on_second e))
second_bound n (at u) b = b
second_bound n (between u v) b = b

on_second_side : (c d : PureCarrier) (f g : Action) (k : Fact) (e : PureExample) → Answers d g k (Some e) → Answers (sides c d) (beside f g) k (Some (on_second e))
on_second_side c d f g k e a = (refuted_on_second c d f g k e a.0, second_bound max_instance_number e a.1)

-- where the first side hasn't the fact, its example is one of both
pub side_first : (c d : PureCarrier) (f g : Action) (k : Fact) (o : Option PureExample) → ¬ Holds c f k → Answers c f k o
    → Answers (sides c d) (beside f g) k (option_map on_first o)
side_first c d f g k None misses a = absurd (misses a)
side_first c d f g k (Some e) misses a = (refuted_on_first c d f g k e a.0, first_bound max_instance_number e a.1)

-- a fact that both have where each side has it; where the first side has it, the second tells
abbrev pub IsOfEach : Fact → Type 0
IsOfEach Total = Unit {0}
IsOfEach Dead = Unit {0}
IsOfEach Monotone = Unit {0}
IsOfEach Strict = Unit {0}
IsOfEach Cancellative = Unit {0}
IsOfEach _ = ⊥

of_each : (c d : PureCarrier) (f g : Action) (k : Fact) → IsOfEach k → Holds c f k → Holds d g k → Holds (sides c d) (beside f g) k
of_each c d f g Total each h i = both_total c d f g h i
of_each c d f g Dead each h i = both_dead c d f g h i
of_each c d f g Monotone each h i = both_monotone c d f g h i
of_each c d f g Strict each h i = both_strict c d f g h i
of_each c d f g Cancellative each h i = both_cancellative c d f g h i
of_each c d f g _ each h i = absurd each

pub side_of_each : (c d : PureCarrier) (f g : Action) (k : Fact) (r : Option PureExample) → IsOfEach k → Holds c f k → Answers d g k r
    → Answers (sides c d) (beside f g) k (option_map on_second r)
side_of_each c d f g k None each h a = of_each c d f g k each h a
side_of_each c d f g k (Some e) each h a = on_second_side c d f g k e a

-- where the second side hasn't the fact, its example is one of both
pub side_second : (c d : PureCarrier) (f g : Action) (k : Fact) (r : Option PureExample) → ¬ Holds d g k → Answers d g k r
    → Answers (sides c d) (beside f g) k (option_map on_second r)
side_second c d f g k None misses a = absurd (misses a)
side_second c d f g k (Some e) misses a = on_second_side c d f g k e a

-- where both have it, a value of each side may show that it fails between them
side_isotone_across : (c d : PureCarrier) (f g : Action) (o r : Option PureExample) → Holds c f Isotone → Holds d g Isotone → Answers c f Total o → Answers d g Dead r
    → Answers (sides c d) (beside f g) Isotone (across o r)
side_isotone_across c d f g None r h k a b = both_isotone c d f g h k (inl a)
side_isotone_across c d f g (Some (between u v)) r h k a b = absurd a.0.1
side_isotone_across c d f g (Some (at u)) None h k a b = both_isotone c d f g h k (inr b)
side_isotone_across c d f g (Some (at u)) (Some (between v w)) h k a b = absurd b.0.1
side_isotone_across c d f g (Some (at u)) (Some (at v)) h k a b = (refuted_isotone c d f g u v a.0 b.0, (a.1, b.1))

side_condensed_across : (c d : PureCarrier) (f g : Action) (o r : Option PureExample) → Holds c f Condensed → Holds d g Condensed → Answers c f Dead o → Answers d g Dead r
    → Answers (sides c d) (beside f g) Condensed (across o r)
side_condensed_across c d f g None r h k a b = both_condensed c d f g h k (inl a)
side_condensed_across c d f g (Some (between u v)) r h k a b = absurd a.0.1
side_condensed_across c d f g (Some (at u)) None h k a b = both_condensed c d f g h k (inr b)
side_condensed_across c d f g (Some (at u)) (Some (between v w)) h k a b = absurd b.0.1
side_condensed_across c d f g (Some (at u)) (Some (at v)) h k a b = (refuted_condensed c d f g u v a.0 b.0, (a.1, b.1))

side_narrow_across : (c d : PureCarrier) (f g : Action) (o r : Option PureExample) → Holds c f Narrow → Holds d g Narrow → Answers c f Dead o → Answers d g Dead r
    → Answers (sides c d) (beside f g) Narrow (across o r)
side_narrow_across c d f g None r h k a b = both_narrow c d f g h k (inl a)
side_narrow_across c d f g (Some (between u v)) r h k a b = absurd a.0.1
side_narrow_across c d f g (Some (at u)) None h k a b = both_narrow c d f g h k (inr b)
side_narrow_across c d f g (Some (at u)) (Some (between v w)) h k a b = absurd b.0.1
side_narrow_across c d f g (Some (at u)) (Some (at v)) h k a b = (refuted_narrow c d f g u v a.0 b.0, (a.1, b.1))

-- a fact that may fail between a value of the first side that is an example against the other, and one of the second
-- that has an image
abbrev pub IsAcross : Fact → Fact → Type 0
IsAcross Isotone Total = Unit {0}
IsAcross Condensed Dead = Unit {0}
IsAcross Narrow Dead = Unit {0}
IsAcross _ _ = ⊥

pub side_across : (c d : PureCarrier) (f g : Action) (k p : Fact) (o r : Option PureExample) → IsAcross k p → Holds c f k → Holds d g k → Answers c f p o → Answers d g Dead r
    → Answers (sides c d) (beside f g) k (across o r)
side_across c d f g Isotone Total o r is h i a b = side_isotone_across c d f g o r h i a b
side_across c d f g Condensed Dead o r is h i a b = side_condensed_across c d f g o r h i a b
side_across c d f g Narrow Dead o r is h i a b = side_narrow_across c d f g o r h i a b
side_across c d f g _ _ o r is h i a b = absurd is

-- an example that settles a fact tells of it
pub settled_answers : (c : PureCarrier) (f : Action) (k : Fact) (b : Bool) (o : Option PureExample) → Settles c f k b o → ExampleAtMost max_instance_number o → Answers c f k o
settled_answers c f k true None s m = s
settled_answers c f k true (Some e) s m = absurd s
settled_answers c f k false None s m = absurd s
settled_answers c f k false (Some e) s m = (s, m)
