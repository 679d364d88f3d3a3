-- What examples of the parts answer of a pair.
use Rattle.std.proofs.Common.{◌≡◌, ℕ, refl, Option, Some, None, ◌⊎◌, inl, inr, ⊎_elim}
use Rattle.alg_model.specs.Numbers.{max_instance_number}
use Rattle.alg_model.specs.Expressions.{PureCarrier, pairs, PureValue}
use Rattle.alg_model.specs.Carriers.{In}
use Rattle.alg_model.specs.Bounds.{AtMost}
use Rattle.alg_classes.specs.declared.fact.Fact.{Fact}
use Rattle.alg_classes.specs.declared.fact.Fact.TheVariants.{Total, Dead, Monotone, Strict, Isotone, Cancellative, Condensed, Narrow}
use Rattle.alg_classes.specs.Facts.{Action, Holds, PureExample, at, between, Refutes}
use Rattle.alg_classes.specs.Classes.{ExampleAtMost}
use Rattle.alg_classes.specs.FactLaws.{Keeps}
use Rattle.alg_classes.specs.RuleLaws.{OnExample, IsValue}
use Rattle.alg_classes.specs.Pairs.{paired, beside, spanned}
use Rattle.alg_classes.specs.PairExamples.{Joins, joined, dead_with_dead, total_with_any, any_with_total, monotone_with_dead, strict_with_monotone, monotone_with_dead_strict, strict_with_strict}
use Rattle.alg_classes.specs.PairExamples.{isotone_with_dead, dead_with_isotone, Splits, splits, narrow_with_split, cancellative_with_condensed}
use Rattle.alg_classes.specs.PairExamples.{cancellative_with_dead, dead_with_cancellative, condensed_with_dead, dead_with_condensed, narrow_with_dead, dead_with_narrow}
use Rattle.alg_classes.specs.PairFacts.{both_total, first_dead, second_dead, dead_pair, strict_is_monotone, both_monotone, strict_is_strict, monotone_and_strict, both_cancellative, both_condensed, both_narrow, both_isotone}
use Rattle.property_infer.specs.Answers.{Answers}

-- What an answer tells: that the fact holds, or an example that refutes it, whose numbers are small.

reported : (c : PureCarrier) (f : Action) (k : Fact) (o : Option PureExample) → Answers c f k o → o ≡ None → Holds c f k
reported c f k None a e = a
reported c f k (Some x) a e = absurd (cc)

shown : (c : PureCarrier) (f : Action) (k : Fact) (o : Option PureExample) → Answers c f k o → OnExample (Refutes c f k) o
shown c f k None a = tt
shown c f k (Some x) a = a.0

small : (c : PureCarrier) (f : Action) (k : Fact) (o : Option PureExample) → Answers c f k o → ExampleAtMost max_instance_number o
small c f k None a = tt
small c f k (Some x) a = a.1

-- The numbers of a joined example are those of its parts.

small_beside : (n : ℕ) (o r : Option PureExample) → ExampleAtMost n o → ExampleAtMost n r → ExampleAtMost n (beside o r)
small_beside n (Some (at u)) (Some (at v)) h i = (h, i)
small_beside n (Some (at w)) (Some (between u v)) h i = ((h, i.0), (h, i.1))
small_beside n (Some (between u v)) (Some (at w)) h i = ((h.0, i), (h.1, i))
small_beside n (Some (between t u)) (Some (between v w)) h i = ((h.0, i.1), (h.1, i.0))
small_beside n (Some (at u)) None h i = tt
small_beside n (Some (between u v)) None h i = tt
small_beside n None r h i = tt

small_spanned : (n : ℕ) (r s : Option PureExample) → ExampleAtMost n r → ExampleAtMost n s → ExampleAtMost n (spanned r s)
small_spanned n (Some (at u)) (Some (at v)) h i = (h, i)
small_spanned n (Some (at u)) (Some (between v w)) h i = tt
small_spanned n (Some (at u)) None h i = tt
small_spanned n (Some (between u v)) s h i = tt
small_spanned n None s h i = tt

-- An option answers where the fact holds if it is none, and where its example refutes and is small.

beside_none : (o r : Option PureExample) → beside o r ≡ None → (o ≡ None) ⊎ (r ≡ None)
beside_none (Some (at u)) (Some (at v)) e = absurd (cc)
beside_none (Some (at w)) (Some (between u v)) e = absurd (cc)
beside_none (Some (between u v)) (Some (at w)) e = absurd (cc)
beside_none (Some (between t u)) (Some (between v w)) e = absurd (cc)
beside_none (Some (at u)) None e = inr refl
beside_none (Some (between u v)) None e = inr refl
beside_none None r e = inl refl

answered : (c : PureCarrier) (f : Action) (k : Fact) (o : Option PureExample) → (o ≡ None → Holds c f k) → OnExample (Refutes c f k) o → ExampleAtMost max_instance_number o
    → Answers c f k o
answered c f k None h s b = h refl
answered c f k (Some x) h s b = (s, b)

answer_joined : (c d : PureCarrier) (f g : Action) (P Q : PureExample → Type 0) (k : Fact) (o r : Option PureExample)
    → (o ≡ None → Holds (pairs c d) (paired f g) k) → (r ≡ None → Holds (pairs c d) (paired f g) k) → Joins c d f g P Q k
    → OnExample P o → OnExample Q r → ExampleAtMost max_instance_number o → ExampleAtMost max_instance_number r → Answers (pairs c d) (paired f g) k (beside o r)
answer_joined c d f g P Q k o r h i rule s t a b = answered (pairs c d) (paired f g) k (beside o r)
    (λ e. ⊎_elim h i (beside_none o r e)) (joined c d f g P Q k rule o r s t) (small_beside max_instance_number o r a b)

answer_by : (c d : PureCarrier) (f g : Action) (k kx ky : Fact) (o r : Option PureExample)
    → (Holds c f kx → Holds (pairs c d) (paired f g) k) → (Holds d g ky → Holds (pairs c d) (paired f g) k) → Joins c d f g (Refutes c f kx) (Refutes d g ky) k
    → Answers c f kx o → Answers d g ky r → Answers (pairs c d) (paired f g) k (beside o r)
answer_by c d f g k kx ky o r h i rule a b = answer_joined c d f g (Refutes c f kx) (Refutes d g ky) k o r
    (λ e. h (reported c f kx o a e)) (λ e. i (reported d g ky r b e)) rule (shown c f kx o a) (shown d g ky r b) (small c f kx o a) (small d g ky r b)

-- where the first part doesn't have a fact, its example and a value of the second part with an image show it of the
-- pair
first_fails : (c d : PureCarrier) (f g : Action) (k kx : Fact) (o r : Option PureExample) → ¬ (k ≡ Total) → ¬ Holds c f kx
    → Joins c d f g (Refutes c f kx) (Refutes d g Dead) k → Answers c f kx o → Answers d g Dead r → Answers (pairs c d) (paired f g) k (beside o r)
first_fails c d f g k kx o r other misses rule a b = answer_by c d f g k kx Dead o r (λ h. absurd (misses h)) (λ h. dead_pair c d f g (inr h) k other) rule a b

-- and so do an example of the second part and a value of the first with an image
second_fails : (c d : PureCarrier) (f g : Action) (k ky : Fact) (o r : Option PureExample) → ¬ (k ≡ Total) → (Holds d g ky → Holds (pairs c d) (paired f g) k)
    → Joins c d f g (Refutes c f Dead) (Refutes d g ky) k → Answers c f Dead o → Answers d g ky r → Answers (pairs c d) (paired f g) k (beside o r)
second_fails c d f g k ky o r other holds rule a b = answer_by c d f g k Dead ky o r (λ h. dead_pair c d f g (inl h) k other) holds rule a b

-- Whether each value has an image, and whether none has.

pub pair_dead : (c d : PureCarrier) (f g : Action) (o r : Option PureExample) → Answers c f Dead o → Answers d g Dead r → Answers (pairs c d) (paired f g) Dead (beside o r)
pair_dead c d f g o r a b = answer_by c d f g Dead Dead Dead o r (first_dead c d f g) (second_dead c d f g) (dead_with_dead c d f g) a b

pub pair_total_first : (c d : PureCarrier) (f g : Action) (o : Option PureExample) (v : PureValue) → ¬ Holds c f Total → Answers c f Total o → In d v → AtMost max_instance_number v
    → Answers (pairs c d) (paired f g) Total (beside o (Some (at v)))
pair_total_first c d f g o v misses a i b = answer_joined c d f g (Refutes c f Total) (IsValue d) Total o (Some (at v))
    (λ e. absurd (misses (reported c f Total o a e))) (λ e. absurd (cc)) (total_with_any c d f g) (shown c f Total o a) i (small c f Total o a) b

pub pair_total_second : (c d : PureCarrier) (f g : Action) (u : PureValue) (r : Option PureExample) → Holds c f Total → In c u → AtMost max_instance_number u → Answers d g Total r
    → Answers (pairs c d) (paired f g) Total (beside (Some (at u)) r)
pair_total_second c d f g u r holds i b a = answer_joined c d f g (IsValue c) (Refutes d g Total) Total (Some (at u)) r
    (λ e. absurd (cc)) (λ e. both_total c d f g holds (reported d g Total r a e)) (any_with_total c d f g) i (shown d g Total r a) b (small d g Total r a)

-- Whether no value's image is preferred to it, and whether each image is worse.

pair_monotone_first : (c d : PureCarrier) (f g : Action) (o r : Option PureExample) → ¬ Holds c f Monotone → Answers c f Monotone o → Answers d g Dead r
    → Answers (pairs c d) (paired f g) Monotone (beside o r)
pair_monotone_first c d f g o r misses a b = first_fails c d f g Monotone Monotone o r (λ e. absurd (cc)) misses (monotone_with_dead c d f g) a b

pair_monotone_second : (c d : PureCarrier) (f g : Action) (o r : Option PureExample) → Keeps c f → Holds c f Monotone → Answers c f Strict o → Answers d g Monotone r
    → Answers (pairs c d) (paired f g) Monotone (beside o r)
pair_monotone_second c d f g o r kept holds a b = answer_by c d f g Monotone Strict Monotone o r (strict_is_monotone c d f g kept) (both_monotone c d f g holds) (strict_with_monotone c d f g kept) a b

pair_strict_first : (c d : PureCarrier) (f g : Action) (o r : Option PureExample) → Keeps c f → ¬ Holds c f Monotone → Answers c f Monotone o → Answers d g Dead r
    → Answers (pairs c d) (paired f g) Strict (beside o r)
pair_strict_first c d f g o r kept misses a b = first_fails c d f g Strict Monotone o r (λ e. absurd (cc)) misses (monotone_with_dead_strict c d f g kept) a b

pair_strict_second : (c d : PureCarrier) (f g : Action) (o r : Option PureExample) → Keeps c f → Holds c f Monotone → Answers c f Strict o → Answers d g Strict r
    → Answers (pairs c d) (paired f g) Strict (beside o r)
pair_strict_second c d f g o r kept holds a b = answer_by c d f g Strict Strict Strict o r (strict_is_strict c d f g) (monotone_and_strict c d f g kept holds) (strict_with_strict c d f g) a b

abbrev pub IsOfWorse : Fact → Type 0
IsOfWorse Monotone = Unit {0}
IsOfWorse Strict = Unit {0}
IsOfWorse _ = ⊥

pub pair_worse_first : (c d : PureCarrier) (f g : Action) (k : Fact) (o r : Option PureExample) → IsOfWorse k → Keeps c f → ¬ Holds c f Monotone → Answers c f Monotone o
    → Answers d g Dead r → Answers (pairs c d) (paired f g) k (beside o r)
pair_worse_first c d f g Monotone o r worse kept misses a b = pair_monotone_first c d f g o r misses a b
pair_worse_first c d f g Strict o r worse kept misses a b = pair_strict_first c d f g o r kept misses a b
pair_worse_first c d f g _ o r worse kept misses a b = absurd worse

pub pair_worse_second : (c d : PureCarrier) (f g : Action) (k : Fact) (o r : Option PureExample) → IsOfWorse k → Keeps c f → Holds c f Monotone → Answers c f Strict o
    → Answers d g k r → Answers (pairs c d) (paired f g) k (beside o r)
pair_worse_second c d f g Monotone o r worse kept holds a b = pair_monotone_second c d f g o r kept holds a b
pair_worse_second c d f g Strict o r worse kept holds a b = pair_strict_second c d f g o r kept holds a b
pair_worse_second c d f g _ o r worse kept holds a b = absurd worse

-- Whether images are in the order of their values.

pub pair_isotone_first : (c d : PureCarrier) (f g : Action) (o r : Option PureExample) → ¬ Holds c f Isotone → Answers c f Isotone o → Answers d g Dead r
    → Answers (pairs c d) (paired f g) Isotone (beside o r)
pair_isotone_first c d f g o r misses a b = first_fails c d f g Isotone Isotone o r (λ e. absurd (cc)) misses (isotone_with_dead c d f g) a b

pub pair_isotone_second : (c d : PureCarrier) (f g : Action) (o r : Option PureExample) → Keeps c f → ¬ Holds d g Isotone → Answers c f Dead o → Answers d g Isotone r
    → Answers (pairs c d) (paired f g) Isotone (beside o r)
pair_isotone_second c d f g o r kept misses a b = second_fails c d f g Isotone Isotone o r (λ e. absurd (cc)) (λ h. absurd (misses h)) (dead_with_isotone c d f g kept) a b

-- where the two values to span aren't both there, and some value has no image, none has one
spanned_none : (d : PureCarrier) (g : Action) (r s : Option PureExample) → ¬ Holds d g Total → Answers d g Dead r → Answers d g Total s → spanned r s ≡ None → Holds d g Dead
spanned_none d g (Some (at u)) (Some (at v)) misses a b e = absurd (cc)
spanned_none d g (Some (at u)) (Some (between v w)) misses a b e = absurd b.0.1
spanned_none d g (Some (at u)) None misses a b e = absurd (misses b)
spanned_none d g (Some (between u v)) s misses a b e = absurd a.0.1
spanned_none d g None s misses a b e = a

pub pair_isotone_split : (c d : PureCarrier) (f g : Action) (o r s : Option PureExample) → Keeps c f → Holds c f Isotone → Holds d g Isotone → ¬ Holds d g Total
    → Answers c f Narrow o → Answers d g Dead r → Answers d g Total s → Answers (pairs c d) (paired f g) Isotone (beside o (spanned r s))
pair_isotone_split c d f g o r s kept h i misses a b t = answer_joined c d f g (Refutes c f Narrow) (Splits d g) Isotone o (spanned r s)
    (λ e. both_isotone c d f g kept h i (inl (reported c f Narrow o a e)))
    (λ e. dead_pair c d f g (inr (spanned_none d g r s misses b t e)) Isotone (λ e. absurd (cc)))
    (narrow_with_split c d f g) (shown c f Narrow o a) (splits d g r s (shown d g Dead r b) (shown d g Total s t))
    (small c f Narrow o a) (small_spanned max_instance_number r s (small d g Dead r b) (small d g Total s t))

pub pair_isotone_tied : (c d : PureCarrier) (f g : Action) (o r : Option PureExample) → Keeps c f → Holds c f Isotone → Holds d g Isotone → Holds d g Total → Answers c f Cancellative o → Answers d g Condensed r
    → Answers (pairs c d) (paired f g) Isotone (beside o r)
pair_isotone_tied c d f g o r kept h i t a b = answer_by c d f g Isotone Cancellative Condensed o r
    (λ n. both_isotone c d f g kept h i (inr (t, inl n))) (λ n. both_isotone c d f g kept h i (inr (t, inr n))) (cancellative_with_condensed c d f g kept) a b

-- The facts that the pair has where both parts have them.

abbrev pub IsAlike : Fact → Type 0
IsAlike Cancellative = Unit {0}
IsAlike Condensed = Unit {0}
IsAlike Narrow = Unit {0}
IsAlike _ = ⊥

pub pair_alike_first : (c d : PureCarrier) (f g : Action) (k : Fact) (o r : Option PureExample) → IsAlike k → Keeps d g → ¬ Holds c f k → Answers c f k o → Answers d g Dead r
    → Answers (pairs c d) (paired f g) k (beside o r)
pair_alike_first c d f g Cancellative o r alike kept misses a b = first_fails c d f g Cancellative Cancellative o r (λ e. absurd (cc)) misses (cancellative_with_dead c d f g kept) a b
pair_alike_first c d f g Condensed o r alike kept misses a b = first_fails c d f g Condensed Condensed o r (λ e. absurd (cc)) misses (condensed_with_dead c d f g) a b
pair_alike_first c d f g Narrow o r alike kept misses a b = first_fails c d f g Narrow Narrow o r (λ e. absurd (cc)) misses (narrow_with_dead c d f g) a b
pair_alike_first c d f g _ o r alike kept misses a b = absurd alike

pub pair_alike_second : (c d : PureCarrier) (f g : Action) (k : Fact) (o r : Option PureExample) → IsAlike k → Keeps c f → Holds c f k → Answers c f Dead o → Answers d g k r
    → Answers (pairs c d) (paired f g) k (beside o r)
pair_alike_second c d f g Cancellative o r alike kept holds a b = second_fails c d f g Cancellative Cancellative o r (λ e. absurd (cc)) (both_cancellative c d f g holds) (dead_with_cancellative c d f g kept) a b
pair_alike_second c d f g Condensed o r alike kept holds a b = second_fails c d f g Condensed Condensed o r (λ e. absurd (cc)) (both_condensed c d f g holds) (dead_with_condensed c d f g kept) a b
pair_alike_second c d f g Narrow o r alike kept holds a b = second_fails c d f g Narrow Narrow o r (λ e. absurd (cc)) (both_narrow c d f g holds) (dead_with_narrow c d f g) a b
pair_alike_second c d f g _ o r alike kept holds a b = absurd alike
