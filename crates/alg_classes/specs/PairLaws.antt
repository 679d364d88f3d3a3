-- The rule of lexical pairs settles the facts of the pair.
use Rattle.std.proofs.Common.{◌≡◌, ℕ, refl, sym, subst, Bool, true, false, ◌&&◌, ◌||◌, Option, Some, None, ◌⊎◌, inl, inr, ⊎_elim}
use Rattle.std.specs.Option.{option_or}
use Rattle.std.proofs.lemmas.Bool.{and_parts, and_cases, or_parts, or_cases}
use Rattle.alg_model.specs.Expressions.{Expression, lex, PureCarrier, pairs, PureValue, pair, PureLabel, pair_label}
use Rattle.alg_model.specs.Carriers.{carrier_of, In}
use Rattle.alg_model.specs.Application.{IsLabel, App}
use Rattle.alg_model.specs.Formation.{IsFormed}
use Rattle.alg_model.specs.Laws.{formed_lex}
use Rattle.alg_model.specs.PreferenceLaws.{each_pair}
use Rattle.alg_classes.specs.declared.profile.Profile.{Profile}
use Rattle.alg_classes.specs.declared.fact.Fact.{Fact}
use Rattle.alg_classes.specs.declared.fact.Fact.TheVariants.{Total, Dead, Monotone, Strict, Isotone, Cancellative, Condensed, Narrow}
use Rattle.alg_classes.specs.Facts.{Action, Holds, PureExample, at, between, Refutes}
use Rattle.alg_classes.specs.Profiles.{bit, IsProfile, ProfileOf}
use Rattle.alg_classes.specs.Classes.{PureExamples, Settles, IsSettledBy, ExampleAtMost, ExamplesAtMost}
use Rattle.alg_classes.specs.FactLaws.{Keeps}
use Rattle.alg_classes.specs.ClassLaws.{images_kept, composed_profile_of_two}
use Rattle.alg_classes.specs.Inhabited.{carrier_inhabited}
use Rattle.alg_classes.specs.RuleLaws.{IsKnown, IsThere, OnExample, IsValue, settle, reported, there, shown, on_or, there_left, there_right}
use Rattle.alg_classes.specs.Pairs.{paired, pair_profile, beside, spanned, some_value, pair_examples}
use Rattle.alg_classes.specs.PairOrders.{both_parts}
use Rattle.alg_classes.specs.PairExamples.{Joins, joined, dead_with_dead, total_with_any, any_with_total, monotone_with_dead, strict_with_monotone, monotone_with_dead_strict, strict_with_strict, isotone_with_dead, dead_with_isotone, Splits, splits, narrow_with_split, cancellative_with_condensed, cancellative_with_dead, dead_with_cancellative, condensed_with_dead, dead_with_condensed, narrow_with_dead, dead_with_narrow}
use Rattle.alg_classes.specs.PairFacts.{both_total, first_dead, second_dead, dead_pair, strict_is_monotone, both_monotone, strict_is_strict, monotone_and_strict, both_cancellative, both_condensed, both_narrow, both_isotone}

-- Examples that are there.

there_beside : (x y : Option PureExample) → IsThere x → IsThere y → IsThere (beside x y)
there_beside (Some (at u)) (Some (at v)) h i = (at (pair u v), refl)
there_beside (Some (at w)) (Some (between u v)) h i = (between (pair w u) (pair w v), refl)
there_beside (Some (between u v)) (Some (at w)) h i = (between (pair u w) (pair v w), refl)
there_beside (Some (between t u)) (Some (between v w)) h i = (between (pair t w) (pair u v), refl)
there_beside (Some (at u)) None h i = let e = i.1 in absurd (cc)
there_beside (Some (between u v)) None h i = let e = i.1 in absurd (cc)
there_beside None y h i = let e = h.1 in absurd (cc)

there_spanned : (d : PureCarrier) (g : Action) (y z : Option PureExample) → OnExample (Refutes d g Dead) y → OnExample (Refutes d g Total) z → IsThere y → IsThere z → IsThere (spanned y z)
there_spanned d g (Some (at u)) (Some (at v)) r s h i = (between u v, refl)
there_spanned d g (Some (at u)) (Some (between v w)) r s h i = absurd s.1
there_spanned d g (Some (at u)) None r s h i = let e = i.1 in absurd (cc)
there_spanned d g (Some (between u v)) z r s h i = absurd r.1
there_spanned d g None z r s h i = let e = h.1 in absurd (cc)

value_inside : (c : PureCarrier) (f : Action) (x : Option PureExample) → OnExample (Refutes c f Dead) x → OnExample (IsValue c) x
value_inside c f (Some (at v)) r = r.0
value_inside c f (Some (between u v)) r = absurd r.1
value_inside c f None r = tt

value_outside : (c : PureCarrier) (f : Action) (x : Option PureExample) → OnExample (Refutes c f Total) x → OnExample (IsValue c) x
value_outside c f (Some (at v)) r = r.0
value_outside c f (Some (between u v)) r = absurd r.1
value_outside c f None r = tt

is_value : {c : PureCarrier} {f : Action} {p : Profile} {x : PureExamples} (a : IsKnown c f p x) → OnExample (IsValue c) (some_value x)
is_value {c} {f} {p} {x} a = on_or (IsValue c) (x Dead) (x Total) (value_inside c f (x Dead) (shown a Dead)) (value_outside c f (x Total) (shown a Total))

true_or_false : (b : Bool) → (b ≡ true) ⊎ (b ≡ false)
true_or_false true = inl refl
true_or_false false = inr refl

-- of a carrier that has a value not each is both sent to none and not
there_value : {c : PureCarrier} {f : Action} {p : Profile} {x : PureExamples} (a : IsKnown c f p x) → IsThere (some_value x)
there_value {c} {f} {p} {x} a = ⊎_elim
    (λ is_dead. ⊎_elim
    (λ is_total. absurd (let v = a.inhabited in let n = reported a Dead is_dead v.0 v.1 in let s = reported a Total is_total v.0 v.1 in let e = s.1 in cc))
    (λ misses. there_right (x Dead) (x Total) (there a Total misses))
    (true_or_false p.total))
    (λ misses. there_left (x Dead) (x Total) (there a Dead misses))
    (true_or_false p.dead)

-- The eight facts.

abbrev Settled : PureCarrier → PureCarrier → Action → Action → Profile → Profile → PureExamples → PureExamples → Fact → Type 0
Settled c d f g p q x y k = Settles (pairs c d) (paired f g) k (bit (pair_profile p q) k) (pair_examples x y k)

settled_total : (c d : PureCarrier) (f g : Action) (p q : Profile) (x y : PureExamples) → IsKnown c f p x → IsKnown d g q y → Settled c d f g p q x y Total
settled_total c d f g p q x y a b = settle (pairs c d) (paired f g) Total (p.total && q.total) (pair_examples x y Total)
    (λ e. let h = and_parts p.total q.total e in both_total c d f g (reported a Total h.0) (reported b Total h.1))
    (λ e. ⊎_elim
    (λ misses. there_left (beside (x Total) (some_value y)) (beside (some_value x) (y Total)) (there_beside (x Total) (some_value y) (there a Total misses) (there_value b)))
    (λ misses. there_right (beside (x Total) (some_value y)) (beside (some_value x) (y Total)) (there_beside (some_value x) (y Total) (there_value a) (there b Total misses)))
    (and_cases p.total q.total e))
    (on_or (Refutes (pairs c d) (paired f g) Total) (beside (x Total) (some_value y)) (beside (some_value x) (y Total))
    (joined c d f g (Refutes c f Total) (IsValue d) Total (total_with_any c d f g) (x Total) (some_value y) (shown a Total) (is_value b))
    (joined c d f g (IsValue c) (Refutes d g Total) Total (any_with_total c d f g) (some_value x) (y Total) (is_value a) (shown b Total)))

settled_dead : (c d : PureCarrier) (f g : Action) (p q : Profile) (x y : PureExamples) → IsKnown c f p x → IsKnown d g q y → Settled c d f g p q x y Dead
settled_dead c d f g p q x y a b = settle (pairs c d) (paired f g) Dead (p.dead || q.dead) (pair_examples x y Dead)
    (λ e. ⊎_elim (λ h. first_dead c d f g (reported a Dead h)) (λ h. second_dead c d f g (reported b Dead h)) (or_cases p.dead q.dead e))
    (λ e. let h = or_parts p.dead q.dead e in there_beside (x Dead) (y Dead) (there a Dead h.0) (there b Dead h.1))
    (joined c d f g (Refutes c f Dead) (Refutes d g Dead) Dead (dead_with_dead c d f g) (x Dead) (y Dead) (shown a Dead) (shown b Dead))

-- A fact other than total, which the pair has if a part is dead, and else where a test tells: the test's reasons are
-- enough, and where it fails, there is an example.
settled_alive : (c d : PureCarrier) (f g : Action) (p q : Profile) (x y : PureExamples) → IsKnown c f p x → IsKnown d g q y
    → (k : Fact) → ¬ (k ≡ Total) → (test : Bool) (o : Option PureExample) → (test ≡ true → Holds (pairs c d) (paired f g) k)
    → (IsThere (x Dead) → IsThere (y Dead) → test ≡ false → IsThere o) → OnExample (Refutes (pairs c d) (paired f g) k) o
    → Settles (pairs c d) (paired f g) k ((p.dead || q.dead) || test) o
settled_alive c d f g p q x y a b k other test o holds misses shows = settle (pairs c d) (paired f g) k ((p.dead || q.dead) || test) o
    (λ e. ⊎_elim
    (λ h. dead_pair c d f g (⊎_elim (λ i. inl (reported a Dead i)) (λ i. inr (reported b Dead i)) (or_cases p.dead q.dead h)) k other)
    holds (or_cases (p.dead || q.dead) test e))
    (λ e. let h = or_parts (p.dead || q.dead) test e in let i = or_parts p.dead q.dead h.0 in misses (there a Dead i.0) (there b Dead i.1) h.1)
    shows

settled_monotone : (c d : PureCarrier) (f g : Action) (p q : Profile) (x y : PureExamples) → IsKnown c f p x → IsKnown d g q y → Settled c d f g p q x y Monotone
settled_monotone c d f g p q x y a b =
    let one = beside (x Monotone) (y Dead) in
    let two = beside (x Strict) (y Monotone) in
    settled_alive c d f g p q x y a b Monotone (λ e. absurd (cc)) (p.strict || (p.mono && q.mono)) (option_or one two)
    (λ e. ⊎_elim
    (λ h. strict_is_monotone c d f g a.kept (reported a Strict h))
    (λ h. let i = and_parts p.mono q.mono h in both_monotone c d f g (reported a Monotone i.0) (reported b Monotone i.1))
    (or_cases p.strict (p.mono && q.mono) e))
    (λ s t e. let h = or_parts p.strict (p.mono && q.mono) e in ⊎_elim
    (λ i. there_left one two (there_beside (x Monotone) (y Dead) (there a Monotone i) t))
    (λ i. there_right one two (there_beside (x Strict) (y Monotone) (there a Strict h.0) (there b Monotone i)))
    (and_cases p.mono q.mono h.1))
    (on_or (Refutes (pairs c d) (paired f g) Monotone) one two
    (joined c d f g (Refutes c f Monotone) (Refutes d g Dead) Monotone (monotone_with_dead c d f g) (x Monotone) (y Dead) (shown a Monotone) (shown b Dead))
    (joined c d f g (Refutes c f Strict) (Refutes d g Monotone) Monotone (strict_with_monotone c d f g a.kept) (x Strict) (y Monotone) (shown a Strict) (shown b Monotone)))

settled_strict : (c d : PureCarrier) (f g : Action) (p q : Profile) (x y : PureExamples) → IsKnown c f p x → IsKnown d g q y → Settled c d f g p q x y Strict
settled_strict c d f g p q x y a b =
    let one = beside (x Monotone) (y Dead) in
    let two = beside (x Strict) (y Strict) in
    settled_alive c d f g p q x y a b Strict (λ e. absurd (cc)) (p.strict || (p.mono && q.strict)) (option_or one two)
    (λ e. ⊎_elim
    (λ h. strict_is_strict c d f g (reported a Strict h))
    (λ h. let i = and_parts p.mono q.strict h in monotone_and_strict c d f g a.kept (reported a Monotone i.0) (reported b Strict i.1))
    (or_cases p.strict (p.mono && q.strict) e))
    (λ s t e. let h = or_parts p.strict (p.mono && q.strict) e in ⊎_elim
    (λ i. there_left one two (there_beside (x Monotone) (y Dead) (there a Monotone i) t))
    (λ i. there_right one two (there_beside (x Strict) (y Strict) (there a Strict h.0) (there b Strict i)))
    (and_cases p.mono q.strict h.1))
    (on_or (Refutes (pairs c d) (paired f g) Strict) one two
    (joined c d f g (Refutes c f Monotone) (Refutes d g Dead) Strict (monotone_with_dead_strict c d f g a.kept) (x Monotone) (y Dead) (shown a Monotone) (shown b Dead))
    (joined c d f g (Refutes c f Strict) (Refutes d g Strict) Strict (strict_with_strict c d f g) (x Strict) (y Strict) (shown a Strict) (shown b Strict)))

settled_isotone : (c d : PureCarrier) (f g : Action) (p q : Profile) (x y : PureExamples) → IsKnown c f p x → IsKnown d g q y → Settled c d f g p q x y Isotone
settled_isotone c d f g p q x y a b =
    let one = beside (x Isotone) (y Dead) in
    let two = beside (x Dead) (y Isotone) in
    let three = beside (x Narrow) (spanned (y Dead) (y Total)) in
    let four = beside (x Cancellative) (y Condensed) in
    let R = Refutes (pairs c d) (paired f g) Isotone in
    settled_alive c d f g p q x y a b Isotone (λ e. absurd (cc)) ((p.iso && q.iso) && (p.narrow || (q.total && (p.canc || q.cond)))) (option_or one (option_or two (option_or three four)))
    (λ e.
    let h = and_parts (p.iso && q.iso) (p.narrow || (q.total && (p.canc || q.cond))) e in
    let i = and_parts p.iso q.iso h.0 in
    both_isotone c d f g a.kept (reported a Isotone i.0) (reported b Isotone i.1) (⊎_elim
    (λ j. inl (reported a Narrow j))
    (λ j. let m = and_parts q.total (p.canc || q.cond) j in inr (reported b Total m.0, ⊎_elim (λ n. inl (reported a Cancellative n)) (λ n. inr (reported b Condensed n)) (or_cases p.canc q.cond m.1)))
    (or_cases p.narrow (q.total && (p.canc || q.cond)) h.1)))
    (λ s t e. ⊎_elim
    (λ h. ⊎_elim
    (λ i. there_left one (option_or two (option_or three four)) (there_beside (x Isotone) (y Dead) (there a Isotone i) t))
    (λ i. there_right one (option_or two (option_or three four)) (there_left two (option_or three four) (there_beside (x Dead) (y Isotone) s (there b Isotone i))))
    (and_cases p.iso q.iso h))
    (λ h.
    let i = or_parts p.narrow (q.total && (p.canc || q.cond)) h in
    there_right one (option_or two (option_or three four)) (there_right two (option_or three four) (⊎_elim
    (λ j. there_left three four (there_beside (x Narrow) (spanned (y Dead) (y Total)) (there a Narrow i.0)
    (there_spanned d g (y Dead) (y Total) (shown b Dead) (shown b Total) t (there b Total j))))
    (λ j. let m = or_parts p.canc q.cond j in there_right three four (there_beside (x Cancellative) (y Condensed) (there a Cancellative m.0) (there b Condensed m.1)))
    (and_cases q.total (p.canc || q.cond) i.1))))
    (and_cases (p.iso && q.iso) (p.narrow || (q.total && (p.canc || q.cond))) e))
    (on_or R one (option_or two (option_or three four))
    (joined c d f g (Refutes c f Isotone) (Refutes d g Dead) Isotone (isotone_with_dead c d f g) (x Isotone) (y Dead) (shown a Isotone) (shown b Dead))
    (on_or R two (option_or three four)
    (joined c d f g (Refutes c f Dead) (Refutes d g Isotone) Isotone (dead_with_isotone c d f g a.kept) (x Dead) (y Isotone) (shown a Dead) (shown b Isotone))
    (on_or R three four
    (joined c d f g (Refutes c f Narrow) (Splits d g) Isotone (narrow_with_split c d f g) (x Narrow) (spanned (y Dead) (y Total)) (shown a Narrow)
    (splits d g (y Dead) (y Total) (shown b Dead) (shown b Total)))
    (joined c d f g (Refutes c f Cancellative) (Refutes d g Condensed) Isotone (cancellative_with_condensed c d f g a.kept) (x Cancellative) (y Condensed) (shown a Cancellative) (shown b Condensed)))))

-- a fact that the pair has where both parts have it
settled_both : (c d : PureCarrier) (f g : Action) (p q : Profile) (x y : PureExamples) → IsKnown c f p x → IsKnown d g q y
    → (k : Fact) → ¬ (k ≡ Total) → (Holds c f k → Holds d g k → Holds (pairs c d) (paired f g) k)
    → Joins c d f g (Refutes c f k) (Refutes d g Dead) k → Joins c d f g (Refutes c f Dead) (Refutes d g k) k
    → Settles (pairs c d) (paired f g) k ((p.dead || q.dead) || (bit p k && bit q k)) (option_or (beside (x k) (y Dead)) (beside (x Dead) (y k)))
settled_both c d f g p q x y a b k other holds first_shows second_shows =
    settled_alive c d f g p q x y a b k other (bit p k && bit q k) (option_or (beside (x k) (y Dead)) (beside (x Dead) (y k)))
    (λ e. let h = and_parts (bit p k) (bit q k) e in holds (reported a k h.0) (reported b k h.1))
    (λ s t e. ⊎_elim
    (λ h. there_left (beside (x k) (y Dead)) (beside (x Dead) (y k)) (there_beside (x k) (y Dead) (there a k h) t))
    (λ h. there_right (beside (x k) (y Dead)) (beside (x Dead) (y k)) (there_beside (x Dead) (y k) s (there b k h)))
    (and_cases (bit p k) (bit q k) e))
    (on_or (Refutes (pairs c d) (paired f g) k) (beside (x k) (y Dead)) (beside (x Dead) (y k))
    (joined c d f g (Refutes c f k) (Refutes d g Dead) k first_shows (x k) (y Dead) (shown a k) (shown b Dead))
    (joined c d f g (Refutes c f Dead) (Refutes d g k) k second_shows (x Dead) (y k) (shown a Dead) (shown b k)))

-- the rule: examples of the parts settle the pair
pub pair_settled : (c d : PureCarrier) (f g : Action) (p q : Profile) (x y : PureExamples) → IsKnown c f p x → IsKnown d g q y
    → IsSettledBy (pairs c d) (paired f g) (pair_profile p q) (pair_examples x y)
pair_settled c d f g p q x y a b Total = settled_total c d f g p q x y a b
pair_settled c d f g p q x y a b Dead = settled_dead c d f g p q x y a b
pair_settled c d f g p q x y a b Monotone = settled_monotone c d f g p q x y a b
pair_settled c d f g p q x y a b Strict = settled_strict c d f g p q x y a b
pair_settled c d f g p q x y a b Isotone = settled_isotone c d f g p q x y a b
pair_settled c d f g p q x y a b Cancellative = settled_both c d f g p q x y a b Cancellative (λ e. absurd (cc)) (both_cancellative c d f g) (cancellative_with_dead c d f g b.kept) (dead_with_cancellative c d f g a.kept)
pair_settled c d f g p q x y a b Condensed = settled_both c d f g p q x y a b Condensed (λ e. absurd (cc)) (both_condensed c d f g) (condensed_with_dead c d f g) (dead_with_condensed c d f g a.kept)
pair_settled c d f g p q x y a b Narrow = settled_both c d f g p q x y a b Narrow (λ e. absurd (cc)) (both_narrow c d f g) (narrow_with_dead c d f g) (dead_with_narrow c d f g)

-- No number of the pair's examples is above those of the parts' ones.

bound_beside : (n : ℕ) (x y : Option PureExample) → ExampleAtMost n x → ExampleAtMost n y → ExampleAtMost n (beside x y)
bound_beside n (Some (at u)) (Some (at v)) h i = (h, i)
bound_beside n (Some (at w)) (Some (between u v)) h i = ((h, i.0), (h, i.1))
bound_beside n (Some (between u v)) (Some (at w)) h i = ((h.0, i), (h.1, i))
bound_beside n (Some (between t u)) (Some (between v w)) h i = ((h.0, i.1), (h.1, i.0))
bound_beside n (Some (at u)) None h i = tt
bound_beside n (Some (between u v)) None h i = tt
bound_beside n None y h i = tt

bound_spanned : (n : ℕ) (x y : Option PureExample) → ExampleAtMost n x → ExampleAtMost n y → ExampleAtMost n (spanned x y)
bound_spanned n (Some (at u)) (Some (at v)) h i = (h, i)
bound_spanned n (Some (at u)) (Some (between v w)) h i = tt
bound_spanned n (Some (at u)) None h i = tt
bound_spanned n (Some (between u v)) y h i = tt
bound_spanned n None y h i = tt

bound_or : (n : ℕ) (x y : Option PureExample) → ExampleAtMost n x → ExampleAtMost n y → ExampleAtMost n (option_or x y)
bound_or n None y h i = i
bound_or n (Some e) y h i = h

bound_either : (n : ℕ) (x y : PureExamples) → ExamplesAtMost n x → ExamplesAtMost n y → (k l m o : Fact) → ExampleAtMost n (option_or (beside (x k) (y l)) (beside (x m) (y o)))
bound_either n x y h i k l m o = bound_or n (beside (x k) (y l)) (beside (x m) (y o)) (bound_beside n (x k) (y l) (h k) (i l)) (bound_beside n (x m) (y o) (h m) (i o))

bound_value : (n : ℕ) (x : PureExamples) → ExamplesAtMost n x → ExampleAtMost n (some_value x)
bound_value n x h = bound_or n (x Dead) (x Total) (h Dead) (h Total)

pub pair_bound : (n : ℕ) (x y : PureExamples) → ExamplesAtMost n x → ExamplesAtMost n y → ExamplesAtMost n (pair_examples x y)
pair_bound n x y h i Total = bound_or n (beside (x Total) (some_value y)) (beside (some_value x) (y Total))
    (bound_beside n (x Total) (some_value y) (h Total) (bound_value n y i)) (bound_beside n (some_value x) (y Total) (bound_value n x h) (i Total))
pair_bound n x y h i Dead = bound_beside n (x Dead) (y Dead) (h Dead) (i Dead)
pair_bound n x y h i Monotone = bound_either n x y h i Monotone Dead Strict Monotone
pair_bound n x y h i Strict = bound_either n x y h i Monotone Dead Strict Strict
pair_bound n x y h i Isotone =
    let one = beside (x Isotone) (y Dead) in
    let two = beside (x Dead) (y Isotone) in
    let three = beside (x Narrow) (spanned (y Dead) (y Total)) in
    let four = beside (x Cancellative) (y Condensed) in
    bound_or n one (option_or two (option_or three four)) (bound_beside n (x Isotone) (y Dead) (h Isotone) (i Dead))
    (bound_or n two (option_or three four) (bound_beside n (x Dead) (y Isotone) (h Dead) (i Isotone))
    (bound_or n three four
    (bound_beside n (x Narrow) (spanned (y Dead) (y Total)) (h Narrow) (bound_spanned n (y Dead) (y Total) (i Dead) (i Total)))
    (bound_beside n (x Cancellative) (y Condensed) (h Cancellative) (i Condensed))))
pair_bound n x y h i Cancellative = bound_either n x y h i Cancellative Dead Dead Cancellative
pair_bound n x y h i Condensed = bound_either n x y h i Condensed Dead Dead Condensed
pair_bound n x y h i Narrow = bound_either n x y h i Narrow Dead Dead Narrow

-- Labels whose profiles are known.

paired_kept : (c d : PureCarrier) (f g : Action) → Keeps c f → Keeps d g → Keeps (pairs c d) (paired f g)
paired_kept c d f g h k = λ v w i. each_pair c d (λ v. paired f g v ≡ Some w → In (pairs c d) w) (λ a b ia ib e.
    let m = both_parts (f a) (g b) w e in
    subst (In (pairs c d)) (sym m.4) (h a m.0 ia m.2, k b m.1 ib m.3)) v i

-- the rule's profile is exact
pub pair_profile_is : (c d : PureCarrier) (f g : Action) (p q : Profile) → Keeps c f → Keeps d g → ((v : PureValue) × In c v) → ((v : PureValue) × In d v)
    → IsProfile c f p → IsProfile d g q → IsProfile (pairs c d) (paired f g) (pair_profile p q)
pair_profile_is c d f g p q h k u v =
    composed_profile_of_two c d (pairs c d) f g (paired f g) h k (paired_kept c d f g h k) p q (pair_profile p q) (λ x y s t.
    let a : IsKnown c f p x = record { kept = h; inhabited = u; settled = s } in
    let b : IsKnown d g q y = record { kept = k; inhabited = v; settled = t } in
    (pair_examples x y, pair_settled c d f g p q x y a b))

-- A lexical label acts as its two parts do.

-- actions that make the same of each value
pub same_actions : (f g : Action) → ((v : PureValue) → f v ≡ g v) → f ≡ g
same_actions f g h = λ i. λ v. h v i

lex_acts : (a b : Expression) (l m : PureLabel) (v : PureValue) → paired (App a l) (App b m) v ≡ App (lex a b) (pair_label l m) v
lex_acts a b l m (pair u v) = refl
lex_acts a b l m _ = refl

-- examples of both labels settle the lexical one
pub lex_settled : (a b : Expression) (l m : PureLabel) (p q : Profile) (x y : PureExamples) → IsFormed (lex a b) → IsLabel a l → IsLabel b m
    → IsSettledBy (carrier_of a) (App a l) p x → IsSettledBy (carrier_of b) (App b m) q y
    → IsSettledBy (carrier_of (lex a b)) (App (lex a b) (pair_label l m)) (pair_profile p q) (pair_examples x y)
lex_settled a b l m p q x y formed il im s t =
    let parts = formed_lex a b formed in
    let known_a : IsKnown (carrier_of a) (App a l) p x = record { kept = images_kept a l parts.0 il; inhabited = carrier_inhabited a parts.0; settled = s } in
    let known_b : IsKnown (carrier_of b) (App b m) q y = record { kept = images_kept b m parts.1 im; inhabited = carrier_inhabited b parts.1; settled = t } in
    subst (λ f. IsSettledBy (pairs (carrier_of a) (carrier_of b)) f (pair_profile p q) (pair_examples x y))
    (same_actions (paired (App a l) (App b m)) (App (lex a b) (pair_label l m)) (lex_acts a b l m))
    (pair_settled (carrier_of a) (carrier_of b) (App a l) (App b m) p q x y known_a known_b)

-- its profile is made of theirs
pub lex_profile_is : (a b : Expression) (l m : PureLabel) (p q : Profile) → IsFormed (lex a b) → IsLabel a l → IsLabel b m
    → ProfileOf a l p → ProfileOf b m q → ProfileOf (lex a b) (pair_label l m) (pair_profile p q)
lex_profile_is a b l m p q formed il im h k =
    let parts = formed_lex a b formed in
    subst (λ f. IsProfile (pairs (carrier_of a) (carrier_of b)) f (pair_profile p q))
    (same_actions (paired (App a l) (App b m)) (App (lex a b) (pair_label l m)) (lex_acts a b l m))
    (pair_profile_is (carrier_of a) (carrier_of b) (App a l) (App b m) p q (images_kept a l parts.0 il) (images_kept b m parts.1 im)
    (carrier_inhabited a parts.0) (carrier_inhabited b parts.1) h k)
