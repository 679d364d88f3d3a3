-- The facts of one action beside another, settled by those of both, and so where one of them denies.
use Rattle.std.proofs.Common.{◌≡◌, refl, subst, Bool, true, false, ◌&&◌, ◌||◌, Option, Some, None, ◌⊎◌, inl, inr}
use Rattle.alg_model.specs.Expressions.{PureCarrier, sides, PureValue, first, second}
use Rattle.alg_model.specs.Carriers.{In}
use Rattle.alg_classes.specs.declared.profile.Profile.{Profile}
use Rattle.alg_classes.specs.declared.fact.Fact.{Fact}
use Rattle.alg_classes.specs.declared.fact.Fact.TheVariants.{Total, Dead, Monotone, Strict, Isotone, Cancellative, Condensed, Narrow}
use Rattle.alg_classes.specs.Facts.{Action, Holds, PureExample, at, between, Refutes}
use Rattle.alg_classes.specs.Classes.{PureExamples, Settles, IsSettledBy}
use Rattle.alg_classes.specs.ClassLaws.{settled_profile}
use Rattle.alg_classes.specs.Constants.{denied, denied_profile, denied_examples, denied_settled}
use Rattle.union_classes.specs.Sums.{beside, beside_profile, first_profile, second_profile, on_first, on_second, of_either, across, or_else, beside_examples}
use Rattle.union_classes.specs.SideLaws.{refuted_on_first, refuted_on_second, refuted_isotone, refuted_condensed, refuted_narrow, both_total, both_dead, both_monotone, both_strict, both_cancellative, both_isotone, both_condensed, both_narrow, isotone_of_dead}

-- as Settles, of any claim and what refutes it
abbrev SettledAs : Type 0 → (PureExample → Type 0) → Bool → Option PureExample → Type 0
SettledAs P R true None = P
SettledAs P R false (Some e) = R e
SettledAs P R _ _ = ⊥

of_settles : (c : PureCarrier) (f : Action) (k : Fact) (b : Bool) (o : Option PureExample) → Settles c f k b o → SettledAs (Holds c f k) (Refutes c f k) b o
of_settles c f k true None s = s
of_settles c f k true (Some e) s = absurd s
of_settles c f k false None s = absurd s
of_settles c f k false (Some e) s = s

to_settles : (c : PureCarrier) (f : Action) (k : Fact) (b : Bool) (o : Option PureExample) → SettledAs (Holds c f k) (Refutes c f k) b o → Settles c f k b o
to_settles c f k true None s = s
to_settles c f k true (Some e) s = absurd s
to_settles c f k false None s = absurd s
to_settles c f k false (Some e) s = s

-- both, each with its own example
both_settled : (P Q W : Type 0) (R S T : PureExample → Type 0) → (P → Q → W)
    → ((e : PureExample) → R e → T (on_first e)) → ((e : PureExample) → S e → T (on_second e))
    → (a b : Bool) (o p : Option PureExample) → SettledAs P R a o → SettledAs Q S b p → SettledAs W T (a && b) (of_either o p)
both_settled P Q W R S T holds firsts seconds true true None None s t = holds s t
both_settled P Q W R S T holds firsts seconds true true None (Some e) s t = absurd t
both_settled P Q W R S T holds firsts seconds true false None None s t = absurd t
both_settled P Q W R S T holds firsts seconds true false None (Some e) s t = seconds e t
both_settled P Q W R S T holds firsts seconds true b (Some e) p s t = absurd s
both_settled P Q W R S T holds firsts seconds false b None p s t = absurd s
both_settled P Q W R S T holds firsts seconds false b (Some e) p s t = firsts e s

-- both, each with an example of the whole
and_settled : (P Q W : Type 0) (T : PureExample → Type 0) → (P → Q → W)
    → (a b : Bool) (o p : Option PureExample) → SettledAs P T a o → SettledAs Q T b p → SettledAs W T (a && b) (or_else o p)
and_settled P Q W T holds true true None None s t = holds s t
and_settled P Q W T holds true true None (Some e) s t = absurd t
and_settled P Q W T holds true false None None s t = absurd t
and_settled P Q W T holds true false None (Some e) s t = t
and_settled P Q W T holds true b (Some e) p s t = absurd s
and_settled P Q W T holds false b None p s t = absurd s
and_settled P Q W T holds false b (Some e) p s t = s

-- either, and an example across the sides where neither holds
either_settled : (P Q : Type 0) (R S T : PureExample → Type 0) → ((u v : PureValue) → ¬ R (between u v)) → ((u v : PureValue) → ¬ S (between u v))
    → ((u v : PureValue) → R (at u) → S (at v) → T (between (first u) (second v)))
    → (a b : Bool) (o p : Option PureExample) → SettledAs P R a o → SettledAs Q S b p → SettledAs (P ⊎ Q) T (a || b) (across o p)
either_settled P Q R S T one one' cross true b None p s t = inl s
either_settled P Q R S T one one' cross true b (Some e) p s t = absurd s
either_settled P Q R S T one one' cross false b None p s t = absurd s
either_settled P Q R S T one one' cross false b (Some (between u v)) p s t = absurd (one u v s)
either_settled P Q R S T one one' cross false true (Some (at u)) None s t = inr t
either_settled P Q R S T one one' cross false true (Some (at u)) (Some e) s t = absurd t
either_settled P Q R S T one one' cross false false (Some (at u)) None s t = absurd t
either_settled P Q R S T one one' cross false false (Some (at u)) (Some (at v)) s t = cross u v s t
either_settled P Q R S T one one' cross false false (Some (at u)) (Some (between v w)) s t = absurd (one' v w t)

-- a fact that holds if both have it
plain : (c d : PureCarrier) (f g : Action) (k : Fact) → (Holds c f k → Holds d g k → Holds (sides c d) (beside f g) k)
    → (a b : Bool) (o p : Option PureExample) → Settles c f k a o → Settles d g k b p → Settles (sides c d) (beside f g) k (a && b) (of_either o p)
plain c d f g k holds a b o p s t = to_settles (sides c d) (beside f g) k (a && b) (of_either o p)
    (both_settled (Holds c f k) (Holds d g k) (Holds (sides c d) (beside f g) k) (Refutes c f k) (Refutes d g k) (Refutes (sides c d) (beside f g) k)
    holds (refuted_on_first c d f g k) (refuted_on_second c d f g k) a b o p (of_settles c f k a o s) (of_settles d g k b p t))

-- a fact that holds if both have it, and the first has one other or the second has one
guarded : (c d : PureCarrier) (f g : Action) (k i j : Fact)
    → (Holds c f k → Holds d g k → Holds c f i ⊎ Holds d g j → Holds (sides c d) (beside f g) k)
    → ((u v : PureValue) → ¬ Refutes c f i (between u v)) → ((u v : PureValue) → ¬ Refutes d g j (between u v))
    → ((u v : PureValue) → Refutes c f i (at u) → Refutes d g j (at v) → Refutes (sides c d) (beside f g) k (between (first u) (second v)))
    → (a b x y : Bool) (o p q r : Option PureExample) → Settles c f k a o → Settles d g k b p → Settles c f i x q → Settles d g j y r
    → Settles (sides c d) (beside f g) k ((a && b) && (x || y)) (or_else (of_either o p) (across q r))
guarded c d f g k i j holds one one' cross a b x y o p q r s t s' t' =
    let both : SettledAs (Holds c f k × Holds d g k) (Refutes (sides c d) (beside f g) k) (a && b) (of_either o p) =
    both_settled (Holds c f k) (Holds d g k) (Holds c f k × Holds d g k) (Refutes c f k) (Refutes d g k) (Refutes (sides c d) (beside f g) k)
    (λ m n. (m, n)) (refuted_on_first c d f g k) (refuted_on_second c d f g k) a b o p (of_settles c f k a o s) (of_settles d g k b p t) in
    let either : SettledAs (Holds c f i ⊎ Holds d g j) (Refutes (sides c d) (beside f g) k) (x || y) (across q r) =
    either_settled (Holds c f i) (Holds d g j) (Refutes c f i) (Refutes d g j) (Refutes (sides c d) (beside f g) k)
    one one' cross x y q r (of_settles c f i x q s') (of_settles d g j y r t') in
    to_settles (sides c d) (beside f g) k ((a && b) && (x || y)) (or_else (of_either o p) (across q r))
    (and_settled (Holds c f k × Holds d g k) (Holds c f i ⊎ Holds d g j) (Holds (sides c d) (beside f g) k) (Refutes (sides c d) (beside f g) k)
    (λ h e. holds h.0 h.1 e) (a && b) (x || y) (of_either o p) (across q r) both either)

-- the facts of one action beside another are settled by those of both
pub beside_settled : (c d : PureCarrier) (f g : Action) (p q : Profile) (x y : PureExamples) → IsSettledBy c f p x → IsSettledBy d g q y
    → IsSettledBy (sides c d) (beside f g) (beside_profile p q) (beside_examples x y)
beside_settled c d f g p q x y s t Total = plain c d f g Total (both_total c d f g) p.total q.total (x Total) (y Total) (s Total) (t Total)
beside_settled c d f g p q x y s t Dead = plain c d f g Dead (both_dead c d f g) p.dead q.dead (x Dead) (y Dead) (s Dead) (t Dead)
beside_settled c d f g p q x y s t Monotone = plain c d f g Monotone (both_monotone c d f g) p.mono q.mono (x Monotone) (y Monotone) (s Monotone) (t Monotone)
beside_settled c d f g p q x y s t Strict = plain c d f g Strict (both_strict c d f g) p.strict q.strict (x Strict) (y Strict) (s Strict) (t Strict)
beside_settled c d f g p q x y s t Isotone = guarded c d f g Isotone Total Dead (both_isotone c d f g) (λ u v r. r.1) (λ u v r. r.1) (refuted_isotone c d f g)
    p.iso q.iso p.total q.dead (x Isotone) (y Isotone) (x Total) (y Dead) (s Isotone) (t Isotone) (s Total) (t Dead)
beside_settled c d f g p q x y s t Cancellative = plain c d f g Cancellative (both_cancellative c d f g) p.canc q.canc (x Cancellative) (y Cancellative) (s Cancellative) (t Cancellative)
beside_settled c d f g p q x y s t Condensed = guarded c d f g Condensed Dead Dead (both_condensed c d f g) (λ u v r. r.1) (λ u v r. r.1) (refuted_condensed c d f g)
    p.cond q.cond p.dead q.dead (x Condensed) (y Condensed) (x Dead) (y Dead) (s Condensed) (t Condensed) (s Dead) (t Dead)
beside_settled c d f g p q x y s t Narrow = guarded c d f g Narrow Dead Dead (both_narrow c d f g) (λ u v r. r.1) (λ u v r. r.1) (refuted_narrow c d f g)
    p.narrow q.narrow p.dead q.dead (x Narrow) (y Narrow) (x Dead) (y Dead) (s Narrow) (t Narrow) (s Dead) (t Dead)

-- the profiles where one of both denies
abbrev made : Bool → Bool → Bool → Bool → Bool → Bool → Bool → Bool → Profile
made b1 b2 b3 b4 b5 b6 b7 b8 = record {
  total = b1;
  dead = b2;
  mono = b3;
  strict = b4;
  iso = b5;
  canc = b6;
  cond = b7;
  narrow = b8;
}

same_made : (a1 a2 a3 a4 a5 a6 a7 a8 b1 b2 b3 b4 b5 b6 b7 b8 : Bool) → a1 ≡ b1 → a2 ≡ b2 → a3 ≡ b3 → a4 ≡ b4 → a5 ≡ b5 → a6 ≡ b6 → a7 ≡ b7 → a8 ≡ b8
    → made a1 a2 a3 a4 a5 a6 a7 a8 ≡ made b1 b2 b3 b4 b5 b6 b7 b8
same_made a1 a2 a3 a4 a5 a6 a7 a8 b1 b2 b3 b4 b5 b6 b7 b8 e1 e2 e3 e4 e5 e6 e7 e8 = rw (e1, e2, e3, e4, e5, e6, e7, e8) refl

with_false : (a : Bool) → (a && false) ≡ false
with_false true = refl
with_false false = refl

with_true : (a : Bool) → (a && true) ≡ a
with_true true = refl
with_true false = refl

with_either : (a b : Bool) → ((a && true) && (b || true)) ≡ a
with_either true true = refl
with_either true false = refl
with_either false b = refl

implied : (a b : Bool) → (b ≡ true → a ≡ true) → (a && b) ≡ b
implied true b h = refl
implied false true h = absurd (let e = h refl in cc)
implied false false h = refl

pub first_denied_beside : (p : Profile) → beside_profile p denied_profile ≡ first_profile p
first_denied_beside p = same_made
    (p.total && false) (p.dead && true) (p.mono && true) (p.strict && true) ((p.iso && true) && (p.total || true)) (p.canc && true)
    ((p.cond && true) && (p.dead || true)) ((p.narrow && true) && (p.dead || true))
    false p.dead p.mono p.strict p.iso p.canc p.cond p.narrow
    (with_false p.total) (with_true p.dead) (with_true p.mono) (with_true p.strict) (with_either p.iso p.total) (with_true p.canc)
    (with_either p.cond p.dead) (with_either p.narrow p.dead)

pub second_denied_beside : (q : Profile) → (q.dead ≡ true → q.iso ≡ true) → beside_profile denied_profile q ≡ second_profile q
second_denied_beside q h = same_made
    false q.dead q.mono q.strict (q.iso && q.dead) q.canc (q.cond && true) (q.narrow && true)
    false q.dead q.mono q.strict q.dead q.canc q.cond q.narrow
    refl refl refl refl (implied q.iso q.dead h) refl (with_true q.cond) (with_true q.narrow)

-- an action beside one that denies, and one beside it
pub first_settled : (c d : PureCarrier) (f : Action) (p : Profile) (x : PureExamples) (v : PureValue) → In d v → IsSettledBy c f p x
    → IsSettledBy (sides c d) (beside f denied) (first_profile p) (beside_examples x (denied_examples v))
first_settled c d f p x v i s = subst (λ r. IsSettledBy (sides c d) (beside f denied) r (beside_examples x (denied_examples v)))
    (first_denied_beside p) (beside_settled c d f denied p denied_profile x (denied_examples v) s (denied_settled d v i))

pub second_settled : (c d : PureCarrier) (g : Action) (q : Profile) (y : PureExamples) (u : PureValue) → In c u → IsSettledBy d g q y
    → IsSettledBy (sides c d) (beside denied g) (second_profile q) (beside_examples (denied_examples u) y)
second_settled c d g q y u i t =
    let is = settled_profile d g q y t in
    subst (λ r. IsSettledBy (sides c d) (beside denied g) r (beside_examples (denied_examples u) y))
    (second_denied_beside q (λ e. (is Isotone).1 (isotone_of_dead d g ((is Dead).0 e))))
    (beside_settled c d denied g denied_profile q (denied_examples u) y (denied_settled c u i) t)
