-- The values that can occur are there once. Lemmas, so that proofs of other crates may cite them.
use Rattle.std.proofs.Common.{◌≡◌, ℕ, zero, suc, List, [], ◌∷◌, ◌++◌, inl, inr, Bool, true, false, ◌||◌, cond, refl, sym, ◌∙◌}
use Rattle.std.specs.List.{AllByRecursion, list_any}
use Rattle.std.proofs.lemmas.Bool.{false_from_ne_true}
use Rattle.alg_model.specs.Expressions.{PureValue}
use Rattle.alg_model.specs.Tests.{same_value, same_value-Decides}
use Rattle.net_graph.specs.Nets.{PureNet, AreDistinct}
use Rattle.path_vector.specs.Items.{IsItem}
use Rattle.vector_rest.specs.Reached.{once, all_images, reached}
use Rattle.vector_rest.specs.ReachedLaws.{from_once}

-- a value that isn't among others is none of them
none_same : (v : PureValue) (vs : List PureValue) → list_any (λ u. same_value u v) vs ≡ false → (y : PureValue) → IsItem y vs → same_value v y ≡ true → list_any (λ u. same_value u v) vs ≡ true
none_same v [] e y i f = absurd i
none_same v (u ∷ vs) e y (inl same) f =
    let one : v ≡ y = (same_value-Decides v y).0 f in
    let test : same_value u v ≡ true = (same_value-Decides u v).1 (same ∙ sym one) in
    rw test refl
none_same v (u ∷ vs) e y (inr more) f = by (same_value u v) e (λ g. none_same v vs g y more f)
  where
    by : (b : Bool) → (b || list_any (λ u. same_value u v) vs) ≡ false → (list_any (λ u. same_value u v) vs ≡ false → list_any (λ u. same_value u v) vs ≡ true) → (b || list_any (λ u. same_value u v) vs) ≡ true
    by true g rest = refl
    by false g rest = rest g

all_apart : (v : PureValue) (ys : List PureValue) → ((y : PureValue) → IsItem y ys → same_value v y ≡ false) → AllByRecursion (λ y. same_value v y ≡ false) ys
all_apart v [] h = tt
all_apart v (y ∷ ys) h = (h y (inl refl), all_apart v ys (λ z i. h z (inr i)))

once_apart : (vs : List PureValue) → AreDistinct same_value (once vs)
once_apart [] = tt
once_apart (v ∷ vs) = by (list_any (λ u. same_value u v) vs) refl (once_apart vs)
  where
    by : (b : Bool) → list_any (λ u. same_value u v) vs ≡ b → AreDistinct same_value (once vs) → AreDistinct same_value (cond b (once vs) (v ∷ once vs))
    by true e rest = rest
    by false e rest = (all_apart v (once vs) (λ y i. false_from_ne_true (same_value v y) (λ f. let there = none_same v vs e y (from_once vs y i) f in absurd (cc))), rest)

pub reached_apart : (net : PureNet) (vs : List PureValue) (k : ℕ) → AreDistinct same_value (reached net vs k)
reached_apart net vs zero = once_apart vs
reached_apart net vs (suc k) = once_apart (all_images net (reached net vs k) ++ reached net vs k)
