-- When routes are walks, and when rows make a relaxed table.
use Rattle.std.proofs.Common.{◌≡◌, ℕ, ◌<◌, List, [], ◌∷◌, Option, Some, None, IfSome, Bool, true, false, ◌==◌, length, refl, sym, ◌∙◌, inl, inr, arith}
use Rattle.std.specs.Bool.{Decides}
use Rattle.std.proofs.lemmas.Bool.{cases_lt}
use Rattle.std.proofs.lemmas.Bool.Decides.{nat_tests}
use Rattle.alg_model.specs.Expressions.{PureValue}
use Rattle.net_graph.specs.Nets.{PureNet, IsNet}
use Rattle.net_graph.specs.Routes.{PureRoute}
use Rattle.net_graph.specs.RowTexts.{AreNodesOf}
use Rattle.net_graph.specs.Tables.{PureRow, TableOf, Relaxed, HasWalks, route_at}
use Rattle.net_graph.specs.Walks.{Walk, Weight}
use Rattle.net_graph.specs.RouteLaws.{no_route_past}
use Rattle.stable_check.specs.Checks.{begins_with, IsWalkOf, IsRelaxedAt}
use Rattle.stable_check.specs.WalkWeights.{weighs_walk, walk_nodes}

pub begins : (p : List ℕ) (i : ℕ) → begins_with p i ≡ true → (q : List ℕ) × (p ≡ i ∷ q)
begins [] i e = absurd (cc)
begins (j ∷ p) i e =
    let same : j ≡ i = grind (arith, nat_tests) in
    (p, rw same refl)

pub begun : (p q : List ℕ) (i : ℕ) → p ≡ i ∷ q → begins_with p i ≡ true
begun p q i e =
    let same : (i == i) ≡ true = grind (arith, nat_tests) in
    rw (e, same) refl

-- a row whose route isn't a walk
no_walk : (net : PureNet) (dest i : ℕ) (o : Option PureRoute) (r : PureRoute) → o ≡ Some r → ¬ IsWalkOf net dest i r → Decides false (IfSome o (IsWalkOf net dest i))
no_walk net dest i o r e f = (λ h. absurd (cc), λ h. absurd (f (rw e at h)))

pub not_begun : (net : PureNet) (dest i : ℕ) (o : Option PureRoute) (r : PureRoute) → o ≡ Some r → begins_with r.path i ≡ false → Decides false (IfSome o (IsWalkOf net dest i))
not_begun net dest i o r e f = no_walk net dest i o r e (λ h. let g = begun r.path h.begins.0 i h.begins.1 in absurd (cc))

pub not_nodes : (net : PureNet) → IsNet net → (dest i : ℕ) (o : Option PureRoute) (r : PureRoute) → o ≡ Some r → ¬ AreNodesOf net r.path → Decides false (IfSome o (IsWalkOf net dest i))
not_nodes net n dest i o r e f = no_walk net dest i o r e (λ h. f (walk_nodes net n dest r.path h.walk))

-- one that begins with its node is one where it weighs its value
pub walk_by_weight : (net : PureNet) → IsNet net → (dest i : ℕ) (o : Option PureRoute) (r : PureRoute) (b : Bool) (x : Option PureValue) → o ≡ Some r → begins_with r.path i ≡ true → x ≡ Weight net dest r.path → Decides b (x ≡ Some r.value)
    → Decides b (IfSome o (IsWalkOf net dest i))
walk_by_weight net n dest i o r b x e f g d = rw e (
  λ h. let w : Weight net dest r.path ≡ Some r.value = sym g ∙ d.0 h in record { walk = weighs_walk net n dest r.path r.value w; weight = w; begins = begins r.path i f },
  λ h. d.1 (g ∙ h.weight),
)

pub some_node : (p : List ℕ) (i : ℕ) → begins_with p i ≡ true → 0 < length p
some_node [] i e = absurd (cc)
some_node (j ∷ p) i e = omega arith

-- a table is relaxed where it is at each node
pub all_relaxed : (net : PureNet) (dest n : ℕ) (rows : List PureRow) → TableOf net dest rows → length net.nodes ≡ n → ((k : ℕ) → k < n → IsRelaxedAt net dest rows k) → Relaxed net dest rows
all_relaxed net dest n rows t e h = record {
  table_of = t;
  walks = walks;
  origins = λ i within. (h i (rw e at within)).origin;
  arcs = λ i j within better. (h i (rw e at within)).arcs (j, better);
}
  where
    walk_of : (i : ℕ) (o : Option PureRoute) (r : PureRoute) → o ≡ Some r → IfSome o (IsWalkOf net dest i) → IsWalkOf net dest i r
    walk_of i o r e w = rw e at w

    walks : HasWalks net dest rows
    walks i r reported = elim (cases_lt i (length net.nodes)) [
      | inl within ↦ let w = walk_of i (route_at rows i) r reported (h i (rw e at within)).walk in (w.walk, w.weight, w.begins)
      | inr past ↦ absurd (let n = no_route_past net dest rows t i past in cc)
    ]

pub relaxed_at : (net : PureNet) (dest : ℕ) (rows : List PureRow) → Relaxed net dest rows → (i : ℕ) → i < length net.nodes → IsRelaxedAt net dest rows i
relaxed_at net dest rows h i within = record {
  walk = by (route_at rows i) (λ r e. h.walks i r e);
  origin = h.origins i within;
  arcs = λ a. h.arcs i a.0 within a.1;
}
  where
    by : (o : Option PureRoute) → ((r : PureRoute) → o ≡ Some r → Walk net dest r.path × (Weight net dest r.path ≡ Some r.value) × ((p : List ℕ) × (r.path ≡ i ∷ p))) → IfSome o (IsWalkOf net dest i)
    by None f = tt
    by (Some r) f = let w = f r refl in record { walk = w.0; weight = w.1; begins = w.2 }
