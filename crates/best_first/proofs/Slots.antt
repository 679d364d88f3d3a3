-- How two nodes' best routes compare, each of which stands at its node.
use Rattle.std.proofs.Common.{◌≡◌, ℕ, ◌<◌, List, Option, Some, None, IfSome, Bool, true, false, ◌==◌, if◌then◌else◌, length, refl, sym, ◌∙◌, arith}
use Rattle.std.proofs.Math.ListN.{set}
use Rattle.std.specs.Ordering.{ordering_then, nat_cmp}
use Rattle.std.specs.declared.cmp.Ordering.{Ordering}
use Rattle.std.specs.declared.cmp.Ordering.TheVariants.{Less, Equal, Greater}
use Rattle.std.proofs.lemmas.Bool.Decides.{nat_tests}
use Rattle.alg_model.specs.Expressions.{PureCarrier, PureValue}
use Rattle.alg_model.specs.Carriers.{Order}
use Rattle.net_graph.specs.Routes.{is_less}
use Rattle.best_first.specs.declared.route.OpenRoute.{OpenRoute}
use Rattle.best_first.specs.Found.{found-map, found_at}
use Rattle.best_first.specs.Keys.{key_of, best_of, precedes}
use Rattle.best_first.specs.Queue.{AreAtTheirNodes}
use Rattle.best_first.proofs.Places.{found-set}

-- what is after two nodes plays no part where they differ, and is the same where they don't
tails : (k m x y : ℕ) → (k ≡ m → x ≡ y) → ordering_then (nat_cmp k m) (nat_cmp x y) ≡ nat_cmp k m
tails k m x y same = by (nat_cmp k m) refl
  where
    by : (o : Ordering) → nat_cmp k m ≡ o → ordering_then o (nat_cmp x y) ≡ o
    by Less e = refl
    by Greater e = refl
    by Equal e =
        let h : k ≡ m = grind (arith, nat_tests) in
        let s : x ≡ y = same h in
        grind (arith, nat_tests)

module _ {S : Type 0} (value : S → PureValue) (c : PureCarrier) (best : List (Option (OpenRoute S))) where
  pub slot_order : AreAtTheirNodes best → (k m : ℕ) (a b : OpenRoute S) → found_at best k ≡ Some a → found_at best m ≡ Some b
      → is_less (ordering_then (Order c (value a.sig) (value b.sig)) (ordering_then (nat_cmp a.place.size b.place.size) (nat_cmp k m))) ≡ precedes c (best_of value best) k m
  slot_order places k m a b e f =
      let at_k : a.place.node.0 ≡ k = rw e at (places k) in
      let at_m : b.place.node.0 ≡ m = rw f at (places m) in
      let same : a.place.node.0 ≡ b.place.node.0 → a.place.next.0 ≡ b.place.next.0 = λ h. next_same (sym at_k ∙ (h ∙ at_m)) in
      rw (found-map (key_of value) best k, found-map (key_of value) best m, e, f, tails a.place.node.0 b.place.node.0 a.place.next.0 b.place.next.0 same, at_k, at_m) refl
    where
      next_same : k ≡ m → a.place.next.0 ≡ b.place.next.0
      next_same h =
          let there : found_at best k ≡ Some b = rw h f in
          let one : Some a ≡ Some b = sym e ∙ there in
          cc

  -- one that has no route comes before none, and one that has a route before each that has none
  pub none_first : (k m : ℕ) → found_at best k ≡ None → false ≡ precedes c (best_of value best) k m
  none_first k m e = rw (found-map (key_of value) best k, e) refl

  pub none_last : (k m : ℕ) (a : OpenRoute S) → found_at best k ≡ Some a → found_at best m ≡ None → true ≡ precedes c (best_of value best) k m
  none_last k m a e f = rw (found-map (key_of value) best k, found-map (key_of value) best m, e, f) refl

-- with one written that is of its node
pub places-set : {S : Type 0} (best : List (Option (OpenRoute S))) (i : ℕ) (x : Option (OpenRoute S)) → i < length best → AreAtTheirNodes best → IfSome x (λ o. o.place.node.0 ≡ i) → AreAtTheirNodes (set best i x)
places-set best i x l h s k = rw (found-set best i k x l) (by (k == i) refl)
  where
    by : (b : Bool) → (k == i) ≡ b → IfSome (if b then x else found_at best k) (λ o. o.place.node.0 ≡ k)
    by true e = let same : k ≡ i = grind (arith, nat_tests) in rw same s
    by false e = h k
