-- Where the pair's label makes its value better, both tables of the pair are stable, and they differ. Lemmas, so that
-- proofs of other crates may cite them.
use Rattle.std.proofs.Common.{◌≡◌, ◌≢◌, ℕ, zero, suc, ◌+◌, ◌<◌, ◌≤◌, ◌⊎◌, inl, inr, List, [], ◌∷◌, Option, Some, None, true, false, ◌==◌, length, option_and_then, refl, sym, ap, ◌∙◌, arith}
use Rattle.std.specs.Ordering.{ordering_then, ordering_reverse}
use Rattle.std.specs.declared.cmp.Ordering.{Ordering}
use Rattle.std.specs.declared.cmp.Ordering.TheVariants.{Less}
use Rattle.std.proofs.lemmas.Bool.{or_left, or_right, eq-eqb, false≢true}
use Rattle.std.proofs.lemmas.Bool.Decides.{nat_tests}
use Rattle.meta_base.specs.NodePaths.{compare_paths}
use Rattle.alg_model.specs.Expressions.{PureAlg, PureLabel, PureValue}
use Rattle.alg_model.specs.Carriers.{carrier_of, In, Order}
use Rattle.alg_model.specs.Application.{App}
use Rattle.alg_model.specs.Bounds.{greatest_number}
use Rattle.alg_model.specs.Formation.{IsAlg}
use Rattle.alg_model.specs.Laws.{images_in, images_at_most, at_most_more, greatest_is_bounded}
use Rattle.net_graph.specs.Limits.{max_row_number}
use Rattle.net_graph.specs.Nets.{PureNet, label_between, origin_value}
use Rattle.net_graph.specs.Routes.{PureRoute, Better}
use Rattle.net_graph.specs.Tables.{PureRow, AreRowsFrom, IsRouteOf, Reported, route_at, carrier, is_among, IsOfferBy, Offers, IsChoice, Stable}
use Rattle.net_graph.specs.RouteLaws.{same_route}
use Rattle.settled_laws.specs.BetterLaws.{itself_no_better}
use Rattle.settled_laws.specs.OrderTurns.{order_turns}
use Rattle.settled_laws.specs.Pair.{pair_net, table_by_q, table_by_p, Fits, Improves}

abbrev route : PureValue → List ℕ → PureRoute
route v p = record { value = v; path = p }

-- a node of the pair: it has the value for x, and one arc, which goes to the other node
record IsEnd (net : PureNet) (i j : ℕ) (l : PureLabel) (v : PureValue) : Type 0 where
  pub own : origin_value net 0 i ≡ Some v
  pub arc : label_between net i j ≡ Some l
  pub only : (k : ℕ) (m : PureLabel) → label_between net i k ≡ Some m → k ≡ j

-- the offers to it: its own value, and what the arc makes of the other's route where that doesn't pass it
offered : (net : PureNet) (reported : Reported) (i j : ℕ) (l : PureLabel) (v : PureValue) (r : PureRoute) → IsEnd net i j l v → Offers net 0 reported i r
    → (r ≡ route v (i ∷ [])) ⊎ ((next : PureRoute) × (reported j ≡ Some next) × (App net.alg.expression l next.value ≡ Some r.value) × (is_among next.path i ≡ false) × (r.path ≡ i ∷ next.path))
offered net reported i j l v r e (inl own) =
    let value : r.value ≡ v = let a = e.own in let b = own.0 in cc in
    inl (same_route r (route v (i ∷ [])) value own.1)
offered net reported i j l v r e (inr (k, o)) = by (label_between net i k) refl o.weighs
  where
    by : (m : Option PureLabel) → label_between net i k ≡ m → option_and_then (λ (n : PureLabel). option_and_then (App net.alg.expression n) (Some o.next.value)) m ≡ Some r.value
        → (r ≡ route v (i ∷ [])) ⊎ ((next : PureRoute) × (reported j ≡ Some next) × (App net.alg.expression l next.value ≡ Some r.value) × (is_among next.path i ≡ false) × (r.path ≡ i ∷ next.path))
    by None f g = absurd (cc)
    by (Some m) f g =
        let same : k ≡ j = e.only k m f in
        let label : m ≡ l = let a = e.arc in cc in
        inr (o.next, rw same at o.is_reported, rw label at g, o.loopless, o.path)

-- where the other routes by it, it has its own value alone
keeps_own : (net : PureNet) (reported : Reported) (i j : ℕ) (l : PureLabel) (v w : PureValue) → IsEnd net i j l v → In (carrier net) v → reported j ≡ Some (route w (j ∷ i ∷ []))
    → IsChoice net 0 reported i (Some (route v (i ∷ [])))
keeps_own net reported i j l v w e v_in t = (inl (e.own, refl), best)
  where
    passes : is_among (j ∷ i ∷ []) i ≡ true
    passes = or_right (j == i) (is_among (i ∷ []) i) (or_left (i == i) false (eq-eqb i i refl))

    best : (s : PureRoute) → Offers net 0 reported i s → ¬ Better (carrier net) s (route v (i ∷ []))
    best s o = elim (offered net reported i j l v s e o) [
      | inl same ↦ rw same (itself_no_better (carrier net) (route v (i ∷ [])) v_in)
      | inr (next, is_reported, weighs, loopless, path) ↦ absurd (
          let same : next.path ≡ j ∷ i ∷ [] = cc in
          false≢true (sym (rw same at loopless) ∙ passes)
          )
    ]

-- where the other has its own value, it routes by the other if that is preferred
takes_other : (net : PureNet) (reported : Reported) (i j : ℕ) (l : PureLabel) (v w : PureValue) → IsEnd net i j l v → In (carrier net) w → (j == i) ≡ false
    → App net.alg.expression l v ≡ Some w → Order (carrier net) w v ≡ Less → reported j ≡ Some (route v (j ∷ [])) → IsChoice net 0 reported i (Some (route w (i ∷ j ∷ [])))
takes_other net reported i j l v w e w_in apart image preferred t = (inr (j, offer), best)
  where
    offer : IsOfferBy net reported i j (route w (i ∷ j ∷ []))
    offer = record { next = route v (j ∷ []); is_reported = t; weighs = rw (e.arc) image; loopless = rw apart refl; path = refl }

    worse : (a b p : Ordering) → b ≡ ordering_reverse a → a ≡ Less → ordering_then b p ≢ Less
    worse a b p f g = grind arith

    best : (s : PureRoute) → Offers net 0 reported i s → ¬ Better (carrier net) s (route w (i ∷ j ∷ []))
    best s o = elim (offered net reported i j l v s e o) [
      | inl same ↦ rw same (worse (Order (carrier net) w v) (Order (carrier net) v w) (compare_paths (i ∷ []) (i ∷ j ∷ [])) (order_turns (carrier net) w v) preferred)
      | inr (next, is_reported, weighs, loopless, path) ↦
          let other : next ≡ route v (j ∷ []) = cc in
          let value : s.value ≡ w = cc in
          let way : s.path ≡ i ∷ j ∷ [] = cc in
          let same = same_route s (route w (i ∷ j ∷ [])) value way in
          rw same (itself_no_better (carrier net) (route w (i ∷ j ∷ [])) w_in)
    ]

p_is_end : (alg : PureAlg) (l : PureLabel) (v : PureValue) → IsEnd (pair_net alg l v) 0 1 l v
p_is_end alg l v = record { own = refl; arc = refl; only = only }
  where
    only : (k : ℕ) (m : PureLabel) → label_between (pair_net alg l v) 0 k ≡ Some m → k ≡ 1
    only zero m e = absurd (let none : None ≡ Some m = e in cc)
    only (suc zero) m e = refl
    only (suc (suc k)) m e = absurd (
        let other : (1 == suc (suc k)) ≡ false = grind (arith, nat_tests) in
        let none : None ≡ Some m = rw other at e in cc)

q_is_end : (alg : PureAlg) (l : PureLabel) (v : PureValue) → IsEnd (pair_net alg l v) 1 0 l v
q_is_end alg l v = record { own = refl; arc = refl; only = only }
  where
    only : (k : ℕ) (m : PureLabel) → label_between (pair_net alg l v) 1 k ≡ Some m → k ≡ 0
    only zero m e = refl
    only (suc k) m e = absurd (
        let other : (0 == suc k) ≡ false = grind (arith, nat_tests) in
        let none : None ≡ Some m = rw other at e in cc)

-- both values may stand in a row
own_route : (alg : PureAlg) (l : PureLabel) (v : PureValue) (p : List ℕ) → Fits alg l v → length p ≤ 2 → IsRouteOf (pair_net alg l v) (route v p)
own_route alg l v p f short =
    let bound = greatest_is_bounded alg.edition in
    record { value_in = f.value_in; bound = at_most_more (greatest_number alg.edition) max_row_number v (omega arith) f.value_bound; path = omega arith }

image_in : (alg : PureAlg) (l : PureLabel) (v w : PureValue) → IsAlg alg → Fits alg l v → App alg.expression l v ≡ Some w → In (carrier_of alg.expression) w
image_in alg l v w a f e = images_in alg.expression l v w a.formed f.label_in f.value_in e

other_route : (alg : PureAlg) (l : PureLabel) (v w : PureValue) (p : List ℕ) → IsAlg alg → Fits alg l v → App alg.expression l v ≡ Some w → length p ≤ 2 → IsRouteOf (pair_net alg l v) (route w p)
other_route alg l v w p a f e short =
    let n = greatest_number alg.edition in
    let bound = greatest_is_bounded alg.edition in
    record {
      value_in = image_in alg l v w a f e;
      bound = at_most_more (n + n) max_row_number w (omega arith) (images_at_most alg.expression l v w n n f.label_in f.label_bound f.value_bound e);
      path = omega arith;
    }

pub by_q_is_stable : (alg : PureAlg) (l : PureLabel) (v w : PureValue) → IsAlg alg → Fits alg l v → Improves alg l v w → Stable (pair_net alg l v) 0 (table_by_q v w)
by_q_is_stable alg l v w a f g = record { table_of = record { rows = rows; count = refl }; choices = choices }
  where
    rows : AreRowsFrom (pair_net alg l v) 0 0 (table_by_q v w)
    rows = (refl, refl, other_route alg l v w (0 ∷ 1 ∷ []) a f g.image (omega arith), (refl, refl, own_route alg l v (1 ∷ []) f (omega arith), tt))

    choices : (i : ℕ) → i < 2 → IsChoice (pair_net alg l v) 0 (route_at (table_by_q v w)) i (route_at (table_by_q v w) i)
    choices zero h = takes_other (pair_net alg l v) (route_at (table_by_q v w)) 0 1 l v w (p_is_end alg l v) (image_in alg l v w a f g.image) refl g.image g.preferred refl
    choices (suc zero) h = keeps_own (pair_net alg l v) (route_at (table_by_q v w)) 1 0 l v w (q_is_end alg l v) f.value_in refl
    choices (suc (suc i)) h = absurd (omega arith)

pub by_p_is_stable : (alg : PureAlg) (l : PureLabel) (v w : PureValue) → IsAlg alg → Fits alg l v → Improves alg l v w → Stable (pair_net alg l v) 0 (table_by_p v w)
by_p_is_stable alg l v w a f g = record { table_of = record { rows = rows; count = refl }; choices = choices }
  where
    rows : AreRowsFrom (pair_net alg l v) 0 0 (table_by_p v w)
    rows = (refl, refl, own_route alg l v (0 ∷ []) f (omega arith), (refl, refl, other_route alg l v w (1 ∷ 0 ∷ []) a f g.image (omega arith), tt))

    choices : (i : ℕ) → i < 2 → IsChoice (pair_net alg l v) 0 (route_at (table_by_p v w)) i (route_at (table_by_p v w) i)
    choices zero h = keeps_own (pair_net alg l v) (route_at (table_by_p v w)) 0 1 l v w (p_is_end alg l v) f.value_in refl
    choices (suc zero) h = takes_other (pair_net alg l v) (route_at (table_by_p v w)) 1 0 l v w (q_is_end alg l v) (image_in alg l v w a f g.image) refl g.image g.preferred refl
    choices (suc (suc i)) h = absurd (omega arith)

-- p's paths are not as long
abbrev steps : Option PureRoute → ℕ
steps None = 0
steps (Some r) = length r.path

two_is_not_one : (n : ℕ) → n ≡ 2 → n ≢ 1
two_is_not_one n e f = absurd (omega arith)

pub tables_differ : (v w : PureValue) → table_by_q v w ≢ table_by_p v w
tables_differ v w e = two_is_not_one (steps (route_at (table_by_q v w) 0)) refl (ap (λ (t : List PureRow). steps (route_at t 0)) e)
