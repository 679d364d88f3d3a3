-- What holds of ranks and levels among values of the carrier. Lemmas, so that proofs of other crates may cite them.
use Rattle.std.proofs.Common.{◌≡◌, ◌≢◌, ℕ, ◌<◌, ◌≤◌, List, ◌∷◌, true, false, Some, None, length, subst, refl, ap, arith}
use Rattle.std.specs.Ordering.{nat_cmp, ordering_then, ordering_reverse}
use Rattle.std.specs.declared.cmp.Ordering.{Ordering}
use Rattle.std.specs.declared.cmp.Ordering.TheVariants.{Less, Equal, Greater}
use Rattle.std.proofs.lemmas.Bool.Decides.{nat_tests}
use Rattle.meta_base.specs.NodePaths.{compare_nodes, compare_paths}
use Rattle.alg_model.specs.Expressions.{PureCarrier, PureValue}
use Rattle.alg_model.specs.Carriers.{In, Order}
use Rattle.alg_model.specs.Laws.{total_preorder}
use Rattle.alg_model.specs.Properties.{monotone}
use Rattle.net_graph.specs.Nets.{PureNet}
use Rattle.net_graph.specs.Routes.{PureRoute, Better, is_less}
use Rattle.net_graph.specs.Tables.{Reported, NetHas, carrier, IsOfferBy}
use Rattle.net_graph.specs.Unbeaten.{IsUnbeatenBy, unbeaten_trans}
use Rattle.net_graph.specs.ArcLaws.{along_monotone}
use Rattle.path_vector.specs.Items.{IsItem, unfiltered}
use Rattle.vector_rest.specs.Levels.{rank, level, Occurs, AreLevels}
use Rattle.vector_rest.specs.Counts.{count_more, count_less, times_more, times_less}

less_is : (o : Ordering) → is_less o ≡ true → o ≡ Less
less_is o e = grind arith

not_less : (o : Ordering) → o ≢ Less → is_less o ≡ false
not_less o f = grind arith

turned : (o p : Ordering) → (o ≢ Less → p ≢ Less) → p ≡ Less → o ≡ Less
turned o p f e = grind arith

-- the values are of the carrier
module _ (c : PureCarrier) (values : List PureValue) (are_in : (v : PureValue) → IsItem v values → In c v) where
  -- what is preferred to a value is preferred to what doesn't beat the value
  passes_too : (u v w : PureValue) → In c u → In c v → In c w → Order c v u ≢ Less → is_less (Order c w u) ≡ true → is_less (Order c w v) ≡ true
  passes_too u v w i j k f e =
      let less : Order c w v ≡ Less = turned (Order c w v) (Order c w u) (λ g. unbeaten_trans c (Some u) (Some v) (Some w) i j k f g) (less_is (Order c w u) e) in
      rw less refl

  -- what doesn't beat a value has no lower rank
  pub rank_more : (u v : PureValue) → In c u → In c v → Order c v u ≢ Less → rank c values u ≤ rank c values v
  rank_more u v i j f = count_more (λ w. is_less (Order c w u)) (λ w. is_less (Order c w v)) values (λ w k. passes_too u v w i j (are_in w k) f)

  itself : (v : PureValue) → In c v → Order c v v ≢ Less
  itself v i = by (Order c v v) ((total_preorder c).flip v v i i)
    where
      by : (o : Ordering) → o ≡ ordering_reverse o → o ≢ Less
      by o e = grind arith

  beaten : (u v : PureValue) → In c u → In c v → Order c u v ≡ Less → Order c v u ≢ Less
  beaten u v i j = by (Order c u v) (Order c v u) ((total_preorder c).flip u v i j)
    where
      by : (o p : Ordering) → p ≡ ordering_reverse o → o ≡ Less → p ≢ Less
      by o p e f = grind arith

  -- a value that is preferred to another has a lower one
  pub rank_less : (u v : PureValue) → IsItem u values → In c v → Order c u v ≡ Less → rank c values u < rank c values v
  rank_less u v item j e =
      let i = are_in u item in
      count_less (λ w. is_less (Order c w u)) (λ w. is_less (Order c w v)) values (λ w k. passes_too u v w i j (are_in w k) (beaten u v i j e)) u item
      (not_less (Order c u u) (itself u i)) (rw e refl)

  -- there are more values than are preferred to one of them
  pub rank_top : (v : PureValue) → IsItem v values → rank c values v < length values
  rank_top v item =
      let less = count_less (λ w. is_less (Order c w v)) (λ w. true) values (λ w k e. refl) v item (not_less (Order c v v) (itself v (are_in v item))) refl in
      subst (λ (l : List PureValue). rank c values v < length l) (unfiltered values) less

module _ (net : PureNet) (mono : NetHas monotone net) (values : List PureValue) (are_in : (v : PureValue) → IsItem v values → In (carrier net) v) (n : ℕ) where
  abbrev c : PureCarrier
  c = carrier net

  abbrev Has : PureRoute → Type 0
  Has = Occurs values n

  value_in : (r : PureRoute) → Has r → In c r.value
  value_in r h = are_in r.value h.among

  -- an arc raises the level
  extends : (reported : Reported) (i j : ℕ) (r : PureRoute) → (o : IsOfferBy net reported i j r) → Has o.next → Has r → level c values n (Some o.next) < level c values n (Some r)
  extends reported i j r o h k =
      let unbeaten : IsUnbeatenBy c (Some o.next.value) (Some r.value) =
      subst (λ x. IsUnbeatenBy c (Some o.next.value) x) o.weighs (along_monotone net mono i j (Some o.next.value) (value_in o.next h)) in
      let more = rank_more c values are_in o.next.value r.value (value_in o.next h) (value_in r k) unbeaten in
      let product = times_more (rank c values o.next.value) (rank c values r.value) n more in
      let longer : length r.path ≡ length (i ∷ o.next.path) = ap (λ (p : List ℕ). length p) o.path in
      let some = h.some in
      omega (arith, product, longer, some)

  -- the level of a route that isn't beaten is no higher
  orders : (r s : PureRoute) → Has r → Has s → ¬ Better c s r → level c values n (Some r) ≤ level c values n (Some s)
  orders r s h k unbeaten = by (Order c s.value r.value) refl (λ e. unbeaten e)
    where
      reversed : (o p : Ordering) → p ≡ ordering_reverse o → o ≡ Greater → p ≡ Less
      reversed o p e f = grind arith

      shorter : (x : Ordering) → ordering_then (nat_cmp (length s.path) (length r.path)) x ≢ Less → length r.path ≤ length s.path
      shorter x f = grind (arith, nat_tests)

      by : (o : Ordering) → Order c s.value r.value ≡ o → (ordering_then (Order c s.value r.value) (compare_paths s.path r.path) ≡ Less → ⊥) → level c values n (Some r) ≤ level c values n (Some s)
      by Less e f = absurd (f (rw e refl))
      by Equal e f =
          let more = rank_more c values are_in r.value s.value (value_in r h) (value_in s k) (λ g. cc) in
          let product = times_more (rank c values r.value) (rank c values s.value) n more in
          let path = shorter (compare_nodes s.path r.path) (λ g. f (rw e g)) in
          omega (arith, product, path)
      by Greater e f =
          let less : Order c r.value s.value ≡ Less = reversed (Order c s.value r.value) (Order c r.value s.value) ((total_preorder c).flip s.value r.value (value_in s k) (value_in r h)) e in
          let rank_is = rank_less c values are_in r.value s.value h.among (value_in s k) less in
          let product = times_less (rank c values r.value) (rank c values s.value) n rank_is in
          let few = h.few in
          omega (arith, product, few)

  tops : (r : PureRoute) → Has r → level c values n (Some r) ≤ level c values n None
  tops r h =
      let rank_is = rank_top c values are_in r.value h.among in
      let product = times_less (rank c values r.value) (length values) n rank_is in
      let few = h.few in
      omega (arith, product, few)

  pub levels_are : AreLevels net (Occurs values n) (level (carrier net) values n)
  levels_are = record { values = value_in; extends = extends; orders = orders; tops = tops }
