-- The values of rows with next hops are those of an optimal table. Lemmas, so that proofs of other crates may cite them.
use Rattle.std.proofs.Common.{◌≡◌, ◌≢◌, ℕ, ◌<◌, List, [], ◌∷◌, Option, Some, None, IfSome, length, subst, refl, sym, ap, ◌∙◌, arith}
use Rattle.std.specs.Prelude.{option_map}
use Rattle.std.specs.Ordering.{ordering_reverse}
use Rattle.std.specs.declared.cmp.Ordering.{Ordering}
use Rattle.std.specs.declared.cmp.Ordering.TheVariants.{Less, Equal}
use Rattle.alg_model.specs.Carriers.{In, Order}
use Rattle.alg_model.specs.Expressions.{PureCarrier, PureValue}
use Rattle.alg_model.specs.Laws.{total_preorder}
use Rattle.alg_model.specs.Properties.{strict, isotone}
use Rattle.net_graph.specs.Nets.{PureNet, IsNet}
use Rattle.net_graph.specs.RouteLaws.{table_value_in}
use Rattle.net_graph.specs.Routes.{PureRoute}
use Rattle.net_graph.specs.Tables.{PureRow, NetHas, Optimal, carrier, route_at, value_at}
use Rattle.net_graph.specs.Unbeaten.{IsUnbeatenBy, none_last}
use Rattle.net_graph.specs.Walks.{Walk, Weight}
use Rattle.distance_node.specs.Following.{row_in, unbeaten, next_hops_lead}
use Rattle.distance_node.specs.Node.{Hop, value_of}
use Rattle.distance_node.specs.Tables.{HopTable, IsChosen, Follows, AreAsGood}

neither : (c : PureCarrier) (u v : PureValue) → In c u → In c v → Order c v u ≢ Less → Order c u v ≢ Less → Order c u v ≡ Equal
neither c u v i j f g = by (Order c u v) (Order c v u) ((total_preorder c).flip u v i j) f g
  where
    by : (a b : Ordering) → b ≡ ordering_reverse a → b ≢ Less → a ≢ Less → a ≡ Equal
    by a b e f g = grind arith

-- values neither of which is beaten by the other
pub as_good : (c : PureCarrier) (x y : Option PureValue) → IfSome x (In c) → IfSome y (In c) → IsUnbeatenBy c x y → IsUnbeatenBy c y x → AreAsGood c x y
as_good c None None i j f g = refl
as_good c None (Some v) i j f g = absurd (f refl)
as_good c (Some u) None i j f g = absurd (g refl)
as_good c (Some u) (Some v) i j f g = neither c u v i j f g

module _ (net : PureNet) (n : IsNet net) (dest : ℕ) (table : HopTable) (chosen : IsChosen net dest table) (t : List PureRow) (best : Optimal net dest t) where
  -- no row of the optimal table is better
  none_over : NetHas isotone net → (i : ℕ) → IsUnbeatenBy (carrier net) (value_of (table i)) (value_at t i)
  none_over m i = by (route_at t i) refl
    where
      by : (o : Option PureRoute) → route_at t i ≡ o → IsUnbeatenBy (carrier net) (value_of (table i)) (option_map (λ (r : PureRoute). r.value) o)
      by None e = none_last (carrier net) (value_of (table i))
      by (Some r) e =
          let walks = best.walks i r e in
          let walk : Walk net dest (i ∷ walks.2.0) = subst (Walk net dest) walks.2.1 walks.0 in
          let weighs : Weight net dest (i ∷ walks.2.0) ≡ Some r.value = ap (Weight net dest) (sym walks.2.1) ∙ walks.1 in
          rw weighs at (unbeaten net n dest table chosen m i walks.2.0 walk)

  -- and none is worse
  none_under : NetHas strict net → (i : ℕ) → i < length net.nodes → IsUnbeatenBy (carrier net) (value_at t i) (value_of (table i))
  none_under m i within = by (table i) refl
    where
      begins : (path : List ℕ) → Follows table i path → (rest : List ℕ) × (path ≡ i ∷ rest)
      begins [] f = absurd f
      begins (k ∷ []) f = ([], rw f.0 refl)
      begins (k ∷ j ∷ path) f = (j ∷ path, rw f.0 refl)

      by : (o : Option Hop) → table i ≡ o → IsUnbeatenBy (carrier net) (value_at t i) (value_of o)
      by None e = none_last (carrier net) (value_at t i)
      by (Some h) e =
          let leads = next_hops_lead net n dest table chosen m i h within e in
          let shape = begins leads.path leads.follows in
          let walk : Walk net dest (i ∷ shape.0) = subst (Walk net dest) shape.1 leads.walk in
          let weighs : Weight net dest (i ∷ shape.0) ≡ Some h.value = ap (Weight net dest) (sym shape.1) ∙ leads.weighs in
          rw weighs at (best.unbeaten i shape.0 walk)

  pub values_agree : NetHas strict net → NetHas isotone net → (i : ℕ) → i < length net.nodes → AreAsGood (carrier net) (value_of (table i)) (value_at t i)
  values_agree m p i within =
      as_good (carrier net) (value_of (table i)) (value_at t i) (row_in net n dest table chosen i) (table_value_in net dest t best.table_of i) (none_over p i) (none_under m i within)
