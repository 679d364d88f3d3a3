-- Where all labels are isotone, a table is relaxed exactly where it is optimal.
use Rattle.std.proofs.Common.{◌≡◌, ℕ, ◌<◌, List, [], ◌∷◌, Option, Some, None, option_map, length, refl}
use Rattle.alg_model.specs.Expressions.{PureValue}
use Rattle.alg_model.specs.Properties.{isotone}
use Rattle.net_graph.specs.Nets.{PureNet, IsNet, origin_value}
use Rattle.net_graph.specs.Routes.{PureRoute}
use Rattle.net_graph.specs.Walks.{Walk, Weight, along}
use Rattle.net_graph.specs.Tables.{PureRow, NetHas, route_at, value_at, carrier, Optimal, Relaxed}
use Rattle.net_graph.specs.Unbeaten.{IsUnbeatenBy, unbeaten_trans, none_last}
use Rattle.net_graph.specs.ArcLaws.{of_some, IsOrigin, origins_are, walk_within, along_has, along_none, along_in, weight_in, along_isotone}
use Rattle.net_graph.specs.RouteLaws.{table_value_in}

-- no walk weighs better than the row of its first node
relaxed_unbeaten : (net : PureNet) (dest : ℕ) (t : List PureRow) → IsNet net → NetHas isotone net → Relaxed net dest t
    → (i : ℕ) (p : List ℕ) → Walk net dest (i ∷ p) → IsUnbeatenBy (carrier net) (value_at t i) (Weight net dest (i ∷ p))
relaxed_unbeaten net dest t n m h i [] w = h.origins i (walk_within net n dest i [] w)
relaxed_unbeaten net dest t n m h i (j ∷ p) w =
    let here = table_value_in net dest t h.table_of i in
    let there = table_value_in net dest t h.table_of j in
    let rest = weight_in net n dest (j ∷ p) in
    unbeaten_trans (carrier net) (value_at t i) (along net i j (value_at t j)) (along net i j (Weight net dest (j ∷ p)))
    here (along_in net n i j (value_at t j) there) (along_in net n i j (Weight net dest (j ∷ p)) rest)
    (h.arcs i j (walk_within net n dest i (j ∷ p) w))
    (along_isotone net m i j (value_at t j) (Weight net dest (j ∷ p)) there rest (relaxed_unbeaten net dest t n m h j p w.1))

-- an own origin is a walk
optimal_origins : (net : PureNet) (dest : ℕ) (t : List PureRow) → IsNet net → Optimal net dest t
    → (i : ℕ) → i < length net.nodes → IsUnbeatenBy (carrier net) (value_at t i) (origin_value net dest i)
optimal_origins net dest t n h i within = by (origin_value net dest i) refl
  where
    by : (o : Option PureValue) → origin_value net dest i ≡ o → IsUnbeatenBy (carrier net) (value_at t i) o
    by None e = none_last (carrier net) (value_at t i)
    by (Some v) e =
        let walk : Walk net dest (i ∷ []) = (of_some (IsOrigin net dest i) (origin_value net dest i) v (origins_are net n dest i) e).has in
        rw e at (h.unbeaten i [] walk)

-- an arc and the walk of its head's route are a walk
optimal_arcs : (net : PureNet) (dest : ℕ) (t : List PureRow) → IsNet net → Optimal net dest t
    → (i j : ℕ) → i < length net.nodes → IsUnbeatenBy (carrier net) (value_at t i) (along net i j (value_at t j))
optimal_arcs net dest t n h i j within = by (route_at t j) refl
  where
    image : (r : PureRoute) → route_at t j ≡ Some r → (o : Option PureValue) → along net i j (Some r.value) ≡ o → IsUnbeatenBy (carrier net) (value_at t i) o
    image r reported None e = none_last (carrier net) (value_at t i)
    image r reported (Some w) e =
        let sound = h.walks j r reported in
        let begins = sound.2 in
        let rest : Walk net dest (j ∷ begins.0) = rw begins.1 at sound.0 in
        let weight : Weight net dest (j ∷ begins.0) ≡ Some r.value = rw begins.1 at sound.1 in
        let whole : Weight net dest (i ∷ j ∷ begins.0) ≡ Some w = rw weight e in
        rw whole at (h.unbeaten i (j ∷ begins.0) (along_has net n i j (Some r.value) w e, rest))

    by : (o : Option PureRoute) → route_at t j ≡ o → IsUnbeatenBy (carrier net) (value_at t i) (along net i j (option_map (λ (r : PureRoute). r.value) o))
    by None e = rw (along_none net i j) (none_last (carrier net) (value_at t i))
    by (Some r) e = image r e (along net i j (Some r.value)) refl

pub relaxed_optimal : (net : PureNet) (dest : ℕ) (t : List PureRow) → IsNet net → NetHas isotone net
    → (Relaxed net dest t → Optimal net dest t) × (Optimal net dest t → Relaxed net dest t)
relaxed_optimal net dest t n m = (
  λ h. record { table_of = h.table_of; walks = h.walks; unbeaten = relaxed_unbeaten net dest t n m h },
  λ h. record { table_of = h.table_of; walks = h.walks; origins = optimal_origins net dest t n h; arcs = optimal_arcs net dest t n h },
)
