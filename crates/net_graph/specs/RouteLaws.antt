-- Equal routes, equal rows, and routes neither of which is better. Lemmas, so that proofs of other crates may cite
-- them.
use Rattle.std.proofs.Common.{◌≡◌, ◌≢◌, ℕ, ◌≤◌, ◌+◌, List, [], ◌∷◌, Option, Some, None, IfSome, option_map, length, zero, suc, refl, arith}
use Rattle.std.specs.Ordering.{nat_cmp, ordering_then, ordering_reverse}
use Rattle.std.specs.declared.cmp.Ordering.{Ordering}
use Rattle.std.specs.declared.cmp.Ordering.TheVariants.{Less, Equal}
use Rattle.std.proofs.lemmas.Bool.Decides.{nat_tests}
use Rattle.std.proofs.lemmas.Option.{slice_get_past}
use Rattle.alg_model.specs.Expressions.{PureCarrier, PureValue}
use Rattle.alg_model.specs.Carriers.{In, Order}
use Rattle.alg_model.specs.Laws.{total_preorder}
use Rattle.net_graph.specs.Nets.{PureNet}
use Rattle.meta_base.specs.NodePaths.{compare_nodes, compare_paths}
use Rattle.net_graph.specs.Routes.{PureRoute, Better}
use Rattle.net_graph.specs.Tables.{PureRow, IsRouteOf, AreRowsFrom, TableOf, route_at, value_at, carrier}

abbrev route : PureValue → List ℕ → PureRoute
route v p = record { value = v; path = p }

pub same_route : (r s : PureRoute) → r.value ≡ s.value → r.path ≡ s.path → r ≡ s
same_route r s e f =
    let made : route r.value r.path ≡ route s.value s.path = cc in
    made

-- a row's route is one of the network
route_in : (net : PureNet) (dest i : ℕ) (rows : List PureRow) → AreRowsFrom net dest i rows → (k : ℕ) (r : PureRoute) → route_at rows k ≡ Some r → IsRouteOf net r
route_in net dest i [] h k r e = absurd (cc)
route_in net dest i (row ∷ rows) h zero r e = rw e at h.2
route_in net dest i (row ∷ rows) h (suc k) r e = route_in net dest (i + 1) rows h.3 k r e

pub table_route_in : (net : PureNet) (dest : ℕ) (t : List PureRow) → TableOf net dest t → (k : ℕ) (r : PureRoute) → route_at t k ≡ Some r → IsRouteOf net r
table_route_in net dest t h = route_in net dest 0 t h.rows

-- and its value one of the carrier
pub table_value_in : (net : PureNet) (dest : ℕ) (t : List PureRow) → TableOf net dest t → (i : ℕ) → IfSome (value_at t i) (In (carrier net))
table_value_in net dest t h i = by (route_at t i) (λ r e. (table_route_in net dest t h i r e).value_in)
  where
    by : (o : Option PureRoute) → ((r : PureRoute) → o ≡ Some r → In (carrier net) r.value) → IfSome (option_map (λ (r : PureRoute). r.value) o) (In (carrier net))
    by None f = tt
    by (Some r) f = f r refl

-- past its nodes a table has no route
pub no_route_past : (net : PureNet) (dest : ℕ) (t : List PureRow) → TableOf net dest t → (i : ℕ) → length net.nodes ≤ i → route_at t i ≡ None
no_route_past net dest t h i past =
    let e : length t ≤ i = let c = h.count in omega arith in
    rw (slice_get_past t i e) refl

abbrev row_of : ℕ → ℕ → Option PureRoute → PureRow
row_of n d r = record { node = n; dest = d; route = r }

same_row : (x y : PureRow) → x.node ≡ y.node → x.dest ≡ y.dest → x.route ≡ y.route → x ≡ y
same_row x y e f g =
    let made : row_of x.node x.dest x.route ≡ row_of y.node y.dest y.route = cc in
    made

rows_equal : (net : PureNet) (dest i : ℕ) (t u : List PureRow) → AreRowsFrom net dest i t → AreRowsFrom net dest i u → length t ≡ length u
    → ((k : ℕ) → route_at t k ≡ route_at u k) → t ≡ u
rows_equal net dest i [] [] h k e f = refl
rows_equal net dest i [] (y ∷ u) h k e f = absurd (omega arith)
rows_equal net dest i (x ∷ t) [] h k e f = absurd (omega arith)
rows_equal net dest i (x ∷ t) (y ∷ u) h k e f =
    let a : x.node ≡ y.node = let p = h.0 in let q = k.0 in cc in
    let b : x.dest ≡ y.dest = let p = h.1 in let q = k.1 in cc in
    let c : x.route ≡ y.route = f 0 in
    let d = same_row x y a b c in
    let l : length t ≡ length u = omega arith in
    let r = rows_equal net dest (i + 1) t u h.3 k.3 l (λ n. f (suc n)) in
    cc

-- a table is determined by its routes
pub tables_equal : (net : PureNet) (dest : ℕ) (t u : List PureRow) → TableOf net dest t → TableOf net dest u → ((k : ℕ) → route_at t k ≡ route_at u k) → t ≡ u
tables_equal net dest t u h k f =
    let e : length t ≡ length u = let a = h.count in let b = k.count in cc in
    rows_equal net dest 0 t u h.rows k.rows e f

then_equal : (a b : Ordering) → ordering_then a b ≡ Equal → (a ≡ Equal) × (b ≡ Equal)
then_equal a b e = grind arith

nodes_equal : (p q : List ℕ) → compare_nodes p q ≡ Equal → p ≡ q
nodes_equal [] [] e = refl
nodes_equal [] (j ∷ q) e = absurd (cc)
nodes_equal (i ∷ p) [] e = absurd (cc)
nodes_equal (i ∷ p) (j ∷ q) e =
    let both = then_equal (nat_cmp i j) (compare_nodes p q) e in
    let head : i ≡ j = grind (arith, nat_tests, both) in
    let tail = nodes_equal p q both.1 in
    cc

nodes_flip : (p q : List ℕ) → compare_nodes q p ≡ ordering_reverse (compare_nodes p q)
nodes_flip [] [] = refl
nodes_flip [] (j ∷ q) = refl
nodes_flip (i ∷ p) [] = refl
nodes_flip (i ∷ p) (j ∷ q) = flipped (nat_cmp i j) (nat_cmp j i) (compare_nodes p q) (compare_nodes q p) (grind (arith, nat_tests)) (nodes_flip p q)
  where
    flipped : (a b c d : Ordering) → b ≡ ordering_reverse a → d ≡ ordering_reverse c → ordering_then b d ≡ ordering_reverse (ordering_then a c)
    flipped a b c d e f = grind arith

pub paths_flip : (p q : List ℕ) → compare_paths q p ≡ ordering_reverse (compare_paths p q)
paths_flip p q = flipped (nat_cmp (length p) (length q)) (nat_cmp (length q) (length p)) (compare_nodes p q) (compare_nodes q p) (grind (arith, nat_tests)) (nodes_flip p q)
  where
    flipped : (a b c d : Ordering) → b ≡ ordering_reverse a → d ≡ ordering_reverse c → ordering_then b d ≡ ordering_reverse (ordering_then a c)
    flipped a b c d e f = grind arith

-- equal in order is equal
pub paths_equal : (p q : List ℕ) → compare_paths p q ≡ Equal → p ≡ q
paths_equal p q e = nodes_equal p q (then_equal (nat_cmp (length p) (length q)) (compare_nodes p q) e).1

-- routes neither of which is better have one path
pub neither_better : (c : PureCarrier) → (r s : PureRoute) → In c r.value → In c s.value → ¬ Better c r s → ¬ Better c s r → r.path ≡ s.path
neither_better c r s i j f g = paths_equal r.path s.path
    (by (Order c r.value s.value) (Order c s.value r.value) (compare_paths r.path s.path) (compare_paths s.path r.path) ((total_preorder c).flip r.value s.value i j) (paths_flip r.path s.path) f g)
  where
    by : (a b x y : Ordering) → b ≡ ordering_reverse a → y ≡ ordering_reverse x → ordering_then a x ≢ Less → ordering_then b y ≢ Less → x ≡ Equal
    by a b x y e h f g = grind arith
