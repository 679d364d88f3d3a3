-- Better is a strict order on routes whose values are in the carrier, and not to be better is transitive there.
-- Lemmas, so that proofs of other crates may cite them.
use Rattle.std.proofs.Common.{◌≡◌, ◌≢◌, ℕ, List, [], ◌∷◌, length, refl, arith}
use Rattle.std.specs.Ordering.{nat_cmp, ordering_then, ordering_reverse}
use Rattle.std.specs.declared.cmp.Ordering.{Ordering}
use Rattle.std.specs.declared.cmp.Ordering.TheVariants.{Less, Equal}
use Rattle.std.proofs.lemmas.Bool.Decides.{nat_tests}
use Rattle.alg_model.specs.Expressions.{PureCarrier}
use Rattle.alg_model.specs.Carriers.{In, Order}
use Rattle.alg_model.specs.Laws.{total_preorder}
use Rattle.meta_base.specs.NodePaths.{compare_nodes, compare_paths}
use Rattle.net_graph.specs.Routes.{PureRoute, Better}
use Rattle.net_graph.specs.RouteLaws.{paths_flip}

-- what isn't before what isn't before another isn't before that one
then_trans : (i j k : ℕ) (x y z : Ordering) → (x ≢ Less → y ≢ Less → z ≢ Less) → ordering_then (nat_cmp j i) x ≢ Less → ordering_then (nat_cmp k j) y ≢ Less → ordering_then (nat_cmp k i) z ≢ Less
then_trans i j k x y z h f g = grind (arith, nat_tests)

nodes_trans : (p q r : List ℕ) → compare_nodes q p ≢ Less → compare_nodes r q ≢ Less → compare_nodes r p ≢ Less
nodes_trans [] [] r f g = g
nodes_trans [] (j ∷ q) [] f g = λ e. cc
nodes_trans [] (j ∷ q) (k ∷ r) f g = λ e. cc
nodes_trans (i ∷ p) [] r f g = absurd (f refl)
nodes_trans (i ∷ p) (j ∷ q) [] f g = absurd (g refl)
nodes_trans (i ∷ p) (j ∷ q) (k ∷ r) f g = then_trans i j k (compare_nodes q p) (compare_nodes r q) (compare_nodes r p) (nodes_trans p q r) f g

paths_trans : (p q r : List ℕ) → compare_paths q p ≢ Less → compare_paths r q ≢ Less → compare_paths r p ≢ Less
paths_trans p q r f g = then_trans (length p) (length q) (length r) (compare_nodes q p) (compare_nodes r q) (compare_nodes r p) (nodes_trans p q r) f g

joined : (xy yx yz zy xz zx p q r : Ordering) → yx ≡ ordering_reverse xy → zy ≡ ordering_reverse yz → zx ≡ ordering_reverse xz
    → (xy ≡ Less → yz ≡ Less → xz ≡ Less) → (xy ≡ Equal → xz ≡ yz) → (zy ≡ Equal → zx ≡ yx)
    → (p ≢ Less → q ≢ Less → r ≢ Less) → ordering_then yx p ≢ Less → ordering_then zy q ≢ Less → ordering_then zx r ≢ Less
joined xy yx yz zy xz zx p q r a b d t e h k f g = grind arith

-- not to be better is transitive
pub not_better_trans : (c : PureCarrier) (x y z : PureRoute) → In c x.value → In c y.value → In c z.value → ¬ Better c y x → ¬ Better c z y → ¬ Better c z x
not_better_trans c x y z i j k f g =
    let p = total_preorder c in
    joined (Order c x.value y.value) (Order c y.value x.value) (Order c y.value z.value) (Order c z.value y.value) (Order c x.value z.value) (Order c z.value x.value)
    (compare_paths y.path x.path) (compare_paths z.path y.path) (compare_paths z.path x.path)
    (p.flip x.value y.value i j) (p.flip y.value z.value j k) (p.flip x.value z.value i k)
    (p.trans x.value y.value z.value i j k) (p.congr x.value y.value z.value i j k) (p.congr z.value y.value x.value k j i)
    (paths_trans x.path y.path z.path) f g

-- of two routes at most one is better
pub better_asymmetric : (c : PureCarrier) (x y : PureRoute) → In c x.value → In c y.value → Better c x y → ¬ Better c y x
better_asymmetric c x y i j =
    by (Order c x.value y.value) (Order c y.value x.value) (compare_paths x.path y.path) (compare_paths y.path x.path) ((total_preorder c).flip x.value y.value i j) (paths_flip x.path y.path)
  where
    by : (a b p q : Ordering) → b ≡ ordering_reverse a → q ≡ ordering_reverse p → ordering_then a p ≡ Less → ordering_then b q ≢ Less
    by a b p q e h f = grind arith
