-- What may be a node's route is small enough for a label.
use Rattle.std.proofs.Common.{◌≡◌, ℕ, ◌+◌, ◌*◌, ◌<◌, ◌≤◌, List, [], ◌∷◌, Bool, true, false, ◌||◌, eqb, length, refl, arith, lit≤, le_trans, le_refl, mul-le-mul}
use Rattle.std.specs.Prelude.{nat_lt, ◌==◌}
use Rattle.std.specs.List.{list_all, list_any, AllByRecursion, IsDistinct}
use Rattle.std.proofs.lemmas.Bool.Decides.{nat_tests}
use Rattle.std.proofs.lemmas.Map.Steps.{length-le_from_distinct_below}
use Rattle.alg_model.specs.declared.edition.Edition.{Edition}
use Rattle.alg_model.specs.declared.edition.Edition.TheVariants.{One, Two}
use Rattle.alg_model.specs.declared.alg.TheConstants.{MAX_VALUE_NUMBER}
use Rattle.alg_model.specs.Carriers.{distinct}
use Rattle.alg_model.specs.Bounds.{AtMost, greatest_number}
use Rattle.alg_model.specs.Laws.{at_most_more}
use Rattle.net_graph.specs.Nets.{PureNet, IsNet}
use Rattle.net_graph.specs.Limits.{max_nodes}
use Rattle.net_graph.specs.Routes.{PureRoute}
use Rattle.path_vector.specs.Node.{may_be_of}
use Rattle.path_vector.specs.Choosing.{may_be_parts}

apart_from : (n : ℕ) (ns : List ℕ) → list_any (λ m. m == n) ns ≡ false → AllByRecursion (λ m. eqb n m ≡ false) ns
apart_from n [] h = tt
apart_from n (m ∷ ns) h =
    let p : (m == n) ≡ false = grind arith in
    let q : list_any (λ m. m == n) ns ≡ false = grind arith in
    let r : eqb n m ≡ false = grind (arith, nat_tests) in
    (r, apart_from n ns q)

all_apart : (ns : List ℕ) → distinct ns ≡ true → IsDistinct eqb ns
unfolding IsDistinct
all_apart [] h = tt
all_apart (n ∷ ns) h =
    let p : list_any (λ m. m == n) ns ≡ false = grind arith in
    let q : distinct ns ≡ true = grind arith in
    (apart_from n ns p, all_apart ns q)

any_below : (bound : ℕ) (ns : List ℕ) → list_all (λ n. nat_lt n bound) ns ≡ true → (q : ℕ) → list_any (eqb q) ns ≡ true → q < bound
any_below bound [] h q e = absurd (cc)
any_below bound (n ∷ ns) h q e = by (eqb q n) refl e (λ f. any_below bound ns (grind arith) q f)
  where
    by : (b : Bool) → eqb q n ≡ b → (b || list_any (eqb q) ns) ≡ true → (list_any (eqb q) ns ≡ true → q < bound) → q < bound
    by true f g more =
        let below : nat_lt n bound ≡ true = grind arith in
        grind (arith, nat_tests)
    by false f g more = more g

-- nodes below a bound of which none stands twice are no more than the bound
pub few_apart : (bound : ℕ) (ns : List ℕ) → distinct ns ≡ true → list_all (λ n. nat_lt n bound) ns ≡ true → length ns ≤ bound
few_apart bound ns d b = length-le_from_distinct_below ns bound (all_apart ns d) (any_below bound ns b)

few : (e : Edition) (n : ℕ) → n ≤ max_nodes e → n * (greatest_number e + 1) ≤ MAX_VALUE_NUMBER
few One n h = le_trans (mul-le-mul h (le_refl _)) (lit≤ tt)
few Two n h = le_trans (mul-le-mul h (le_refl _)) (lit≤ tt)

-- the value of what may be a node's route
pub small_value : (net : PureNet) (j : ℕ) (r : PureRoute) → IsNet net → may_be_of net j r ≡ true → AtMost MAX_VALUE_NUMBER r.value
small_value net j r n e =
    let m = may_be_parts net j r e in
    let short = few_apart (length net.nodes) r.path m.apart m.inside in
    let room = few net.alg.edition (length r.path) (le_trans short n.node_room) in
    at_most_more (length r.path * (greatest_number net.alg.edition + 1)) MAX_VALUE_NUMBER r.value room m.bound
