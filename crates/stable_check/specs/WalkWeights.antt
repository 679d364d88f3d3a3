-- What arcs make of a value along a list of nodes.
use Rattle.std.proofs.Common.{◌≡◌, ℕ, ◌+◌, ◌<◌, ◌≤◌, ◌*◌, ◌-◌, ◌==◌, Bor, zero, suc, List, [], ◌∷◌, Option, Some, None, IfSome, true, false, drop, option_map, Result, Ok, Err, IfOk, length, get_or, refl, ap, arith}
use Rattle.meta_base.specs.declared.ids.NodeId.{NodeId}
use Rattle.meta_base.specs.NodePaths.{numbers}
use Rattle.alg_model.specs.Expressions.{PureValue}
use Rattle.net_graph.specs.Nets.{PureNet, IsNet, origin_value}
use Rattle.net_graph.specs.Walks.{Walk, Weight, along}
use Rattle.net_graph.specs.ArcLaws.{of_some, IsOrigin, origins_are, along_has, along_none, along_in, along_at_most, walk_within}
use Rattle.std.specs.Option.{option_copied}
use Rattle.std.proofs.lemmas.Bool.Decides.{nat_tests}
use Rattle.alg_model.specs.Carriers.{In}
use Rattle.alg_model.specs.Laws.{at_most_more}
use Rattle.alg_model.specs.declared.edition.TheConstants.{MAX_LABEL_NUMBER}
use Rattle.net_graph.specs.RowTexts.{AreNodesOf}
use Rattle.net_graph.specs.Tables.{carrier}
use Rattle.stable_check.specs.Checks.{carried, IsSmall}

-- a weight is the weight of a walk
pub weighs_walk : (net : PureNet) → IsNet net → (dest : ℕ) (p : List ℕ) (v : PureValue) → Weight net dest p ≡ Some v → Walk net dest p
weighs_walk net n dest [] v e = absurd (cc)
weighs_walk net n dest (i ∷ []) v e = (of_some (IsOrigin net dest i) (origin_value net dest i) v (origins_are net n dest i) e).has
weighs_walk net n dest (i ∷ j ∷ p) v e = (along_has net n i j (Weight net dest (j ∷ p)) v e, by (λ w f. weighs_walk net n dest (j ∷ p) w f) (Weight net dest (j ∷ p)) refl)
  where
    by : ((w : PureValue) → Weight net dest (j ∷ p) ≡ Some w → Walk net dest (j ∷ p)) → (o : Option PureValue) → Weight net dest (j ∷ p) ≡ o → Walk net dest (j ∷ p)
    by rest None f = absurd (let g = along_none net i j in let h : along net i j None ≡ Some v = rw f at e in cc)
    by rest (Some w) f = rest w f

pub no_walk_no_weight : (net : PureNet) → IsNet net → (dest : ℕ) (p : List ℕ) → ¬ Walk net dest p → Weight net dest p ≡ None
no_walk_no_weight net n dest p h = by (Weight net dest p) refl
  where
    by : (o : Option PureValue) → Weight net dest p ≡ o → o ≡ None
    by None e = refl
    by (Some v) e = absurd (h (weighs_walk net n dest p v e))

-- the nodes of a walk are the network's
pub walk_nodes : (net : PureNet) → IsNet net → (dest : ℕ) (p : List ℕ) → Walk net dest p → AreNodesOf net p
walk_nodes net n dest [] w = absurd w
walk_nodes net n dest (i ∷ []) w = (walk_within net n dest i [] w, tt)
walk_nodes net n dest (i ∷ j ∷ p) w = (walk_within net n dest i (j ∷ p) w, walk_nodes net n dest (j ∷ p) w.1)

-- so a list with others weighs nothing
pub others_no_weight : (net : PureNet) → IsNet net → (dest : ℕ) (p : List ℕ) → ¬ AreNodesOf net p → Weight net dest p ≡ None
others_no_weight net n dest p h = no_walk_no_weight net n dest p (λ w. h (walk_nodes net n dest p w))

-- the last of the nodes from i on
abbrev pub last_from : ℕ → List ℕ → ℕ
last_from i [] = i
last_from i (j ∷ p) = last_from j p

-- the weight is what the arcs make of the last node's origin
pub weight_carried : (net : PureNet) (dest i : ℕ) (p : List ℕ) → carried net (i ∷ p) (origin_value net dest (last_from i p)) ≡ Weight net dest (i ∷ p)
weight_carried net dest i [] = refl
weight_carried net dest i (j ∷ p) = ap (along net i j) (weight_carried net dest j p)

-- the last one, by its place
pub last_at : (x d : NodeId) (xs : List NodeId) → (get_or (x ∷ xs) (length xs) d).0 ≡ last_from x.0 (numbers xs)
last_at x d [] = refl
last_at x d (y ∷ xs) = last_at y d xs

-- along the last node alone nothing is done, and one node more is one arc more
pub carried_last : (net : PureNet) (nodes : List NodeId) (n : ℕ) (v : Option PureValue) → n + 1 ≡ length nodes → carried net (numbers (drop n nodes)) v ≡ v
carried_last net [] n v e = absurd (omega arith)
carried_last net (x ∷ []) zero v e = refl
carried_last net (x ∷ []) (suc n) v e = absurd (omega arith)
carried_last net (x ∷ y ∷ nodes) zero v e = absurd (omega arith)
carried_last net (x ∷ y ∷ nodes) (suc n) v e = carried_last net (y ∷ nodes) n v (omega arith)

carried_next : (net : PureNet) (nodes : List NodeId) (n : ℕ) (d : NodeId) (v : Option PureValue) → suc n < length nodes
    → carried net (numbers (drop n nodes)) v ≡ along net (get_or nodes n d).0 (get_or nodes (suc n) d).0 (carried net (numbers (drop (suc n) nodes)) v)
carried_next net [] n d v l = absurd (omega arith)
carried_next net (x ∷ []) n d v l = absurd (omega arith)
carried_next net (x ∷ y ∷ nodes) zero d v l = refl
carried_next net (x ∷ y ∷ nodes) (suc n) d v l = carried_next net (y ∷ nodes) n d v (omega arith)

pub carried_more : (net : PureNet) (nodes : List NodeId) (at : ℕ) (d : NodeId) (v : Option PureValue) → 0 < at → at < length nodes
    → carried net (numbers (drop (at - 1) nodes)) v ≡ along net (get_or nodes (at - 1) d).0 (get_or nodes at d).0 (carried net (numbers (drop at nodes)) v)
carried_more net nodes zero d v some l = absurd (omega arith)
carried_more net nodes (suc n) d v some l =
    let e : suc n - 1 ≡ n = omega arith in
    rw e (carried_next net nodes n d v l)

-- the nodes are the network's
pub node_within : (net : PureNet) (nodes : List NodeId) (k : ℕ) (d : NodeId) → AreNodesOf net (numbers nodes) → k < length nodes → (get_or nodes k d).0 < length net.nodes
node_within net [] k d h l = absurd (omega arith)
node_within net (x ∷ nodes) zero d h l = h.0
node_within net (x ∷ nodes) (suc k) d h l = node_within net nodes k d h.1 (omega arith)

-- what labels may have made in fewer steps they may in more
small_more : (net : PureNet) (m n : ℕ) (v : PureValue) → m ≤ n → IsSmall net m v → IsSmall net n v
small_more net m n v l h = record { value_in = h.value_in; bound = at_most_more (m * MAX_LABEL_NUMBER) (n * MAX_LABEL_NUMBER) v (omega arith) h.bound }

pub any_small : (net : PureNet) (m n : ℕ) (o : Option PureValue) → m ≤ n → IfSome o (IsSmall net m) → IfSome o (IsSmall net n)
any_small net m n None l h = tt
any_small net m n (Some v) l h = small_more net m n v l h

pub along_small : (net : PureNet) → IsNet net → (i j m : ℕ) (x : Option PureValue) → IfSome x (IsSmall net m) → IfSome (along net i j x) (IsSmall net (m + 1))
along_small net n i j m None h = rw (along_none net i j) tt
along_small net n i j m (Some v) h = by (along net i j (Some v)) refl
  where
    by : (o : Option PureValue) → along net i j (Some v) ≡ o → IfSome o (IsSmall net (m + 1))
    by None e = tt
    by (Some w) e = record {
      value_in = of_some (In (carrier net)) (along net i j (Some v)) w (along_in net n i j (Some v) h.value_in) e;
      bound = at_most_more (m * MAX_LABEL_NUMBER + MAX_LABEL_NUMBER) ((m + 1) * MAX_LABEL_NUMBER) w (omega arith) (along_at_most net n i j v w (m * MAX_LABEL_NUMBER) h.bound e);
    }

-- origins' values are small
pub origin_small : (net : PureNet) → IsNet net → (dest i : ℕ) → IfSome (origin_value net dest i) (IsSmall net 1)
origin_small net n dest i = by (origin_value net dest i) (origins_are net n dest i)
  where
    by : (o : Option PureValue) → IfSome o (IsOrigin net dest i) → IfSome o (IsSmall net 1)
    by None h = tt
    by (Some v) h = record { value_in = h.value_in; bound = at_most_more MAX_LABEL_NUMBER (1 * MAX_LABEL_NUMBER) v (omega arith) h.small }

-- what is lent is what is there
pub lent : {X Y : Type 0} (f : X → Y) (r : Option (Bor X)) (o : Option X) → option_copied r ≡ o → option_map (λ (x : Bor X). f x.now) r ≡ option_map f o
lent f None o e = ap (option_map f) e
lent f (Some x) o e = ap (option_map f) e

-- the weight of a list that isn't empty, from the origin of its last node
pub weight_at_last : (net : PureNet) (dest : ℕ) (nodes : List NodeId) (d : NodeId) → 0 < length nodes
    → carried net (numbers nodes) (origin_value net dest (get_or nodes (length nodes - 1) d).0) ≡ Weight net dest (numbers nodes)
weight_at_last net dest [] d l = absurd (omega arith)
weight_at_last net dest (x ∷ nodes) d l =
    let e : length (x ∷ nodes) - 1 ≡ length nodes = omega arith in
    rw (e, last_at x d nodes) (weight_carried net dest x.0 (numbers nodes))

-- what follows from an answer follows from the call's
pub if_ok : {T E : Type 0} {P Q : T → Type 0} (r : Result T E) → IfOk r P → ((x : T) → P x → Q x) → IfOk r Q
if_ok (Ok x) h f = f x h
if_ok (Err e) h f = tt

pub none_of : {X Y : Type 0} (f : X → Y) (o : Option X) → option_map f o ≡ None → o ≡ None
none_of f None e = refl
none_of f (Some x) e = absurd (cc)

pub not_empty : (n : ℕ) → false ≡ (n == 0) → 0 < n
not_empty n e = grind (arith, nat_tests)

-- an empty list weighs nothing
pub empty_weight : (net : PureNet) (dest : ℕ) (nodes : List NodeId) → true ≡ (length nodes == 0) → None ≡ Weight net dest (numbers nodes)
empty_weight net dest [] e = refl
empty_weight net dest (x ∷ nodes) e = absurd (grind (arith, nat_tests))
