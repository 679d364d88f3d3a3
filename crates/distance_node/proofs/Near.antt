-- A node's neighbours at their places.
use Rattle.std.proofs.Common.{◌≡◌, ℕ, zero, suc, ◌*◌, ◌^◌, ◌-◌, ◌<◌, ◌≤◌, ◌==◌, Bool, true, false, cond, filter, List, [], ◌∷◌, length, slice_get, Some, subst, refl, ap, arith}
use Rattle.std.proofs.Math.ListN.{get_or}
use Rattle.std.proofs.lemmas.Option.{slice_get-get_or, slice_get_within}
use Rattle.std.proofs.Math.Nat.{mul-le-mul}
use Rattle.alg_model.specs.Carriers.{In, carrier_of}
use Rattle.alg_model.specs.Expressions.{Expression, PureLabel, PureValue}
use Rattle.arc_labels.specs.declared.neighbours.Neighbour.{Neighbour}
use Rattle.arc_labels.specs.Neighbours.{AreNeighbours, IsNeighbour, head_of}
use Rattle.net_graph.specs.Nets.{PureArc, PureNet, IsNet, arcs_from}
use Rattle.net_graph.specs.Tables.{carrier}
use Rattle.distance_node.specs.Chosen.{next_at}
use Rattle.net_graph.specs.declared.limits.TheConstants.{MAX_ARCS, MOST_DESTS}

pub item_there : {X : Type 0} (xs : List X) (k : ℕ) → k < length xs → (x : X) × (slice_get xs k ≡ Some x)
item_there {X = X} [] k l = absurd (omega (arith, l))
item_there {X = X} (y ∷ ys) zero l = (y, refl)
item_there {X = X} (y ∷ ys) (suc k) l = item_there ys k (omega (arith, l))

-- the arc at a place, and its neighbour
pub near_at : {L : Type 0} (stands_for : L → PureLabel → Type 0) (net : PureNet) (i : ℕ) (ns : List (Neighbour L)) → AreNeighbours stands_for head_of (arcs_from net i) ns → (k : ℕ) (d : Neighbour L) → k < length ns
    → (a : PureArc) × (slice_get (arcs_from net i) k ≡ Some a) × IsNeighbour stands_for head_of a (get_or ns k d)
near_at stands_for net i ns are k d l =
    let count = are.count in
    let arc = item_there (arcs_from net i) k (omega (arith, count, l)) in
    (arc.0, arc.1, are.each k (get_or ns k d) (slice_get-get_or ns k d l) arc.0 arc.1)

pub near_is : {L : Type 0} (stands_for : L → PureLabel → Type 0) (net : PureNet) (i : ℕ) (ns : List (Neighbour L)) → AreNeighbours stands_for head_of (arcs_from net i) ns → (k : ℕ) (d : Neighbour L) (a : PureArc)
    → slice_get (arcs_from net i) k ≡ Some a → IsNeighbour stands_for head_of a (get_or ns k d)
near_is stands_for net i ns are k d a e =
    let count = are.count in
    let inside = slice_get_within (arcs_from net i) k a e in
    are.each k (get_or ns k d) (slice_get-get_or ns k d (omega (arith, count, inside))) a e

-- what stands for values of the network's algebra stands for those of its carrier
pub signs_in : {S : Type 0} (is_sig : S → Type 0) (value : S → PureValue) (net : PureNet) {e : Expression} → e ≡ net.alg.expression → ((s : S) → is_sig s → In (carrier_of e) (value s)) → (s : S) → is_sig s → In (carrier net) (value s)
signs_in is_sig value net same f s h = subst (λ (x : Expression). In (carrier_of x) (value s)) same (f s h)

fewer : {X : Type 0} (p : X → Bool) (xs : List X) → length (filter p xs) ≤ length xs
fewer p [] = omega arith
fewer p (x ∷ xs) = by (p x) (fewer p xs)
  where
    by : (b : Bool) → length (filter p xs) ≤ length xs → length (cond b (x ∷ filter p xs) (filter p xs)) ≤ length (x ∷ xs)
    by true more = omega (arith, more)
    by false more = omega (arith, more)

-- an entry for each destination and each of a node's arcs can be counted
pub store_fits : (net : PureNet) → IsNet net → (i dests w : ℕ) → dests ≤ MOST_DESTS → w ≡ length (arcs_from net i) → dests * w < 2 ^ 64
store_fits net n i dests w few same =
    let arcs : length (arcs_from net i) ≤ length net.arcs = fewer (λ (a : PureArc). a.tail == i) net.arcs in
    let room : length net.arcs ≤ MAX_ARCS = n.arc_room in
    let least : w ≤ MAX_ARCS = omega (arith, arcs, room, same) in
    let most : dests * w ≤ MOST_DESTS * MAX_ARCS = mul-le-mul few least in
    omega (arith, most)

-- the neighbour at the place before an offer's gives it
pub next_near : {L : Type 0} (stands_for : L → PureLabel → Type 0) (net : PureNet) (i : ℕ) (ns : List (Neighbour L)) → AreNeighbours stands_for head_of (arcs_from net i) ns → (offer : ℕ) (d : Neighbour L) → 0 < offer → offer ≤ length ns
    → Some (get_or ns (offer - 1) d).node.0 ≡ next_at net i offer
next_near stands_for net i ns are zero d l m = absurd (omega (arith, l))
next_near stands_for net i ns are (suc k) d l m =
    let near = near_at stands_for net i ns are k d (omega (arith, m)) in
    let same : suc k - 1 ≡ k = omega arith in
    rw (same, near.1) (ap (λ z. Some z) near.2.node)
