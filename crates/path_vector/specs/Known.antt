-- Routes in an algebra's own form, and what a node offers itself by them. Sigs stand for values by `value`.
use Rattle.std.specs.Prelude.{◌≡◌, ℕ, ◌==◌, true, List, [], ◌∷◌, Option, Some, None, cond, find, length, option_map, option_and_then, slice_get}
use Rattle.std.proofs.Math.ListN.{set}
use Rattle.std.specs.Borrow.{Bor}
use Rattle.alg_model.specs.Expressions.{PureCarrier, PureValue, PureLabel}
use Rattle.meta_base.specs.declared.ids.ArcId.{ArcId}
use Rattle.meta_base.specs.declared.ids.NodeId.{NodeId}
use Rattle.meta_base.specs.NodePaths.{numbers}
use Rattle.net_graph.specs.Nets.{PureArc, PureNet}
use Rattle.net_graph.specs.Routes.{PureRoute, is_better}
use Rattle.path_vector.specs.declared.known.Known.{Known}
use Rattle.path_vector.specs.declared.offer.Offer.{Offer}
use Rattle.path_vector.specs.Node.{may_be_of}

module _ {S : Type 0} (value : S → PureValue) where
  -- what a known route stands for
  abbrev pub known_route : Known S → PureRoute
  known_route k = record { value = value k.sig; path = numbers k.path }

  -- a route of a node by its value and what lies after the node on its path
  abbrev pub route_through : ℕ → S → List NodeId → PureRoute
  route_through node sig after = record { value = value sig; path = node ∷ numbers after }

  -- what an offer to a node stands for
  abbrev pub offered_route : ℕ → Offer S → PureRoute
  offered_route node o = route_through node o.sig o.after.now

-- the offer whose value stands in a place, by what lies after the node on its path
abbrev pub placed : {S : Type 0} → Option (Bor (List NodeId)) → Option S → Option (Offer S)
placed after place = option_and_then (λ b. option_map (λ s. record { sig = s; after = b }) place) after

-- a neighbour at an arc, and what was heard of it for each destination
pub record Listened (L S : Type 0) : Type 0 where
  pub arc : ArcId
  pub label : L
  pub heard : List (Option (Known S))

-- the entry for a destination of what was heard, or of the rows
abbrev pub entry_of : {X : Type 0} → List (Option X) → ℕ → Option X
entry_of entries dest = option_and_then (λ x. x) (slice_get entries dest)

module _ {L S : Type 0} (value : S → PureValue) where
  -- what was heard on an arc for a destination
  abbrev pub heard_by : List (Listened L S) → ℕ → ℕ → Option PureRoute
  heard_by neighbours a dest = option_and_then (λ (n : Listened L S). option_map (known_route value) (entry_of n.heard dest)) (find (λ (n : Listened L S). n.arc.0 == a) neighbours)

module _ {L S : Type 0} (stands_for : L → PureLabel → Type 0) (is_sig : S → Type 0) (value : S → PureValue) (net : PureNet) where
  -- the neighbour at an arc: the arc's label, and for each destination of the network a route that may be the
  -- speaker's, or none
  pub record IsNeighbour (a : PureArc) (n : Listened L S) : Type 0 where
    pub arc : n.arc.0 ≡ a.id
    pub label : stands_for n.label a.label
    pub count : length n.heard ≡ length net.dests
    pub known : (dest : ℕ) (k : Known S) → entry_of n.heard dest ≡ Some k
        → is_sig k.sig × (may_be_of net a.head (known_route value k) ≡ true)

  -- the label is the arc's, and the route that was heard on it, if there is one, may be the speaker's
  pub record MayOffer (a : PureArc) (l : L) (known : Option (Known S)) : Type 0 where
    pub label : stands_for l a.label
    pub route : (k : Known S) → known ≡ Some k → is_sig k.sig × (may_be_of net a.head (known_route value k) ≡ true)

  -- a neighbour for each of these arcs, in order
  abbrev pub AreNeighbours : List PureArc → List (Listened L S) → Type 0
  AreNeighbours [] [] = Unit {0}
  AreNeighbours (a ∷ arcs) (n ∷ neighbours) = IsNeighbour a n × AreNeighbours arcs neighbours
  AreNeighbours [] (n ∷ neighbours) = ⊥
  AreNeighbours (a ∷ arcs) [] = ⊥

-- the better of two offers; the first, where neither is better
abbrev pub better_of : PureCarrier → Option PureRoute → Option PureRoute → Option PureRoute
better_of c None next = next
better_of c (Some b) None = Some b
better_of c (Some b) (Some x) = cond (is_better c x b) (Some x) (Some b)

-- the neighbour at a place has heard this for a destination, and had heard that
pub record HasHeard {L S : Type 0} (dest : ℕ) (route earlier : Option (Known S)) (old : List (Listened L S)) (place : ℕ) (n : Listened L S) (new : List (Listened L S)) : Type 0 where
  pub now : Listened L S
  pub at : new ≡ set old place now
  pub arc : now.arc ≡ n.arc
  pub label : now.label ≡ n.label
  pub heard : now.heard ≡ set n.heard dest route
  pub was : entry_of n.heard dest ≡ earlier
