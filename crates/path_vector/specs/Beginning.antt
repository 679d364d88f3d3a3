-- Which nodes may begin: new ones, and those that are carried from a machine in which nothing is on its way.
-- Lemmas, so that proofs of other crates may cite them.
use Rattle.std.proofs.Common.{◌≡◌, ℕ, zero, suc, ◌+◌, ◌<◌, List, [], ◌∷◌, Bool, true, false, length, map, cond, slice_get, Option, Some, None, subst, refl, sym, ap, ◌∙◌, arith}
use Rattle.std.specs.Prelude.{option_map, option_and_then}
use Rattle.std.specs.List.{find, range_with_len}
use Rattle.std.proofs.lemmas.List.{length-map}
use Rattle.std.proofs.lemmas.List.FromFn.{length-map-range_with_len}
use Rattle.std.proofs.lemmas.Option.{slice_get-map}
use Rattle.net_graph.specs.Nets.{PureArc, PureNet, IsNet, is_arc_between, has_arc}
use Rattle.net_graph.specs.Routes.{PureRoute}
use Rattle.node_core.specs.Machine.{Machine, Drained}
use Rattle.path_vector.specs.Node.{PvState, PureUpdate, may_be_of, spoke_on, new_node, carried}
use Rattle.path_vector.specs.Coherent.{IsCoherent, AreNodesOf, MayBegin}
use Rattle.path_vector.specs.Items.{found_some, found_none}
use Rattle.path_vector.specs.Choosing.{found_there}
use Rattle.path_vector.specs.Delivering.{node_is}
use Rattle.path_vector.specs.Quiet.{heard_is_row}

-- ---- new nodes

-- nodes each of which is new may begin
pub all_new_may_begin : (net : PureNet) (nodes : List PvState) → length nodes ≡ length net.nodes → ((i : ℕ) (s : PvState) → slice_get nodes i ≡ Some s → s ≡ new_node net i) → MayBegin net nodes
all_new_may_begin net nodes count new = record {
  count = count;
  fresh = λ i s e. subst (λ (z : PvState). (z.net ≡ net) × (z.number ≡ i) × (z.is_begun ≡ false)) (sym (new i s e)) (refl, refl, refl);
  heard = λ a s t dest stands e f.
      subst (λ (z : PvState). z.heard a.id dest ≡ cond (spoke_on t a) (t.rows dest) None) (sym (new a.tail s e))
      (subst (λ (z : PvState). None ≡ cond (spoke_on z a) (z.rows dest) None) (sym (new a.head t f)) refl);
  routes = λ i dest s r e f. absurd (none i dest s r (new i s e) f);
}
  where
    none : (i dest : ℕ) (s : PvState) (r : PureRoute) → s ≡ new_node net i → s.rows dest ≡ Some r → ⊥
    none i dest s r e f = let g : None ≡ Some r = sym (ap (λ (z : PvState). z.rows dest) e) ∙ f in cc

at_range : {X : Type 0} (f : ℕ → X) (a n i : ℕ) (x : X) → slice_get (map f (range_with_len a n)) i ≡ Some x → x ≡ f (a + i)
at_range f a zero i x e = absurd (cc)
at_range f a (suc n) zero x e =
    let place : a ≡ a + 0 = omega arith in
    let same : f a ≡ x = cc in
    sym same ∙ ap f place
at_range f a (suc n) (suc i) x e =
    let place : a + 1 + i ≡ a + suc i = omega arith in
    at_range f (a + 1) n i x e ∙ ap f place

-- the new nodes of a network may begin
pub new_nodes_may_begin : (net : PureNet) → MayBegin net (map (new_node net) (range_with_len 0 (length net.nodes)))
new_nodes_may_begin net = all_new_may_begin net (map (new_node net) (range_with_len 0 (length net.nodes))) (length-map-range_with_len (new_node net) 0 (length net.nodes))
    (λ i s e. let place : 0 + i ≡ i = omega arith in at_range (new_node net) 0 (length net.nodes) i s e ∙ ap (new_node net) place)

-- ---- carried nodes

-- a node of the list is the machine's of its place
pub node_at : (c : Machine PvState PureUpdate) (i k : ℕ) (states : List PvState) (s : PvState) → AreNodesOf c i states → slice_get states k ≡ Some s → c.node (i + k) ≡ Some s
node_at c i k [] s are e = absurd (cc)
node_at c i zero (t ∷ states) s are e =
    let place : i ≡ i + 0 = omega arith in
    let same : t ≡ s = cc in
    subst (λ z. c.node z ≡ Some s) place (are.0 ∙ ap (λ z. Some z) same)
node_at c i (suc k) (t ∷ states) s are e =
    let place : i + 1 + k ≡ i + suc k = omega arith in
    subst (λ z. c.node z ≡ Some s) place (node_at c (i + 1) k states s are.1 e)

-- and nodes that stand so in the machine are its nodes in order
pub nodes_in_order : (c : Machine PvState PureUpdate) (i : ℕ) (states : List PvState) → ((k : ℕ) (s : PvState) → slice_get states k ≡ Some s → c.node (i + k) ≡ Some s) → AreNodesOf c i states
nodes_in_order c i [] at = tt
nodes_in_order c i (s ∷ states) at =
    let place : i + 0 ≡ i = omega arith in (
      subst (λ z. c.node z ≡ Some s) place (at 0 s refl),
      nodes_in_order c (i + 1) states (λ k t e.
          let next : i + suc k ≡ i + 1 + k = omega arith in
          subst (λ z. c.node z ≡ Some t) next (at (suc k) t e)),
    )

module _ (old net : PureNet) (n : IsNet old) (same : net ≡ record old { arcs = net.arcs }) (c : Machine PvState PureUpdate) (k : IsCoherent old c) (drained : Drained c) (states : List PvState) (are : AreNodesOf c 0 states)
    (count : length states ≡ length old.nodes)
  where
    node_of : (i : ℕ) (s : PvState) → slice_get states i ≡ Some s → c.node i ≡ Some s
    node_of i s e =
        let place : 0 + i ≡ i = omega arith in
        subst (λ z. c.node z ≡ Some s) place (node_at c 0 i states s are e)

    -- what holds of each node that is carried
    at_carried : (P : PvState → Type 0) (i : ℕ) → ((s : PvState) → c.node i ≡ Some s → P (carried net s)) → (q : PvState) → slice_get (map (carried net) states) i ≡ Some q → P q
    at_carried P i h q e = by (slice_get states i) refl (sym (slice_get-map (carried net) states i) ∙ e)
      where
        by : (o : Option PvState) → slice_get states i ≡ o → option_map (carried net) o ≡ Some q → P q
        by None f g = absurd (cc)
        by (Some s) f g = let one : carried net s ≡ q = cc in subst P one (h s (node_of i s f))

    heard_on : (a : PureArc) (dest : ℕ) (s t : PvState) → c.node a.tail ≡ Some s → c.node a.head ≡ Some t
        → option_and_then (λ (b : PureArc). s.heard b.id dest) (find (is_arc_between a.tail a.head) old.arcs) ≡ cond (has_arc old a.tail a.head) (t.rows dest) None
    heard_on a dest s t e f = by (has_arc old a.tail a.head) refl
      where
        by : (b : Bool) → has_arc old a.tail a.head ≡ b → option_and_then (λ (b : PureArc). s.heard b.id dest) (find (is_arc_between a.tail a.head) old.arcs) ≡ cond b (t.rows dest) None
        by false g = rw (found_none (is_arc_between a.tail a.head) old.arcs g) refl
        by true g =
            let found = found_some (is_arc_between a.tail a.head) old.arcs g in
            let there = found_there old a.tail a.head found.0 n found.1 in
            rw found.1 (heard_is_row old n c k dest drained found.0 s t there.stands (subst (λ z. c.node z ≡ Some s) (sym there.tail) e) (subst (λ z. c.node z ≡ Some t) (sym there.head) f))

    heard_carried : (a : PureArc) (dest : ℕ) (s t : PvState) → slice_get net.arcs a.id ≡ Some a → c.node a.tail ≡ Some s → c.node a.head ≡ Some t
        → (carried net s).heard a.id dest ≡ cond (spoke_on (carried net t) a) ((carried net t).rows dest) None
    heard_carried a dest s t stands e f =
        let from = (node_is old c k a.tail s e).0 in
        let to = (node_is old c k a.head t f).0 in
        rw (stands, from, to) (heard_on a dest s t e f)

    -- the nodes may begin on a network that differs in its arcs alone
    pub carried_may_begin : MayBegin net (map (carried net) states)
    carried_may_begin = record {
      count = length-map states (carried net) ∙ (count ∙ ap (λ (z : PureNet). length z.nodes) (sym same));
      fresh = λ i. at_carried (λ z. (z.net ≡ net) × (z.number ≡ i) × (z.is_begun ≡ false)) i (λ s e. (refl, (node_is old c k i s e).1, refl));
      heard = λ a p q dest stands e f.
          at_carried (λ z. z.heard a.id dest ≡ cond (spoke_on q a) (q.rows dest) None) a.tail
          (λ s g. at_carried (λ z. (carried net s).heard a.id dest ≡ cond (spoke_on z a) (z.rows dest) None) a.head (λ t h. heard_carried a dest s t stands g h) q f) p e;
      routes = λ i dest q r e f.
          at_carried (λ z. z.rows dest ≡ Some r → (dest < length net.dests) × (may_be_of net i r ≡ true)) i
          (λ s g h. subst (λ z. (dest < length z.dests) × (may_be_of z i r ≡ true)) (sym same) (k.routes i dest s r g h)) q e f;
    }
