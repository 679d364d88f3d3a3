-- Each route in a machine that a coherent one leads to has a value that can occur. Lemmas, so that proofs of other
-- crates may cite them.
use Rattle.std.proofs.Common.{◌≡◌, ℕ, suc, inl, inr, List, [], ◌∷◌, ◌++◌, Bool, true, false, ◌&&◌, cond, Option, Some, slice_get, length, option_map, option_and_then, subst, refl, sym, ◌∙◌, ap, arith}
use Rattle.std.specs.Prelude.{◌==◌}
use Rattle.std.specs.List.{AllByRecursion, find}
use Rattle.std.proofs.lemmas.Bool.{eqb-true, and_parts}
use Rattle.std.proofs.lemmas.Option.{same_Some}
use Rattle.meta_base.specs.declared.ids.Delivery.{Delivery}
use Rattle.alg_model.specs.Application.{App}
use Rattle.net_graph.specs.Nets.{PureArc, PureNet, IsNet, is_arc_between, arcs_to}
use Rattle.net_graph.specs.Routes.{PureRoute}
use Rattle.net_graph.specs.Tables.{Offers, IsChoice}
use Rattle.node_core.specs.Kinds.{on_arc}
use Rattle.node_core.specs.Machine.{Machine, changed_at, clock_after, step_of, Deliver, replay_from}
use Rattle.node_core.specs.MachineLaws.{same_test, all_join, on_arc_all, option_from, option_then, IsDelivery, delivery_of, replay_keeps}
use Rattle.path_vector.specs.Node.{PvState, PureUpdate, same_row, choice, fits, reported_on, heard_with, taken, path_vector}
use Rattle.path_vector.specs.Coherent.{heard_of, IsCoherent}
use Rattle.path_vector.specs.Items.{IsItem, item_at}
use Rattle.path_vector.specs.Reporting.{id_is_place, reported_all}
use Rattle.path_vector.specs.Choosing.{IsArcThere, found_there, arc_is_found}
use Rattle.path_vector.specs.Delivering.{node_is, delivery_keeps}
use Rattle.vector_rest.specs.Reached.{reached, start_values}
use Rattle.vector_rest.specs.ReachedLaws.{reached_next, reached_start, origin_there, heard_there, waiting_there}
use Rattle.vector_rest.specs.Reaching.{IsReached, SaysReached, HeardReached, WaitsReached}

all_from : {X : Type 0} (P : X → Type 0) (xs : List X) → ((x : X) → IsItem x xs → P x) → AllByRecursion P xs
all_from P [] h = tt
all_from P (x ∷ xs) h = (h x (inl refl), all_from P xs (λ y i. h y (inr i)))

-- what was heard of a neighbour was heard on the arc to it
pub record IsHeard (net : PureNet) (s : PvState) (i j dest : ℕ) (next : PureRoute) : Type 0 where
  pub arc : PureArc
  pub there : IsArcThere net i j arc
  pub heard : s.heard arc.id dest ≡ Some next

pub heard_from : (net : PureNet) → IsNet net → (c : Machine PvState PureUpdate) → IsCoherent net c → (i dest : ℕ) (s : PvState) → c.node i ≡ Some s
    → (j : ℕ) (next : PureRoute) → heard_of s dest j ≡ Some next → IsHeard net s i j dest next
heard_from net n c k i dest s node j next e =
    let is = node_is net c k i s node in
    let reported = option_then (λ (a : PureArc). s.heard a.id dest) (find (is_arc_between s.number j) s.net.arcs) next e in
    let on_net : find (is_arc_between s.number j) net.arcs ≡ Some reported.0 = subst (λ (z : PureNet). find (is_arc_between s.number j) z.arcs ≡ Some reported.0) is.0 reported.1 in
    let found : find (is_arc_between i j) net.arcs ≡ Some reported.0 = subst (λ z. find (is_arc_between z j) net.arcs ≡ Some reported.0) is.1 on_net in
    record { arc = reported.0; there = found_there net i j reported.0 n found; heard = reported.2 }

-- a delivery to a coherent machine, in words of path-vector nodes
module _ (net : PureNet) (n : IsNet net) (c d : Machine PvState PureUpdate) (a : ℕ) (kc : IsCoherent net c) (w : IsDelivery path_vector net c a d) where
  pub record IsTaker : Type 0 where
    pub arc : PureArc
    pub id : arc.id ≡ a
    pub stands : slice_get net.arcs arc.id ≡ Some arc
    pub tail : arc.tail ≡ w.number
    pub fit : fits w.node a w.message ≡ true

  pub taker : IsTaker
  taker =
      let from = option_from (λ (arc : PureArc). arc.tail) (slice_get net.arcs a) w.number w.listens in
      let place = id_is_place 0 a net.arcs from.0 n.arc_ids from.1 in
      let id : from.0.id ≡ a = omega (arith, place) in
      let stands : slice_get net.arcs from.0.id ≡ Some from.0 = subst (λ z. slice_get net.arcs z ≡ Some from.0) (sym id) from.1 in
      let node : c.node from.0.tail ≡ Some w.node = subst (λ z. c.node z ≡ Some w.node) (sym from.2) w.there in
      let all : AllByRecursion (λ u. fits w.node a u ≡ true) (c.link a) =
      subst (λ z. AllByRecursion (λ u. fits w.node z u ≡ true) (c.link z)) id (kc.fit from.0 w.node stands node) in
      let front : AllByRecursion (λ u. fits w.node a u ≡ true) (w.message ∷ w.rest) = subst (λ l. AllByRecursion (λ u. fits w.node a u ≡ true) l) w.front all in
      record { arc = from.0; id = id; stands = stands; tail = from.2; fit = front.0 }

  abbrev pub clock : ℕ
  clock = clock_after path_vector c w.number w.message

  -- the node after it, what it puts out, and its row
  abbrev pub after : PvState
  after = (taken w.node a w.message clock).0

  abbrev pub out : List (ℕ × PureUpdate)
  out = (taken w.node a w.message clock).1

  abbrev pub row : Option PureRoute
  row = choice w.node.net w.message.dest w.node.number (heard_with w.node.heard a w.message)

  pub steps : step_of path_vector c a w.number w.node w.message ≡ taken w.node a w.message clock
  steps = rw taker.fit refl

  pub node_is_after : (j : ℕ) → d.node j ≡ changed_at c.node w.number (Some after) j
  node_is_after j = ap (λ (m : Machine PvState PureUpdate). m.node j) w.makes ∙ ap (λ (p : PvState × List (ℕ × PureUpdate)). changed_at c.node w.number (Some p.0) j) steps

  pub link_is_after : (b : ℕ) → d.link b ≡ changed_at c.link a w.rest b ++ on_arc b out
  link_is_after b = ap (λ (m : Machine PvState PureUpdate). m.link b) w.makes ∙ ap (λ (p : PvState × List (ℕ × PureUpdate)). changed_at c.link a w.rest b ++ on_arc b p.1) steps

  pub here_after : d.node w.number ≡ Some after
  here_after = node_is_after w.number ∙ rw (same_test w.number) refl

  pub row_after : after.rows w.message.dest ≡ row
  row_after = rw (same_test w.message.dest) refl

  -- what holds of the node that took the update, and of the others, holds of each
  pub each_after : (P : ℕ → PvState → Type 0) → P w.number after → ((j : ℕ) (q : PvState) → (j == w.number) ≡ false → c.node j ≡ Some q → P j q) → (j : ℕ) (q : PvState) → d.node j ≡ Some q → P j q
  each_after P here there j q e = by (j == w.number) refl (sym (node_is_after j) ∙ e)
    where
      by : (b : Bool) → (j == w.number) ≡ b → cond b (Some after) (c.node j) ≡ Some q → P j q
      by true f g = subst (λ i. P i q) (sym (eqb-true j w.number f)) (subst (λ z. P w.number z) (same_Some _ _ g) here)
      by false f g = there j q f g

module _ (net : PureNet) (n : IsNet net) (start : Machine PvState PureUpdate) (k : IsCoherent net start) where
  -- an offer of what was heard, and so a row
  offered : (c : Machine PvState PureUpdate) → IsCoherent net c → HeardReached net start c → (i dest : ℕ) (s : PvState) → c.node i ≡ Some s
      → (r : PureRoute) → Offers net dest (heard_of s dest) i r → IsReached net start dest r
  offered c kc heard i dest s node r (inl own) = reached_start net (start_values net start dest) (length r.path) r.value (origin_there net n start k dest i r.value own.0)
  offered c kc heard i dest s node r (inr (j, o)) =
      let from = heard_from net n c kc i dest s node j o.next o.is_reported in
      let before = heard from.arc s dest o.next from.there.stands (subst (λ z. c.node z ≡ Some s) (sym from.there.tail) node) from.heard in
      let longer : length r.path ≡ length (i ∷ o.next.path) = ap (λ (p : List ℕ). length p) o.path in
      let steps : suc (length o.next.path) ≡ length r.path = omega (arith, longer) in
      subst (λ m. IsItem r.value (reached net (start_values net start dest) m)) steps
      (reached_next net (start_values net start dest) (length o.next.path) o.next.value r.value from.arc before from.there.item (weighs from.arc from.there))
    where
      weighs : (x : PureArc) → IsArcThere net i j x → App net.alg.expression x.label o.next.value ≡ Some r.value
      weighs x there = by (find (is_arc_between i j) net.arcs) (arc_between x there) o.weighs
        where
          by : (f : Option PureArc) → f ≡ Some x → option_and_then (λ l. option_and_then (App net.alg.expression l) (Some o.next.value)) (option_map (λ (a : PureArc). a.label) f) ≡ Some r.value
              → App net.alg.expression x.label o.next.value ≡ Some r.value
          by f e g = rw e at g

          arc_between : (x : PureArc) → IsArcThere net i j x → find (is_arc_between i j) net.arcs ≡ Some x
          arc_between x there = subst (λ z. find (is_arc_between z j) net.arcs ≡ Some x) there.tail (subst (λ z. find (is_arc_between x.tail z) net.arcs ≡ Some x) there.head (arc_is_found net x n there.item))

  pub rows_reached : (c : Machine PvState PureUpdate) → IsCoherent net c → HeardReached net start c → (i dest : ℕ) (s : PvState) (r : PureRoute) → c.node i ≡ Some s → s.rows dest ≡ Some r → IsReached net start dest r
  rows_reached c kc heard i dest s r node e =
      let may = kc.routes i dest s r node e in
      let chosen : IsChoice net dest (heard_of s dest) i (Some r) = subst (λ o. IsChoice net dest (heard_of s dest) i o) e (kc.chosen i dest s node may.0) in
      offered c kc heard i dest s node r chosen.0

  -- at the start
  start_heard : HeardReached net start start
  start_heard a s dest r stands node e = reached_start net (start_values net start dest) (length r.path) r.value (heard_there net n start k dest a s r (item_at net.arcs a.id a stands) node e)

  start_waits : WaitsReached net start start
  start_waits a stands = all_from (SaysReached net start) (start.link a.id)
      (λ u i r e. reached_start net (start_values net start u.dest) (length r.path) r.value (waiting_there net n start k u.dest a u r (item_at net.arcs a.id a stands) i refl e))

  -- a delivery keeps that
  module _ (c d : Machine PvState PureUpdate) (a : ℕ) (kc : IsCoherent net c) (kd : IsCoherent net d) (w : IsDelivery path_vector net c a d) (heard : HeardReached net start c) (waits : WaitsReached net start c) where
    front : AllByRecursion (SaysReached net start) (w.message ∷ w.rest)
    front =
        let x = taker net n c d a kc w in
        subst (λ l. AllByRecursion (SaysReached net start) l) w.front (subst (λ z. AllByRecursion (SaysReached net start) (c.link z)) x.id (waits x.arc x.stands))

    heard_next : HeardReached net start d
    heard_next b q dest r stands e h =
        each_after net n c d a kc w (λ j z. b.tail ≡ j → z.heard b.id dest ≡ Some r → IsReached net start dest r)
        (λ tail g. by (b.id == a && dest == w.message.dest) refl tail g)
        (λ j z ne old tail g. heard b z dest r stands (subst (λ i. c.node i ≡ Some z) (sym tail) old) g) b.tail q e refl h
      where
        by : (t : Bool) → (b.id == a && dest == w.message.dest) ≡ t → b.tail ≡ w.number → cond t w.message.route (w.node.heard b.id dest) ≡ Some r → IsReached net start dest r
        by true f tail g =
            let is : dest ≡ w.message.dest = eqb-true dest w.message.dest (and_parts (b.id == a) (dest == w.message.dest) f).1 in
            subst (λ z. IsReached net start z r) (sym is) (front.0 r g)
        by false f tail g = heard b w.node dest r stands (subst (λ i. c.node i ≡ Some w.node) (sym tail) w.there) g

    waits_next : WaitsReached net start d
    waits_next y stands =
        subst (λ l. AllByRecursion (SaysReached net start) l) (sym (link_is_after net n c d a kc w y.id))
        (all_join (SaysReached net start) (changed_at c.link a w.rest y.id) (on_arc y.id (out net n c d a kc w)) (by (y.id == a) refl)
        (on_arc_all (SaysReached net start) y.id (out net n c d a kc w) (puts (same_row (row net n c d a kc w) (w.node.rows w.message.dest)))))
      where
        by : (t : Bool) → (y.id == a) ≡ t → AllByRecursion (SaysReached net start) (cond t w.rest (c.link y.id))
        by true e = front.1
        by false e = waits y stands

        says : (r : PureRoute) → row net n c d a kc w ≡ Some r → IsReached net start w.message.dest r
        says r e = rows_reached d kd heard_next w.number w.message.dest (after net n c d a kc w) r (here_after net n c d a kc w) (row_after net n c d a kc w ∙ e)

        puts : (t : Bool) → AllByRecursion (λ (p : ℕ × PureUpdate). SaysReached net start p.1)
            (cond t [] (reported_on (arcs_to w.node.net w.node.number) (record { dest = w.message.dest; route = row net n c d a kc w; stamp = clock net n c d a kc w })))
        puts true = tt
        puts false = reported_all (SaysReached net start) (arcs_to w.node.net w.node.number) (record { dest = w.message.dest; route = row net n c d a kc w; stamp = clock net n c d a kc w }) says

    pub reached_after : HeardReached net start d × WaitsReached net start d
    reached_after = (heard_next, waits_next)

  -- so it holds wherever the start leads
  pub record AreReached (c : Machine PvState PureUpdate) : Type 0 where
    pub coherent : IsCoherent net c
    pub heard : HeardReached net start c
    pub waits : WaitsReached net start c

  delivered : (c d : Machine PvState PureUpdate) (a : ℕ) → AreReached c → Deliver path_vector net c a ≡ Some d → AreReached d
  delivered c d a are e =
      let kd = delivery_keeps net c d a n are.coherent e in
      let next = reached_after c d a are.coherent kd (delivery_of path_vector net c a d e) are.heard are.waits in
      record { coherent = kd; heard = next.0; waits = next.1 }

  pub replays_reach : (journal : List Delivery) (c : Machine PvState PureUpdate) → replay_from path_vector net start journal ≡ Some c → AreReached c
  replays_reach journal c e = replay_keeps path_vector net AreReached delivered journal start c (record { coherent = k; heard = start_heard; waits = start_waits }) e
