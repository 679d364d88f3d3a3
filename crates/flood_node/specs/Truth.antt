-- In every run flooding nodes hold true cards of nodes that they reach, and of all of these once nothing is on its way.
-- Lemmas, so that proofs of other crates may cite them.
use Rattle.std.proofs.Common.{◌≡◌, ℕ, zero, suc, ◌<◌, ◌⊎◌, inl, inr, List, [], ◌∷◌, ◌++◌, Bool, true, false, ◌||◌, length, slice_get, Some, option_map, refl, sym, ap, ◌∙◌, subst, arith}
use Rattle.std.specs.Prelude.{◌==◌}
use Rattle.std.specs.List.{AllByRecursion, list_any}
use Rattle.std.proofs.lemmas.Bool.{eqb-true}
use Rattle.std.proofs.lemmas.Option.{same_Some, slice_get_within}
use Rattle.meta_base.specs.declared.ids.Delivery.{Delivery}
use Rattle.net_graph.specs.Nets.{PureArc, PureNet, IsNet, IsArcOf, AreDistinct, is_arc_between, has_arc}
use Rattle.net_graph.specs.NetLaws.{all_push, either_false}
use Rattle.net_graph.specs.ArcLaws.{all_at}
use Rattle.node_core.specs.Kinds.{on_arc, listener, speaker}
use Rattle.node_core.specs.Machine.{Machine, AreUnbegun, Start, Deliver, Replay, Drained, changed_at}
use Rattle.node_core.specs.MachineLaws.{same_test, all_join, option_from, IsDelivery, delivery_of, deliver_runs, start_runs, replay_keeps}
use Rattle.flood_node.specs.Cards.{PureCard, PureFlooded, card_of}
use Rattle.flood_node.specs.Node.{FloodState, has_card, holds, Begin, flooding}
use Rattle.flood_node.specs.Reach.{IsChain, Reach}
use Rattle.flood_node.specs.Knowing.{IsReachedCard, is_waiting, same_node, IsFlood}
use Rattle.flood_node.specs.Lawful.{flooding_is_lawful}
use Rattle.flood_node.specs.Steps.{any_left, any_right, any_one, any_of_one, step_new, step_old, still_holds, holds_new, held_before, own_message, begun_at, new_at, new_count}
use Rattle.flood_node.specs.Deliveries.{clock, taker, sent, passed, taker_there, link_after, was, sent_new, sent_on, stayed, held_after}

-- cards of distinct nodes, and one of another
apart_more : (cards : List PureCard) (card : PureCard) → AreDistinct same_node cards → has_card cards card.node ≡ false → AreDistinct same_node (cards ++ card ∷ [])
apart_more [] card h e = (tt, tt)
apart_more (c ∷ cards) card h e =
    let parts = either_false (c.node == card.node) (has_card cards card.node) e in
    (all_push (λ (y : PureCard). same_node c y ≡ false) cards card h.0 parts.0, apart_more cards card h.1 parts.1)

-- the arc at a place joins its nodes
pub arc_there : (arcs : List PureArc) (k : ℕ) (a : PureArc) → slice_get arcs k ≡ Some a → list_any (is_arc_between a.tail a.head) arcs ≡ true
arc_there [] k a e = absurd (cc)
arc_there (b ∷ arcs) zero a e =
    let same : b ≡ a = same_Some _ _ e in
    let first : is_arc_between a.tail a.head b ≡ true = rw (same, same_test a.tail, same_test a.head) refl in
    rw first refl
arc_there (b ∷ arcs) (suc k) a e = by (is_arc_between a.tail a.head b) (arc_there arcs k a e)
  where
    by : (t : Bool) → list_any (is_arc_between a.tail a.head) arcs ≡ true → (t || list_any (is_arc_between a.tail a.head) arcs) ≡ true
    by true r = refl
    by false r = r

-- and the arc that joins two nodes stands at a place
pub arc_found : (arcs : List PureArc) (i j : ℕ) → list_any (is_arc_between i j) arcs ≡ true → (k : ℕ) × (a : PureArc) × (slice_get arcs k ≡ Some a) × (a.tail ≡ i) × (a.head ≡ j)
arc_found [] i j e = absurd (cc)
arc_found (a ∷ arcs) i j e = by (a.tail == i) refl (a.head == j) refl (λ h. arc_found arcs i j h)
  where
    later : (list_any (is_arc_between i j) arcs ≡ true → (k : ℕ) × (b : PureArc) × (slice_get arcs k ≡ Some b) × (b.tail ≡ i) × (b.head ≡ j)) → list_any (is_arc_between i j) arcs ≡ true → (k : ℕ) × (b : PureArc) × (slice_get (a ∷ arcs) k ≡ Some b) × (b.tail ≡ i) × (b.head ≡ j)
    later rest h = let more = rest h in (suc more.0, more.1, more.2, more.3, more.4)

    by : (t : Bool) → (a.tail == i) ≡ t → (h : Bool) → (a.head == j) ≡ h → (list_any (is_arc_between i j) arcs ≡ true → (k : ℕ) × (b : PureArc) × (slice_get arcs k ≡ Some b) × (b.tail ≡ i) × (b.head ≡ j)) → (k : ℕ) × (b : PureArc) × (slice_get (a ∷ arcs) k ≡ Some b) × (b.tail ≡ i) × (b.head ≡ j)
    by true f true g rest = (zero, a, refl, eqb-true a.tail i f, eqb-true a.head j g)
    by true f false g rest = later rest (rw (f, g) at e)
    by false f h g rest = later rest (rw f at e)

arc_place : (net : PureNet) (i j : ℕ) → has_arc net i j ≡ true → (a : ℕ) × (listener net a ≡ Some i) × (speaker net a ≡ Some j)
arc_place net i j e =
    let found = arc_found net.arcs i j e in
    (found.0, ap (option_map (λ (arc : PureArc). arc.tail)) found.2 ∙ ap (λ z. Some z) found.3, ap (option_map (λ (arc : PureArc). arc.head)) found.2 ∙ ap (λ z. Some z) found.4)

-- who listens on an arc has an arc to who speaks on it
pub hears : (net : PureNet) (a i : ℕ) → listener net a ≡ Some i → (j : ℕ) × (speaker net a ≡ Some j) × (has_arc net i j ≡ true)
hears net a i e =
    let from = option_from (λ (arc : PureArc). arc.tail) (slice_get net.arcs a) i e in
    (from.0.head, ap (option_map (λ (arc : PureArc). arc.head)) from.1, subst (λ z. has_arc net z from.0.head ≡ true) from.2 (arc_there net.arcs a from.0 from.1))

pub hears_from : (net : PureNet) (a i j : ℕ) → listener net a ≡ Some i → speaker net a ≡ Some j → has_arc net i j ≡ true
hears_from net a i j e f = let h = hears net a i e in subst (λ z. has_arc net i z ≡ true) (same_Some _ _ (sym h.1 ∙ f)) h.2

-- what a node reaches is reached by those that have an arc to it
pub reach_more : (net : PureNet) (i j k : ℕ) → has_arc net i j ≡ true → Reach net j k → Reach net i k
reach_more net i j k e r = (j ∷ r.0, (e, r.1))

pub reached_more : (net : PureNet) (i j : ℕ) (card : PureCard) → has_arc net i j ≡ true → IsReachedCard net j card → IsReachedCard net i card
reached_more net i j card e r = record { is_true = r.is_true; is_reached = reach_more net i j card.node e r.is_reached }

module _ (net : PureNet) (n : IsNet net) where
  -- a node's own card is one that it reaches
  own_is_reached : (i : ℕ) → i < length net.nodes → IsReachedCard net i (card_of net i)
  own_is_reached i l = record { is_true = record { node_in = l; card_is = refl }; is_reached = ([], refl) }

  pub head_in : (a j : ℕ) → speaker net a ≡ Some j → j < length net.nodes
  head_in a j e =
      let from = option_from (λ (arc : PureArc). arc.head) (slice_get net.arcs a) j e in
      subst (λ z. z < length net.nodes) from.2 (all_at (IsArcOf net.alg (length net.nodes)) net.arcs a from.0 n.arcs_in from.1).head_in

  module _ (nodes : List FloodState) (u : AreUnbegun flooding net 0 nodes) where
    pub begun_is : (i : ℕ) (s : FloodState) → (Start flooding nodes).node i ≡ Some s → (s.cards ≡ card_of net i ∷ []) × (i < length net.nodes)
    begun_is i s e =
        let from = option_from (λ x. (Begin x).0) (slice_get nodes i) s e in
        let old = new_at net 0 nodes u i from.0 from.1 in
        let number : from.0.number ≡ i = old.1 ∙ omega arith in
        let count = new_count net 0 nodes u in
        let within = slice_get_within nodes i from.0 from.1 in
        (sym (ap (λ x. x.cards) from.2) ∙ (ap (λ z. card_of z from.0.number ∷ []) old.0 ∙ ap (λ z. card_of net z ∷ []) number), omega (arith, count, within))

    pub waits_own : (a j : ℕ) → speaker net a ≡ Some j → (Start flooding nodes).link a ≡ own_message net n j ∷ []
    waits_own a j e =
        let count = new_count net 0 nodes u in
        let within = head_in a j e in
        begun_at net n 0 j a j nodes u e (omega arith) (omega (arith, count, within))

    pub start_floods : IsFlood net (Start flooding nodes)
    start_floods =
        record {
          running = start_runs flooding flooding_is_lawful net n nodes u;
          own = λ i s e. rw (begun_is i s e).0 (any_one (λ (c : PureCard). c.node == i) (card_of net i) (same_test i));
          held = λ i s e. let b = begun_is i s e in rw b.0 (own_is_reached i b.1, tt);
          apart = λ i s e. rw (begun_is i s e).0 (tt, tt);
          waiting = λ a j e. rw (waits_own a j e) (own_is_reached j (head_in a j e), tt);
          reported = λ a i j k s t li sp es et h.
              let one : (j == k) ≡ true = any_of_one (λ (c : PureCard). c.node == k) (card_of net j) (rw (begun_is j t et).0 at h) in
              inr (rw (waits_own a j sp) (any_one (λ (m : PureFlooded). m.card.node == k) (own_message net n j) one));
        }

  module _ (c : Machine FloodState PureFlooded) (f : IsFlood net c) (a : ℕ) (d : Machine FloodState PureFlooded) (w : IsDelivery flooding net c a d) where
    abbrev s : FloodState
    s = w.node

    abbrev m : PureFlooded
    m = w.message

    abbrev new : FloodState
    new = taker net n c f.running a d w

    abbrev out : ℕ → List PureFlooded
    out b = on_arc b (sent net n c f.running a d w)

    abbrev next : PureFlooded
    next = passed net n c f.running a d w

    abbrev time : ℕ
    time = clock net n c f.running a d w

    -- the card that came is reached by the node that takes it
    came : IsReachedCard net w.number m.card
    came =
        let h = hears net a w.number w.listens in
        let all = subst (AllByRecursion (λ x. IsReachedCard net h.0 x.card)) w.front (f.waiting a h.0 h.1) in
        reached_more net w.number h.0 m.card h.2 all.0

    held_new : AllByRecursion (IsReachedCard net w.number) new.cards
    held_new = by (holds s m.card.node) refl
      where
        by : (b : Bool) → holds s m.card.node ≡ b → AllByRecursion (IsReachedCard net w.number) new.cards
        by true h = subst (λ x. AllByRecursion (IsReachedCard net w.number) x.0.cards) (sym (step_old s a m time h)) (f.held w.number s w.there)
        by false h = subst (λ x. AllByRecursion (IsReachedCard net w.number) x.0.cards) (sym (step_new s a m time h)) (all_join (IsReachedCard net w.number) s.cards (m.card ∷ []) (f.held w.number s w.there) (came, tt))

    apart_new : AreDistinct same_node new.cards
    apart_new = by (holds s m.card.node) refl
      where
        by : (b : Bool) → holds s m.card.node ≡ b → AreDistinct same_node new.cards
        by true h = subst (λ x. AreDistinct same_node x.0.cards) (sym (step_old s a m time h)) (f.apart w.number s w.there)
        by false h = subst (λ x. AreDistinct same_node x.0.cards) (sym (step_new s a m time h)) (apart_more s.cards m.card (f.apart w.number s w.there) h)

    waiting_after : (b j : ℕ) → speaker net b ≡ Some j → AllByRecursion (λ x. IsReachedCard net j x.card) (d.link b)
    waiting_after b j e =
        subst (AllByRecursion (λ x. IsReachedCard net j x.card)) (sym (link_after net n c f.running a d w b))
        (all_join (λ x. IsReachedCard net j x.card) (changed_at c.link a w.rest b) (out b) (stayed net n c f.running a d w (λ x. IsReachedCard net j x.card) b (f.waiting b j e)) (by (sent_on net n c f.running a d w b)))
      where
        by : (out b ≡ []) ⊎ ((holds s m.card.node ≡ false) × (speaker net b ≡ Some w.number) × (out b ≡ next ∷ [])) → AllByRecursion (λ x. IsReachedCard net j x.card) (out b)
        by (inl none) = rw none tt
        by (inr one) = rw one.2 (subst (λ z. IsReachedCard net z m.card) (same_Some _ _ (sym one.1 ∙ e)) came, tt)

    -- a card that waits still does, or was the one that was taken
    still_waits : (b k : ℕ) → is_waiting (c.link b) k ≡ true → ((b ≡ a) × (m.card.node ≡ k)) ⊎ (is_waiting (d.link b) k ≡ true)
    still_waits b k e = by (b == a) refl
      where
        taken : is_waiting (m ∷ w.rest) k ≡ true → (t : Bool) → (m.card.node == k) ≡ t → (m.card.node ≡ k) ⊎ (is_waiting w.rest k ≡ true)
        taken h true g = inl (eqb-true m.card.node k g)
        taken h false g = inr (rw g at h)

        kept : (l : List PureFlooded) → changed_at c.link a w.rest b ≡ l → is_waiting l k ≡ true → is_waiting (d.link b) k ≡ true
        kept l same h =
            subst (λ z. is_waiting z k ≡ true) (sym (link_after net n c f.running a d w b ∙ ap (λ z. z ++ out b) same)) (any_left (λ (x : PureFlooded). x.card.node == k) l (out b) h)

        here : b ≡ a → (b == a) ≡ true → (m.card.node ≡ k) ⊎ (is_waiting w.rest k ≡ true) → ((b ≡ a) × (m.card.node ≡ k)) ⊎ (is_waiting (d.link b) k ≡ true)
        here same h (inl is) = inl (same, is)
        here same h (inr more) = inr (kept w.rest (rw h refl) more)

        by : (t : Bool) → (b == a) ≡ t → ((b ≡ a) × (m.card.node ≡ k)) ⊎ (is_waiting (d.link b) k ≡ true)
        by true h =
            let same : b ≡ a = eqb-true b a h in
            let waits : is_waiting (m ∷ w.rest) k ≡ true = subst (λ l. is_waiting l k ≡ true) w.front (subst (λ z. is_waiting (c.link z) k ≡ true) same e) in
            here same h (taken waits (m.card.node == k) refl)
        by false h = inr (kept (c.link b) (rw h refl) e)

    -- a card that the speaker held before is held by the listener, or waits
    old_reported : (b li sp k : ℕ) (x z : FloodState) → listener net b ≡ Some li → speaker net b ≡ Some sp → d.node li ≡ Some x → c.node sp ≡ Some z
        → holds z k ≡ true → (holds x k ≡ true) ⊎ (is_waiting (d.link b) k ≡ true)
    old_reported b li sp k x z el es ex ez hz = by (was net n c f.running a d w li x ex)
      where
        took_it : b ≡ a → m.card.node ≡ k → holds x k ≡ true
        took_it same is =
            let here : li ≡ w.number = same_Some _ _ (sym el ∙ (ap (listener net) same ∙ w.listens)) in
            let now : x ≡ new = same_Some _ _ (sym ex ∙ (ap d.node here ∙ taker_there net n c f.running a d w)) in
            subst (λ y. holds y k ≡ true) (sym now) (subst (λ y. holds new y ≡ true) is (holds_new s a m time))

        waits : ((b ≡ a) × (m.card.node ≡ k)) ⊎ (is_waiting (d.link b) k ≡ true) → (holds x k ≡ true) ⊎ (is_waiting (d.link b) k ≡ true)
        waits (inl took) = inl (took_it took.0 took.1)
        waits (inr more) = inr more

        had : (o : FloodState) → c.node li ≡ Some o → (holds o k ≡ true) ⊎ (is_waiting (c.link b) k ≡ true) → (holds x k ≡ true) ⊎ (is_waiting (d.link b) k ≡ true)
        had o eo (inl held) = inl (held_after net n c f.running a d w li k o x eo ex held)
        had o eo (inr q) = waits (still_waits b k q)

        old : (o : FloodState) → c.node li ≡ Some o → (holds x k ≡ true) ⊎ (is_waiting (d.link b) k ≡ true)
        old o eo = had o eo (f.reported b li sp k o z el es eo ez hz)

        by : ((li ≡ w.number) × (x ≡ new)) ⊎ (((li == w.number) ≡ false) × (c.node li ≡ Some x)) → (holds x k ≡ true) ⊎ (is_waiting (d.link b) k ≡ true)
        by (inl is) = old s (ap c.node is.0 ∙ w.there)
        by (inr is) = old x is.1

    -- and so is one that it holds after the delivery
    reported_after : (b li sp k : ℕ) (x y : FloodState) → listener net b ≡ Some li → speaker net b ≡ Some sp → d.node li ≡ Some x → d.node sp ≡ Some y
        → holds y k ≡ true → (holds x k ≡ true) ⊎ (is_waiting (d.link b) k ≡ true)
    reported_after b li sp k x y el es ex ey h = by (was net n c f.running a d w sp y ey)
      where
        put : (sp ≡ w.number) → holds s m.card.node ≡ false → m.card.node ≡ k → is_waiting (d.link b) k ≡ true
        put is absent same =
            let one : out b ≡ next ∷ [] = sent_new net n c f.running a d w absent b (es ∙ ap (λ z. Some z) is) in
            let test : (m.card.node == k) ≡ true = rw same (same_test k) in
            subst (λ z. is_waiting z k ≡ true) (sym (link_after net n c f.running a d w b ∙ ap (λ z. changed_at c.link a w.rest b ++ z) one))
            (any_right (λ (q : PureFlooded). q.card.node == k) (changed_at c.link a w.rest b) (next ∷ []) (any_one (λ (q : PureFlooded). q.card.node == k) next test))

        by : ((sp ≡ w.number) × (y ≡ new)) ⊎ (((sp == w.number) ≡ false) × (c.node sp ≡ Some y)) → (holds x k ≡ true) ⊎ (is_waiting (d.link b) k ≡ true)
        by (inr is) = old_reported b li sp k x y el es ex is.1 h
        by (inl is) = now is.0 (held_before s a m time k (subst (λ z. holds z k ≡ true) is.1 h))
          where
            now : sp ≡ w.number → (holds s k ≡ true) ⊎ ((holds s m.card.node ≡ false) × (m.card.node ≡ k)) → (holds x k ≡ true) ⊎ (is_waiting (d.link b) k ≡ true)
            now here (inl had) = old_reported b li sp k x s el es ex (ap c.node here ∙ w.there) had
            now here (inr got) = inr (put here got.0 got.1)

    pub delivery_floods : Deliver flooding net c a ≡ Some d → IsFlood net d
    delivery_floods e =
        record {
          running = deliver_runs flooding flooding_is_lawful net n c d a f.running e;
          own = λ j t et. own_of j t (was net n c f.running a d w j t et);
          held = λ j t et. held_of j t (was net n c f.running a d w j t et);
          apart = λ j t et. apart_of j t (was net n c f.running a d w j t et);
          waiting = waiting_after;
          reported = reported_after;
        }
      where
        own_of : (j : ℕ) (t : FloodState) → ((j ≡ w.number) × (t ≡ new)) ⊎ (((j == w.number) ≡ false) × (c.node j ≡ Some t)) → holds t j ≡ true
        own_of j t (inl is) = subst (λ z. holds z j ≡ true) (sym is.1) (still_holds s a m time j (subst (λ z. holds s z ≡ true) (sym is.0) (f.own w.number s w.there)))
        own_of j t (inr is) = f.own j t is.1

        held_of : (j : ℕ) (t : FloodState) → ((j ≡ w.number) × (t ≡ new)) ⊎ (((j == w.number) ≡ false) × (c.node j ≡ Some t)) → AllByRecursion (IsReachedCard net j) t.cards
        held_of j t (inl is) = subst (λ z. AllByRecursion (IsReachedCard net j) z.cards) (sym is.1) (subst (λ z. AllByRecursion (IsReachedCard net z) new.cards) (sym is.0) held_new)
        held_of j t (inr is) = f.held j t is.1

        apart_of : (j : ℕ) (t : FloodState) → ((j ≡ w.number) × (t ≡ new)) ⊎ (((j == w.number) ≡ false) × (c.node j ≡ Some t)) → AreDistinct same_node t.cards
        apart_of j t (inl is) = subst (λ z. AreDistinct same_node z.cards) (sym is.1) apart_new
        apart_of j t (inr is) = f.apart j t is.1

  -- so every replay from nodes that begin keeps all of this
  pub replays_flood : (nodes : List FloodState) (journal : List Delivery) (c : Machine FloodState PureFlooded) → AreUnbegun flooding net 0 nodes → Replay flooding net nodes journal ≡ Some c → IsFlood net c
  replays_flood nodes journal c u e =
      replay_keeps flooding net (IsFlood net) (λ x y a f made. delivery_floods x f a y (delivery_of flooding net x a y made) made) journal (Start flooding nodes) c (start_floods nodes u) e

  -- what is reached is held once nothing is on its way
  pub drained_holds : (c : Machine FloodState PureFlooded) → IsFlood net c → Drained c → (nodes : List ℕ) (i j : ℕ) (s : FloodState) → c.node i ≡ Some s → IsChain net i nodes j → holds s j ≡ true
  drained_holds c f drained [] i j s e chain = subst (λ z. holds s z ≡ true) chain (f.own i s e)
  drained_holds c f drained (k ∷ nodes) i j s e chain = by (arc_place net i k chain.0) (λ t there. drained_holds c f drained nodes k j t there chain.1)
    where
      known : (a : ℕ) → (holds s j ≡ true) ⊎ (is_waiting (c.link a) j ≡ true) → holds s j ≡ true
      known a (inl had) = had
      known a (inr waits) = absurd (let none : false ≡ true = subst (λ l. is_waiting l j ≡ true) (drained a) waits in cc)

      by : ((a : ℕ) × (listener net a ≡ Some i) × (speaker net a ≡ Some k)) → ((t : FloodState) → c.node k ≡ Some t → holds t j ≡ true) → holds s j ≡ true
      by arc next =
          let there = f.running.there k (head_in arc.0 k arc.2) in
          known arc.0 (f.reported arc.0 i k j s there.0 arc.1 arc.2 e there.1 (next there.0 there.1))
