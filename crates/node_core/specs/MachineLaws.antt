-- What holds of the machine of every lawful kind of node. Lemmas, so that proofs of other crates may cite them.
use Rattle.std.proofs.Common.{◌≡◌, ℕ, zero, suc, ◌+◌, ◌<◌, ◌≤◌, List, [], ◌∷◌, ◌++◌, Bool, true, false, Option, Some, None, length, cond, slice_get, option_map, option_and_then, subst, refl, sym, ap, ◌∙◌, arith}
use Rattle.std.specs.Prelude.{◌==◌}
use Rattle.std.specs.Option.{option_map_or}
use Rattle.std.proofs.lemmas.Bool.{eqb-true}
use Rattle.std.proofs.lemmas.Bool.Decides.{nat_tests}
use Rattle.std.proofs.lemmas.Option.{same_Some, slice_get_past, slice_get_within}
use Rattle.std.specs.List.{AllByRecursion}
use Rattle.meta_base.specs.declared.ids.Delivery.{Delivery}
use Rattle.net_graph.specs.Nets.{PureArc, PureNet, IsNet}
use Rattle.node_core.specs.Kinds.{Kind, IsLawful, listener, speaker, on_arc}
use Rattle.node_core.specs.Machine.{Machine, AreUnbegun, begun_messages, Start, clock_after, step_of, stepped, taken_by, Deliver, front_clock, deliver_at, replay_from}
use Rattle.node_core.specs.Running.{IsNodeAt, IsRunning}

-- a number is itself
pub same_test : (i : ℕ) → (i == i) ≡ true
same_test i = grind (arith, nat_tests)

-- what holds at i and at each other number holds at all
pub at_each : (P : ℕ → Type 0) (i : ℕ) → P i → ((j : ℕ) → (j == i) ≡ false → P j) → (j : ℕ) → P j
at_each P i here there j = by (j == i) refl
  where
    by : (b : Bool) → (j == i) ≡ b → P j
    by true e = subst P (sym (eqb-true j i e)) here
    by false e = there j e

from_zero : (n : ℕ) → 0 + n ≡ n
from_zero n = omega arith

module _ {X : Type 0} (P : X → Type 0) where
  pub all_join : (xs ys : List X) → AllByRecursion P xs → AllByRecursion P ys → AllByRecursion P (xs ++ ys)
  all_join [] ys a b = b
  all_join (x ∷ xs) ys a b = (a.0, all_join xs ys a.1 b)

  pub all_mapped : (Q : X → Type 0) → ((x : X) → P x → Q x) → (xs : List X) → AllByRecursion P xs → AllByRecursion Q xs
  all_mapped Q f [] a = tt
  all_mapped Q f (x ∷ xs) a = (f x a.0, all_mapped Q f xs a.1)

module _ {M : Type 0} where
  pub on_arc_join : (a : ℕ) (ps qs : List (ℕ × M)) → on_arc a (ps ++ qs) ≡ on_arc a ps ++ on_arc a qs
  on_arc_join a [] qs = refl
  on_arc_join a (p ∷ ps) qs = by (p.0 == a) (on_arc_join a ps qs)
    where
      by : (b : Bool) → on_arc a (ps ++ qs) ≡ on_arc a ps ++ on_arc a qs → cond b (p.1 ∷ on_arc a (ps ++ qs)) (on_arc a (ps ++ qs)) ≡ cond b (p.1 ∷ on_arc a ps) (on_arc a ps) ++ on_arc a qs
      by true r = ap (λ l. p.1 ∷ l) r
      by false r = r

  -- what is put on an arc was put out
  pub on_arc_all : (Q : M → Type 0) (a : ℕ) (ps : List (ℕ × M)) → AllByRecursion (λ (p : ℕ × M). Q p.1) ps → AllByRecursion Q (on_arc a ps)
  on_arc_all Q a [] all = tt
  on_arc_all Q a (p ∷ ps) all = by (p.0 == a) (on_arc_all Q a ps all.1)
    where
      by : (b : Bool) → AllByRecursion Q (on_arc a ps) → AllByRecursion Q (cond b (p.1 ∷ on_arc a ps) (on_arc a ps))
      by true r = (all.0, r)
      by false r = r

  -- on an arc that is none of those that were spoken on stands nothing
  pub on_arc_none : (R : ℕ → Type 0) (a : ℕ) → (R a → ⊥) → (ps : List (ℕ × M)) → AllByRecursion (λ (p : ℕ × M). R p.0) ps → on_arc a ps ≡ []
  on_arc_none R a not [] all = refl
  on_arc_none R a not (p ∷ ps) all = by (p.0 == a) refl (on_arc_none R a not ps all.1)
    where
      by : (b : Bool) → (p.0 == a) ≡ b → on_arc a ps ≡ [] → cond b (p.1 ∷ on_arc a ps) (on_arc a ps) ≡ []
      by true e r = absurd (not (subst R (eqb-true p.0 a e) all.0))
      by false e r = r

-- what an option was made of
pub option_from : {X Y : Type 0} (f : X → Y) (o : Option X) (y : Y) → option_map f o ≡ Some y → (x : X) × (o ≡ Some x) × (f x ≡ y)
option_from f None y e = absurd (cc)
option_from f (Some x) y e = (x, refl, same_Some _ _ e)

pub option_then : {X Y : Type 0} (f : X → Option Y) (o : Option X) (y : Y) → option_and_then f o ≡ Some y → (x : X) × (o ≡ Some x) × (f x ≡ Some y)
option_then f None y e = absurd (cc)
option_then f (Some x) y e = (x, refl, e)

-- no one speaks or listens past the arcs
pub speaks_within : (net : PureNet) (a i : ℕ) → speaker net a ≡ Some i → a < length net.arcs
speaks_within net a i e =
    let from = option_from (λ (arc : PureArc). arc.head) (slice_get net.arcs a) i e in
    slice_get_within net.arcs a from.0 from.1

pub listens_within : (net : PureNet) (a i : ℕ) → listener net a ≡ Some i → a < length net.arcs
listens_within net a i e =
    let from = option_from (λ (arc : PureArc). arc.tail) (slice_get net.arcs a) i e in
    slice_get_within net.arcs a from.0 from.1

slice_get_there : {X : Type 0} (xs : List X) (i : ℕ) → i < length xs → slice_get xs i ≡ None → ⊥
slice_get_there [] i h e = absurd (omega (arith, h))
slice_get_there (x ∷ xs) zero h e = absurd (cc)
slice_get_there (x ∷ xs) (suc i) h e = slice_get_there xs i (omega (arith, h)) e

beyond : {m n : ℕ} → m < n → n ≤ m → ⊥
beyond h g = absurd (omega (arith, h, g))

module _ {S M : Type 0} (k : Kind S M) where
  -- a delivery: whose it is, what it is made from, and what it makes
  pub record IsDelivery (net : PureNet) (c : Machine S M) (a : ℕ) (d : Machine S M) : Type 0 where
    pub number : ℕ
    pub node : S
    pub message : M
    pub rest : List M
    pub listens : listener net a ≡ Some number
    pub there : c.node number ≡ Some node
    pub front : c.link a ≡ message ∷ rest
    pub makes : d ≡ stepped k c a number node message rest

  pub delivery_of : (net : PureNet) (c : Machine S M) (a : ℕ) (d : Machine S M) → Deliver k net c a ≡ Some d → IsDelivery net c a d
  delivery_of net c a d e =
      let listens = option_then (λ i. taken_by k c a i (c.link a)) (listener net a) d e in
      by listens.0 listens.1 (c.link a) refl listens.2
    where
      by : (i : ℕ) → listener net a ≡ Some i → (l : List M) → c.link a ≡ l → taken_by k c a i l ≡ Some d → IsDelivery net c a d
      by i listens [] front made = absurd (cc)
      by i listens (m ∷ rest) front made =
          let from = option_from (λ s. stepped k c a i s m rest) (c.node i) d made in
          record { number = i; node = from.0; message = m; rest = rest; listens = listens; there = from.1; front = front; makes = sym from.2 }

  -- what a front clock is made from
  pub record IsFront (net : PureNet) (c : Machine S M) (a t : ℕ) : Type 0 where
    pub number : ℕ
    pub message : M
    pub rest : List M
    pub listens : listener net a ≡ Some number
    pub front : c.link a ≡ message ∷ rest
    pub clock_is : t ≡ clock_after k c number message

  pub front_of : (net : PureNet) (c : Machine S M) (a t : ℕ) → front_clock k net c a ≡ Some t → IsFront net c a t
  front_of net c a t e =
      let listens = option_then (λ i. option_map (clock_after k c i) (slice_get (c.link a) 0)) (listener net a) t e in
      by listens.0 listens.1 (c.link a) refl listens.2
    where
      by : (i : ℕ) → listener net a ≡ Some i → (l : List M) → c.link a ≡ l → option_map (clock_after k c i) (slice_get l 0) ≡ Some t → IsFront net c a t
      by i listens [] front made = absurd (cc)
      by i listens (m ∷ rest) front made = record { number = i; message = m; rest = rest; listens = listens; front = front; clock_is = sym (same_Some _ _ made) }

  pub front_is : (net : PureNet) (c : Machine S M) (a t : ℕ) → IsFront net c a t → front_clock k net c a ≡ Some t
  front_is net c a t f = rw (f.listens, f.front, f.clock_is) refl

  -- an entry of a journal is delivered where the front clock of its arc is its own
  pub deliver_by_clock : (net : PureNet) (c : Machine S M) (e : Delivery) → front_clock k net c e.arc.0 ≡ Some e.clock → deliver_at k net c e ≡ Deliver k net c e.arc.0
  deliver_by_clock net c e front = rw (front, same_test e.clock) refl

  pub delivered_at : (net : PureNet) (c d : Machine S M) (e : Delivery) → deliver_at k net c e ≡ Some d → (front_clock k net c e.arc.0 ≡ Some e.clock) × (Deliver k net c e.arc.0 ≡ Some d)
  delivered_at net c d e made = by (front_clock k net c e.arc.0) refl made
    where
      clocked : (t : ℕ) → front_clock k net c e.arc.0 ≡ Some t → (b : Bool) → (t == e.clock) ≡ b → cond b (Deliver k net c e.arc.0) None ≡ Some d → (front_clock k net c e.arc.0 ≡ Some e.clock) × (Deliver k net c e.arc.0 ≡ Some d)
      clocked t front true same made = (front ∙ ap (λ n. Some n) (eqb-true t e.clock same), made)
      clocked t front false same made = absurd (cc)

      by : (o : Option ℕ) → front_clock k net c e.arc.0 ≡ o → cond (option_map_or (λ t. t == e.clock) o false) (Deliver k net c e.arc.0) None ≡ Some d → (front_clock k net c e.arc.0 ≡ Some e.clock) × (Deliver k net c e.arc.0 ≡ Some d)
      by None front made = absurd (cc)
      by (Some t) front made = clocked t front (t == e.clock) refl made

  -- a journal and another after it
  pub replay_join : (net : PureNet) (c : Machine S M) (journal more : List Delivery) → replay_from k net c (journal ++ more) ≡ option_and_then (λ d. replay_from k net d more) (replay_from k net c journal)
  replay_join net c [] more = refl
  replay_join net c (e ∷ journal) more = by (deliver_at k net c e) (λ d. replay_join net d journal more)
    where
      by : (o : Option (Machine S M)) → ((d : Machine S M) → replay_from k net d (journal ++ more) ≡ option_and_then (λ f. replay_from k net f more) (replay_from k net d journal)) → option_and_then (λ d. replay_from k net d (journal ++ more)) o ≡ option_and_then (λ f. replay_from k net f more) (option_and_then (λ d. replay_from k net d journal) o)
      by None joined = refl
      by (Some d) joined = joined d

  -- a delivery more
  pub replay_more : (net : PureNet) (c d f : Machine S M) (journal : List Delivery) (e : Delivery) → replay_from k net c journal ≡ Some d → deliver_at k net d e ≡ Some f → replay_from k net c (journal ++ e ∷ []) ≡ Some f
  replay_more net c d f journal e first last = rw (replay_join net c journal (e ∷ []), first, last) refl

  -- what each delivery keeps holds after every journal
  pub replay_keeps : (net : PureNet) (P : Machine S M → Type 0) → ((c d : Machine S M) (a : ℕ) → P c → Deliver k net c a ≡ Some d → P d) → (journal : List Delivery) (c d : Machine S M) → P c → replay_from k net c journal ≡ Some d → P d
  replay_keeps net P kept [] c d p e = subst P (same_Some _ _ e) p
  replay_keeps net P kept (x ∷ journal) c d p e =
      let first = option_then (λ f. replay_from k net f journal) (deliver_at k net c x) d e in
      replay_keeps net P kept journal first.0 d (kept c first.0 x.arc.0 p (delivered_at net c first.0 x first.1).1) first.2

  -- a node that is not begun, at its place
  unbegun_at : (net : PureNet) (n : ℕ) (nodes : List S) → AreUnbegun k net n nodes → (i : ℕ) (s : S) → slice_get nodes i ≡ Some s → (k.net s ≡ net) × (k.number s ≡ n + i)
  unbegun_at net n [] u i s e = absurd (cc)
  unbegun_at net n (x ∷ nodes) u zero s e = let same : x ≡ s = same_Some _ _ e in subst (λ y. (k.net y ≡ net) × (k.number y ≡ n + 0)) same (u.0, omega (arith, u.1))
  unbegun_at net n (x ∷ nodes) u (suc i) s e = let more = unbegun_at net (n + 1) nodes u.3 i s e in (more.0, omega (arith, more.1))

  unbegun_count : (net : PureNet) (n : ℕ) (nodes : List S) → AreUnbegun k net n nodes → length net.nodes ≡ n + length nodes
  unbegun_count net n [] u = omega (arith, u)
  unbegun_count net n (x ∷ nodes) u = let more = unbegun_count net (n + 1) nodes u.3 in omega (arith, more)

  module _ (lawful : IsLawful k) where
    -- what is put out when nodes begin goes on arcs of the network, with stamps of 0
    pub begun_within : (net : PureNet) → IsNet net → (n : ℕ) (nodes : List S) → AreUnbegun k net n nodes → AllByRecursion (λ (p : ℕ × M). p.0 < length net.arcs) (begun_messages k nodes)
    begun_within net is_net n [] u = tt
    begun_within net is_net n (s ∷ nodes) u =
        all_join (λ (p : ℕ × M). p.0 < length net.arcs) (k.begin s).1 (begun_messages k nodes)
        (all_mapped (λ (p : ℕ × M). speaker (k.net s) p.0 ≡ Some (k.number s)) (λ (p : ℕ × M). p.0 < length net.arcs)
        (λ p e. speaks_within net p.0 (k.number s) (rw u.0 at e)) (k.begin s).1 ((lawful.begun_sends s).spoken (subst (λ m. IsNet m) (sym u.0) is_net)))
        (begun_within net is_net (n + 1) nodes u.3)

    pub begun_stamps : (nodes : List S) → AllByRecursion (λ (p : ℕ × M). k.stamp p.1 ≤ 0) (begun_messages k nodes)
    begun_stamps [] = tt
    begun_stamps (s ∷ nodes) =
        all_join (λ (p : ℕ × M). k.stamp p.1 ≤ 0) (k.begin s).1 (begun_messages k nodes)
        (all_mapped (λ (p : ℕ × M). k.stamp p.1 ≡ 0) (λ (p : ℕ × M). k.stamp p.1 ≤ 0) (λ p e. omega (arith, e)) (k.begin s).1 (lawful.begun_sends s).stamped)
        (begun_stamps nodes)

    pub start_runs : (net : PureNet) → IsNet net → (nodes : List S) → AreUnbegun k net 0 nodes → IsRunning k net (Start k nodes)
    start_runs net is_net nodes u =
        let count = unbegun_count net 0 nodes u in
        record {
          there = λ i h. (by_place i (slice_get nodes i) refl (omega (arith, count, h)));
          past = λ i h. rw (slice_get_past nodes i (omega (arith, count, h))) refl;
          each = λ i s e. each i s e;
          on_arcs = λ a h. on_arc_none (λ b. b < length net.arcs) a (λ within. absurd (omega (arith, h, within))) (begun_messages k nodes) (begun_within net is_net 0 nodes u);
        }
      where
        by_place : (i : ℕ) (o : Option S) → slice_get nodes i ≡ o → i < length nodes → (s : S) × (option_map (λ s. (k.begin s).0) (slice_get nodes i) ≡ Some s)
        by_place i None e h = absurd (slice_get_there nodes i h e)
        by_place i (Some s) e h = ((k.begin s).0, rw e refl)

        each : (i : ℕ) (s : S) → option_map (λ s. (k.begin s).0) (slice_get nodes i) ≡ Some s → IsNodeAt k net (Start k nodes) i s
        each i s e =
            let from = option_from (λ s. (k.begin s).0) (slice_get nodes i) s e in
            let old = unbegun_at net 0 nodes u i from.0 from.1 in
            let later = lawful.begins from.0 in
            subst (λ t. IsNodeAt k net (Start k nodes) i t) from.2
            (record { net_is = later.net ∙ old.0; number_is = later.number ∙ (old.1 ∙ from_zero i); begun = later.begun; last_is = later.last })

    stepped_runs : (net : PureNet) → IsNet net → (c : Machine S M) (a i : ℕ) (s : S) (m : M) (rest : List M) → IsRunning k net c → listener net a ≡ Some i → c.node i ≡ Some s → IsRunning k net (stepped k c a i s m rest)
    stepped_runs net is_net c a i s m rest run listens is_there =
        record {
          there = at_each (λ j. j < length net.nodes → (x : S) × (d.node j ≡ Some x)) i (rw (same_test i) (λ h. (made.0, refl))) (λ j ne. rw ne (run.there j));
          past = at_each (λ j. length net.nodes ≤ j → d.node j ≡ None) i (λ h. let none = run.past i h in absurd (cc)) (λ j ne. rw ne (run.past j));
          each = at_each (λ j. (x : S) → d.node j ≡ Some x → IsNodeAt k net d j x) i (λ x e. here x (rw (same_test i) at e)) there;
          on_arcs = outside;
        }
      where
        d : Machine S M
        d = stepped k c a i s m rest

        made : S × List (ℕ × M)
        made = step_of k c a i s m

        here : (x : S) → Some made.0 ≡ Some x → IsNodeAt k net d i x
        here x e =
            let old = run.each i s is_there in
            let later = lawful.steps s a m (clock_after k c i m) old.begun in
            subst (λ t. IsNodeAt k net d i t) (same_Some _ _ e)
            (record { net_is = later.net ∙ old.net_is; number_is = later.number ∙ old.number_is; begun = later.begun; last_is = rw (same_test i) later.last })

        there : (j : ℕ) → (j == i) ≡ false → (x : S) → d.node j ≡ Some x → IsNodeAt k net d j x
        there j ne x e =
            let old = run.each j x (rw ne at e) in
            record { net_is = old.net_is; number_is = old.number_is; begun = old.begun; last_is = rw ne old.last_is }

        outside : (b : ℕ) → length net.arcs ≤ b → d.link b ≡ []
        outside b h =
            let within = listens_within net a i listens in
            let ne : (b == a) ≡ false = grind (arith, nat_tests) in
            let old = run.each i s is_there in
            let none = on_arc_none (λ x. speaker (k.net s) x ≡ Some (k.number s)) b (λ e. absurd (beyond (speaks_within net b (k.number s) (rw old.net_is at e)) h)) made.1 ((lawful.step_sends s a m (clock_after k c i m)).spoken (subst (λ n. IsNet n) (sym old.net_is) is_net)) in
            rw (ne, run.on_arcs b h, none) refl

    -- a delivery leaves a machine that runs running
    pub deliver_runs : (net : PureNet) → IsNet net → (c d : Machine S M) (a : ℕ) → IsRunning k net c → Deliver k net c a ≡ Some d → IsRunning k net d
    deliver_runs net is_net c d a run e =
        let w = delivery_of net c a d e in
        subst (IsRunning k net) (sym w.makes) (stepped_runs net is_net c a w.number w.node w.message w.rest run w.listens w.there)

    pub replay_runs : (net : PureNet) → IsNet net → (journal : List Delivery) (c d : Machine S M) → IsRunning k net c → replay_from k net c journal ≡ Some d → IsRunning k net d
    replay_runs net is_net = replay_keeps net (IsRunning k net) (deliver_runs net is_net)
