-- Where one message waits at the start, and the node that takes it puts out nothing, one delivery drains the machine,
-- and nothing else does. Lemmas, so that proofs of other crates may cite them.
use Rattle.std.proofs.Common.{◌≡◌, ℕ, List, [], ◌∷◌, ◌++◌, Bool, true, false, ◌==◌, Some, cond, slice_get, subst, refl, sym, ap, ◌∙◌, arith}
use Rattle.std.proofs.lemmas.Bool.{eqb-true}
use Rattle.std.proofs.lemmas.Bool.Decides.{nat_tests}
use Rattle.std.proofs.lemmas.Option.{same_Some}
use Rattle.meta_base.specs.declared.ids.Delivery.{Delivery}
use Rattle.net_graph.specs.Nets.{PureNet}
use Rattle.node_core.specs.Kinds.{Kind, listener, on_arc}
use Rattle.node_core.specs.Machine.{Machine, Deliver, Drained, Start, Replay, begun_messages, changed_at, clock_after, deliver_at, front_clock, replay_from, step_of, stepped}
use Rattle.node_core.specs.MachineLaws.{delivered_at, delivery_of, deliver_by_clock, front_is, option_then, same_test}
use Rattle.node_core.specs.Running.{entry_at}

module _ {S M : Type 0} (k : Kind S M) where
  -- one message was put out, which node s takes at clock 1 and puts out nothing
  pub record HasOneMessage (net : PureNet) (nodes : List S) (a i : ℕ) (s : S) (m : M) : Type 0 where
    pub begun : begun_messages k nodes ≡ (a, m) ∷ []
    pub listens : listener net a ≡ Some i
    pub there : slice_get nodes i ≡ Some s
    pub stamp : k.stamp m ≡ 0
    pub silent : (step_of k (Start k nodes) a i (k.begin s).0 m).1 ≡ []

  -- the machine when it was taken
  abbrev pub taken_one : List S → ℕ → ℕ → S → M → Machine S M
  taken_one nodes a i s m = stepped k (Start k nodes) a i (k.begin s).0 m []

  module _ (net : PureNet) (nodes : List S) (a i : ℕ) (s : S) (m : M) (h : HasOneMessage net nodes a i s m) where
    -- what waits at the start, on that arc and on any other
    starts : (b : ℕ) → (Start k nodes).link b ≡ cond (a == b) (m ∷ []) []
    starts b = rw (h.begun) refl

    at_one : clock_after k (Start k nodes) i m ≡ 1
    at_one = rw (h.stamp) refl

    starts_here : (Start k nodes).link a ≡ m ∷ []
    starts_here = starts a ∙ ap (λ z. cond z (m ∷ []) []) (same_test a)

    starts_there : (b : ℕ) → (b == a) ≡ false → (Start k nodes).link b ≡ []
    starts_there b e =
        let other : (a == b) ≡ false = grind (arith, nat_tests) in
        starts b ∙ ap (λ z. cond z (m ∷ []) []) other

    -- nothing is left
    pub one_drains : Drained (taken_one nodes a i s m)
    one_drains b = subst (λ z. changed_at (Start k nodes).link a [] b ++ on_arc b z ≡ []) (sym h.silent) (by (b == a) refl)
      where
        by : (t : Bool) → (b == a) ≡ t → cond t [] ((Start k nodes).link b) ++ [] ≡ []
        by true e = refl
        by false e = rw (starts_there b e) refl

    -- the delivery can be made
    front : front_clock k net (Start k nodes) a ≡ Some 1
    front = front_is k net (Start k nodes) a 1 (record { number = i; message = m; rest = []; listens = h.listens; front = starts_here; clock_is = sym at_one })

    delivers : deliver_at k net (Start k nodes) (entry_at 1 a) ≡ Some (taken_one nodes a i s m)
    delivers = deliver_by_clock k net (Start k nodes) (entry_at 1 a) front ∙ rw (h.listens, starts_here, h.there) refl

    pub one_replays : Replay k net nodes (entry_at 1 a ∷ []) ≡ Some (taken_one nodes a i s m)
    one_replays = rw delivers refl

    -- no delivery can be made of a drained machine
    none_left : (c : Machine S M) → Drained c → (journal : List Delivery) (d : Machine S M) → replay_from k net c journal ≡ Some d → (journal ≡ []) × (d ≡ c)
    none_left c drained [] d e = (refl, sym (same_Some _ _ e))
    none_left c drained (x ∷ journal) d e = absurd (
        let first = option_then (λ f. replay_from k net f journal) (deliver_at k net c x) d e in
        let w = delivery_of k net c x.arc.0 first.0 (delivered_at k net c first.0 x first.1).1 in
        let none : w.message ∷ w.rest ≡ [] = sym w.front ∙ drained x.arc.0 in
        cc)

    -- what can be delivered first
    first_is : (x : Delivery) (c : Machine S M) → deliver_at k net (Start k nodes) x ≡ Some c → (x ≡ entry_at 1 a) × (c ≡ taken_one nodes a i s m)
    first_is x c e = by (x.arc.0 == a) refl
      where
        made : (front_clock k net (Start k nodes) x.arc.0 ≡ Some x.clock) × (Deliver k net (Start k nodes) x.arc.0 ≡ Some c)
        made = delivered_at k net (Start k nodes) c x e

        by : (t : Bool) → (x.arc.0 == a) ≡ t → (x ≡ entry_at 1 a) × (c ≡ taken_one nodes a i s m)
        by false f = absurd (
            let w = delivery_of k net (Start k nodes) x.arc.0 c made.1 in
            let none : w.message ∷ w.rest ≡ [] = sym w.front ∙ starts_there x.arc.0 f in
            cc)
        by true f =
            let arc : x.arc.0 ≡ a = eqb-true x.arc.0 a f in
            let clock : x.clock ≡ 1 = same_Some _ _ (sym made.0 ∙ (ap (front_clock k net (Start k nodes)) arc ∙ front)) in
            let same : x ≡ entry_at 1 a = rw (← arc, ← clock) refl in
            (same, same_Some _ _ (sym e ∙ (ap (deliver_at k net (Start k nodes)) same ∙ delivers)))

    -- and whatever drains the machine is that delivery alone
    pub only_one : (journal : List Delivery) (d : Machine S M) → Replay k net nodes journal ≡ Some d → Drained d → (journal ≡ entry_at 1 a ∷ []) × (d ≡ taken_one nodes a i s m)
    only_one [] d e drained = absurd (
        let same : Start k nodes ≡ d = same_Some _ _ e in
        let none : m ∷ [] ≡ [] = sym starts_here ∙ (ap (λ (c : Machine S M). c.link a) same ∙ drained a) in
        cc)
    only_one (x ∷ journal) d e drained =
        let first = option_then (λ f. replay_from k net f journal) (deliver_at k net (Start k nodes) x) d e in
        let is = first_is x first.0 first.1 in
        let rest = none_left first.0 (subst Drained (sym is.1) one_drains) journal d first.2 in
        (rw (is.0, rest.0) refl, rest.1 ∙ is.1)
