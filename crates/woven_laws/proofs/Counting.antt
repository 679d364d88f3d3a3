-- As many messages wait as were sent and not taken.
use Rattle.std.proofs.Common.{◌≡◌, ℕ, ◌+◌, ◌<◌, Bool, true, false, cond, List, [], ◌∷◌, ◌++◌, Some, length, length-append, refl, sym, ◌∙◌, ap, subst, arith}
use Rattle.std.proofs.lemmas.Bool.{eqb-true, eqb-false, false_from_ne_true}
use Rattle.std.proofs.lemmas.Option.{same_Some}
use Rattle.std.specs.Prelude.{◌==◌}
use Rattle.std.specs.Option.{option_map_or}
use Rattle.std.specs.List.{AllByRecursion}
use Rattle.meta_base.specs.declared.ids.Delivery.{Delivery}
use Rattle.net_graph.specs.Nets.{PureNet, IsNet}
use Rattle.node_core.specs.Kinds.{Kind, IsLawful, listener, speaker, on_arc}
use Rattle.node_core.specs.Machine.{Machine, AreUnbegun, begun_messages, Start, changed_at, clock_after, step_of, stepped, Deliver, deliver_at, replay_from, Replay, put_by, sent_from, SentIn}
use Rattle.node_core.specs.MachineLaws.{same_test, at_each, all_mapped, on_arc_none, option_then, speaks_within, listens_within, delivery_of, delivered_at, begun_within, start_runs, deliver_runs}
use Rattle.node_core.specs.Running.{IsRunning}
use Rattle.woven_laws.specs.Histories.{Taken, taken_on, option_out}
use Rattle.woven_laws.specs.Woven.{Woven}
use Rattle.woven_laws.specs.Counts.{total, waiting_on, sent_by_all, taken_by_all}
use Rattle.woven_laws.specs.CountLaws.{total_same, total_plus, total_zero, total_swap, total_at, mark, total_one, on_arc_total}
use Rattle.woven_laws.specs.ArcEnds.{ends_at, hearer_within, teller_within}

module _ {M : Type 0} where
  -- on an arc that is none of those that were heard on nothing was taken
  taken_on_none : (R : ℕ → Type 0) (a : ℕ) → (R a → ⊥) → (hs : List (Taken M)) → AllByRecursion (λ (h : Taken M). R h.arc) hs → taken_on a hs ≡ []
  taken_on_none R a not [] all = refl
  taken_on_none R a not (h ∷ hs) all = by (h.arc == a) refl (taken_on_none R a not hs all.1)
    where
      by : (b : Bool) → (h.arc == a) ≡ b → taken_on a hs ≡ [] → cond b (h.message ∷ taken_on a hs) (taken_on a hs) ≡ []
      by true e r = absurd (not (subst R (eqb-true h.arc a e) all.0))
      by false e r = r

  -- each message that was taken was taken on one arc
  taken_on_total : (n : ℕ) (hs : List (Taken M)) → AllByRecursion (λ (h : Taken M). h.arc < n) hs → total n (λ a. length (taken_on a hs)) ≡ length hs
  taken_on_total n [] all = total_zero n (λ a. 0) (λ a lt. refl)
  taken_on_total n (h ∷ hs) all =
      let r = taken_on_total n hs all.1 in
      let one = total_one n h.arc all.0 in
      let split : total n (λ a. length (cond (h.arc == a) (h.message ∷ taken_on a hs) (taken_on a hs))) ≡ total n (λ a. mark (h.arc == a) + length (taken_on a hs)) =
      total_same n (λ a. length (cond (h.arc == a) (h.message ∷ taken_on a hs) (taken_on a hs))) (λ a. mark (h.arc == a) + length (taken_on a hs)) (λ a lt. by a (h.arc == a)) in
      split ∙ (total_plus n (λ a. mark (h.arc == a)) (λ a. length (taken_on a hs)) ∙ omega arith)
    where
      by : (a : ℕ) (b : Bool) → length (cond b (h.message ∷ taken_on a hs) (taken_on a hs)) ≡ mark b + length (taken_on a hs)
      by a true = omega arith
      by a false = omega arith

module _ {S M : Type 0} (k : Kind S M) (net : PureNet) (is_net : IsNet net) where
  module _ (c d : Machine S M) (history : ℕ → List (Taken M)) (w : Woven k net c history d) where
    abbrev out : ℕ → List (ℕ × M)
    out i = option_out k (c.node i) (history i)

    abbrev sent_at : ℕ → ℕ
    sent_at a = total (length net.nodes) (λ i. length (on_arc a (out i)))

    abbrev taken_at : ℕ → ℕ
    taken_at a = total (length net.nodes) (λ i. length (taken_on a (history i)))

    -- on an arc there is what its speaker put there, and its listener took there
    sent_there : (a j : ℕ) → speaker net a ≡ Some j → sent_at a ≡ length (on_arc a (out j))
    sent_there a j speaks = total_at (length net.nodes) j (λ i. length (on_arc a (out i))) (teller_within net is_net a j speaks)
        (λ i ne. ap length (on_arc_none (λ x. speaker net x ≡ Some i) a (λ e. eqb-false i j ne (same_Some _ _ (sym e ∙ speaks))) (out i) (w.spoken i)))

    taken_there : (a i : ℕ) → listener net a ≡ Some i → taken_at a ≡ length (taken_on a (history i))
    taken_there a i listens = total_at (length net.nodes) i (λ j. length (taken_on a (history j))) (hearer_within net is_net a i listens)
        (λ j ne. ap length (taken_on_none (λ x. listener net x ≡ Some j) a (λ e. eqb-false j i ne (same_Some _ _ (sym e ∙ listens))) (history j) (w.heard j)))

    on_one : (a : ℕ) → a < length net.arcs → length (c.link a) + sent_at a ≡ taken_at a + length (d.link a)
    on_one a lt =
        let ends = ends_at net a lt in
        let sent = sent_there a ends.teller ends.speaks in
        let taken = taken_there a ends.hearer ends.listens in
        let whole = ap length (w.link_is a ends.hearer ends.teller ends.listens ends.speaks) in
        let left = length-append (c.link a) (on_arc a (out ends.teller)) in
        let right = length-append (taken_on a (history ends.hearer)) (d.link a) in
        omega (arith, sent, taken, whole, left, right)

    sent_in_all : total (length net.arcs) sent_at ≡ sent_by_all k net c.node history
    sent_in_all = total_swap (length net.arcs) (length net.nodes) (λ a i. length (on_arc a (out i)))
        ∙ total_same (length net.nodes) (λ i. total (length net.arcs) (λ a. length (on_arc a (out i)))) (λ i. length (out i))
        (λ i lt. on_arc_total (length net.arcs) (out i) (all_mapped (λ (p : ℕ × M). speaker net p.0 ≡ Some i) (λ (p : ℕ × M). p.0 < length net.arcs) (λ p e. speaks_within net p.0 i e) (out i) (w.spoken i)))

    taken_in_all : total (length net.arcs) taken_at ≡ taken_by_all net history
    taken_in_all = total_swap (length net.arcs) (length net.nodes) (λ a i. length (taken_on a (history i)))
        ∙ total_same (length net.nodes) (λ i. total (length net.arcs) (λ a. length (taken_on a (history i)))) (λ i. length (history i))
        (λ i lt. taken_on_total (length net.arcs) (history i) (all_mapped (λ (h : Taken M). listener net h.arc ≡ Some i) (λ (h : Taken M). h.arc < length net.arcs) (λ h e. listens_within net h.arc i e) (history i) (w.heard i)))

    pub woven_count : waiting_on net c + sent_by_all k net c.node history ≡ taken_by_all net history + waiting_on net d
    woven_count =
        let left = total_plus (length net.arcs) (λ a. length (c.link a)) sent_at in
        let right = total_plus (length net.arcs) taken_at (λ a. length (d.link a)) in
        let each = total_same (length net.arcs) (λ a. length (c.link a) + sent_at a) (λ a. taken_at a + length (d.link a)) on_one in
        let sent = sent_in_all in
        let taken = taken_in_all in
        omega (arith, left, right, each, sent, taken)

  module _ (lawful : IsLawful k) where
    -- a delivery takes one message, and what the node puts out waits
    stepped_count : (c : Machine S M) (a i : ℕ) (s : S) (m : M) (rest : List M) → IsRunning k net c → listener net a ≡ Some i → c.node i ≡ Some s → c.link a ≡ m ∷ rest
        → waiting_on net c + length (step_of k c a i s m).1 ≡ 1 + waiting_on net (stepped k c a i s m rest)
    stepped_count c a i s m rest run listens there front =
        let kept = total_plus (length net.arcs) (λ b. mark (a == b)) (λ b. length (changed_at c.link a rest b)) in
        let one = total_one (length net.arcs) a (listens_within net a i listens) in
        let old = total_same (length net.arcs) (λ b. length (c.link b)) (λ b. mark (a == b) + length (changed_at c.link a rest b)) (λ b lt. one_less b) in
        let new = total_same (length net.arcs) (λ b. length (changed_at c.link a rest b ++ on_arc b sent)) (λ b. length (changed_at c.link a rest b) + length (on_arc b sent)) (λ b lt. length-append (changed_at c.link a rest b) (on_arc b sent)) in
        let split = total_plus (length net.arcs) (λ b. length (changed_at c.link a rest b)) (λ b. length (on_arc b sent)) in
        let put = on_arc_total (length net.arcs) sent within in
        omega (arith, kept, one, old, new, split, put)
      where
        sent : List (ℕ × M)
        sent = (step_of k c a i s m).1

        one_less : (b : ℕ) → length (c.link b) ≡ mark (a == b) + length (changed_at c.link a rest b)
        one_less = at_each (λ b. length (c.link b) ≡ mark (a == b) + length (changed_at c.link a rest b)) a
            (rw (same_test a, front) (omega arith))
            (λ b ne. let other : (a == b) ≡ false = false_from_ne_true (a == b) (λ e. eqb-false b a ne (sym (eqb-true a b e))) in rw (ne, other) (omega arith))

        within : AllByRecursion (λ (p : ℕ × M). p.0 < length net.arcs) sent
        within =
            let at = run.each i s there in
            all_mapped (λ (p : ℕ × M). speaker (k.net s) p.0 ≡ Some (k.number s)) (λ (p : ℕ × M). p.0 < length net.arcs) (λ p e. speaks_within net p.0 (k.number s) (rw at.net_is at e)) sent
            ((lawful.step_sends s a m (clock_after k c i m)).spoken (subst (λ n. IsNet n) (sym at.net_is) is_net))

    delivered_count : (c d : Machine S M) (a : ℕ) → IsRunning k net c → Deliver k net c a ≡ Some d
        → waiting_on net c + option_map_or (λ i. length (put_by k c a i (c.link a))) (listener net a) 0 ≡ 1 + waiting_on net d
    delivered_count c d a run made =
        let w = delivery_of k net c a d made in
        let put : option_map_or (λ i. length (put_by k c a i (c.link a))) (listener net a) 0 ≡ length (step_of k c a w.number w.node w.message).1 = rw (w.listens, w.front, w.there) refl in
        let count = stepped_count c a w.number w.node w.message w.rest run w.listens w.there w.front in
        let same = ap (waiting_on net) w.makes in
        omega (arith, put, count, same)

    replay_count : (journal : List Delivery) (c d : Machine S M) → IsRunning k net c → replay_from k net c journal ≡ Some d → waiting_on net c + sent_from k net c journal ≡ length journal + waiting_on net d
    replay_count [] c d run e = let same = ap (waiting_on net) (same_Some _ _ e) in omega (arith, same)
    replay_count (x ∷ journal) c d run e =
        let first = option_then (λ f. replay_from k net f journal) (deliver_at k net c x) d e in
        let made = (delivered_at k net c first.0 x first.1).1 in
        let one = delivered_count c first.0 x.arc.0 run made in
        let rest = replay_count journal first.0 d (deliver_runs k lawful net is_net c first.0 x.arc.0 run made) first.2 in
        rw first.1 (omega (arith, one, rest))

    pub journal_count : (nodes : List S) (journal : List Delivery) (c : Machine S M) → AreUnbegun k net 0 nodes → Replay k net nodes journal ≡ Some c → SentIn k net nodes journal ≡ length journal + waiting_on net c
    journal_count nodes journal c unbegun e =
        let begun = on_arc_total (length net.arcs) (begun_messages k nodes) (begun_within k lawful net is_net 0 nodes unbegun) in
        let rest = replay_count journal (Start k nodes) c (start_runs k lawful net is_net nodes unbegun) e in
        omega (arith, begun, rest)
