-- Clocks of the machine of every lawful kind of node: how high they get, and in which order deliveries come that
-- are made least first. Lemmas, so that proofs of other crates may cite them.
use Rattle.std.proofs.Common.{◌≡◌, ℕ, ◌+◌, ◌<◌, ◌≤◌, List, [], ◌∷◌, ◌++◌, Bool, true, false, Some, inl, inr, ltb, length, subst, refl, sym, ap, ◌∙◌, arith}
use Rattle.std.specs.Prelude.{◌==◌}
use Rattle.std.specs.List.{AllByRecursion}
use Rattle.std.proofs.lemmas.Bool.{eqb-true, eqb-false, false_from_ne_true}
use Rattle.std.proofs.lemmas.Bool.Decides.{nat_tests}
use Rattle.std.proofs.lemmas.Option.{same_Some}
use Rattle.meta_base.specs.declared.ids.Delivery.{Delivery}
use Rattle.net_graph.specs.Nets.{PureNet}
use Rattle.node_core.specs.Kinds.{Kind, IsLawful, listener, on_arc}
use Rattle.node_core.specs.Machine.{Machine, changed_at, begun_messages, Start, clock_after, step_of, stepped, Deliver, front_clock, deliver_at, replay_from, Replay, ComesBefore, Ordered}
use Rattle.node_core.specs.Running.{entry_at, AreUpTo, IsAfter, IsLeast, LeadsTo}
use Rattle.node_core.specs.MachineLaws.{same_test, at_each, all_join, all_mapped, on_arc_all, option_then, IsFront, front_of, front_is, delivery_of, delivered_at, deliver_by_clock, begun_stamps, replay_more}

pub before_then : (net : PureNet) (e f g : Delivery) → ComesBefore net e f → ComesBefore net f g → ComesBefore net e g
before_then net e f g (inl x) (inl y) = inl (omega (arith, x, y))
before_then net e f g (inl x) (inr y) = let same = y.0 in inl (omega (arith, x, same))
before_then net e f g (inr x) (inl y) = let same = x.0 in inl (omega (arith, same, y))
before_then net e f g (inr x) (inr y) =
    let meet : x.1.1 ≡ y.1.0 = same_Some _ _ (sym x.1.3 ∙ y.1.2) in
    let first = x.1.4 in
    let second = y.1.4 in
    inr (x.0 ∙ y.0, (x.1.0, y.1.1, x.1.2, y.1.3, omega (arith, meet, first, second)))

-- a delivery after all others of a journal in order
pub ordered_more : (net : PureNet) (journal : List Delivery) (e : Delivery) → Ordered net journal → AllByRecursion (λ d. ComesBefore net d e) journal → Ordered net (journal ++ e ∷ [])
ordered_more net [] e o a = (tt, tt)
ordered_more net (d ∷ journal) e o a = (all_join (ComesBefore net d) journal (e ∷ []) o.0 (a.0, tt), ordered_more net journal e o.1 a.1)

module _ {S M : Type 0} (k : Kind S M) (lawful : IsLawful k) where
  -- at the start no clock and no stamp is above 0, and a delivery raises the bound by one
  pub start_up_to : (nodes : List S) → AreUpTo k (Start k nodes) 0
  start_up_to nodes =
      record {
        clocks = λ i. omega arith;
        stamps = λ a. on_arc_all (λ m. k.stamp m ≤ 0) a (begun_messages k nodes) (begun_stamps k lawful nodes);
      }

  -- the next delivery gives at most one more
  pub front_up_to : (net : PureNet) (c : Machine S M) (a t n : ℕ) → AreUpTo k c n → front_clock k net c a ≡ Some t → t ≤ n + 1
  front_up_to net c a t n up e =
      let f = front_of k net c a t e in
      let waits = subst (AllByRecursion (λ x. k.stamp x ≤ n)) f.front (up.stamps a) in
      let stamp = waits.0 in
      let clock = up.clocks f.number in
      let is = f.clock_is in
      omega (arith, stamp, clock, is)

  -- what is up to a number is up to a greater one
  pub more_up_to : (c : Machine S M) (m n : ℕ) → m ≤ n → AreUpTo k c m → AreUpTo k c n
  more_up_to c m n below up =
      record {
        clocks = λ i. let clock = up.clocks i in omega (arith, clock, below);
        stamps = λ a. all_mapped (λ x. k.stamp x ≤ m) (λ x. k.stamp x ≤ n) (λ x h. omega (arith, h, below)) (c.link a) (up.stamps a);
      }

  -- a delivery at a clock that isn't above the bound keeps it
  stepped_within : (c : Machine S M) (n a i : ℕ) (s : S) (m : M) (rest : List M) → AreUpTo k c n → c.link a ≡ m ∷ rest → clock_after k c i m ≤ n → AreUpTo k (stepped k c a i s m rest) n
  stepped_within c n a i s m rest up front early =
      record {
        clocks = at_each (λ j. changed_at c.clock i t j ≤ n) i (rw (same_test i) early) (λ j ne. rw ne (up.clocks j));
        stamps = λ b. all_join (λ x. k.stamp x ≤ n) (changed_at c.link a rest b) (on_arc b sends.1) (kept b)
            (on_arc_all (λ x. k.stamp x ≤ n) b sends.1 (all_mapped (λ p. k.stamp p.1 ≡ t) (λ p. k.stamp p.1 ≤ n) (λ p e. omega (arith, e, early)) sends.1 (lawful.step_sends s a m t).stamped));
      }
    where
      t : ℕ
      t = clock_after k c i m

      sends : S × List (ℕ × M)
      sends = step_of k c a i s m

      waits : AllByRecursion (λ x. k.stamp x ≤ n) (m ∷ rest)
      waits = subst (AllByRecursion (λ x. k.stamp x ≤ n)) front (up.stamps a)

      kept : (b : ℕ) → AllByRecursion (λ x. k.stamp x ≤ n) (changed_at c.link a rest b)
      kept = at_each (λ b. AllByRecursion (λ x. k.stamp x ≤ n) (changed_at c.link a rest b)) a (rw (same_test a) waits.1) (λ b ne. rw ne (up.stamps b))

  pub deliver_within : (net : PureNet) (c d : Machine S M) (a n : ℕ) → AreUpTo k c n → ((t : ℕ) → front_clock k net c a ≡ Some t → t ≤ n) → Deliver k net c a ≡ Some d → AreUpTo k d n
  deliver_within net c d a n up early e =
      let w = delivery_of k net c a d e in
      let t = clock_after k c w.number w.message in
      let front = front_is k net c a t (record { number = w.number; message = w.message; rest = w.rest; listens = w.listens; front = w.front; clock_is = refl }) in
      subst (λ x. AreUpTo k x n) (sym w.makes) (stepped_within c n a w.number w.node w.message w.rest up w.front (early t front))

  pub deliver_up_to : (net : PureNet) (c d : Machine S M) (a n : ℕ) → AreUpTo k c n → Deliver k net c a ≡ Some d → AreUpTo k d (n + 1)
  deliver_up_to net c d a n up e = deliver_within net c d a (n + 1) (more_up_to c n (n + 1) (omega arith) up) (λ t front. front_up_to net c a t n up front) e

  -- after so many deliveries
  pub replay_up_to : (net : PureNet) (journal : List Delivery) (c d : Machine S M) (n : ℕ) → AreUpTo k c n → replay_from k net c journal ≡ Some d → AreUpTo k d (n + length journal)
  replay_up_to net [] c d n up e = subst (λ x. AreUpTo k x (n + 0)) (same_Some _ _ e) (subst (AreUpTo k c) (omega arith) up)
  replay_up_to net (x ∷ journal) c d n up e =
      let first = option_then (λ f. replay_from k net f journal) (deliver_at k net c x) d e in
      let made = delivered_at k net c first.0 x first.1 in
      subst (AreUpTo k d) (omega arith) (replay_up_to net journal first.0 d (n + 1) (deliver_up_to net c first.0 x.arc.0 n up made.1) first.2)

  pub journal_up_to : (net : PureNet) (nodes : List S) (journal : List Delivery) (c : Machine S M) → Replay k net nodes journal ≡ Some c → AreUpTo k c (length journal)
  journal_up_to net nodes journal c e = subst (AreUpTo k c) (omega arith) (replay_up_to net journal (Start k nodes) c 0 (start_up_to nodes) e)

  -- after the least delivery come all that the machine can make next
  module _ (net : PureNet) (c : Machine S M) (e : Delivery) (least : IsLeast k net c e) (w : IsFront k net c e.arc.0 e.clock) (s : S) where
    abbrev next : Machine S M
    next = stepped k c e.arc.0 w.number s w.message w.rest

    -- at the same listener the clock has passed
    same_node : (b t : ℕ) (f : IsFront k net next b t) → (f.number == w.number) ≡ true → ComesBefore net e (entry_at t b)
    same_node b t f same =
        let clock : changed_at c.clock w.number (clock_after k c w.number w.message) f.number ≡ e.clock = rw same (sym w.clock_is) in
        let is = f.clock_is in
        inl (omega (arith, clock, is))

    -- an old message at another listener is one that could be taken before
    old_front : (b t : ℕ) (i : ℕ) (m : M) (rest : List M) → listener net b ≡ Some i → (i == w.number) ≡ false → c.link b ≡ m ∷ rest → t ≡ clock_after k c i m → ComesBefore net e (entry_at t b)
    old_front b t i m rest listens other front is =
        let was : front_clock k net c b ≡ Some t = front_is k net c b t (record { number = i; message = m; rest = rest; listens = listens; front = front; clock_is = is }) in
        order (eqb-false i w.number other) (λ h. least.least b t was (inl h)) (λ same h. least.least b t was (inr (same, (i, w.number, listens, w.listens, h))))
      where
        order : (i ≡ w.number → ⊥) → (t < e.clock → ⊥) → (t ≡ e.clock → i < w.number → ⊥) → ComesBefore net e (entry_at t b)
        order ne early low = by (ltb e.clock t) refl
          where
            by : (x : Bool) → ltb e.clock t ≡ x → ComesBefore net e (entry_at t b)
            by true h = inl (grind (arith, nat_tests))
            by false h =
                let same : e.clock ≡ t = grind (arith, nat_tests) in
                let above : w.number < i = grind (arith, nat_tests) in
                inr (same, (w.number, i, w.listens, listens, above))

    -- what was sent has the clock as its stamp
    new_front : (b t i : ℕ) (m : M) (rest : List M) → on_arc b (step_of k c e.arc.0 w.number s w.message).1 ≡ m ∷ rest → t ≡ clock_after k next i m → ComesBefore net e (entry_at t b)
    new_front b t i m rest sent is =
        let at = clock_after k c w.number w.message in
        let stamps = on_arc_all (λ x. k.stamp x ≡ at) b (step_of k c e.arc.0 w.number s w.message).1 (lawful.step_sends s e.arc.0 w.message at).stamped in
        let stamp = (subst (AllByRecursion (λ x. k.stamp x ≡ at)) sent stamps).0 in
        let clock = w.clock_is in
        inl (omega (arith, stamp, clock, is))

    other_node : (b t : ℕ) (f : IsFront k net next b t) → (f.number == w.number) ≡ false → ComesBefore net e (entry_at t b)
    other_node b t f other = by (c.link b) refl (waits f.front)
      where
        elsewhere : (b == e.arc.0) ≡ false
        elsewhere = false_from_ne_true (b == e.arc.0) (λ h. eqb-false f.number w.number other (same_Some _ _ (sym f.listens ∙ (ap (listener net) (eqb-true b e.arc.0 h) ∙ w.listens))))

        waits : next.link b ≡ f.message ∷ f.rest → c.link b ++ on_arc b (step_of k c e.arc.0 w.number s w.message).1 ≡ f.message ∷ f.rest
        waits h = rw elsewhere at h

        clock : clock_after k next f.number f.message ≡ clock_after k c f.number f.message
        clock = rw other refl

        by : (l : List M) → c.link b ≡ l → l ++ on_arc b (step_of k c e.arc.0 w.number s w.message).1 ≡ f.message ∷ f.rest → ComesBefore net e (entry_at t b)
        by [] none h = new_front b t f.number f.message f.rest h f.clock_is
        by (m ∷ rest) front h = let same : f.message ≡ m = cc in old_front b t f.number m rest f.listens other front (f.clock_is ∙ (clock ∙ ap (clock_after k c f.number) same))

    pub stepped_after : IsAfter k net next e
    stepped_after b t h = let f = front_of k net next b t h in by f (f.number == w.number) refl
      where
        by : (f : IsFront k net next b t) (x : Bool) → (f.number == w.number) ≡ x → ComesBefore net e (entry_at t b)
        by f true same = same_node b t f same
        by f false other = other_node b t f other

  -- a delivery that is least leaves only later ones to be made
  pub least_is_after : (net : PureNet) (c d : Machine S M) (e : Delivery) → IsLeast k net c e → Deliver k net c e.arc.0 ≡ Some d → IsAfter k net d e
  least_is_after net c d e least made =
      let w = delivery_of k net c e.arc.0 d made in
      let is : e.clock ≡ clock_after k c w.number w.message = same_Some _ _ (sym least.front ∙ front_is k net c e.arc.0 (clock_after k c w.number w.message) (record { number = w.number; message = w.message; rest = w.rest; listens = w.listens; front = w.front; clock_is = refl })) in
      subst (λ x. IsAfter k net x e) (sym w.makes)
      (stepped_after net c e least (record { number = w.number; message = w.message; rest = w.rest; listens = w.listens; front = w.front; clock_is = is }) w.node)

  -- so a journal that is made least first is in order
  pub least_first : (net : PureNet) (start c d : Machine S M) (journal : List Delivery) (e : Delivery) → LeadsTo k net start journal c → IsLeast k net c e → Deliver k net c e.arc.0 ≡ Some d → LeadsTo k net start (journal ++ e ∷ []) d
  least_first net start c d journal e to least made =
      let next = least_is_after net c d e least made in
      let earlier : AllByRecursion (λ f. ComesBefore net f e) journal = all_mapped (IsAfter k net c) (λ f. ComesBefore net f e) (λ f after. after e.arc.0 e.clock least.front) journal to.after in
      record {
        replays = replay_more k net start c d journal e to.replays (deliver_by_clock k net c e least.front ∙ made);
        ordered = ordered_more net journal e to.ordered earlier;
        after = all_join (IsAfter k net d) journal (e ∷ [])
            (all_mapped (λ f. ComesBefore net f e) (IsAfter k net d) (λ f before a t h. before_then net f e (entry_at t a) before (next a t h)) journal earlier) (next, tt);
      }
