-- The replay of merged histories ends where the nodes are.
use Rattle.std.proofs.Common.{◌≡◌, ℕ, ◌≤◌, ltb, Bool, true, false, List, [], ◌∷◌, ◌++◌, Option, Some, None, length, refl, sym, ◌∙◌, ap, subst, inl, inr, map, filter, arith, append_assoc, append-nil}
use Rattle.std.proofs.lemmas.Bool.{eqb-true, eqb-false, false_from_ne_true}
use Rattle.std.proofs.lemmas.Bool.Decides.{nat_tests}
use Rattle.std.proofs.lemmas.Option.{same_Some}
use Rattle.std.specs.Prelude.{◌==◌}
use Rattle.std.specs.List.{AllByRecursion}
use mathlib.Core.Path.{fun_ext}
use Rattle.meta_base.specs.declared.ids.Delivery.{Delivery}
use Rattle.net_graph.specs.Nets.{PureNet}
use Rattle.net_graph.specs.NetLaws.{all_passed}
use Rattle.node_core.specs.Kinds.{Kind, IsLawful, listener, speaker, on_arc}
use Rattle.node_core.specs.Machine.{Machine, changed_at, clock_after, stepped, Deliver, deliver_at, replay_from, ComesBefore, Ordered}
use Rattle.node_core.specs.MachineLaws.{same_test, at_each, all_join, all_mapped, on_arc_join, on_arc_all, on_arc_none, speaks_within, listens_within, front_is, deliver_by_clock}
use Rattle.woven_laws.specs.Histories.{Taken, entry_of, taken_on, clock_past, put_out, IsTimed, option_after, option_out}
use Rattle.woven_laws.specs.HistoryLaws.{after_none, out_none}
use Rattle.woven_laws.specs.Woven.{Woven, hears, IsMergeOf}
use Rattle.woven_laws.specs.ArcEnds.{ends_at, ends_heard}

module _ {X : Type 0} (P : X → Type 0) where
  all_left : (xs ys : List X) → AllByRecursion P (xs ++ ys) → AllByRecursion P xs
  all_left [] ys all = tt
  all_left (x ∷ xs) ys all = (all.0, all_left xs ys all.1)

  all_right : (xs ys : List X) → AllByRecursion P (xs ++ ys) → AllByRecursion P ys
  all_right [] ys all = all
  all_right (x ∷ xs) ys all = all_right xs ys all.1

all_unmapped : {X Y : Type 0} (P : Y → Type 0) (f : X → Y) (xs : List X) → AllByRecursion P (map f xs) → AllByRecursion (λ x. P (f x)) xs
all_unmapped P f [] all = tt
all_unmapped P f (x ∷ xs) all = (all.0, all_unmapped P f xs all.1)

-- a list that begins with y, as the map of another
record Unmapped {X Y : Type 0} (f : X → Y) (y : Y) (ys : List Y) (xs : List X) : Type 0 where
  first : X
  rest : List X
  is : xs ≡ first ∷ rest
  first_is : y ≡ f first
  rest_is : ys ≡ map f rest

unmapped : {X Y : Type 0} (f : X → Y) (y : Y) (ys : List Y) (xs : List X) → y ∷ ys ≡ map f xs → Unmapped f y ys xs
unmapped f y ys [] e = absurd (cc)
unmapped f y ys (x ∷ xs) e = record { first = x; rest = xs; is = refl; first_is = cc; rest_is = cc }

map_none : {X Y : Type 0} (f : X → Y) (xs : List X) → [] ≡ map f xs → xs ≡ []
map_none f [] e = refl
map_none f (x ∷ xs) e = absurd (cc)

other_number : (i j : ℕ) → (j == i) ≡ false → (i == j) ≡ false
other_number i j ne = false_from_ne_true (i == j) (λ e. eqb-false j i ne (sym (eqb-true i j e)))

no_later : (net : PureNet) (e d : Delivery) → ComesBefore net e d → e.clock ≤ d.clock
no_later net e d (inl x) = omega (arith, x)
no_later net e d (inr x) = let same = x.0 in omega (arith, same)

module _ {M : Type 0} where
  taken_on_other : (a : ℕ) (h : Taken M) (hs : List (Taken M)) → (a == h.arc) ≡ false → taken_on a (h ∷ hs) ≡ taken_on a hs
  taken_on_other a h hs ne = rw (other_number h.arc a ne) refl

  taken_on_same : (h : Taken M) (hs : List (Taken M)) → taken_on h.arc (h ∷ hs) ≡ h.message ∷ taken_on h.arc hs
  taken_on_same h hs = rw (same_test h.arc) refl

module _ {S M : Type 0} (k : Kind S M) (net : PureNet) where
  -- what a node puts out after a time is stamped no earlier
  late_out : IsLawful k → (t : ℕ) (s : S) (hs : List (Taken M)) → AllByRecursion (λ (h : Taken M). t ≤ h.clock) hs → AllByRecursion (λ (p : ℕ × M). t ≤ k.stamp p.1) (put_out k s hs)
  late_out lawful t s [] all = tt
  late_out lawful t s (h ∷ hs) all =
      let next = k.step s h.arc h.message h.clock in
      let late = all.0 in
      all_join (λ (p : ℕ × M). t ≤ k.stamp p.1) next.1 (put_out k next.0 hs)
      (all_mapped (λ (p : ℕ × M). k.stamp p.1 ≡ h.clock) (λ (p : ℕ × M). t ≤ k.stamp p.1) (λ p e. omega (arith, late, e)) next.1 (lawful.step_sends s h.arc h.message h.clock).stamped)
      (late_out lawful t next.0 hs all.1)

  option_late : IsLawful k → (t : ℕ) (o : Option S) (hs : List (Taken M)) → AllByRecursion (λ (h : Taken M). t ≤ h.clock) hs → AllByRecursion (λ (p : ℕ × M). t ≤ k.stamp p.1) (option_out k o hs)
  option_late lawful t None hs all = tt
  option_late lawful t (Some s) hs all = late_out lawful t s hs all

  -- the machine after node i took m at a clock
  abbrev moved : Machine S M → ℕ → ℕ → S → M → List M → ℕ → Machine S M
  moved c a i s m rest t =
      record {
        node = changed_at c.node i (Some (k.step s a m t).0);
        clock = changed_at c.clock i t;
        link = λ b. changed_at c.link a rest b ++ on_arc b (k.step s a m t).1;
      }

  module _ (c d : Machine S M) (history : ℕ → List (Taken M)) (w : Woven k net c history d)
      (i : ℕ) (h : Taken M) (hs : List (Taken M)) (s : S) (rest : List M)
      (here : history i ≡ h ∷ hs) (there : c.node i ≡ Some s) (front : c.link h.arc ≡ h.message ∷ rest) where
    abbrev next : S × List (ℕ × M)
    next = k.step s h.arc h.message h.clock

    abbrev after : Machine S M
    after = moved c h.arc i s h.message rest h.clock

    abbrev then : ℕ → List (Taken M)
    then = changed_at history i hs

    heard_here : listener net h.arc ≡ Some i
    heard_here = (rw here at (w.heard i)).0

    spoken_here : AllByRecursion (λ (p : ℕ × M). speaker net p.0 ≡ Some i) (next.1 ++ put_out k next.0 hs)
    spoken_here = rw (there, here) at (w.spoken i)

    -- what the speaker of an arc puts there: first what this step does, then the rest
    sent_split : (b j : ℕ) → speaker net b ≡ Some j → on_arc b (option_out k (c.node j) (history j)) ≡ on_arc b next.1 ++ on_arc b (option_out k (after.node j) (then j))
    sent_split b = at_each (λ j. speaker net b ≡ Some j → on_arc b (option_out k (c.node j) (history j)) ≡ on_arc b next.1 ++ on_arc b (option_out k (after.node j) (then j))) i
        (λ speaks. rw (same_test i, there, here) (on_arc_join b next.1 (put_out k next.0 hs)))
        (λ j ne speaks. rw (ne, none j ne speaks) refl)
      where
        none : (j : ℕ) → (j == i) ≡ false → speaker net b ≡ Some j → on_arc b next.1 ≡ []
        none j ne speaks = on_arc_none (λ x. speaker net x ≡ Some i) b (λ e. eqb-false j i ne (same_Some _ _ (sym speaks ∙ e))) next.1
            (all_left (λ (p : ℕ × M). speaker net p.0 ≡ Some i) next.1 (put_out k next.0 hs) spoken_here)

    taken_other : (b j : ℕ) → (b == h.arc) ≡ false → taken_on b (history j) ≡ taken_on b (then j)
    taken_other b j ne = at_each (λ x. taken_on b (history x) ≡ taken_on b (then x)) i (rw (same_test i, here) (taken_on_other b h hs ne)) (λ x e. rw e refl) j

    taken_same : (j : ℕ) → listener net h.arc ≡ Some j → taken_on h.arc (history j) ≡ h.message ∷ taken_on h.arc (then j)
    taken_same j listens =
        let at_i : taken_on h.arc (history i) ≡ h.message ∷ taken_on h.arc (then i) = rw (same_test i, here) (taken_on_same h hs) in
        subst (λ x. taken_on h.arc (history x) ≡ h.message ∷ taken_on h.arc (then x)) (same_Some _ _ (sym heard_here ∙ listens)) at_i

    abbrev IsLinkOf : ℕ → ℕ → ℕ → Type 0
    IsLinkOf b x y = listener net b ≡ Some x → speaker net b ≡ Some y → after.link b ++ on_arc b (option_out k (after.node y) (then y)) ≡ taken_on b (then x) ++ d.link b

    link_other : (b : ℕ) → (b == h.arc) ≡ false → (x y : ℕ) → IsLinkOf b x y
    link_other b ne x y listens speaks =
        let sent = on_arc b (option_out k (after.node y) (then y)) in
        rw ne (append_assoc (c.link b) (on_arc b next.1) sent ∙ (ap (λ l. c.link b ++ l) (sym (sent_split b y speaks)) ∙ (w.link_is b x y listens speaks ∙ ap (λ l. l ++ d.link b) (taken_other b x ne))))

    link_same : (x y : ℕ) → IsLinkOf h.arc x y
    link_same x y listens speaks =
        let a = h.arc in
        let sent = on_arc a (option_out k (after.node y) (then y)) in
        let takes = taken_on a (then x) in
        let whole : h.message ∷ (rest ++ (on_arc a next.1 ++ sent)) ≡ h.message ∷ (takes ++ d.link a) =
        ap (λ l. h.message ∷ (rest ++ l)) (sym (sent_split a y speaks)) ∙ (ap (λ l. l ++ on_arc a (option_out k (c.node y) (history y))) (sym front) ∙ (w.link_is a x y listens speaks ∙ ap (λ l. l ++ d.link a) (taken_same x listens))) in
        let inner : rest ++ (on_arc a next.1 ++ sent) ≡ takes ++ d.link a = cc in
        rw (same_test a) (append_assoc rest (on_arc a next.1) sent ∙ inner)

    outside_still : (b : ℕ) → length net.arcs ≤ b → after.link b ≡ d.link b
    outside_still b past =
        let within = listens_within net h.arc i heard_here in
        let ne : (b == h.arc) ≡ false = grind (arith, nat_tests) in
        let none : on_arc b next.1 ≡ [] = on_arc_none (λ x. speaker net x ≡ Some i) b (λ e. let inside = speaks_within net b i e in absurd (omega (arith, inside, past))) next.1
        (all_left (λ (p : ℕ × M). speaker net p.0 ≡ Some i) next.1 (put_out k next.0 hs) spoken_here) in
        rw (ne, none) (append-nil (c.link b) ∙ w.outside b past)

    woven_step : Woven k net after then d
    woven_step =
        record {
          node_is = at_each (λ j. d.node j ≡ option_after k (after.node j) (then j)) i (rw (same_test i) (rw (there, here) at (w.node_is i))) (λ j e. rw e (w.node_is j));
          none_takes = at_each (λ j. after.node j ≡ None → then j ≡ []) i (rw (same_test i) (λ n. absurd (cc))) (λ j e. rw e (w.none_takes j));
          clock_is = at_each (λ j. d.clock j ≡ clock_past (after.clock j) (then j)) i (rw (same_test i) (rw here at (w.clock_is i))) (λ j e. rw e (w.clock_is j));
          timed = at_each (λ j. IsTimed k (after.clock j) (then j)) i (rw (same_test i) ((rw here at (w.timed i)).1)) (λ j e. rw e (w.timed j));
          heard = at_each (λ j. AllByRecursion (λ (g : Taken M). listener net g.arc ≡ Some j) (then j)) i (rw (same_test i) ((rw here at (w.heard i)).1)) (λ j e. rw e (w.heard j));
          spoken = at_each (λ j. AllByRecursion (λ (p : ℕ × M). speaker net p.0 ≡ Some j) (option_out k (after.node j) (then j))) i (rw (same_test i) (all_right (λ (p : ℕ × M). speaker net p.0 ≡ Some i) next.1 (put_out k next.0 hs) spoken_here)) (λ j e. rw e (w.spoken j));
          link_is = at_each (λ b. (x y : ℕ) → IsLinkOf b x y) h.arc link_same link_other;
          outside = outside_still;
        }

  module _ (c d : Machine S M) (history : ℕ → List (Taken M)) (w : Woven k net c history d) where
    -- with nothing left to take, the machine is there
    woven_done : ((i : ℕ) → history i ≡ []) → c ≡ d
    woven_done none =
        let node : c.node ≡ d.node = fun_ext (λ j. sym (w.node_is j ∙ (ap (λ l. option_after k (c.node j) l) (none j) ∙ after_none k (c.node j)))) in
        let clock : c.clock ≡ d.clock = fun_ext (λ j. sym (w.clock_is j ∙ ap (λ l. clock_past (c.clock j) l) (none j))) in
        let link : c.link ≡ d.link = fun_ext (λ a. same_link a (ltb a (length net.arcs)) refl) in
        λ x. record { node = node x; clock = clock x; link = link x }
      where
        inside : (a i j : ℕ) → listener net a ≡ Some i → speaker net a ≡ Some j → c.link a ≡ d.link a
        inside a i j listens speaks =
            let sent : on_arc a (option_out k (c.node j) (history j)) ≡ [] = ap (on_arc a) (ap (λ l. option_out k (c.node j) l) (none j) ∙ out_none k (c.node j)) in
            let taken : taken_on a (history i) ≡ [] = ap (λ l. taken_on a l) (none i) in
            sym (append-nil (c.link a)) ∙ (ap (λ l. c.link a ++ l) (sym sent) ∙ (w.link_is a i j listens speaks ∙ ap (λ l. l ++ d.link a) taken))

        same_link : (a : ℕ) (b : Bool) → ltb a (length net.arcs) ≡ b → c.link a ≡ d.link a
        same_link a true h = let ends = ends_at net a (grind (arith, nat_tests)) in inside a ends.hearer ends.teller ends.listens ends.speaks
        same_link a false h = w.outside a (grind (arith, nat_tests))

    -- the first entry of all can be delivered: its message waits at the front of its arc
    front_waits : IsLawful k → (i : ℕ) (h : Taken M) (hs : List (Taken M)) → history i ≡ h ∷ hs → ((j : ℕ) → AllByRecursion (λ (g : Taken M). h.clock ≤ g.clock) (history j)) → (rest : List M) × (c.link h.arc ≡ h.message ∷ rest)
    front_waits lawful i h hs here late = let ends = ends_heard net h.arc i listens in by ends.teller ends.speaks (c.link h.arc) refl
      where
        listens : listener net h.arc ≡ Some i
        listens = (rw here at (w.heard i)).0

        put : ℕ → List M
        put j = on_arc h.arc (option_out k (c.node j) (history j))

        whole : (j : ℕ) → speaker net h.arc ≡ Some j → c.link h.arc ++ put j ≡ h.message ∷ (taken_on h.arc hs ++ d.link h.arc)
        whole j speaks = w.link_is h.arc i j listens speaks ∙ ap (λ l. l ++ d.link h.arc) (ap (λ l. taken_on h.arc l) here ∙ taken_on_same h hs)

        by : (j : ℕ) → speaker net h.arc ≡ Some j → (l : List M) → c.link h.arc ≡ l → (rest : List M) × (c.link h.arc ≡ h.message ∷ rest)
        by j speaks [] e =
            let is : put j ≡ h.message ∷ (taken_on h.arc hs ++ d.link h.arc) = rw e at (whole j speaks) in
            let all : AllByRecursion (λ m. h.clock ≤ k.stamp m) (put j) = on_arc_all (λ m. h.clock ≤ k.stamp m) h.arc (option_out k (c.node j) (history j)) (option_late lawful h.clock (c.node j) (history j) (late j)) in
            let first = (rw is at all).0 in
            let timed = (rw here at (w.timed i)).0 in
            absurd (omega (arith, first, timed))
        by j speaks (m ∷ rest) e =
            let is : m ∷ (rest ++ put j) ≡ h.message ∷ (taken_on h.arc hs ++ d.link h.arc) = rw e at (whole j speaks) in
            let same : m ≡ h.message = cc in
            (rest, e ∙ ap (λ x. x ∷ rest) same)

    node_there : (i : ℕ) (h : Taken M) (hs : List (Taken M)) → history i ≡ h ∷ hs → (s : S) × (c.node i ≡ Some s)
    node_there i h hs here = by (c.node i) refl
      where
        by : (o : Option S) → c.node i ≡ o → (s : S) × (c.node i ≡ Some s)
        by None e = let none : history i ≡ [] = w.none_takes i e in absurd (cc)
        by (Some s) e = (s, e)

  abbrev FirstEntry : (ℕ → List (Taken M)) → ℕ → List (Taken M) → List Delivery → Machine S M → Machine S M → Taken M → Delivery → Type 0
  FirstEntry history i hs es c d h e =
      IsMergeOf net history (e ∷ es)
      → Ordered net (e ∷ es)
      → listener net e.arc.0 ≡ Some i
      → history i ≡ h ∷ hs
      → filter (hears net i) es ≡ map entry_of hs
      → replay_from k net c (e ∷ es) ≡ Some d

  replay_first : IsLawful k → (c d : Machine S M) (history : ℕ → List (Taken M)) → Woven k net c history d
      → (i : ℕ) (h : Taken M) (hs : List (Taken M)) (es : List Delivery)
      → ((c' : Machine S M) (history' : ℕ → List (Taken M)) → Woven k net c' history' d → IsMergeOf net history' es → Ordered net es → replay_from k net c' es ≡ Some d)
      → FirstEntry history i hs es c d h (entry_of h)
  replay_first lawful c d history w i h hs es ih merge ordered listens here rest_is =
      let node = node_there c d history w i h hs here in
      let front = front_waits c d history w lawful i h hs here late in
      let s = node.0 in
      let rest = front.0 in
      let timed : h.clock ≡ clock_after k c i h.message = (rw here at (w.timed i)).0 in
      let next = after c d history w i h hs s rest here node.1 front.1 in
      let clocked = front_is k net c h.arc h.clock (record { number = i; message = h.message; rest = rest; listens = listens; front = front.1; clock_is = timed }) in
      let moves : Deliver k net c h.arc ≡ Some (stepped k c h.arc i s h.message rest) = rw (listens, front.1, node.1) refl in
      let delivered : deliver_at k net c (entry_of h) ≡ Some next = deliver_by_clock k net c (entry_of h) clocked ∙ (moves ∙ ap (λ t. Some (moved c h.arc i s h.message rest t)) (sym timed)) in
      rw delivered (ih next (changed_at history i hs) (woven_step c d history w i h hs s rest here node.1 front.1) merge' ordered.1)
    where
      all_late : AllByRecursion (λ (e : Delivery). h.clock ≤ e.clock) (entry_of h ∷ es)
      all_late = (omega arith, all_mapped (ComesBefore net (entry_of h)) (λ (e : Delivery). h.clock ≤ e.clock) (λ e before. no_later net (entry_of h) e before) es ordered.0)

      late : (j : ℕ) → AllByRecursion (λ (g : Taken M). h.clock ≤ g.clock) (history j)
      late j = all_unmapped (λ (e : Delivery). h.clock ≤ e.clock) entry_of (history j)
          (subst (λ (l : List Delivery). AllByRecursion (λ (e : Delivery). h.clock ≤ e.clock) l) (merge.each j) (all_passed (λ (e : Delivery). h.clock ≤ e.clock) (hears net j) (entry_of h ∷ es) all_late))

      elsewhere : (j : ℕ) → (j == i) ≡ false → hears net j (entry_of h) ≡ false
      elsewhere j ne = rw (listens, other_number i j ne) refl

      merge' : IsMergeOf net (changed_at history i hs) es
      merge' =
          record {
            on_arcs = merge.on_arcs.1;
            each = at_each (λ j. filter (hears net j) es ≡ map entry_of (changed_at history i hs j)) i (rw (same_test i) rest_is) (λ j ne. rw ne (rw (elsewhere j ne) at (merge.each j)));
          }

  -- the replay of a merge of the histories ends where the nodes are
  pub replay_woven : IsLawful k → (journal : List Delivery) (c d : Machine S M) (history : ℕ → List (Taken M)) → Woven k net c history d → IsMergeOf net history journal → Ordered net journal → replay_from k net c journal ≡ Some d
  replay_woven lawful [] c d history w merge ordered = ap (λ m. Some m) (woven_done c d history w (λ i. map_none entry_of (history i) (merge.each i)))
  replay_woven lawful (e ∷ es) c d history w merge ordered =
      let ends = ends_at net e.arc.0 merge.on_arcs.0 in
      let i = ends.hearer in
      let heard : hears net i e ≡ true = rw ends.listens (same_test i) in
      let first : e ∷ filter (hears net i) es ≡ map entry_of (history i) = rw heard at (merge.each i) in
      let u = unmapped entry_of e (filter (hears net i) es) (history i) first in
      subst (λ (x : Delivery). FirstEntry history i u.rest es c d u.first x) (sym u.first_is)
      (replay_first lawful c d history w i u.first u.rest es (λ c' history' w' merge' ordered'. replay_woven lawful es c' d history' w' merge' ordered'))
      merge ordered ends.listens u.is u.rest_is
