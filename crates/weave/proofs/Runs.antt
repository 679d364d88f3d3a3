-- What a worker does with its block adds up.
use Rattle.std.proofs.Common.{◌≡◌, ℕ, zero, suc, ◌+◌, ◌<◌, Bool, true, false, cond, length-append, List, [], ◌∷◌, ◌++◌, Option, Some, None, map, length, refl, sym, ap, subst, ◌∙◌, append_assoc, append-nil, slice_get}
use Rattle.std.specs.Prelude.{◌==◌}
use Rattle.std.specs.List.{AllByRecursion}
use Rattle.std.proofs.lemmas.Bool.{eqb-true, eqb-false, false_from_ne_true}
use Rattle.std.proofs.lemmas.Option.{same_Some}
use Rattle.meta_base.specs.declared.ids.Delivery.{Delivery}
use Rattle.net_graph.specs.Nets.{PureArc, PureNet, IsNet, IsArcOf}
use Rattle.node_core.specs.Kinds.{Kind, IsLawful, listener, speaker, on_arc}
use Rattle.node_core.specs.Machine.{changed_at}
use Rattle.node_core.specs.MachineLaws.{same_test, at_each, all_join, on_arc_join, on_arc_none, option_from}
use Rattle.woven_laws.specs.Histories.{Taken, entry_of, taken_on, clock_past, node_after, IsTimed, option_after, option_out}
use Rattle.woven_laws.specs.HistoryLaws.{taken_on_join, clock_past_join, timed_join, option_after_join, option_out_join, after_none, out_none}
use Rattle.woven_laws.specs.Counts.{sent_by_all, taken_by_all}
use Rattle.woven_laws.specs.CountLaws.{total_same, total_plus, total_zero, total_at}
use Rattle.weave.specs.Views.{View, IsSeated, AreSeated, HasTaken, HasRun, IsSameView}
use Rattle.weave.proofs.Passing.{passed_then}

pub map_join : {X Y : Type 0} (f : X → Y) (xs ys : List X) → map f (xs ++ ys) ≡ map f xs ++ map f ys
map_join f [] ys = refl
map_join f (x ∷ xs) ys = ap (λ l. f x ∷ l) (map_join f xs ys)

pub all_at : {X : Type 0} (P : X → Type 0) (xs : List X) (i : ℕ) (x : X) → AllByRecursion P xs → slice_get xs i ≡ Some x → P x
all_at P [] i x all e = absurd (cc)
all_at P (y ∷ xs) zero x all e = subst P (same_Some _ _ e) all.0
all_at P (y ∷ xs) (suc i) x all e = all_at P xs i x all.1 e

-- who listens is a node of the network
pub listens_among : (net : PureNet) → IsNet net → (a i : ℕ) → listener net a ≡ Some i → i < length net.nodes
listens_among net is_net a i e =
    let from = option_from (λ (arc : PureArc). arc.tail) (slice_get net.arcs a) i e in
    let arc = all_at (IsArcOf net.alg (length net.nodes)) net.arcs a from.0 is_net.arcs_in from.1 in
    subst (λ n. n < length net.nodes) from.2 arc.tail_in

module _ {S M : Type 0} (k : Kind S M) (net : PureNet) where
  silent : (P : ℕ × M → Type 0) (o : Option S) → AllByRecursion P (option_out k o [])
  silent P None = tt
  silent P (Some s) = tt

  pub run_same : (v w : View S M) → IsSameView v w → HasRun k net v (λ i. []) w
  run_same v w same =
      record {
        node_is = λ i. same.node_is i ∙ sym (after_none k (v.node i));
        none_takes = λ i e. refl;
        clock_is = same.clock_is;
        timed = λ i. tt;
        heard = λ i. tt;
        spoken = λ i. silent (λ p. speaker net p.0 ≡ Some i) (v.node i);
        log_is = λ i. same.log_is i ∙ sym (append-nil (v.log i));
        lane_is = λ a i j l s. rw (out_none k (v.node j)) (same.lane_is a);
      }

  module _ (v w x : View S M) (h g : ℕ → List (Taken M)) (a : HasRun k net v h w) (b : HasRun k net w g x) where
    both_out : (i : ℕ) → option_out k (v.node i) (h i ++ g i) ≡ option_out k (v.node i) (h i) ++ option_out k (w.node i) (g i)
    both_out i = option_out_join k (v.node i) (h i) (g i) ∙ ap (λ o. option_out k (v.node i) (h i) ++ option_out k o (g i)) (sym (a.node_is i))

    both_on : (n j : ℕ) → on_arc n (option_out k (v.node j) (h j ++ g j)) ≡ on_arc n (option_out k (v.node j) (h j)) ++ on_arc n (option_out k (w.node j) (g j))
    both_on n j = ap (on_arc n) (both_out j) ∙ on_arc_join n (option_out k (v.node j) (h j)) (option_out k (w.node j) (g j))

    no_takes : (i : ℕ) → v.node i ≡ None → h i ++ g i ≡ []
    no_takes i e =
        let first : h i ≡ [] = a.none_takes i e in
        let gone : w.node i ≡ None = a.node_is i ∙ ap (λ o. option_after k o (h i)) e in
        let second : g i ≡ [] = b.none_takes i gone in
        rw (first, second) refl

    pub run_then : HasRun k net v (λ i. h i ++ g i) x
    run_then =
        record {
          node_is = λ i. b.node_is i ∙ (ap (λ o. option_after k o (g i)) (a.node_is i) ∙ option_after_join k (v.node i) (h i) (g i));
          none_takes = no_takes;
          clock_is = λ i. b.clock_is i ∙ (ap (λ t. clock_past t (g i)) (a.clock_is i) ∙ sym (clock_past_join (v.clock i) (h i) (g i)));
          timed = λ i. timed_join k (v.clock i) (h i) (g i) (a.timed i) (rw (a.clock_is i) at (b.timed i));
          heard = λ i. all_join (λ (t : Taken M). listener net t.arc ≡ Some i) (h i) (g i) (a.heard i) (b.heard i);
          spoken = λ i. rw (both_out i) (all_join (λ (p : ℕ × M). speaker net p.0 ≡ Some i) (option_out k (v.node i) (h i)) (option_out k (w.node i) (g i)) (a.spoken i) (b.spoken i));
          log_is = λ i. b.log_is i ∙ (ap (λ l. l ++ map entry_of (g i)) (a.log_is i) ∙ (append_assoc (v.log i) (map entry_of (h i)) (map entry_of (g i)) ∙ ap (λ l. v.log i ++ l) (sym (map_join entry_of (h i) (g i)))));
          lane_is = λ n i j l s. rw (both_on n j, taken_on_join n (h i) (g i))
              (passed_then (v.lane n) (w.lane n) (x.lane n) (on_arc n (option_out k (v.node j) (h j))) (taken_on n (h i)) (on_arc n (option_out k (w.node j) (g j))) (taken_on n (g i)) (a.lane_is n i j l s) (b.lane_is n i j l s));
        }

    -- and so do the numbers of what was sent and taken
    pub sent_then : sent_by_all k net v.node (λ i. h i ++ g i) ≡ sent_by_all k net v.node h + sent_by_all k net w.node g
    sent_then =
        total_same (length net.nodes) (λ i. length (option_out k (v.node i) (h i ++ g i))) (λ i. length (option_out k (v.node i) (h i)) + length (option_out k (w.node i) (g i)))
        (λ i lt. ap length (both_out i) ∙ length-append (option_out k (v.node i) (h i)) (option_out k (w.node i) (g i)))
        ∙ total_plus (length net.nodes) (λ i. length (option_out k (v.node i) (h i))) (λ i. length (option_out k (w.node i) (g i)))

    pub taken_then : taken_by_all net (λ i. h i ++ g i) ≡ taken_by_all net h + taken_by_all net g
    taken_then =
        total_same (length net.nodes) (λ i. length (h i ++ g i)) (λ i. length (h i) + length (g i)) (λ i lt. length-append (h i) (g i))
        ∙ total_plus (length net.nodes) (λ i. length (h i)) (λ i. length (g i))

  -- nothing taken is nothing counted
  pub none_sent : (node : ℕ → Option S) → sent_by_all k net node (λ i. []) ≡ 0
  none_sent node = total_zero (length net.nodes) (λ i. length (option_out k (node i) [])) (λ i lt. ap length (out_none k (node i)))

  pub none_taken : (X : Type 0) → taken_by_all {M = X} net (λ i. []) ≡ 0
  none_taken X = total_zero (length net.nodes) (λ i. 0) (λ i lt. refl)

  module _ (lawful : IsLawful k) (is_net : IsNet net) (v w : View S M) (e : Delivery) (out : List (ℕ × M)) (seated : AreSeated k net v) (x : HasTaken k net v e out out w) where
    abbrev entry : Taken M
    entry = record { clock = e.clock; arc = e.arc.0; message = x.message }

    abbrev pub one : ℕ → List (Taken M)
    one = changed_at (λ j. []) x.number (entry ∷ [])

    place : IsSeated k net x.number (v.clock x.number) x.node
    place = seated x.number x.node x.was

    stepped : S × List (ℕ × M)
    stepped = k.step x.node e.arc.0 x.message e.clock

    pub spoken_out : AllByRecursion (λ (p : ℕ × M). speaker net p.0 ≡ Some x.number) (k.step x.node e.arc.0 x.message e.clock).1
    spoken_out =
        subst (λ n. AllByRecursion (λ (p : ℕ × M). speaker net p.0 ≡ Some n) (k.step x.node e.arc.0 x.message e.clock).1) place.number_is
        (subst (λ m. AllByRecursion (λ (p : ℕ × M). speaker m p.0 ≡ Some (k.number x.node)) (k.step x.node e.arc.0 x.message e.clock).1) place.net_is
        ((lawful.step_sends x.node e.arc.0 x.message e.clock).spoken (subst (λ m. IsNet m) (sym place.net_is) is_net)))

    out_here : option_out k (v.node x.number) (one x.number) ≡ out
    out_here = rw (same_test x.number, x.was) (append-nil (k.step x.node e.arc.0 x.message e.clock).1 ∙ sym x.out_is)

    -- what the speaker of an arc puts there
    sent_is : (b j : ℕ) → speaker net b ≡ Some j → on_arc b (option_out k (v.node j) (one j)) ≡ on_arc b out
    sent_is b j speaks = by (j == x.number) refl
      where
        by : (t : Bool) → (j == x.number) ≡ t → on_arc b (option_out k (v.node j) (one j)) ≡ on_arc b out
        by true t = let same : j ≡ x.number = eqb-true j x.number t in subst (λ n. on_arc b (option_out k (v.node n) (one n)) ≡ on_arc b out) (sym same) (ap (on_arc b) out_here)
        by false t =
            let other : speaker net b ≡ Some x.number → ⊥ = λ h. eqb-false j x.number t (same_Some _ _ (sym speaks ∙ h)) in
            let none : on_arc b out ≡ [] = on_arc_none (λ c. speaker net c ≡ Some x.number) b other out (subst (AllByRecursion (λ (p : ℕ × M). speaker net p.0 ≡ Some x.number)) (sym x.out_is) spoken_out) in
            rw (t, none, out_none k (v.node j)) refl

    -- what its listener takes there
    taken_is : (b i : ℕ) → listener net b ≡ Some i → taken_on b (one i) ≡ cond (e.arc.0 == b) (x.message ∷ []) []
    taken_is b i hears = by (i == x.number) refl
      where
        by : (t : Bool) → (i == x.number) ≡ t → taken_on b (one i) ≡ cond (e.arc.0 == b) (x.message ∷ []) []
        by true t = rw t refl
        by false t =
            let other : (e.arc.0 == b) ≡ false = false_from_ne_true (e.arc.0 == b) (λ h. eqb-false i x.number t (same_Some _ _ (sym hears ∙ (ap (listener net) (sym (eqb-true e.arc.0 b h)) ∙ x.listens)))) in
            rw (t, other) refl

    pub run_taken : HasRun k net v one w
    run_taken =
        record {
          node_is = at_each (λ j. w.node j ≡ option_after k (v.node j) (one j)) x.number (rw (same_test x.number, x.was) (rw (same_test x.number) at (x.node_is x.number))) (λ j ne. rw ne ((rw ne at (x.node_is j)) ∙ sym (after_none k (v.node j))));
          none_takes = at_each (λ j. v.node j ≡ None → one j ≡ []) x.number (λ gone. let was = x.was in absurd (cc)) (λ j ne gone. rw ne refl);
          clock_is = at_each (λ j. w.clock j ≡ clock_past (v.clock j) (one j)) x.number (rw (same_test x.number) (rw (same_test x.number) at (x.clock_is x.number))) (λ j ne. rw ne (rw ne at (x.clock_is j)));
          timed = at_each (λ j. IsTimed k (v.clock j) (one j)) x.number (rw (same_test x.number) (x.timed, tt)) (λ j ne. rw ne tt);
          heard = at_each (λ j. AllByRecursion (λ (t : Taken M). listener net t.arc ≡ Some j) (one j)) x.number (rw (same_test x.number) (x.listens, tt)) (λ j ne. rw ne tt);
          spoken = at_each (λ j. AllByRecursion (λ (p : ℕ × M). speaker net p.0 ≡ Some j) (option_out k (v.node j) (one j))) x.number
              (subst (AllByRecursion (λ (p : ℕ × M). speaker net p.0 ≡ Some x.number)) (sym (out_here ∙ x.out_is)) spoken_out)
              (λ j ne. rw ne (silent (λ p. speaker net p.0 ≡ Some j) (v.node j)));
          log_is = at_each (λ j. w.log j ≡ v.log j ++ map entry_of (one j)) x.number (rw (same_test x.number) (rw (same_test x.number) at (x.log_is x.number))) (λ j ne. rw ne ((rw ne at (x.log_is j)) ∙ sym (append-nil (v.log j))));
          lane_is = λ b i j hears speaks. rw (sent_is b j speaks, taken_is b i hears) (x.lane_is b);
        }

    among : x.number < length net.nodes
    among = listens_among net is_net e.arc.0 x.number x.listens

    pub sent_taken : sent_by_all k net v.node one ≡ length out
    sent_taken = total_at (length net.nodes) x.number (λ j. length (option_out k (v.node j) (one j))) among (λ j ne. rw ne (ap length (out_none k (v.node j)))) ∙ ap length out_here

    pub one_taken : taken_by_all net one ≡ 1
    one_taken = total_at (length net.nodes) x.number (λ j. length (one j)) among (λ j ne. rw ne refl) ∙ rw (same_test x.number) refl

  -- nodes keep their places
  seated_after : IsLawful k → (s : S) (i t : ℕ) (history : List (Taken M)) → IsSeated k net i t s → IsSeated k net i (clock_past t history) (node_after k s history)
  seated_after lawful s i t [] x = x
  seated_after lawful s i t (h ∷ history) x =
      let later = lawful.steps s h.arc h.message h.clock x.begun in
      seated_after lawful (k.step s h.arc h.message h.clock).0 i h.clock history
      (record { net_is = later.net ∙ x.net_is; number_is = later.number ∙ x.number_is; begun = later.begun; last_is = later.last })

  pub seated_run : IsLawful k → (v w : View S M) (h : ℕ → List (Taken M)) → AreSeated k net v → HasRun k net v h w → AreSeated k net w
  seated_run lawful v w h seated r i s e = by (v.node i) refl
    where
      by : (o : Option S) → v.node i ≡ o → IsSeated k net i (w.clock i) s
      by None was = let gone : w.node i ≡ None = r.node_is i ∙ ap (λ o. option_after k o (h i)) was in absurd (cc)
      by (Some before) was =
          let now : w.node i ≡ Some (node_after k before (h i)) = r.node_is i ∙ ap (λ o. option_after k o (h i)) was in
          let same : node_after k before (h i) ≡ s = same_Some _ _ (sym now ∙ e) in
          subst (IsSeated k net i (w.clock i)) same (subst (λ t. IsSeated k net i t (node_after k before (h i))) (sym (r.clock_is i)) (seated_after lawful before i (v.clock i) (h i) (seated i before was)))
