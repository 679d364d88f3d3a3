-- One message that a node of a block takes.
use Rattle.std.proofs.Common.{◌≡◌, ℕ, ◌+◌, ◌<◌, max, Bool, true, false, cond, List, [], ◌∷◌, ◌++◌, Option, Some, None, map, slice_get, slice_set, option_map, refl, sym, ap, subst, ◌∙◌, append-nil}
use Rattle.std.specs.Prelude.{◌==◌}
use Rattle.std.proofs.lemmas.Bool.{eqb-false}
use Rattle.std.proofs.lemmas.Option.{same_Some}
use Rattle.meta_base.specs.declared.ids.ArcId.{ArcId}
use Rattle.meta_base.specs.declared.ids.Delivery.{Delivery}
use Rattle.node_core.specs.declared.node.TheConstants.{MAX_CLOCK}
use Rattle.node_core.specs.Configs.{numbered, noted}
use Rattle.net_graph.specs.Nets.{PureNet}
use Rattle.node_core.specs.Kinds.{Kind, listener, on_arc}
use Rattle.node_core.specs.Machine.{changed_at}
use Rattle.node_core.specs.MachineLaws.{same_test, at_each}
use Rattle.weave.specs.declared.lane.Lane.{Lane}
use Rattle.weave.specs.declared.seat.Seat.{Seat}
use Rattle.weave.specs.Lanes.{PureLane, elsewhere, inside, coming, going, HasPassed, lane_of, lane_in, noted_lane}
use Rattle.weave.specs.Views.{View, IsSeated, AreSeated, HasTaken, IsLate, IsSameView}
use Rattle.weave.specs.Blocks.{flat, clock_in, log_in, view_over}
use Rattle.weave.proofs.Passing.{passed_by, passed_then, passed_noted}
use Rattle.weave.proofs.Places.{set_same, set_other, taken_at, kept_at}

module _ {N M S W : Type 0} (state : N → S) (note : M → W) (k : Kind S W) (net : PureNet) (seats : List (Option (Seat N M))) (lanes : List (Lane M)) where
  noted_one : (b : Bool) (m : M) → map note (cond b (m ∷ []) []) ≡ cond b (note m ∷ []) []
  noted_one true m = refl
  noted_one false m = refl

  pub heard : (i : ℕ) (e : Delivery) (seat new : Seat N M) (lane next : Lane M) (m : M) (out : List (ℕ × W))
      → listener net e.arc.0 ≡ Some i → slice_get seats i ≡ Some (Some seat) → slice_get lanes e.arc.0 ≡ Some lane → e.clock ≡ new.clock
      → new.clock ≡ max seat.clock (k.stamp (note m)) + 1 → new.log ≡ seat.log ++ e ∷ [] → state new.node ≡ (k.step (state seat.node) e.arc.0 (note m) new.clock).0
      → out ≡ (k.step (state seat.node) e.arc.0 (note m) new.clock).1 → HasPassed (lane_of lane) [] (m ∷ []) (lane_of next)
      → HasTaken k net (view_over state note seats lanes) e out [] (view_over state note (slice_set seats i (Some new)) (slice_set lanes e.arc.0 next))
  heard i e seat new lane next m out listens seat_is lane_is e_is clock log node put passed =
      let now : slice_get (slice_set seats i (Some new)) i ≡ Some (Some new) = set_same seats i (Some new) (Some seat) seat_is in
      let v = view_over state note seats lanes in
      let w = view_over state note (slice_set seats i (Some new)) (slice_set lanes e.arc.0 next) in
      record {
        number = i;
        node = state seat.node;
        message = note m;
        listens = listens;
        was = rw seat_is refl;
        timed = rw seat_is (e_is ∙ clock);
        out_is = put ∙ ap (λ t. (k.step (state seat.node) e.arc.0 (note m) t).1) (sym e_is);
        node_is = at_each (λ j. w.node j ≡ changed_at v.node i (Some (k.step (state seat.node) e.arc.0 (note m) e.clock).0) j) i
            (rw (now, same_test i) (ap (λ x. Some x) (node ∙ ap (λ t. (k.step (state seat.node) e.arc.0 (note m) t).0) (sym e_is))))
            (λ j ne. rw (set_other seats i j (Some new) (eqb-false j i ne), ne) refl);
        clock_is = at_each (λ j. w.clock j ≡ changed_at v.clock i e.clock j) i (rw (now, same_test i) (sym e_is)) (λ j ne. rw (set_other seats i j (Some new) (eqb-false j i ne), ne) refl);
        log_is = at_each (λ j. w.log j ≡ changed_at v.log i (v.log i ++ e ∷ []) j) i (rw (now, same_test i, seat_is) log) (λ j ne. rw (set_other seats i j (Some new) (eqb-false j i ne), ne) refl);
        lane_is = λ b. subst (λ l. HasPassed (noted_lane note (lane_in (slice_get lanes b))) [] l (noted_lane note (lane_in (slice_get (slice_set lanes e.arc.0 next) b)))) (noted_one (e.arc.0 == b) m)
            (passed_noted note (lane_in (slice_get lanes b)) (lane_in (slice_get (slice_set lanes e.arc.0 next) b)) [] (cond (e.arc.0 == b) (m ∷ []) []) (taken_at lanes e.arc.0 lane next m lane_is passed b));
      }

  -- where the block has no listener of the arc, or not both ends of it, nothing is late there
  pub late_unseated : (a : ℕ) → ((i : ℕ) → listener net a ≡ Some i → flat (slice_get seats i) ≡ None) → IsLate k net (view_over state note seats lanes) a
  late_unseated a none i s m rest hears there waits = let gone = none i hears in absurd (let clash : None ≡ Some s = rw gone at there in cc)

  pub late_elsewhere : (a : ℕ) → lane_in (slice_get lanes a) ≡ elsewhere → IsLate k net (view_over state note seats lanes) a
  late_elsewhere a none i s m rest hears there waits = absurd (let clash : elsewhere ≡ inside (m ∷ rest) = rw none at waits in cc)

  noted_front : (l : PureLane M) (m : W) (rest : List W) → noted_lane note l ≡ inside (m ∷ rest) → (n : M) × (more : List M) × (l ≡ inside (n ∷ more)) × (note n ≡ m)
  noted_front elsewhere m rest e = absurd (cc)
  noted_front (inside []) m rest e = absurd (cc)
  noted_front (inside (n ∷ more)) m rest e = (n, more, refl, (cc))
  noted_front (coming link received) m rest e = absurd (cc)
  noted_front (going link sent) m rest e = absurd (cc)

  pub late_here : (i a : ℕ) (seat : Seat N M) (lane : Lane M) → slice_get seats i ≡ Some (Some seat) → slice_get lanes a ≡ Some lane → listener net a ≡ Some i
      → ((m : M) (rest : List M) → lane_of lane ≡ inside (m ∷ rest) → MAX_CLOCK < max seat.clock (k.stamp (note m)) + 1) → IsLate k net (view_over state note seats lanes) a
  late_here i a seat lane here there listens late j s m rest hears at waits =
      let same : i ≡ j = same_Some _ _ (sym listens ∙ hears) in
      let front = noted_front (lane_of lane) m rest (rw there at waits) in
      let high : MAX_CLOCK < max seat.clock (k.stamp m) + 1 = subst (λ x. MAX_CLOCK < max seat.clock (k.stamp x) + 1) front.3 (late front.0 front.1 front.2) in
      subst (λ x. MAX_CLOCK < max (clock_in (flat (slice_get seats x))) (k.stamp m) + 1) same (rw here high)

  -- a seat and a lane that stayed as they were
  pub unheard : (i a : ℕ) (seat new : Seat N M) (lane next : Lane M) → slice_get seats i ≡ Some (Some seat) → slice_get lanes a ≡ Some lane → new ≡ seat → lane_of next ≡ lane_of lane
      → IsSameView (view_over state note seats lanes) (view_over state note (slice_set seats i (Some new)) (slice_set lanes a next))
  unheard i a seat new lane next seat_is lane_is same same_lane =
      let now : slice_get (slice_set seats i (Some new)) i ≡ Some (Some new) = set_same seats i (Some new) (Some seat) seat_is in
      let each : (j : ℕ) → slice_get (slice_set seats i (Some new)) j ≡ slice_get seats j = at_each (λ j. slice_get (slice_set seats i (Some new)) j ≡ slice_get seats j) i
      (now ∙ (ap (λ x. Some (Some x)) same ∙ sym seat_is)) (λ j ne. set_other seats i j (Some new) (eqb-false j i ne)) in
      record {
        node_is = λ j. ap (λ o. option_map (λ (x : Seat N M). state x.node) (flat o)) (each j);
        clock_is = λ j. ap (λ o. clock_in (flat o)) (each j);
        log_is = λ j. ap (λ o. log_in (flat o)) (each j);
        lane_is = λ b. passed_by (noted_lane note (lane_in (slice_get lanes b))) (noted_lane note (lane_in (slice_get (slice_set lanes a next) b))) (ap (noted_lane note) (kept_at lanes a lane next lane_is same_lane b));
      }

  pub same_view : IsSameView (view_over state note seats lanes) (view_over state note seats lanes)
  same_view =
      record {
        node_is = λ j. refl;
        clock_is = λ j. refl;
        log_is = λ j. refl;
        lane_is = λ b. passed_by (noted_lane note (lane_in (slice_get lanes b))) (noted_lane note (lane_in (slice_get lanes b))) refl;
      }

  -- the node in a seat is seated
  pub seated_at : (i : ℕ) (seat : Seat N M) → slice_get seats i ≡ Some (Some seat) → AreSeated k net (view_over state note seats lanes) → IsSeated k net i seat.clock (state seat.node)
  seated_at i seat here seated =
      let place = seated i (state seat.node) (rw here refl) in
      subst (λ t. IsSeated k net i t (state seat.node)) (ap (λ o. clock_in (flat o)) here) place

  -- lanes that stay
  pub flushed : (next : List (Lane M)) → ((b : ℕ) → lane_in (slice_get next b) ≡ lane_in (slice_get lanes b)) → IsSameView (view_over state note seats lanes) (view_over state note seats next)
  flushed next same =
      record {
        node_is = λ j. refl;
        clock_is = λ j. refl;
        log_is = λ j. refl;
        lane_is = λ b. passed_by (noted_lane note (lane_in (slice_get lanes b))) (noted_lane note (lane_in (slice_get next b))) (ap (noted_lane note) (same b));
      }

  -- what is put on an arc, by what it says
  noted_on : (b : ℕ) (ps : List (ArcId × M)) → map note (on_arc b (map numbered ps)) ≡ on_arc b (map (noted note) ps)
  noted_on b [] = refl
  noted_on b (p ∷ ps) = by (p.0.0 == b) (noted_on b ps)
    where
      by : (t : Bool) → map note (on_arc b (map numbered ps)) ≡ on_arc b (map (noted note) ps)
          → map note (cond t (p.1 ∷ on_arc b (map numbered ps)) (on_arc b (map numbered ps))) ≡ cond t (note p.1 ∷ on_arc b (map (noted note) ps)) (on_arc b (map (noted note) ps))
      by true r = ap (λ l. note p.1 ∷ l) r
      by false r = r

  -- what was put out is sent
  pub all_sent : (v : View S W) (e : Delivery) (out : List (ArcId × M)) (next : List (Lane M)) → HasTaken k net v e (map (noted note) out) [] (view_over state note seats lanes)
      → ((b : ℕ) → HasPassed (lane_in (slice_get lanes b)) (on_arc b (map numbered out)) [] (lane_in (slice_get next b)))
      → HasTaken k net v e (map (noted note) out) (map (noted note) out) (view_over state note seats next)
  all_sent v e out next x sent =
      record {
        number = x.number;
        node = x.node;
        message = x.message;
        listens = x.listens;
        was = x.was;
        timed = x.timed;
        out_is = x.out_is;
        node_is = x.node_is;
        clock_is = x.clock_is;
        log_is = x.log_is;
        lane_is = λ b.
            let took = cond (e.arc.0 == b) (x.message ∷ []) [] in
            let put = on_arc b (map (noted note) out) in
            let old = noted_lane note (lane_in (slice_get lanes b)) in
            let new = noted_lane note (lane_in (slice_get next b)) in
            let passed : HasPassed old put [] new = subst (λ l. HasPassed old l [] new) (noted_on b out) (passed_noted note (lane_in (slice_get lanes b)) (lane_in (slice_get next b)) (on_arc b (map numbered out)) [] (sent b)) in
            subst (λ l. HasPassed (v.lane b) put l new) (append-nil took) (passed_then (v.lane b) old new [] took put [] (x.lane_is b) passed);
      }
