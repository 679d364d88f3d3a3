-- A delivery between two rounds: what it puts on arcs, and that it is a round of one delivery.
use Rattle.std.proofs.Common.{◌≡◌, ℕ, ◌+◌, ◌<◌, ◌≤◌, Bool, true, false, cond, List, [], ◌∷◌, ◌++◌, Option, Some, None, map, max, length, refl, sym, ap, subst, subst₂, ◌∙◌, append_assoc, append-nil, arith}
use Rattle.std.specs.Prelude.{◌==◌}
use Rattle.std.specs.List.{AllByRecursion}
use Rattle.std.proofs.lemmas.Bool.{eqb-true, eqb-false, false_from_ne_true}
use Rattle.std.proofs.lemmas.List.{length-map}
use Rattle.std.proofs.lemmas.Option.{same_Some, slice_get_past}
use Rattle.meta_base.specs.declared.ids.ArcId.{ArcId}
use Rattle.meta_base.specs.declared.ids.Delivery.{Delivery}
use Rattle.net_graph.specs.Nets.{PureNet, IsNet}
use Rattle.net_graph.specs.declared.limits.TheConstants.{MAX_ARCS}
use Rattle.node_core.specs.declared.node.TheConstants.{MAX_CLOCK}
use Rattle.node_core.specs.Configs.{noted}
use Rattle.node_core.specs.Kinds.{Kind, IsLawful, listener, speaker, on_arc}
use Rattle.node_core.specs.Machine.{changed_at, clock_after, front_clock}
use Rattle.node_core.specs.MachineLaws.{same_test, all_mapped, on_arc_join, front_is, speaks_within}
use Rattle.node_core.specs.Running.{IsRunning}
use Rattle.woven_laws.specs.ArcEnds.{hearer_within}
use Rattle.woven_laws.specs.Histories.{taken_on, option_out}
use Rattle.weave.specs.Arcs.{IsReplaced}
use Rattle.weave.specs.Between.{IsPut, IsOneRound}
use Rattle.weave.specs.Gathered.{block_of, lane_across, machine_across, AreGathered}
use Rattle.weave.specs.Lanes.{PureLane, elsewhere, inside, HasPassed, waits_inside}
use Rattle.weave.specs.Views.{View, IsSeated, AreSeated, HasTaken, IsLate}
use Rattle.weave.proofs.Linking.{keeps_then}
use Rattle.weave.proofs.Places.{turned}
use Rattle.weave.proofs.Round.{inside_passed}
use Rattle.weave.proofs.Working.{few_sent}
use Rattle.weave.proofs.Runs.{one, run_taken, sent_taken, one_taken}

all_unmapped : {X Y : Type 0} (P : Y → Type 0) (f : X → Y) (xs : List X) → AllByRecursion P (map f xs) → AllByRecursion (λ x. P (f x)) xs
all_unmapped P f [] all = tt
all_unmapped P f (x ∷ xs) all = (all.0, all_unmapped P f xs all.1)

-- a node puts out no more messages than there are arcs
pub few_out : {X S M : Type 0} (note : X → M) (k : Kind S M) → IsLawful k → (net : PureNet) → IsNet net → (v w : View S M) (e : Delivery) (out : List (ArcId × X)) → AreSeated k net v
    → HasTaken k net v e (map (noted note) out) [] w → length out ≤ MAX_ARCS
few_out note k lawful net is_net v w e out seated x =
    let few = few_sent k net lawful is_net x.node e.arc.0 x.message e.clock (seated x.number x.node x.was).net_is in
    let is = ap length x.out_is in
    let len = length-map out (noted note) in
    omega (arith, few, is, len)

-- what a node puts out goes on arcs of the network
pub out_within : {X S M : Type 0} (note : X → M) (k : Kind S M) → IsLawful k → (net : PureNet) → IsNet net → (v w : View S M) (e : Delivery) (out : List (ArcId × X)) → AreSeated k net v
    → HasTaken k net v e (map (noted note) out) [] w → AllByRecursion (λ (p : ArcId × X). p.0.0 < length net.arcs) out
out_within {X} {S} {M} note k lawful net is_net v w e out seated x =
    let place = seated x.number x.node x.was in
    let step = k.step x.node e.arc.0 x.message e.clock in
    let own = k.net x.node in
    let spoken = (lawful.step_sends x.node e.arc.0 x.message e.clock).spoken (subst (λ m. IsNet m) (sym place.net_is) is_net) in
    let within = all_mapped (λ (p : ℕ × M). speaker own p.0 ≡ Some (k.number x.node)) (λ (p : ℕ × M). p.0 < length own.arcs) (λ p says. speaks_within own p.0 (k.number x.node) says) step.1 spoken in
    all_unmapped (λ (p : ℕ × M). p.0 < length net.arcs) (noted note) out
    (subst (AllByRecursion (λ (p : ℕ × M). p.0 < length net.arcs)) (sym x.out_is)
    (subst (λ m. AllByRecursion (λ (p : ℕ × M). p.0 < length m.arcs) step.1) place.net_is within))

-- what one block has of nodes, changed at one of its nodes
across : {X : Type 0} (count : ℕ) (f g : ℕ → ℕ → X) (b i : ℕ) (v : X) → block_of count i ≡ b → ((n : ℕ) → g b n ≡ changed_at (f b) i v n) → ((c n : ℕ) → (c == b) ≡ false → g c n ≡ f c n)
    → (j : ℕ) → g (block_of count j) j ≡ changed_at (λ n. f (block_of count n) n) i v j
across count f g b i v stands here others j = by (block_of count j == b) refl
  where
    by : (t : Bool) → (block_of count j == b) ≡ t → g (block_of count j) j ≡ cond (j == i) v (f (block_of count j) j)
    by true t = subst (λ c. g c j ≡ cond (j == i) v (f c j)) (sym (eqb-true (block_of count j) b t)) (here j)
    by false t =
        let other : (j == i) ≡ false = false_from_ne_true (j == i) (λ e. eqb-false (block_of count j) b t (ap (block_of count) (eqb-true j i e) ∙ stands)) in
        rw other (others (block_of count j) j t)

module _ {S M : Type 0} where
  -- of the other arcs a block has what it had
  lane_kept : (old new : ℕ → View S M) (b a : ℕ) (was is : PureLane M) → IsReplaced old new b a was is → (c n : ℕ) → (n == a) ≡ false → (new c).lane n ≡ (old c).lane n
  lane_kept old new b a was is r c n ne = r.lane_is c n ∙ rw ne (by (c == b))
    where
      by : (t : Bool) → cond t ((old c).lane n) ((old c).lane n) ≡ (old c).lane n
      by true = refl
      by false = refl

  module _ (net : PureNet) (count : ℕ) where
    pub put_none : (views : ℕ → View S M) → AreGathered net count views → IsPut net count [] views views
    put_none views gathered =
        record {
          seats = record { node_is = λ b i. refl; clock_is = λ b i. refl; log_is = λ b i. refl };
          lane_is = λ a i hears. gathered.whole a i hears ∙ ap (λ l. inside l) (sym (append-nil (waits_inside ((views (block_of count i)).lane a))));
        }

    -- a message on one arc
    pub put_one : (old mid new : ℕ → View S M) (b a i : ℕ) (m : M) (waits : List M) (was : PureLane M) → AreGathered net count old → listener net a ≡ Some i → b ≡ block_of count i
        → IsReplaced old mid b a (inside waits) elsewhere → IsReplaced mid new b a was (inside (waits ++ m ∷ [])) → IsPut net count ((a, m) ∷ []) old new
    put_one old mid new b a i m waits was gathered listens stands first second =
        record { seats = keeps_then old mid new first.seats second.seats; lane_is = lane }
      where
        here : (new b).lane a ≡ inside (waits_inside ((old b).lane a) ++ on_arc a ((a, m) ∷ []))
        here = rw (first.lane_was, same_test a) (second.lane_is b a ∙ rw (same_test b, same_test a) refl)

        lane : (n j : ℕ) → listener net n ≡ Some j → (new (block_of count j)).lane n ≡ inside (waits_inside ((old (block_of count j)).lane n) ++ on_arc n ((a, m) ∷ []))
        lane n j hears = by (n == a) refl
          where
            by : (t : Bool) → (n == a) ≡ t → (new (block_of count j)).lane n ≡ inside (waits_inside ((old (block_of count j)).lane n) ++ on_arc n ((a, m) ∷ []))
            by true t =
                let same : n ≡ a = eqb-true n a t in
                let node : j ≡ i = same_Some _ _ (sym hears ∙ (ap (listener net) same ∙ listens)) in
                let block : b ≡ block_of count j = stands ∙ ap (block_of count) (sym node) in
                subst₂ (λ c x. (new c).lane x ≡ inside (waits_inside ((old c).lane x) ++ on_arc x ((a, m) ∷ []))) block (sym same) here
            by false t =
                let c = block_of count j in
                rw (turned a n t)
                (lane_kept mid new b a was (inside (waits ++ m ∷ [])) second c n t ∙ (lane_kept old mid b a (inside waits) elsewhere first c n t
                ∙ (gathered.whole n j hears ∙ ap (λ l. inside l) (sym (append-nil (waits_inside ((old c).lane n)))))))

    pub put_then : (u v w : ℕ → View S M) (ps qs : List (ℕ × M)) → IsPut net count ps u v → IsPut net count qs v w → IsPut net count (ps ++ qs) u w
    put_then u v w ps qs f g =
        record {
          seats = keeps_then u v w f.seats g.seats;
          lane_is = λ a i hears.
              let before = waits_inside ((u (block_of count i)).lane a) in
              let mid : waits_inside ((v (block_of count i)).lane a) ≡ before ++ on_arc a ps = ap waits_inside (f.lane_is a i hears) in
              g.lane_is a i hears ∙ ap (λ l. inside l) (ap (λ l. l ++ on_arc a qs) mid ∙ (append_assoc before (on_arc a ps) (on_arc a qs) ∙ ap (λ l. before ++ l) (sym (on_arc_join a ps qs))));
        }

    pub put_gathered : (old new : ℕ → View S M) (out : List (ℕ × M)) → AreGathered net count old → IsPut net count out old new → AreGathered net count new
    put_gathered old new out gathered put =
        record {
          own = λ i b apart. put.seats.node_is b i ∙ gathered.own i b apart;
          whole = λ a i hears. put.lane_is a i hears ∙ ap (λ l. inside (waits_inside l)) (sym (put.lane_is a i hears));
        }

    -- all blocks as the view of one
    abbrev pub whole_view : (ℕ → View S M) → View S M
    whole_view views =
        record {
          node = λ i. (views (block_of count i)).node i;
          clock = λ i. (views (block_of count i)).clock i;
          log = λ i. (views (block_of count i)).log i;
          lane = lane_across net count views;
        }

    whole_lane : (views : ℕ → View S M) → AreGathered net count views → (a i : ℕ) → listener net a ≡ Some i → lane_across net count views a ≡ inside (waits_inside ((views (block_of count i)).lane a))
    whole_lane views gathered a i hears = rw hears (gathered.whole a i hears)

    -- a node is in its own block
    stands_in : (views : ℕ → View S M) → AreGathered net count views → (b i : ℕ) (s : S) → (views b).node i ≡ Some s → block_of count i ≡ b
    stands_in views gathered b i s there = by (b == block_of count i) refl
      where
        by : (t : Bool) → (b == block_of count i) ≡ t → block_of count i ≡ b
        by true t = sym (eqb-true b (block_of count i) t)
        by false t = let none = gathered.own i b t in absurd (cc)

    module _ (k : Kind S M) where
      -- each block's nodes are seated
      pub block_seated : (views : ℕ → View S M) → AreGathered net count views → IsRunning k net (machine_across net count views) → (b : ℕ) → AreSeated k net (views b)
      block_seated views gathered running b i s e = by (b == block_of count i) refl
        where
          here : b ≡ block_of count i → IsSeated k net i ((views b).clock i) s
          here same =
              let at = running.each i s (subst (λ c. (views c).node i ≡ Some s) same e) in
              record { net_is = at.net_is; number_is = at.number_is; begun = at.begun; last_is = at.last_is ∙ ap (λ c. (views c).clock i) (sym same) }

          by : (t : Bool) → (b == block_of count i) ≡ t → IsSeated k net i ((views b).clock i) s
          by true t = here (eqb-true b (block_of count i) t)
          by false t = let none = gathered.own i b t in absurd (cc)

      first_of : (xs : List M) → 0 < length xs → (x : M) × (rest : List M) × (xs ≡ x ∷ rest)
      first_of [] h = absurd (omega (arith, h))
      first_of (x ∷ xs) h = (x, xs, refl)

      -- what waits on an arc can be taken there, where its clock isn't above the greatest
      pub not_late : (views : ℕ → View S M) → IsNet net → AreGathered net count views → IsRunning k net (machine_across net count views) → (a i : ℕ) → listener net a ≡ Some i
          → 0 < length ((machine_across net count views).link a) → ((t : ℕ) → front_clock k net (machine_across net count views) a ≡ Some t → t ≤ MAX_CLOCK) → ¬ IsLate k net (views (block_of count i)) a
      not_late views is_net gathered running a i listens some early late =
          let machine = machine_across net count views in
          let there = running.there i (hearer_within net is_net a i listens) in
          let front = first_of (machine.link a) some in
          let waits : waits_inside ((views (block_of count i)).lane a) ≡ front.0 ∷ front.1 = sym (ap waits_inside (whole_lane views gathered a i listens)) ∙ front.2 in
          let t = clock_after k machine i front.0 in
          let is = front_is k net machine a t (record { number = i; message = front.0; rest = front.1; listens = listens; front = front.2; clock_is = refl }) in
          let few = early t is in
          let many = late i there.0 front.0 front.1 listens there.1 (gathered.whole a i listens ∙ ap (λ l. inside l) waits) in
          absurd (omega (arith, few, many))

      module _ (old mid : ℕ → View S M) (b : ℕ) (e : Delivery) (out : List (ℕ × M)) (gathered : AreGathered net count old) (x : HasTaken k net (old b) e out [] (mid b))
          (others : (c : ℕ) → (c == b) ≡ false → mid c ≡ old c) where
        stands : block_of count x.number ≡ b
        stands = stands_in old gathered b x.number x.node x.was

        abbrev took : ℕ → List M
        took a = cond (e.arc.0 == a) (x.message ∷ []) []

        -- what waits on an arc after the message was taken
        left_on : (a i : ℕ) → listener net a ≡ Some i → (rest : List M) × ((mid (block_of count i)).lane a ≡ inside rest) × (waits_inside ((old (block_of count i)).lane a) ≡ took a ++ rest)
        left_on a i hears = by (block_of count i == b) refl
          where
            here : block_of count i ≡ b → (rest : List M) × ((mid b).lane a ≡ inside rest) × (waits_inside ((old b).lane a) ≡ took a ++ rest)
            here same =
                let waits = waits_inside ((old b).lane a) in
                let whole : (old b).lane a ≡ inside waits = subst (λ c. (old c).lane a ≡ inside (waits_inside ((old c).lane a))) same (gathered.whole a i hears) in
                let passed = inside_passed [] (took a) waits ((mid b).lane a) (subst (λ l. HasPassed l [] (took a) ((mid b).lane a)) whole (x.lane_is a)) in
                (passed.0, passed.1, sym (append-nil waits) ∙ passed.2)

            by : (t : Bool) → (block_of count i == b) ≡ t → (rest : List M) × ((mid (block_of count i)).lane a ≡ inside rest) × (waits_inside ((old (block_of count i)).lane a) ≡ took a ++ rest)
            by true t =
                let same : block_of count i ≡ b = eqb-true (block_of count i) b t in
                subst (λ c. (rest : List M) × ((mid c).lane a ≡ inside rest) × (waits_inside ((old c).lane a) ≡ took a ++ rest)) (sym same) (here same)
            by false t =
                let none : (e.arc.0 == a) ≡ false = false_from_ne_true (e.arc.0 == a) (λ h.
                let node : i ≡ x.number = same_Some _ _ (sym hears ∙ (ap (listener net) (sym (eqb-true e.arc.0 a h)) ∙ x.listens)) in
                eqb-false (block_of count i) b t (ap (block_of count) node ∙ stands)) in
                (waits_inside ((old (block_of count i)).lane a), ap (λ (v : View S M). v.lane a) (others (block_of count i) t) ∙ gathered.whole a i hears, rw none refl)

        -- what waits stands with its listener still
        pub taken_gathered : AreGathered net count mid
        taken_gathered = record { own = own; whole = λ a i hears. let left = left_on a i hears in left.1 ∙ ap (λ l. inside (waits_inside l)) (sym left.1) }
          where
            own : (i c : ℕ) → (c == block_of count i) ≡ false → (mid c).node i ≡ None
            own i c apart = by (c == b) refl
              where
                here : c ≡ b → (mid b).node i ≡ None
                here same =
                    let other : (i == x.number) ≡ false = false_from_ne_true (i == x.number) (λ h. eqb-false c (block_of count i) apart (same ∙ (sym stands ∙ ap (block_of count) (sym (eqb-true i x.number h))))) in
                    x.node_is i ∙ rw other (gathered.own i b (subst (λ d. (d == block_of count i) ≡ false) same apart))

                by : (t : Bool) → (c == b) ≡ t → (mid c).node i ≡ None
                by true t = let same : c ≡ b = eqb-true c b t in subst (λ d. (mid d).node i ≡ None) (sym same) (here same)
                by false t = ap (λ (v : View S M). v.node i) (others c t) ∙ gathered.own i c apart

        module _ (new : ℕ → View S M) (put : IsPut net count out mid new) where
          lane_passed : (a : ℕ) → HasPassed (lane_across net count old a) (on_arc a out) (took a) (lane_across net count new a)
          lane_passed a = by (listener net a) refl
            where
              by : (o : Option ℕ) → listener net a ≡ o → HasPassed (lane_across net count old a) (on_arc a out) (took a) (lane_across net count new a)
              by None h = rw h tt
              by (Some i) h =
                  let left = left_on a i h in
                  let then : lane_across net count new a ≡ inside (left.0 ++ on_arc a out) = rw h (put.lane_is a i h ∙ ap (λ l. inside (l ++ on_arc a out)) (ap waits_inside left.1)) in
                  subst₂ (λ l n. HasPassed l (on_arc a out) (took a) n) (sym (whole_lane old gathered a i h)) (sym then)
                  (ap (λ l. l ++ on_arc a out) left.2 ∙ append_assoc (took a) left.0 (on_arc a out))

          taken_whole : HasTaken k net (whole_view old) e out out (whole_view new)
          taken_whole =
              record {
                number = x.number;
                node = x.node;
                message = x.message;
                listens = x.listens;
                was = subst (λ c. (old c).node x.number ≡ Some x.node) (sym stands) x.was;
                timed = subst (λ c. e.clock ≡ max ((old c).clock x.number) (k.stamp x.message) + 1) (sym stands) x.timed;
                out_is = x.out_is;
                node_is = λ j. put.seats.node_is (block_of count j) j
                    ∙ across count (λ c n. (old c).node n) (λ c n. (mid c).node n) b x.number (Some (k.step x.node e.arc.0 x.message e.clock).0) stands x.node_is (λ c n ne. ap (λ (v : View S M). v.node n) (others c ne)) j;
                clock_is = λ j. put.seats.clock_is (block_of count j) j
                    ∙ across count (λ c n. (old c).clock n) (λ c n. (mid c).clock n) b x.number e.clock stands x.clock_is (λ c n ne. ap (λ (v : View S M). v.clock n) (others c ne)) j;
                log_is = λ j. put.seats.log_is (block_of count j) j
                    ∙ across count (λ c n. (old c).log n) (λ c n. (mid c).log n) b x.number ((old (block_of count x.number)).log x.number ++ e ∷ []) stands
                    (λ n. subst (λ c. (mid b).log n ≡ changed_at (old b).log x.number ((old c).log x.number ++ e ∷ []) n) (sym stands) (x.log_is n)) (λ c n ne. ap (λ (v : View S M). v.log n) (others c ne)) j;
                lane_is = lane_passed;
              }

          module _ (lawful : IsLawful k) (is_net : IsNet net) (running : IsRunning k net (machine_across net count old)) where
            seated : AreSeated k net (whole_view old)
            seated i s e = let at = running.each i s e in record { net_is = at.net_is; number_is = at.number_is; begun = at.begun; last_is = at.last_is }

            pub one_round : IsOneRound k net count old new (length out)
            one_round before after sent taken =
                let v = whole_view old in
                let w = whole_view new in
                let run = run_taken k net lawful is_net v w e out seated taken_whole in
                let h = one k net lawful is_net v w e out seated taken_whole in
                let gathered_new = put_gathered mid new out taken_gathered put in
                let count_is = one_taken k net lawful is_net v w e out seated taken_whole in
                record {
                  history = h;
                  woven = record {
                    node_is = run.node_is;
                    none_takes = run.none_takes;
                    clock_is = run.clock_is;
                    timed = run.timed;
                    heard = run.heard;
                    spoken = run.spoken;
                    link_is = λ a i j hears speaks.
                        let was = whole_lane old gathered a i hears in
                        let is = whole_lane new gathered_new a i hears in
                        subst₂ (λ l n. waits_inside l ++ on_arc a (option_out k (v.node j) (h j)) ≡ taken_on a (h i) ++ waits_inside n) (sym was) (sym is)
                        (subst₂ (λ l n. HasPassed l (on_arc a (option_out k (v.node j) (h j))) (taken_on a (h i)) n) was is (run.lane_is a i j hears speaks));
                    outside = λ a past. rw (slice_get_past net.arcs a past) refl;
                  };
                  gathered = gathered_new;
                  log_is = run.log_is;
                  sent = sent ∙ ap (λ n. before.sent + n) (sym (sent_taken k net lawful is_net v w e out seated taken_whole));
                  taken = taken ∙ ap (λ n. before.taken + n) (sym count_is);
                  few = omega (arith, count_is);
                }
