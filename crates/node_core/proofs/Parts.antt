-- The parts of a configuration, as a machine.
use Rattle.std.proofs.Common.{◌≡◌, ℕ, zero, suc, ◌+◌, ◌<◌, ◌≤◌, max, List, [], ◌∷◌, ◌++◌, Bool, true, false, Option, Some, None, All, get_or, slice_index, slice_set, length, map, cond, filter, slice_get, option_map, subst, refl, sym, ap, ◌∙◌, arith, append_assoc, ltb, replicate}
use mathlib.Core.Path.{fun_ext}
use Rattle.std.specs.Prelude.{◌==◌}
use Rattle.std.specs.Coded.{le_prop}
use Rattle.std.proofs.Math.Logic.{∥∥₁_elim, ∥∥₁_map}
use Rattle.std.specs.List.{AllByRecursion}
use Rattle.std.specs.declared.collections.VecDeque.{VecDeque}
use Rattle.std.specs.declared.alloc.Global.{Global}
use Rattle.std.proofs.lemmas.Bool.{eqb-true, eqb-false}
use Rattle.std.proofs.lemmas.List.{length-map, map-append, get_or-replicate, get_or_past, length-replicate}
use Rattle.std.proofs.lemmas.Bool.Decides.{nat_tests}
use Rattle.std.proofs.lemmas.Option.{same_Some, slice_get-map, slice_get_read, slice_get_within, get_or_from_slice_get}
use Rattle.meta_base.specs.declared.ids.ArcId.{ArcId}
use Rattle.net_graph.specs.Nets.{PureArc, PureNet, IsNet, AreNumbered, arcs_to}
use Rattle.node_core.specs.Kinds.{Kind, IsLawful, listener, speaker, on_arc}
use Rattle.node_core.specs.Machine.{Machine, changed_at, AreUnbegun, begun_messages, Start, clock_after, step_of, stepped, Deliver, front_clock}
use Rattle.node_core.specs.MachineLaws.{same_test, at_each, all_mapped, on_arc_join, on_arc_none, option_from, speaks_within, front_is}
use Rattle.node_core.specs.OrderLaws.{deliver_within, front_up_to}
use Rattle.node_core.specs.Running.{AreUpTo, IsRunning}
use Rattle.node_core.specs.Configs.{numbered, noted, waits_on, waits_in, machine_over}
use Rattle.node_core.specs.Stepping.{CanTake, HasStepped}

pub fits_still : {l m n : ℕ} → l ≤ m → m ≤ n → l ≤ n
fits_still h g = omega (arith, h, g)

pub same_length : {X Y Z : Type 0} (f : X → Z) (g : Y → Z) (xs : List X) (ys : List Y) → map f xs ≡ map g ys → length xs ≡ length ys
same_length f g xs ys e = sym (length-map xs f) ∙ (ap length e ∙ length-map ys g)

pub all_by : {X : Type 0} (P : X → Type 0) (xs : List X) → AllByRecursion P xs → All P xs
all_by P [] a k d h = absurd (omega (arith, h))
all_by P (x ∷ xs) a zero d h = a.0
all_by P (x ∷ xs) a (suc k) d h = all_by P xs a.1 k d (omega (arith, h))

set_same : {X : Type 0} (xs : List X) (i : ℕ) (x y : X) → slice_get xs i ≡ Some y → slice_get (slice_set xs i x) i ≡ Some x
set_same [] i x y e = absurd (cc)
set_same (z ∷ xs) zero x y e = refl
set_same (z ∷ xs) (suc i) x y e = set_same xs i x y e

set_other : {X : Type 0} (xs : List X) (i j : ℕ) (x : X) → (j ≡ i → ⊥) → slice_get (slice_set xs i x) j ≡ slice_get xs j
set_other [] zero j x ne = refl
set_other [] (suc i) j x ne = refl
set_other (z ∷ xs) zero zero x ne = absurd (ne refl)
set_other (z ∷ xs) zero (suc j) x ne = refl
set_other (z ∷ xs) (suc i) zero x ne = refl
set_other (z ∷ xs) (suc i) (suc j) x ne = set_other xs i j x (λ e. ne (ap (λ n. suc n) e))

module _ {M W : Type 0} (note : M → W) where
  -- what is on an arc, as notes
  pub on_arc_noted : (b : ℕ) (ps : List (ArcId × M)) → map note (on_arc b (map numbered ps)) ≡ on_arc b (map (noted note) ps)
  on_arc_noted b [] = refl
  on_arc_noted b (p ∷ ps) = by (p.0.0 == b) (on_arc_noted b ps)
    where
      by : (t : Bool) → map note (on_arc b (map numbered ps)) ≡ on_arc b (map (noted note) ps) → map note (cond t (p.1 ∷ on_arc b (map numbered ps)) (on_arc b (map numbered ps))) ≡ cond t (note p.1 ∷ on_arc b (map (noted note) ps)) (on_arc b (map (noted note) ps))
      by true e = ap (λ l. note p.1 ∷ l) e
      by false e = e

  -- what holds of the arcs of the notes holds of those of the messages
  pub arcs_noted : (P : ℕ → Type 0) (ps : List (ArcId × M)) → AllByRecursion (λ (p : ℕ × W). P p.0) (map (noted note) ps) → AllByRecursion (λ (p : ArcId × M). P p.0.0) ps
  arcs_noted P [] a = tt
  arcs_noted P (p ∷ ps) a = (a.0, arcs_noted P ps a.1)

  -- and where there is room for the notes there is room for the messages
  pub numbered_fit : (b : ℕ) (ps : List (ArcId × M)) (spare : ℕ) → length (on_arc b (map (noted note) ps)) ≤ spare → length (on_arc b (map numbered ps)) ≤ spare
  numbered_fit b ps spare h =
      let same : length (on_arc b (map numbered ps)) ≡ length (on_arc b (map (noted note) ps)) = sym (length-map (on_arc b (map numbered ps)) note) ∙ ap length (on_arc_noted b ps) in
      omega (arith, same, h)

  -- links on which nothing waited
  pub from_nothing : (old : List M) (sent new : List W) → old ≡ [] → new ≡ map note old ++ sent → new ≡ sent
  from_nothing old sent new e h = h ∙ ap (λ l. map note l ++ sent) e

  -- what a node sends is put on an arc
  pub begun_sent : (b : ℕ) (old new : List M) (out : List (ArcId × M)) (sends : List (ℕ × W)) → new ≡ old ++ on_arc b (map numbered out) → map (noted note) out ≡ sends → map note new ≡ map note old ++ on_arc b sends
  begun_sent b old new out sends e f = ap (map note) e ∙ (map-append note old (on_arc b (map numbered out)) ∙ ap (λ l. map note old ++ l) (on_arc_noted b out ∙ ap (on_arc b) f))

-- a node more has begun
pub begun_nodes : {N S : Type 0} (state : N → S) (f : N → S) (old new : List N) (n m : N) (left : List N) (all : List S) → new ≡ old ++ m ∷ [] → state m ≡ f n → map state old ++ map f (n ∷ left) ≡ all → map state new ++ map f left ≡ all
begun_nodes state f old new n m left all e made h =
    ap (λ l. map state l ++ map f left) e ∙ (ap (λ l. l ++ map f left) (map-append state old (m ∷ [])) ∙ (append_assoc (map state old) (state m ∷ []) (map f left) ∙ (ap (λ x. map state old ++ x ∷ map f left) made ∙ h)))

pub begun_more : {S W : Type 0} (k : Kind S W) (b : ℕ) (old new : List W) (s : S) (left : List S) (all : List W) → new ≡ old ++ on_arc b (k.begin s).1 → old ++ on_arc b (begun_messages k (s ∷ left)) ≡ all → new ++ on_arc b (begun_messages k left) ≡ all
begun_more k b old new s left all e h =
    ap (λ l. l ++ on_arc b (begun_messages k left)) e ∙ (append_assoc old (on_arc b (k.begin s).1) (on_arc b (begun_messages k left)) ∙ (ap (λ l. old ++ l) (sym (on_arc_join b (k.begin s).1 (begun_messages k left))) ∙ h))

module _ {N M S W : Type 0} (state : N → S) (note : M → W) (k : Kind S W) where
  module _ (nodes : List N) (clocks : List ℕ) (links : List (VecDeque M Global)) (i a : ℕ) (n : N) (t : ℕ) (q : VecDeque M Global)
      (at_node : slice_get nodes i ≡ Some n) (at_clock : slice_get clocks i ≡ Some t) (at_link : slice_get links a ≡ Some q) where
    abbrev before : Machine S W
    before = machine_over state note nodes clocks links

    clock_is : slice_index clocks i ≡ t
    clock_is = get_or_from_slice_get clocks i t 0 at_clock

    pub has_stepped : (n' : N) (t' : ℕ) (q' : VecDeque M Global) (out : List (ℕ × W)) (m : M) → q.items ≡ m ∷ q'.items → t' ≡ max t (k.stamp (note m)) + 1
        → state n' ≡ (k.step (state n) a (note m) t').0 → out ≡ (k.step (state n) a (note m) t').1
        → HasStepped k before a i out (machine_over state note (slice_set nodes i n') (slice_set clocks i t') (slice_set links a q'))
    has_stepped n' t' q' out m front time made sent =
        let timed : t' ≡ clock_after k before i (note m) = time ∙ ap (λ u. max u (k.stamp (note m)) + 1) (sym clock_is) in
        record {
          node = state n;
          message = note m;
          rest = map note q'.items;
          there = ap (option_map state) at_node;
          front = ap (λ o. map note (waits_in o)) at_link ∙ ap (map note) front;
          out_is = sent ∙ ap (λ u. (k.step (state n) a (note m) u).1) timed;
          node_is = at_each (λ j. option_map state (slice_get (slice_set nodes i n') j) ≡ changed_at before.node i (Some (step_of k before a i (state n) (note m)).0) j) i
              (rw (same_test i) (ap (option_map state) (set_same nodes i n' n at_node) ∙ ap (λ s. Some s) (made ∙ ap (λ u. (k.step (state n) a (note m) u).0) timed)))
              (λ j ne. rw ne (ap (option_map state) (set_other nodes i j n' (eqb-false j i ne))));
          clock_is = at_each (λ j. slice_index (slice_set clocks i t') j ≡ changed_at before.clock i (clock_after k before i (note m)) j) i
              (rw (same_test i) (get_or_from_slice_get (slice_set clocks i t') i t' 0 (set_same clocks i t' t at_clock) ∙ timed))
              (λ j ne. rw ne (same_index (slice_set clocks i t') clocks j (set_other clocks i j t' (eqb-false j i ne))));
          link_is = at_each (λ b. map note (waits_on (slice_set links a q') b) ≡ changed_at before.link a (map note q'.items) b) a
              (rw (same_test a) (ap (λ o. map note (waits_in o)) (set_same links a q' q at_link)))
              (λ b ne. rw ne (ap (λ o. map note (waits_in o)) (set_other links a b q' (eqb-false b a ne))));
        }
      where
        same_index : (xs ys : List ℕ) (j : ℕ) → slice_get xs j ≡ slice_get ys j → slice_index xs j ≡ slice_index ys j
        same_index [] [] j e = refl
        same_index [] (y ∷ ys) zero e = absurd (cc)
        same_index [] (y ∷ ys) (suc j) e = same_index [] ys j e
        same_index (x ∷ xs) [] zero e = absurd (cc)
        same_index (x ∷ xs) [] (suc j) e = same_index xs [] j e
        same_index (x ∷ xs) (y ∷ ys) zero e = same_Some _ _ e
        same_index (x ∷ xs) (y ∷ ys) (suc j) e = same_index xs ys j e

module _ {S M : Type 0} (k : Kind S M) where
  -- what a node sends finds room, where there is room for one message on each arc that it speaks on
  pub sends_fit : IsLawful k → (net : PureNet) → IsNet net → (c d : Machine S M) → IsRunning k net c → (a i : ℕ) (out : List (ℕ × M)) → HasStepped k c a i out d
      → (b spare : ℕ) → (speaker net b ≡ Some i → 0 < spare) → length (on_arc b out) ≤ spare
  sends_fit lawful net is_net c d run a i out w b spare room =
      let node = run.each i w.node w.there in
      let t = clock_after k c i w.message in
      let sends = lawful.step_sends w.node a w.message t in
      let few = lawful.step_few w.node a b w.message t (subst (λ n. IsNet n) (sym node.net_is) is_net) in
      rw w.out_is (by (speaker net b) refl (sends.spoken (subst (λ n. IsNet n) (sym node.net_is) is_net)) few)
    where
      t : ℕ
      t = clock_after k c i w.message

      none : (speaker net b ≡ Some i → ⊥) → AllByRecursion (λ (p : ℕ × M). speaker (k.net w.node) p.0 ≡ Some (k.number w.node)) (k.step w.node a w.message t).1 → length (on_arc b (k.step w.node a w.message t).1) ≤ spare
      none ne spoken =
          let node = run.each i w.node w.there in
          let nothing = on_arc_none (λ x. speaker (k.net w.node) x ≡ Some (k.number w.node)) b (λ e. ne (subst (λ n. speaker n b ≡ Some i) node.net_is (e ∙ ap (λ n. Some n) node.number_is))) (k.step w.node a w.message t).1 spoken in
          rw nothing (omega arith)

      at : (j : ℕ) → speaker net b ≡ Some j → (x : Bool) → (j == i) ≡ x → AllByRecursion (λ (p : ℕ × M). speaker (k.net w.node) p.0 ≡ Some (k.number w.node)) (k.step w.node a w.message t).1 → length (on_arc b (k.step w.node a w.message t).1) ≤ 1 → length (on_arc b (k.step w.node a w.message t).1) ≤ spare
      at j e true same spoken few = let some = room (e ∙ ap (λ n. Some n) (eqb-true j i same)) in omega (arith, some, few)
      at j e false other spoken few = none (λ f. eqb-false j i other (same_Some _ _ (sym e ∙ f))) spoken

      by : (o : Option ℕ) → speaker net b ≡ o → AllByRecursion (λ (p : ℕ × M). speaker (k.net w.node) p.0 ≡ Some (k.number w.node)) (k.step w.node a w.message t).1 → length (on_arc b (k.step w.node a w.message t).1) ≤ 1 → length (on_arc b (k.step w.node a w.message t).1) ≤ spare
      by None e spoken few = none (λ f. absurd (cc)) spoken
      by (Some j) e spoken few = at j e (j == i) refl spoken few

  -- with what it sends on the links, the delivery is made
  pub delivers : (net : PureNet) (c d f : Machine S M) (a i : ℕ) (out : List (ℕ × M)) → listener net a ≡ Some i → HasStepped k c a i out d
      → ((j : ℕ) → f.node j ≡ d.node j) → ((j : ℕ) → f.clock j ≡ d.clock j) → ((b : ℕ) → f.link b ≡ d.link b ++ on_arc b out) → Deliver k net c a ≡ Some f
  delivers net c d f a i out listens w nodes clocks links =
      let node : f.node ≡ changed_at c.node i (Some (step_of k c a i w.node w.message).0) = fun_ext (λ j. nodes j ∙ w.node_is j) in
      let clock : f.clock ≡ changed_at c.clock i (clock_after k c i w.message) = fun_ext (λ j. clocks j ∙ w.clock_is j) in
      let link : f.link ≡ (λ b. changed_at c.link a w.rest b ++ on_arc b (step_of k c a i w.node w.message).1) =
      fun_ext (λ b. links b ∙ (ap (λ l. l ++ on_arc b out) (w.link_is b) ∙ ap (λ ps. changed_at c.link a w.rest b ++ on_arc b ps) w.out_is)) in
      let is : f ≡ stepped k c a i w.node w.message w.rest = λ x. record { node = node x; clock = clock x; link = link x } in
      rw (listens, w.front, w.there) (ap (λ m. Some m) (sym is))

-- the arcs that a node speaks on, by their numbers
spoken_place : (n i j : ℕ) (arcs : List PureArc) (arc : PureArc) → AreNumbered n arcs → slice_get arcs j ≡ Some arc → arc.head ≡ i → (m : ℕ) × (slice_get (map (λ (x : PureArc). x.id) (filter (λ (x : PureArc). x.head == i) arcs)) m ≡ Some (n + j))
spoken_place n i j [] arc numbers e h = absurd (cc)
spoken_place n i zero (x ∷ arcs) arc numbers e h =
    let same : x.head ≡ i = ap (λ (y : PureArc). y.head) (same_Some _ _ e) ∙ h in
    let test : (x.head == i) ≡ true = rw same (same_test i) in
    (0, rw test (ap (λ m. Some m) (numbers.0 ∙ omega arith)))
spoken_place n i (suc j) (x ∷ arcs) arc numbers e h = by (x.head == i) (spoken_place (n + 1) i j arcs arc numbers.1 e h)
  where
    by : (t : Bool) → (m : ℕ) × (slice_get (map (λ (y : PureArc). y.id) (filter (λ (y : PureArc). y.head == i) arcs)) m ≡ Some (n + 1 + j))
        → (m : ℕ) × (slice_get (map (λ (y : PureArc). y.id) (cond t (x ∷ filter (λ (y : PureArc). y.head == i) arcs) (filter (λ (y : PureArc). y.head == i) arcs))) m ≡ Some (n + suc j))
    by true r = (suc r.0, r.1 ∙ ap (λ m. Some m) (omega arith))
    by false r = (r.0, r.1 ∙ ap (λ m. Some m) (omega arith))

-- what holds of all arcs that the node speaks on holds of each
pub speaks_among : (net : PureNet) → IsNet net → (i b : ℕ) (ids : List ArcId) (P : ℕ → Type 0) → map (λ (id : ArcId). id.0) ids ≡ map (λ (x : PureArc). x.id) (arcs_to net i) → All (λ (id : ArcId). P id.0) ids → speaker net b ≡ Some i → P b
speaks_among net is_net i b ids P e all speaks =
    let arc = option_from (λ (x : PureArc). x.head) (slice_get net.arcs b) i speaks in
    let place = spoken_place 0 i b net.arcs arc.0 is_net.arc_ids arc.1 arc.2 in
    let at : slice_get (map (λ (id : ArcId). id.0) ids) place.0 ≡ Some (0 + b) = ap (λ l. slice_get l place.0) e ∙ place.1 in
    let id = option_from (λ (x : ArcId). x.0) (slice_get ids place.0) (0 + b) (sym (slice_get-map (λ (x : ArcId). x.0) ids place.0) ∙ at) in
    let held = all (place.0) id.0 (slice_get_within ids place.0 id.0 id.1) in
    let held_at : P id.0.0 = subst (λ (x : ArcId). P x.0) (get_or_from_slice_get ids place.0 id.0 id.0 id.1) held in
    subst P (id.2 ∙ omega arith) held_at

ids_within : (n i count : ℕ) (arcs : List PureArc) → AreNumbered n arcs → n + length arcs ≤ count → AllByRecursion (λ m. m < count) (map (λ (x : PureArc). x.id) (filter (λ (x : PureArc). x.head == i) arcs))
ids_within n i count [] numbers h = tt
ids_within n i count (x ∷ arcs) numbers h = by (x.head == i) (ids_within (n + 1) i count arcs numbers.1 (omega (arith, h)))
  where
    by : (t : Bool) → AllByRecursion (λ m. m < count) (map (λ (y : PureArc). y.id) (filter (λ (y : PureArc). y.head == i) arcs)) → AllByRecursion (λ m. m < count) (map (λ (y : PureArc). y.id) (cond t (x ∷ filter (λ (y : PureArc). y.head == i) arcs) (filter (λ (y : PureArc). y.head == i) arcs)))
    by true r = (omega (arith, numbers.0, h), r)
    by false r = r

unmapped : {X Y : Type 0} (P : Y → Type 0) (f : X → Y) (xs : List X) → AllByRecursion P (map f xs) → AllByRecursion (λ x. P (f x)) xs
unmapped P f [] a = tt
unmapped P f (x ∷ xs) a = (a.0, unmapped P f xs a.1)

-- the arcs that a node speaks on are the network's
pub spoken_within : (net : PureNet) → IsNet net → (i : ℕ) (ids : List ArcId) → map (λ (id : ArcId). id.0) ids ≡ map (λ (x : PureArc). x.id) (arcs_to net i) → All (λ (id : ArcId). id.0 < length net.arcs) ids
spoken_within net is_net i ids e =
    all_by (λ (id : ArcId). id.0 < length net.arcs) ids (unmapped (λ m. m < length net.arcs) (λ (id : ArcId). id.0) ids
    (subst (AllByRecursion (λ m. m < length net.arcs)) (sym e) (ids_within 0 i (length net.arcs) net.arcs is_net.arc_ids (omega arith))))

-- what a node that begins sends goes on arcs of its network
pub begins_within : {S M : Type 0} (k : Kind S M) → IsLawful k → (s : S) → IsNet (k.net s) → (count : ℕ) → length (k.net s).arcs ≤ count → AllByRecursion (λ (p : ℕ × M). p.0 < count) (k.begin s).1
begins_within k lawful s is_net count h = all_mapped (λ p. speaker (k.net s) p.0 ≡ Some (k.number s)) (λ p. p.0 < count)
    (λ p e. let within = speaks_within (k.net s) p.0 (k.number s) e in omega (arith, h, within)) (k.begin s).1 ((lawful.begun_sends s).spoken is_net)

module _ {N S M : Type 0} (state : N → S) (k : Kind S M) where
  pub unbegun_nodes : (net : PureNet) (n : ℕ) (nodes : List N) → AreUnbegun k net n (map state nodes) → AllByRecursion (λ x. k.is_begun (state x) ≡ false) nodes
  unbegun_nodes net n [] u = tt
  unbegun_nodes net n (x ∷ nodes) u = (u.2, unbegun_nodes net (n + 1) nodes u.3)

  pub unbegun_sends : IsLawful k → (net : PureNet) → IsNet net → (count n : ℕ) (nodes : List N) → length net.arcs ≤ count → AreUnbegun k net n (map state nodes)
      → AllByRecursion (λ x. AllByRecursion (λ (p : ℕ × M). p.0 < count) (k.begin (state x)).1) nodes
  unbegun_sends lawful net is_net count n [] h u = tt
  unbegun_sends lawful net is_net count n (x ∷ nodes) h u = (
    begins_within k lawful (state x) (subst (λ m. IsNet m) (sym u.0) is_net) count (subst (λ m. length m.arcs ≤ count) (sym u.0) h),
    unbegun_sends lawful net is_net count (n + 1) nodes h u.3,
  )

  pub unbegun_number : (net : PureNet) (n : ℕ) (nodes : List N) → AreUnbegun k net n (map state nodes) → length net.nodes ≡ n + length nodes
  unbegun_number net n [] u = omega (arith, u)
  unbegun_number net n (x ∷ nodes) u = let more = unbegun_number net (n + 1) nodes u.3 in omega (arith, more)

first_of : {X : Type 0} (xs : List X) → 0 < length xs → (x : X) × (rest : List X) × (xs ≡ x ∷ rest)
first_of [] h = absurd (omega (arith, h))
first_of (x ∷ xs) h = (x, xs, refl)

-- the listener of an arc on which a message waits can take it
pub can_take : {S M : Type 0} (k : Kind S M) (net : PureNet) (c : Machine S M) (a i bound : ℕ) → IsRunning k net c → listener net a ≡ Some i → i < length net.nodes → 0 < length (c.link a)
    → ((t : ℕ) → front_clock k net c a ≡ Some t → t ≤ bound) → CanTake k c a i bound
can_take k net c a i bound run listens within waits early =
    let there = run.there i within in
    let node = run.each i there.0 there.1 in
    let front = first_of (c.link a) waits in
    record {
      node = there.0;
      message = front.0;
      rest = front.1;
      there = there.1;
      front = front.2;
      begun = node.begun;
      last = node.last_is;
      listens = rw (node.net_is, node.number_is) listens;
      early = early (clock_after k c i front.0) (front_is k net c a (clock_after k c i front.0) (record { number = i; message = front.0; rest = front.1; listens = listens; front = front.2; clock_is = refl }));
    }

-- the oldest message in a queue is the first that waits on its arc
pub first_waits : {M W : Type 0} (note : M → W) (links : List (VecDeque M Global)) (a : ℕ) (q : VecDeque M Global) (m : M) → a < length links → q ≡ get_or links a q
    → 0 < length q.items → m ≡ get_or q.items 0 m → slice_get (map note (waits_on links a)) 0 ≡ Some (note m)
first_waits note links a q m within at some front =
    rw (slice_get_read links (length links) a q refl within at) (slice_get-map note q.items 0 ∙ ap (option_map note) (slice_get_read q.items (length q.items) 0 m refl some front))

module _ {S M : Type 0} (k : Kind S M) (lawful : IsLawful k) (net : PureNet) where
  -- the clock that the message in front gives is at most one above what all are up to
  pub front_within : (c : Machine S M) (a i n : ℕ) (m : M) → ∥ AreUpTo k c n ∥₁ → listener net a ≡ Some i → slice_get (c.link a) 0 ≡ Some m → clock_after k c i m ≤ n + 1
  front_within c a i n m up listens front = ∥∥₁_elim up le_prop (λ u. front_up_to k lawful net c a (clock_after k c i m) n u (rw (listens, front) refl))

  -- a delivery at a clock that isn't above the bound keeps it, also from a machine that is the same
  pub stays_up_to : (c b d : Machine S M) (a n : ℕ) → b ≡ c → ∥ AreUpTo k c n ∥₁ → ((t : ℕ) → front_clock k net c a ≡ Some t → t ≤ n) → Deliver k net b a ≡ Some d → ∥ AreUpTo k d n ∥₁
  stays_up_to c b d a n same up early made = ∥∥₁_map up (λ u. deliver_within k lawful net c d a n u early (subst (λ m. Deliver k net m a ≡ Some d) same made))

-- a machine over links on which the same waits
pub same_links : {N M S W : Type 0} (state : N → S) (note : M → W) (nodes : List N) (clocks : List ℕ) (old new : List (VecDeque M Global)) → ((b : ℕ) → waits_on new b ≡ waits_on old b) → machine_over state note nodes clocks new ≡ machine_over state note nodes clocks old
same_links state note nodes clocks old new h =
    let link = fun_ext (λ b. ap (map note) (h b)) in
    λ x. record { node = λ i. option_map state (slice_get nodes i); clock = λ i. slice_index clocks i; link = link x }

all_zero : (count i : ℕ) → slice_index (replicate {A = ℕ} count 0) i ≡ 0
all_zero count i = by (ltb i count) refl
  where
    by : (t : Bool) → ltb i count ≡ t → slice_index (replicate {A = ℕ} count 0) i ≡ 0
    by true h = get_or-replicate count i 0 0 (grind (arith, nat_tests))
    by false h = get_or_past (replicate count 0) i 0 (let l : length (replicate {A = ℕ} count 0) ≡ count = length-replicate count 0 in grind (arith, nat_tests))

-- nodes that have begun, with what they sent on the links, are the start
pub begun_machine : {N M S W : Type 0} (state : N → S) (note : M → W) (k : Kind S W) (nodes begun : List N) (clocks : List ℕ) (links : List (VecDeque M Global)) (count : ℕ)
    → map state begun ≡ map (λ n. (k.begin (state n)).0) nodes → clocks ≡ replicate {A = ℕ} count 0 → ((b : ℕ) → map note (waits_on links b) ≡ on_arc b (begun_messages k (map state nodes)))
    → machine_over state note begun clocks links ≡ Start k (map state nodes)
begun_machine {N} state note k nodes begun clocks links count made zeros sent =
    let node : (λ i. option_map state (slice_get begun i)) ≡ (λ i. option_map (λ s. (k.begin s).0) (slice_get (map state nodes) i)) =
    fun_ext (λ i. sym (slice_get-map state begun i) ∙ (ap (λ l. slice_get l i) made ∙ (slice_get-map (λ n. (k.begin (state n)).0) nodes i ∙ (twice (slice_get nodes i) ∙ ap (option_map (λ s. (k.begin s).0)) (sym (slice_get-map state nodes i)))))) in
    let clock : (λ i. slice_index clocks i) ≡ (λ i. 0) = fun_ext (λ i. ap (λ l. slice_index l i) zeros ∙ all_zero count i) in
    let link : (λ b. map note (waits_on links b)) ≡ (λ b. on_arc b (begun_messages k (map state nodes))) = fun_ext sent in
    λ x. record { node = node x; clock = clock x; link = link x }
  where
    twice : (o : Option N) → option_map (λ n. (k.begin (state n)).0) o ≡ option_map (λ s. (k.begin s).0) (option_map state o)
    twice None = refl
    twice (Some n) = refl
