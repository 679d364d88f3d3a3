-- What a node is offered once it is sent something.
use Rattle.std.proofs.Common.{◌≡◌, ℕ, zero, suc, ◌+◌, ◌*◌, ◌<◌, ◌≤◌, ◌^◌, List, [], ◌∷◌, ◌++◌, Bool, true, false, ◌&&◌, ◌==◌, length, cond, slice_get, Option, Some, None, IfSome, subst, refl, sym, ap, ◌∙◌, arith}
use Rattle.std.specs.Prelude.{option_map, option_and_then}
use Rattle.std.proofs.Math.ListN.{take}
use Rattle.std.proofs.lemmas.Bool.{eqb-true}
use Rattle.std.proofs.lemmas.Bool.Decides.{nat_tests}
use Rattle.std.proofs.lemmas.List.{length-map}
use Rattle.std.proofs.lemmas.Option.{slice_get-map, slice_get_within}
use Rattle.std.specs.declared.cmp.Ordering.TheVariants.{Less}
use Rattle.alg_model.specs.declared.alg.TheConstants.{MAX_VALUE_NUMBER}
use Rattle.alg_model.specs.Application.{App}
use Rattle.alg_model.specs.Bounds.{AtMost}
use Rattle.alg_model.specs.Carriers.{In, Order}
use Rattle.alg_model.specs.Expressions.{PureCarrier, PureValue}
use Rattle.alg_model.specs.Laws.{at_most_more}
use Rattle.net_graph.specs.Nets.{PureArc, PureNet, IsNet, arcs_from, origin_value}
use Rattle.net_graph.specs.Tables.{carrier}
use Rattle.distance_node.specs.declared.chosen.Chosen.{Chosen}
use Rattle.distance_node.specs.declared.settling.Settled.TheVariants.{Stays, Moves}
use Rattle.distance_node.specs.declared.site.Arrival.{Arrival}
use Rattle.distance_node.specs.Arrivals.{heard_reported, IsArrival}
use Rattle.distance_node.specs.Chosen.{IsBest, better_of, chosen_at, entry_of, hop_at}
use Rattle.distance_node.specs.Choosing.{AllIn, not_itself}
use Rattle.distance_node.specs.Coherent.{IsHeard}
use Rattle.distance_node.specs.Fitting.{clock_room}
use Rattle.distance_node.specs.Node.{Hop, greatest_at, hop_by, offers, own_hop}
use Rattle.distance_node.specs.Nodes.{HasHeard}
use Rattle.distance_node.specs.Offers.{AreHeard, MayTell, entry_map, offers_may}
use Rattle.distance_node.specs.Places.{heard_by, place_of, width}
use Rattle.distance_node.specs.Settling.{settled}
use Rattle.distance_node.specs.Tellings.{reported_of}
use Rattle.distance_node.proofs.Bests.{IsReplaced, better_is_best, settled_moves, settled_stays}
use Rattle.distance_node.proofs.Places.{heard_value, place_at}

-- ---- offers by their values

-- what a label makes of a value is the offer of its arc
pub offer_made : {S : Type 0} (value : S → PureValue) (net : PureNet) (i k : ℕ) (a : PureArc) (x : Option PureValue) (made : Option S) → slice_get (arcs_from net i) k ≡ Some a
    → option_map value made ≡ option_and_then (App net.alg.expression a.label) x → option_map (λ s. hop_at value net i (chosen_at (suc k) s)) made ≡ hop_by net a x
offer_made {S} value net i k a x made e f = rw (← f) (by made)
  where
    by : (o : Option S) → option_map {U = Hop} (λ s. hop_at value net i (chosen_at (suc k) s)) o ≡ option_map {U = Hop} (λ v. record { value = v; next = Some a.head }) (option_map value o)
    by None = refl
    by (Some s) = rw e refl

-- what stands at the place of an arc
pub offer_at : (net : PureNet) (dest i : ℕ) (heard : ℕ → Option PureValue) (k : ℕ) (a : PureArc) → slice_get (arcs_from net i) k ≡ Some a → entry_of (offers net dest i heard) (suc k) ≡ hop_by net a (heard a.id)
offer_at net dest i heard k a e = entry_map (λ (b : PureArc). hop_by net b (heard b.id)) (arcs_from net i) k ∙ rw e refl

-- ---- some of the offers

entry_take : {X : Type 0} (xs : List (Option X)) (m k : ℕ) (x : X) → entry_of (take m xs) k ≡ Some x → entry_of xs k ≡ Some x
entry_take [] zero k x e = absurd (cc)
entry_take [] (suc m) k x e = absurd (cc)
entry_take (y ∷ xs) zero k x e = absurd (cc)
entry_take (y ∷ xs) (suc m) zero x e = e
entry_take (y ∷ xs) (suc m) (suc k) x e = entry_take xs m k x e

take_next : {X : Type 0} (xs : List X) (k : ℕ) (x : X) → slice_get xs k ≡ Some x → take (suc k) xs ≡ take k xs ++ x ∷ []
take_next [] k x e = absurd (cc)
take_next (y ∷ xs) zero x e =
    let same : y ≡ x = cc in
    rw same refl
take_next (y ∷ xs) (suc k) x e = rw (take_next xs k x e) refl

take_count : {X : Type 0} (xs : List X) (k : ℕ) → k ≤ length xs → length (take k xs) ≡ k
take_count [] zero l = refl
take_count [] (suc k) l = absurd (omega (arith, l))
take_count (x ∷ xs) zero l = refl
take_count (x ∷ xs) (suc k) l = ap suc (take_count xs k (omega (arith, l)))

pub take_whole : {X : Type 0} (xs : List X) (k : ℕ) → length xs ≤ k → take k xs ≡ xs
take_whole [] zero l = refl
take_whole [] (suc k) l = refl
take_whole (x ∷ xs) zero l = absurd (omega (arith, l))
take_whole (x ∷ xs) (suc k) l = rw (take_whole xs k (omega (arith, l))) refl

pub all_taken : (c : PureCarrier) (os : List (Option Hop)) (m : ℕ) → AllIn c os → AllIn c (take m os)
all_taken c os m all k g e = all k g (entry_take os m k g e)

-- the best of the first offers, with that of one arc more
pub best_next : {S : Type 0} (value : S → PureValue) (net : PureNet) (i : ℕ) (os : List (Option Hop)) (k : ℕ) (made : Option S) (best : Option (Chosen S)) → AllIn (carrier net) os
    → slice_get os k ≡ Some (option_map (λ s. hop_at value net i (chosen_at k s)) made) → IsBest value net i (take k os) best
    → IsBest value net i (take (suc k) os) (better_of value (carrier net) best (option_map (chosen_at k) made))
best_next {S} value net i os k made best all e is =
    let inside = slice_get_within os k (option_map (λ s. hop_at value net i (chosen_at k s)) made) e in
    let count : length (take k os) ≡ k = take_count os k (omega (arith, inside)) in
    let next = take_next os k (option_map (λ s. hop_at value net i (chosen_at k s)) made) e in
    subst (λ os. IsBest value net i os (better_of value (carrier net) best (option_map (chosen_at k) made))) (sym next)
    (subst (λ z. IsBest value net i (take k os ++ option_map (λ s. hop_at value net i (chosen_at z s)) made ∷ []) (better_of value (carrier net) best (option_map (chosen_at z) made))) count
    (better_is_best value net i (take k os) made best
    (subst (λ z. AllIn (carrier net) (take k os ++ option_map (λ s. hop_at value net i (chosen_at z s)) made ∷ [])) (sym count) (subst (AllIn (carrier net)) next (all_taken (carrier net) os (suc k) all)))
    (all_taken (carrier net) os k all) is))

-- the own origin's offer is the best of it alone
pub own_is_best : {S : Type 0} (value : S → PureValue) (net : PureNet) (dest i : ℕ) (heard : ℕ → Option PureValue) (best : Option (Chosen S)) → AllIn (carrier net) (offers net dest i heard)
    → option_map (λ (r : Chosen S). value r.sig) best ≡ origin_value net dest i → IfSome best (λ r. r.offer ≡ 0) → IsBest value net i (take 1 (offers net dest i heard)) best
own_is_best {S} value net dest i heard best all e first = by best e first
  where
    alone : (o : Option Hop) (k : ℕ) (g : Hop) → entry_of (o ∷ []) k ≡ Some g → o ≡ Some g
    alone o zero g f = f
    alone o (suc k) g f = absurd (cc)

    by : (b : Option (Chosen S)) → option_map (λ (r : Chosen S). value r.sig) b ≡ origin_value net dest i → IfSome b (λ r. r.offer ≡ 0) → IsBest value net i (own_hop net dest i ∷ []) b
    by None e f = none
      where
        no_hop : own_hop net dest i ≡ None
        no_hop = rw (← e) refl

        none : (k : ℕ) → entry_of (own_hop net dest i ∷ []) k ≡ None
        none zero = no_hop
        none (suc k) = refl
    by (Some r) e f = record { there = there; unbeaten = unbeaten; first = λ k g l. absurd (omega (arith, l, f)) }
      where
        hop_is : own_hop net dest i ≡ Some (hop_at value net i r)
        hop_is = rw (← e, f) refl

        there : entry_of (own_hop net dest i ∷ []) r.offer ≡ Some (hop_at value net i r)
        there = ap (entry_of (own_hop net dest i ∷ [])) f ∙ hop_is

        unbeaten : (k : ℕ) (g : Hop) → entry_of (own_hop net dest i ∷ []) k ≡ Some g → ¬ (Order (carrier net) g.value (value r.sig) ≡ Less)
        unbeaten k g n =
            let one : Some (hop_at value net i r) ≡ Some g = sym hop_is ∙ alone (own_hop net dest i) k g n in
            let same : hop_at value net i r ≡ g = cc in
            subst (λ (h : Hop). ¬ (Order (carrier net) h.value (value r.sig) ≡ Less)) same (not_itself (carrier net) (value r.sig) (all 0 (hop_at value net i r) hop_is))

-- ---- what is sent

module _ {S : Type 0} (is_sig : S → Type 0) (value : S → PureValue) (net : PureNet) (n : IsNet net) (i : ℕ) (sig_in : (s : S) → is_sig s → In (carrier net) (value s)) (heard : List (Option S)) (clock : ℕ)
    (kept : HasHeard is_sig value net i clock heard)
  where
    -- what was heard on the node's arcs may have been
    pub are_heard : (dest : ℕ) → dest < length net.dests → AreHeard net dest i clock (λ a. heard_by value net i heard a dest)
    are_heard dest below k a v e f = by (entry_of heard (dest * width net i + k)) refl (sym (heard_value value net n i k a heard dest e) ∙ f)
      where
        by : (o : Option S) → entry_of heard (dest * width net i + k) ≡ o → option_map value o ≡ Some v → IsHeard net dest clock v
        by None g h = absurd (cc)
        by (Some s) g h =
            let same : value s ≡ v = cc in
            let known = kept.each (dest * width net i + k) s g in
            subst (IsHeard net dest clock) same (record { dest_in = below; value_in = sig_in s known.0; small = known.1 })

    pub all_in : (dest : ℕ) → dest < length net.dests → AllIn (carrier net) (offers net dest i (λ a. heard_by value net i heard a dest))
    all_in dest below k g e = (offers_may net n dest i clock (λ a. heard_by value net i heard a dest) (are_heard dest below) k g e).value_in

    module _ (t : Arrival S) (arrival : IsArrival is_sig value net i t) (early : clock ≤ t.clock) where
      abbrev pub dest : ℕ
      dest = t.dest.0

      abbrev pub reported : ℕ → Option PureValue
      reported = heard_reported value net i heard t

      same_test : (k : ℕ) → (k == k) ≡ true
      same_test k = grind (arith, nat_tests)

      -- what is known on the arc at a place
      pub reported_at : (k : ℕ) (a : PureArc) → slice_get (arcs_from net i) k ≡ Some a → reported a.id ≡ cond (k == t.place) (option_map value t.value.now) (option_map value (entry_of heard (dest * width net i + k)))
      reported_at k a e = rw (same_test dest, heard_value value net n i k a heard dest e) (by (a.id == t.arc.0) refl (k == t.place) refl)
        where
          by : (x : Bool) → (a.id == t.arc.0) ≡ x → (y : Bool) → (k == t.place) ≡ y
              → cond (x && true) (option_map value t.value.now) (option_map value (entry_of heard (dest * width net i + k))) ≡ cond y (option_map value t.value.now) (option_map value (entry_of heard (dest * width net i + k)))
          by true f true g = refl
          by false f false g = refl
          by true f false g =
              let id : a.id ≡ arrival.from.id = eqb-true a.id t.arc.0 f ∙ sym arrival.number in
              let place : Some k ≡ Some t.place = sym (place_at net n i k a e) ∙ (ap (λ z. place_of z (arcs_from net i)) id ∙ place_at net n i t.place arrival.from arrival.there) in
              let same : k ≡ t.place = cc in
              absurd (let test : (k == t.place) ≡ true = grind (arith, nat_tests) in let z : true ≡ false = sym test ∙ g in cc)
          by false f true g =
              let place : k ≡ t.place = eqb-true k t.place g in
              let arc : Some a ≡ Some arrival.from = sym e ∙ (ap (slice_get (arcs_from net i)) place ∙ arrival.there) in
              let same : a ≡ arrival.from = cc in
              let id : a.id ≡ t.arc.0 = ap (λ (x : PureArc). x.id) same ∙ arrival.number in
              absurd (let test : (a.id == t.arc.0) ≡ true = grind (arith, nat_tests) in let z : true ≡ false = sym test ∙ f in cc)

      -- it may have been heard before the clock
      pub reported_are_heard : AreHeard net dest i t.clock reported
      reported_are_heard k a v e f = by (k == t.place) (sym (reported_at k a e) ∙ f)
        where
          value_reported : (o : Option S) → IfSome o (λ s. is_sig s × AtMost (t.clock * 2 ^ 64) (value s)) → option_map value o ≡ Some v → IsHeard net dest t.clock v
          value_reported None h g = absurd (cc)
          value_reported (Some s) h g =
              let same : value s ≡ v = cc in
              subst (IsHeard net dest t.clock) same (record { dest_in = arrival.dest_in; value_in = sig_in s h.0; small = h.1 })

          old : (o : Option S) → entry_of heard (dest * width net i + k) ≡ o → option_map value o ≡ Some v → IsHeard net dest t.clock v
          old None g h = absurd (cc)
          old (Some s) g h =
              let same : value s ≡ v = cc in
              let known = kept.each (dest * width net i + k) s g in
              subst (IsHeard net dest t.clock) same (record { dest_in = arrival.dest_in; value_in = sig_in s known.0; small = at_most_more (clock * 2 ^ 64) (t.clock * 2 ^ 64) (value s) (clock_room clock t.clock early) known.1 })

          by : (b : Bool) → cond b (option_map value t.value.now) (option_map value (entry_of heard (dest * width net i + k))) ≡ Some v → IsHeard net dest t.clock v
          by true g = value_reported t.value.now arrival.reported g
          by false g = old (entry_of heard (dest * width net i + k)) refl g

      pub all_may : (k : ℕ) (g : Hop) → entry_of (offers net dest i reported) k ≡ Some g → MayTell net dest t.clock g.value
      all_may k g e = offers_may net n dest i t.clock reported reported_are_heard k g e

      pub all_reported_in : AllIn (carrier net) (offers net dest i reported)
      all_reported_in k g e = (all_may k g e).value_in

      -- the offers change at the arc's place alone
      pub reported_replaced : (made : Option S) → option_map value made ≡ option_and_then (App net.alg.expression arrival.from.label) (option_map value t.value.now)
          → IsReplaced (offers net dest i (λ a. heard_by value net i heard a dest)) (offers net dest i reported) (suc t.place) (option_map (λ s. hop_at value net i (chosen_at (suc t.place) s)) made)
      reported_replaced made e = record { at = at; other = other }
        where
          known : reported arrival.from.id ≡ option_map value t.value.now
          known = reported_at t.place arrival.from arrival.there ∙ ap (λ b. cond b (option_map value t.value.now) (option_map value (entry_of heard (dest * width net i + t.place)))) (same_test t.place)

          at : entry_of (offers net dest i reported) (suc t.place) ≡ option_map (λ s. hop_at value net i (chosen_at (suc t.place) s)) made
          at = offer_at net dest i reported t.place arrival.from arrival.there ∙ (ap (hop_by net arrival.from) known ∙ sym (offer_made value net i t.place arrival.from (option_map value t.value.now) made arrival.there e))

          other : (k : ℕ) → (k == suc t.place) ≡ false → entry_of (offers net dest i reported) k ≡ entry_of (offers net dest i (λ a. heard_by value net i heard a dest)) k
          other zero f = refl
          other (suc k) f =
              entry_map (λ (b : PureArc). hop_by net b (reported b.id)) (arcs_from net i) k
              ∙ (by (slice_get (arcs_from net i) k) refl ∙ sym (entry_map (λ (b : PureArc). hop_by net b (heard_by value net i heard b.id dest)) (arcs_from net i) k))
            where
              apart : (k == t.place) ≡ false
              apart = grind (arith, nat_tests)

              by : (o : Option PureArc) → slice_get (arcs_from net i) k ≡ o → option_and_then (λ (b : PureArc). hop_by net b (reported b.id)) o ≡ option_and_then (λ (b : PureArc). hop_by net b (heard_by value net i heard b.id dest)) o
              by None g = refl
              by (Some a) g = ap (hop_by net a) (reported_at k a g ∙ (ap (λ b. cond b (option_map value t.value.now) (option_map value (entry_of heard (dest * width net i + k)))) apart ∙ sym (heard_value value net n i k a heard dest g)))

      -- ---- offers one after another

      may_apply : (v : PureValue) → AtMost (t.clock * 2 ^ 64) v → AtMost MAX_VALUE_NUMBER v
      may_apply v b = at_most_more (t.clock * 2 ^ 64) MAX_VALUE_NUMBER v (let e = arrival.early in omega (arith, e)) b

      -- a label may be applied to what is known
      pub known_may : (b : Bool) (entry : ℕ) (known : Option S) → known ≡ cond b t.value.now (entry_of heard entry) → IfSome known (λ s. is_sig s × AtMost MAX_VALUE_NUMBER (value s))
      known_may b entry known e = subst (λ o. IfSome o (λ s. is_sig s × AtMost MAX_VALUE_NUMBER (value s))) (sym e) (by b)
        where
          of_reported : (o : Option S) → IfSome o (λ s. is_sig s × AtMost (t.clock * 2 ^ 64) (value s)) → IfSome o (λ s. is_sig s × AtMost MAX_VALUE_NUMBER (value s))
          of_reported None h = tt
          of_reported (Some s) h = (h.0, may_apply (value s) h.1)

          of_heard : (o : Option S) → entry_of heard entry ≡ o → IfSome o (λ s. is_sig s × AtMost MAX_VALUE_NUMBER (value s))
          of_heard None h = tt
          of_heard (Some s) h =
              let each = kept.each entry s h in
              (each.0, may_apply (value s) (at_most_more (clock * 2 ^ 64) (t.clock * 2 ^ 64) (value s) (clock_room clock t.clock early) each.1))

          by : (b : Bool) → IfSome (cond b t.value.now (entry_of heard entry)) (λ s. is_sig s × AtMost MAX_VALUE_NUMBER (value s))
          by true = of_reported t.value.now arrival.reported
          by false = of_heard (entry_of heard entry) refl

      -- what is known on the arc at a place, from its entry
      known_is : (k w : ℕ) (a : PureArc) → slice_get (arcs_from net i) k ≡ Some a → w ≡ width net i → (known : Option S) → known ≡ cond (k == t.place) t.value.now (entry_of heard (dest * w + k)) → option_map value known ≡ reported a.id
      known_is k w a e same known f =
          ap (option_map value) f ∙ (ap (λ z. option_map value (cond (k == t.place) t.value.now (entry_of heard (dest * z + k)))) same
          ∙ (by (k == t.place) ∙ sym (reported_at k a e)))
        where
          by : (b : Bool) → option_map value (cond b t.value.now (entry_of heard (dest * width net i + k))) ≡ cond b (option_map value t.value.now) (option_map value (entry_of heard (dest * width net i + k)))
          by true = refl
          by false = refl

      -- the best of the offers so far, with that of the arc at the next place
      pub best_more : (k w : ℕ) (a : PureArc) → slice_get (arcs_from net i) k ≡ Some a → w ≡ width net i → (known : Option S) → known ≡ cond (k == t.place) t.value.now (entry_of heard (dest * w + k)) → (made : Option S)
          → option_map value made ≡ option_and_then (App net.alg.expression a.label) (option_map value known) → (best : Option (Chosen S)) → IsBest value net i (take (k + 1) (offers net dest i reported)) best
          → IsBest value net i (take (k + 1 + 1) (offers net dest i reported)) (better_of value (carrier net) best (option_map (chosen_at (k + 1)) made))
      best_more k w a e same known f made image best is =
          let next : suc k ≡ k + 1 = omega arith in
          let last : suc (k + 1) ≡ k + 1 + 1 = omega arith in
          let hop_is : option_map (λ s. hop_at value net i (chosen_at (suc k) s)) made ≡ hop_by net a (reported a.id) =
          offer_made value net i k a (reported a.id) made e (image ∙ ap (option_and_then (App net.alg.expression a.label)) (known_is k w a e same known f)) in
          let slot : slice_get (offers net dest i reported) (suc k) ≡ Some (option_map (λ s. hop_at value net i (chosen_at (suc k) s)) made) =
          slice_get-map (λ (b : PureArc). hop_by net b (reported b.id)) (arcs_from net i) k ∙ (ap (option_map (λ (b : PureArc). hop_by net b (reported b.id))) e ∙ ap (λ z. Some z) (sym hop_is)) in
          let here : slice_get (offers net dest i reported) (k + 1) ≡ Some (option_map (λ s. hop_at value net i (chosen_at (k + 1) s)) made) =
          subst (λ z. slice_get (offers net dest i reported) z ≡ Some (option_map (λ s. hop_at value net i (chosen_at z s)) made)) next slot in
          subst (λ z. IsBest value net i (take z (offers net dest i reported)) (better_of value (carrier net) best (option_map (chosen_at (k + 1)) made))) last
          (best_next value net i (offers net dest i reported) (k + 1) made best all_reported_in here is)

      -- once all arcs are asked
      pub best_of_all : (k w : ℕ) → w ≡ width net i → w ≤ k → (best : Option (Chosen S)) → IsBest value net i (take (k + 1) (offers net dest i reported)) best → IsBest value net i (offers net dest i reported) best
      best_of_all k w same past best is =
          let count : length (offers net dest i reported) ≡ suc (width net i) = ap suc (length-map (arcs_from net i) (λ (b : PureArc). hop_by net b (reported b.id))) in
          subst (λ os. IsBest value net i os best) (take_whole (offers net dest i reported) (k + 1) (omega (arith, count, same, past))) is

      -- ---- rows that are settled by the new offer

      -- the row stays
      pub row_stays : (p : ℕ) → p ≡ t.place + 1 → (made : Option S) → option_map value made ≡ option_and_then (App net.alg.expression arrival.from.label) (option_map value t.value.now) → (before : Option (Chosen S))
          → IsBest value net i (offers net dest i (λ a. heard_by value net i heard a dest)) before → settled value (carrier net) before p made ≡ Stays → IsBest value net i (offers net dest i reported) before
      row_stays p e made image before best is =
          let next : p ≡ suc t.place = omega (arith, e) in
          settled_stays value net i (offers net dest i (λ a. heard_by value net i heard a dest)) (offers net dest i reported) (suc t.place) made all_reported_in (all_in dest arrival.dest_in) (reported_replaced made image) before best
          (subst (λ z. settled value (carrier net) before z made ≡ Stays) next is)

      -- it moves
      pub row_moves : (p : ℕ) → p ≡ t.place + 1 → (made : Option S) → option_map value made ≡ option_and_then (App net.alg.expression arrival.from.label) (option_map value t.value.now) → (before : Option (Chosen S))
          → IsBest value net i (offers net dest i (λ a. heard_by value net i heard a dest)) before → settled value (carrier net) before p made ≡ Moves → IsBest value net i (offers net dest i reported) (option_map (chosen_at p) made)
      row_moves p e made image before best is =
          let next : p ≡ suc t.place = omega (arith, e) in
          subst (λ z. IsBest value net i (offers net dest i reported) (option_map (chosen_at z) made)) (sym next)
          (settled_moves value net i (offers net dest i (λ a. heard_by value net i heard a dest)) (offers net dest i reported) (suc t.place) made all_reported_in (all_in dest arrival.dest_in) (reported_replaced made image) before best
          (subst (λ z. settled value (carrier net) before z made ≡ Moves) next is))

      -- what is sent of a row may be sent
      pub row_small : (row : Option (Chosen S)) → IsBest value net i (offers net dest i reported) row → IfSome (reported_of value row) (AtMost (greatest_at t.clock))
      row_small None best = tt
      row_small (Some r) best = (all_may r.offer (hop_at value net i r) best.there).small
