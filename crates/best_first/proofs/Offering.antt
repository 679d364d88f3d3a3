-- What the program keeps of open routes, as it takes one in and out.
use Rattle.std.proofs.Common.{◌≡◌, ℕ, ◌<◌, List, Option, Some, None, IfSome, Bool, true, option_map, length, refl, sym, ap, ◌∙◌, arith}
use Rattle.std.proofs.Math.ListN.{set}
use Rattle.std.proofs.lemmas.Bool.{false≢true}
use Rattle.std.proofs.lemmas.List.{length-map, length-set, map-set}
use Rattle.frontier.specs.Tournaments.{PureTournament, IsJudged, IsJudgedBut, IsJudgedWithout, IsFirstSlot}
use Rattle.frontier.specs.Orders.{IsOrderOf}
use Rattle.alg_model.specs.Expressions.{PureCarrier, PureValue}
use Rattle.alg_model.specs.Carriers.{In}
use Rattle.net_graph.specs.Tables.{Reported}
use Rattle.best_first.specs.declared.route.OpenRoute.{OpenRoute}
use Rattle.best_first.specs.declared.route.OpenPlace.{OpenPlace}
use Rattle.best_first.specs.Found.{found-map, found_at, AllFound}
use Rattle.best_first.specs.KeyOrder.{found_in, slots_asymmetric, slots_transitive}
use Rattle.best_first.specs.Keys.{key_of, best_of, precedes, key_at}
use Rattle.best_first.specs.Queue.{AreAtTheirNodes, AreRanked, IsRanked, IsOpen, IsNext, is_wanted}
use Rattle.best_first.proofs.Places.{all-set, found_within}
use Rattle.best_first.proofs.Slots.{places-set}
use Rattle.best_first.proofs.Queues.{raise_asks, replay_asks, next_is}

module _ {S : Type 0} (value : S → PureValue) (is_sig : S → Type 0) (c : PureCarrier) (sig_in : (s : S) → is_sig s → In c (value s))
    (best : List (Option (OpenRoute S))) (sigs : AllFound (λ o. is_sig o.sig) best) (t : PureTournament) (ranked : IsRanked c (best_of value best) t)
  where
    pub count : t.count ≡ length best
    count = ranked.count ∙ length-map best (option_map (key_of value))

    -- the node's best is written
    pub written : (i : ℕ) (o : Option (OpenRoute S)) → best_of value (set best i o) ≡ set (best_of value best) i (option_map (key_of value) o)
    written i o = map-set (option_map (key_of value)) best i o

    -- and no other has changed
    pub taken_judged : (i : ℕ) → i < length best → IsJudgedWithout (precedes c (best_of value (set best i None))) t i
    taken_judged i within = rw (written i None) (replay_asks c (best_of value best) i None (omega (arith, within, length-map best (option_map (key_of value)))) t ranked.judged)

    -- the route there with the spare value is kept
    pub better_judged : (place : OpenPlace) (spare : Option S) → place.node.0 < length best → IfSome spare is_sig → is_wanted c place (option_map value spare) (best_of value best) ≡ true
        → IsJudgedBut (precedes c (best_of value (set best place.node.0 (option_map (λ sig. record { sig = sig; place = place }) spare)))) t place.node.0
    better_judged place None within is wanted = absurd (false≢true wanted)
    better_judged place (Some sig) within is wanted =
        rw (written place.node.0 (Some record { sig = sig; place = place }))
        (raise_asks c (best_of value best) place.node.0 (key_at place (value sig)) (omega (arith, within, length-map best (option_map (key_of value)))) (sig_in sig is)
        (found_in value is_sig c sig_in best sigs) wanted t ranked.judged)

    pub kept_sigs : (place : OpenPlace) (spare : Option S) → place.node.0 < length best → IfSome spare is_sig → AllFound (λ o. is_sig o.sig) (set best place.node.0 (option_map (λ sig. record { sig = sig; place = place }) spare))
    kept_sigs place spare within is = all-set (λ o. is_sig o.sig) best place.node.0 (option_map (λ sig. record { sig = sig; place = place }) spare) within sigs (by spare is)
      where
        by : (o : Option S) → IfSome o is_sig → IfSome (option_map {U = OpenRoute S} (λ sig. record { sig = sig; place = place }) o) (λ o. is_sig o.sig)
        by None h = tt
        by (Some sig) h = h

    pub kept_places : AreAtTheirNodes best → (place : OpenPlace) (spare : Option S) → place.node.0 < length best → AreAtTheirNodes (set best place.node.0 (option_map (λ sig. record { sig = sig; place = place }) spare))
    kept_places places place spare within = places-set best place.node.0 (option_map (λ sig. record { sig = sig; place = place }) spare) within places (by spare)
      where
        by : (o : Option S) → IfSome (option_map {U = OpenRoute S} (λ sig. record { sig = sig; place = place }) o) (λ o. o.place.node.0 ≡ place.node.0)
        by None = tt
        by (Some sig) = refl

    -- the first route that a node is offered is wanted
    pub first_wanted : (place : OpenPlace) (sig : S) → found_at best place.node.0 ≡ None → is_wanted c place (Some (value sig)) (best_of value best) ≡ true
    first_wanted place sig none = rw (found-map (key_of value) best place.node.0, none) refl

    pub kept_best : (place : OpenPlace) (spare : Option S) → best_of value (set best place.node.0 (option_map (λ sig. record { sig = sig; place = place }) spare))
        ≡ set (best_of value best) place.node.0 (option_map (key_at place) (option_map value spare))
    kept_best place spare = written place.node.0 (option_map (λ sig. record { sig = sig; place = place }) spare) ∙ ap (set (best_of value best) place.node.0) (by spare)
      where
        by : (o : Option S) → option_map (key_of value) (option_map (λ sig. record { sig = sig; place = place }) o) ≡ option_map (key_at place) (option_map value o)
        by None = refl
        by (Some sig) = refl

    pub still_counted : (i : ℕ) (o : Option (OpenRoute S)) → t.count ≡ length (best_of value (set best i o))
    still_counted i o = count ∙ sym (length-map (set best i o) (option_map (key_of value)) ∙ length-set best i o)

-- what the tournament's first slot says
module _ {S : Type 0} (value : S → PureValue) (is_sig : S → Type 0) (c : PureCarrier) (sig_in : (s : S) → is_sig s → In c (value s))
    (best : List (Option (OpenRoute S))) (sigs : AllFound (λ o. is_sig o.sig) best) (t : PureTournament) (ranked : IsRanked c (best_of value best) t) (slot : ℕ)
    (first : (before : ℕ → ℕ → Bool) → IsOrderOf t.count before → IsJudged before t → IsFirstSlot before t.count slot)
  where
    pub first_of_all : IsFirstSlot (precedes c (best_of value best)) (length best) slot
    first_of_all k h = first (precedes c (best_of value best)) laws ranked.judged k (omega (arith, h, count value is_sig c sig_in best sigs t ranked))
      where
        laws : IsOrderOf t.count (precedes c (best_of value best))
        laws = record {
          asymmetric = λ k m h l. slots_asymmetric value is_sig c sig_in best sigs k m;
          transitive = λ k m n h l i. slots_transitive value is_sig c sig_in best sigs k m n;
        }

    pub none_when_first_misses : found_at best slot ≡ None → (k : ℕ) → found_at best k ≡ None
    none_when_first_misses misses k = by (found_at best k) refl
      where
        by : (o : Option (OpenRoute S)) → found_at best k ≡ o → found_at best k ≡ None
        by None e = e
        by (Some route) e =
            let key : found_at (best_of value best) k ≡ Some (key_of value route) = found-map (key_of value) best k ∙ ap (option_map (key_of value)) e in
            let no_key : found_at (best_of value best) slot ≡ None = found-map (key_of value) best slot ∙ ap (option_map (key_of value)) misses in
            absurd (false≢true (sym (rw (key, no_key) at (first_of_all k (found_within best k route e)))))

-- each best route stands at its node
pub at_their_nodes : {S : Type 0} (value : S → PureValue) (is_sig : S → Type 0) (c : PureCarrier) (reported : Reported) (best : List (Option (OpenRoute S))) (t : PureTournament) → IsOpen value is_sig c reported best t
    → AreAtTheirNodes best
at_their_nodes {S = S} value is_sig c reported best t opened k = by (found_at best k) refl
  where
    by : (o : Option (OpenRoute S)) → found_at best k ≡ o → IfSome o (λ o. o.place.node.0 ≡ k)
    by None e = tt
    by (Some route) e = (opened.queue.bests k (key_of value route) (found-map (key_of value) best k ∙ ap (option_map (key_of value)) e)).node

-- so the tournament ranks them
pub ranked_of : {S : Type 0} (value : S → PureValue) (is_sig : S → Type 0) (c : PureCarrier) (reported : Reported) (best : List (Option (OpenRoute S))) (t : PureTournament) → IsOpen value is_sig c reported best t
    → AreRanked value is_sig c best t
ranked_of value is_sig c reported best t opened = record {
  sigs = opened.sigs;
  places = at_their_nodes value is_sig c reported best t opened;
  ranked = opened.queue.ranked;
}

-- the best route of all was taken out
pub next_taken : {S : Type 0} (value : S → PureValue) (is_sig : S → Type 0) (c : PureCarrier) (reported : Reported) (best new_best : List (Option (OpenRoute S))) (t new_t : PureTournament) (route : OpenRoute S)
    → IsOpen value is_sig c reported best t → found_at best route.place.node.0 ≡ Some route → IsFirstSlot (precedes c (best_of value best)) (length best) route.place.node.0
    → new_best ≡ set best route.place.node.0 None → IsRanked c (best_of value new_best) new_t → IsNext c reported (best_of value best) new_t route.place.node.0
next_taken value is_sig c reported best new_best t new_t route opened there first taken ranked =
    next_is c reported (best_of value best) t new_t route.place.node.0 (rw (length-map best (option_map (key_of value))) first) opened.queue (key_of value route)
    (found-map (key_of value) best route.place.node.0 ∙ ap (option_map (key_of value)) there)
    (rw (taken, map-set (option_map (key_of value)) best route.place.node.0 None) at ranked)
