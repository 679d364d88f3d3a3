-- What origins and arcs offer, one after the other.
use Rattle.std.proofs.Common.{◌≡◌, ℕ, ◌+◌, ◌<◌, List, ◌∷◌, Option, Some, None, Bool, true, false, ◌==◌, if◌then◌else◌, option_map, map, length, get_or, slice_get, refl, sym, ap, ◌∙◌, inl, inr, arith}
use Rattle.std.specs.List.{AllByRecursion}
use Rattle.std.proofs.lemmas.List.{length-map}
use Rattle.std.proofs.lemmas.Option.{slice_get-map, slice_get_read}
use Rattle.frontier.specs.Tournaments.{PureTournament, IsJudged}
use Rattle.alg_model.specs.Views.{pure_value}
use Rattle.net_graph.specs.Views.{pure_origin}
use Rattle.net_graph.specs.declared.parts.Origin.{Origin}
use Rattle.alg_model.specs.Expressions.{PureCarrier, PureValue}
use Rattle.alg_model.specs.Application.{App}
use Rattle.alg_model.specs.Carriers.{In}
use Rattle.net_graph.specs.Nets.{PureArc, PureNet, IsNet, IsOriginOf, origins_of}
use Rattle.net_graph.specs.Routes.{PureRoute}
use Rattle.net_graph.specs.Tables.{Reported, carrier}
use Rattle.net_graph.specs.Walks.{along}
use Rattle.best_first.specs.declared.route.OpenRoute.{OpenRoute}
use Rattle.best_first.specs.declared.route.OpenPlace.{OpenPlace}
use Rattle.best_first.specs.Found.{found-map, found_at, better_of, arc_offer}
use Rattle.best_first.specs.Keys.{RouteKey, key_of, key_at, best_of, route_of, routes_of, precedes, path_or_none}
use Rattle.best_first.specs.Queue.{IsRanked, IsQueue, IsOpen, IsOffered, IsOfferedOf, no_route}
use Rattle.best_first.specs.State.{relaxed, CanSpeak}
use Rattle.net_graph.specs.ArcLaws.{of_some, all_at, along_in}
use Rattle.best_first.proofs.Listeners.{IsHeard, heard_so_far, step_take, made_offer}
use Rattle.best_first.proofs.Origins.{own_so_far, own_more}
use Rattle.best_first.proofs.Places.{all-none}
use Rattle.best_first.proofs.Queues.{offered_queue, offered_found}

some_none : {X Y : Type 0} (o : Option X) (x : X) → o ≡ None → o ≡ Some x → Y
some_none o x e f = absurd (cc)

-- before the first offer
pub nothing_open : {S : Type 0} (value : S → PureValue) (is_sig : S → Type 0) (c : PureCarrier) (best : List (Option (OpenRoute S))) (t : PureTournament) → ((k : ℕ) → found_at best k ≡ None)
    → t.count ≡ length best → ((before : ℕ → ℕ → Bool) → ((k m : ℕ) → k < length best → m < length best → before k m ≡ false) → IsJudged before t) → IsOpen value is_sig c no_route best t
nothing_open value is_sig c best t none count judged = record {
  sigs = all-none (λ o. is_sig o.sig) best none;
  queue = record {
    bests = λ k b e. some_none (found_at (best_of value best) k) b (no_key k) e;
    ranked = record {
      count = count ∙ sym (length-map best (option_map (key_of value)));
      judged = judged (precedes c (best_of value best)) (λ k m h l. rw (no_key k) refl);
    };
  };
}
  where
    no_key : (k : ℕ) → found_at (best_of value best) k ≡ None
    no_key k = found-map (key_of value) best k ∙ ap (option_map (key_of value)) (none k)

pub nothing_found : {S : Type 0} (value : S → PureValue) (reported : Reported) (best : List (Option (OpenRoute S))) → ((k : ℕ) → found_at best k ≡ None) → (k : ℕ) → found_at (routes_of reported (best_of value best)) k ≡ None
nothing_found value reported best none k = found-map (route_of reported) (best_of value best) k ∙ ap (option_map (route_of reported)) (found-map (key_of value) best k ∙ ap (option_map (key_of value)) (none k))

-- the offer of the next arc was made
module _ (net : PureNet) (n : IsNet net) (reported : Reported) (i m : ℕ) (r : PureRoute) (a : PureArc) (place : OpenPlace) (best new_best : List (Option RouteKey)) (t new_t : PureTournament) (is_reported : reported i ≡ Some r)
    (can : CanSpeak net i r) (heard : IsHeard net i m a) (within : a.tail < length best) (is_open : reported a.tail ≡ None) (size : place.size ≡ length r.path + 1) (node : place.node.0 ≡ a.tail) (next : place.next.0 ≡ i)
    (q : IsQueue (carrier net) reported best t) (offered : IsOfferedOf (carrier net) place (App net.alg.expression a.label r.value) best new_best) (ranked : IsRanked (carrier net) new_best new_t)
  where
    key : PureValue → RouteKey
    key v = record { value = v; size = place.size; node = place.node.0; next = place.next.0 }

    image_in : (v : PureValue) → App net.alg.expression a.label r.value ≡ Some v → In (carrier net) v
    image_in v e =
        let spoken : along net a.tail i (Some r.value) ≡ Some v = rw heard.label e in
        of_some (In (carrier net)) (along net a.tail i (Some r.value)) v (along_in net n a.tail i (Some r.value) can.value_in) spoken

    module _ (v : PureValue) (e : App net.alg.expression a.label r.value ≡ Some v) where
      made : IsOffered (carrier net) (key_at place v) best new_best
      made = rw e at offered

      queue_made : IsQueue (carrier net) reported new_best new_t
      queue_made = offered_queue (carrier net) reported (key_at place v) best t new_best (rw node within) (rw node is_open)
          (inr record { next = r; is_reported = rw next is_reported; begins = rw next can.begins; size = size }) (image_in v e) q new_t made ranked

      found_made : (k : ℕ) → found_at (routes_of reported new_best) k ≡ (if k == a.tail then better_of (carrier net) (found_at (routes_of reported best) k) (arc_offer net a.tail i r) else found_at (routes_of reported best) k)
      found_made k =
          let found = offered_found (carrier net) reported (key_at place v) best t new_best (rw node within) (rw node is_open)
          (inr record { next = r; is_reported = rw next is_reported; begins = rw next can.begins; size = size }) (image_in v e) q made k in
          let is : reported place.next.0 ≡ Some r = rw next is_reported in
          let path : path_or_none (reported place.next.0) ≡ r.path = ap path_or_none is in
          let offer : arc_offer net a.tail i r ≡ Some (record { value = v; path = a.tail ∷ r.path }) = sym (made_offer net i m a r heard) ∙ rw e refl in
          rw offer (rw (node, path) at found)

    pub spoken_queue : IsQueue (carrier net) reported new_best new_t
    spoken_queue = by (App net.alg.expression a.label r.value) refl
      where
        by : (o : Option PureValue) → App net.alg.expression a.label r.value ≡ o → IsQueue (carrier net) reported new_best new_t
        by None e = let same = rw e at offered in record { bests = rw same q.bests; ranked = ranked }
        by (Some v) e = queue_made v e

    pub spoken_found : (start : Option PureRoute) (k : ℕ) → found_at (routes_of reported best) k ≡ relaxed (carrier net) (reported k) start (heard_so_far net i r m k)
        → found_at (routes_of reported new_best) k ≡ relaxed (carrier net) (reported k) start (heard_so_far net i r (m + 1) k)
    spoken_found start k old =
        step_take net i r m k a (reported k) start (found_at (routes_of reported best) k) (found_at (routes_of reported new_best) k) heard (λ e. rw e is_open) old (by (App net.alg.expression a.label r.value) refl)
      where
        by : (o : Option PureValue) → App net.alg.expression a.label r.value ≡ o
            → found_at (routes_of reported new_best) k ≡ (if k == a.tail then better_of (carrier net) (found_at (routes_of reported best) k) (arc_offer net a.tail i r) else found_at (routes_of reported best) k)
        by None e =
            let same = rw e at offered in
            let offer : arc_offer net a.tail i r ≡ None = sym (made_offer net i m a r heard) ∙ rw e refl in
            rw (same, offer) (either (k == a.tail) (found_at (routes_of reported best) k))
          where
            either : (b : Bool) (x : Option PureRoute) → x ≡ (if b then x else x)
            either true x = refl
            either false x = refl
        by (Some v) e = found_made v e k

-- the offer of the next origin was made
module _ (net : PureNet) (n : IsNet net) (dest m : ℕ) (xs : List Origin) (o : Origin) (v : PureValue) (best new_best : List (Option RouteKey)) (t new_t : PureTournament)
    (listed : map pure_origin xs ≡ origins_of net dest) (at_place : o ≡ get_or xs m o) (below : m < length xs) (all_in : AllByRecursion (λ (p : Origin). IsOriginOf net.alg (length net.nodes) (length net.dests) (pure_origin p)) xs)
    (value : v ≡ pure_value o.value) (count : length best ≡ length net.nodes) (q : IsQueue (carrier net) no_route best t)
    (offered : IsOffered (carrier net) (record { value = v; size = 1; node = o.node.0; next = o.node.0 }) best new_best) (ranked : IsRanked (carrier net) new_best new_t)
  where
    own_key : RouteKey
    own_key = record { value = v; size = 1; node = o.node.0; next = o.node.0 }

    read : slice_get xs m ≡ Some o
    read = slice_get_read xs (length xs) m o refl below at_place

    there : slice_get (origins_of net dest) m ≡ Some (pure_origin o)
    there = rw listed at (slice_get-map pure_origin xs m ∙ ap (option_map pure_origin) read)

    facts : IsOriginOf net.alg (length net.nodes) (length net.dests) (pure_origin o)
    facts = all_at (λ (p : Origin). IsOriginOf net.alg (length net.nodes) (length net.dests) (pure_origin p)) xs m o all_in read

    node_within : o.node.0 < length best
    node_within = let l = facts.node_in in omega arith

    value_in : In (carrier net) v
    value_in = rw value facts.value_in

    pub own_queue : IsQueue (carrier net) no_route new_best new_t
    own_queue = offered_queue (carrier net) no_route record { value = v; size = 1; node = o.node.0; next = o.node.0 } best t new_best node_within refl (inl (refl, refl)) value_in q new_t offered ranked

    pub own_found : (k : ℕ) → found_at (routes_of no_route best) k ≡ own_so_far net dest m k → found_at (routes_of no_route new_best) k ≡ own_so_far net dest (m + 1) k
    own_found k old =
        let found = offered_found (carrier net) no_route record { value = v; size = 1; node = o.node.0; next = o.node.0 } best t new_best node_within refl (inl (refl, refl)) value_in q offered k in
        (rw (old, value) at found) ∙ sym (own_more net n dest m k (pure_origin o) there)
