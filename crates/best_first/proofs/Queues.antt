-- What keeps the best open routes and the nodes' standing in order.
use Rattle.std.proofs.Common.{◌≡◌, ◌≢◌, ℕ, ◌<◌, ◌/◌, List, Option, Some, None, Bool, true, false, ◌==◌, if◌then◌else◌, option_map, length, refl, sym, ap, ◌∙◌, arith, inl, inr, IfSome}
use Rattle.std.proofs.Math.ListN.{set}
use Rattle.std.proofs.lemmas.Bool.{cases_eq, false≢true}
use Rattle.std.proofs.lemmas.Bool.Decides.{nat_tests}
use Rattle.frontier.specs.Tournaments.{PureTournament, winner_at, IsJudged, IsJudgedBut, IsJudgedWithout, IsFirstSlot}
use Rattle.alg_model.specs.Expressions.{PureCarrier}
use Rattle.alg_model.specs.Carriers.{In}
use Rattle.net_graph.specs.Routes.{PureRoute, Better, is_less, is_better}
use Rattle.net_graph.specs.Tables.{Reported}
use Rattle.best_first.specs.Found.{found-map, found_at, better_of}
use Rattle.best_first.specs.KeyOrder.{asymmetric, transitive}
use Rattle.best_first.specs.Keys.{RouteKey, is_first, is_ahead, precedes, beats, route_of, routes_of, IsAfter, IsShaped}
use Rattle.best_first.specs.Queue.{IsBestAt, IsRanked, IsQueue, IsOffered, IsNext, with_reported}
use Rattle.best_first.proofs.Places.{found-set, found_within, from_some}
use Rattle.best_first.proofs.KeyRoutes.{first_agree}

some_none : {X Y : Type 0} (o : Option X) (x : X) → o ≡ None → o ≡ Some x → Y
some_none o x e f = absurd (cc)

-- a route is open where its key is
pub open-found : (reported : Reported) (best : List (Option RouteKey)) (k : ℕ) → found_at (routes_of reported best) k ≡ option_map (route_of reported) (found_at best k)
open-found reported best k = found-map (route_of reported) best k

-- with another best of node i
module _ (c : PureCarrier) (best : List (Option RouteKey)) (i : ℕ) (o : Option RouteKey) (within : i < length best) where
  elsewhere : (k : ℕ) → k ≢ i → found_at (set best i o) k ≡ found_at best k
  elsewhere k n = found-set best i k o within ∙ (let e : (k == i) ≡ false = grind (arith, nat_tests) in rw e refl)

  there : found_at (set best i o) i ≡ o
  there = found-set best i i o within ∙ (let e : (i == i) ≡ true = grind (arith, nat_tests) in rw e refl)

  -- only matches of node i may be judged otherwise
  pub replay_asks : (t : PureTournament) → IsJudged (precedes c best) t → IsJudgedWithout (precedes c (set best i o)) t i
  replay_asks t judged k more long n m =
      rw (elsewhere (winner_at t.winners k) n, elsewhere (winner_at t.winners (k / 2)) m) (judged k more long)

-- with a better one, only those that node i lost
module _ (c : PureCarrier) (best : List (Option RouteKey)) (i : ℕ) (key : RouteKey) (within : i < length best) (key_in : In c key.value)
    (all_in : (k : ℕ) → IfSome (found_at best k) (λ b. In c b.value)) (better : beats c key (found_at best i) ≡ true)
  where
    still_after : (o : Option RouteKey) → IfSome o (λ b. In c b.value) → is_ahead c o (found_at best i) ≡ false → is_ahead c o (Some key) ≡ false
    still_after None h e = refl
    still_after (Some b) h e = by (found_at best i) (all_in i) better e
      where
        by : (p : Option RouteKey) → IfSome p (λ b. In c b.value) → beats c key p ≡ true → is_ahead c (Some b) p ≡ false → is_first c b key ≡ false
        by None g f e = absurd (cc)
        by (Some l) g f e = transitive c key l b key_in g h (asymmetric c key l key_in g f) e

    pub raise_asks : (t : PureTournament) → IsJudged (precedes c best) t → IsJudgedBut (precedes c (set best i (Some key))) t i
    raise_asks t judged k more long n = elim (cases_eq (winner_at t.winners (k / 2)) i) [
      | inl e ↦
          let was : is_ahead c (found_at best (winner_at t.winners k)) (found_at best i) ≡ false = rw e at (judged k more long) in
          rw (elsewhere c best i (Some key) within (winner_at t.winners k) n, e, there c best i (Some key) within) (still_after (found_at best (winner_at t.winners k)) (all_in (winner_at t.winners k)) was)
      | inr m ↦ rw (elsewhere c best i (Some key) within (winner_at t.winners k) n, elsewhere c best i (Some key) within (winner_at t.winners (k / 2)) m) (judged k more long)
    ]

-- an offer that was made keeps the order
module _ (c : PureCarrier) (reported : Reported) (key : RouteKey) (best : List (Option RouteKey)) (t : PureTournament) (new_best : List (Option RouteKey))
    (within : key.node < length best) (is_open : reported key.node ≡ None) (shaped : IsShaped reported key) (value_in : In c key.value) (q : IsQueue c reported best t)
  where
    at_node : (k : ℕ) → found_at (set best key.node (Some key)) k ≡ (if k == key.node then Some key else found_at best k)
    at_node k = found-set best key.node k (Some key) within

    bests_taken : (k : ℕ) (b : RouteKey) → found_at (set best key.node (Some key)) k ≡ Some b → IsBestAt c reported k b
    bests_taken k b e = by (k == key.node) refl (sym (at_node k) ∙ e)
      where
        by : (t : Bool) → (k == key.node) ≡ t → (if k == key.node then Some key else found_at best k) ≡ Some b → IsBestAt c reported k b
        by true g e =
            let same : k ≡ key.node = grind (arith, nat_tests) in
            let one : Some key ≡ Some b = rw g at e in
            let is : key ≡ b = cc in
            rw (← is, same) record { node = refl; is_open = is_open; shaped = shaped; value_in = value_in }
        by false g e = q.bests k b (rw g at e)

    pub offered_queue : (new_t : PureTournament) → IsOffered c key best new_best → IsRanked c new_best new_t → IsQueue c reported new_best new_t
    offered_queue new_t o ranked = record { bests = by (beats c key (found_at best key.node)) refl o; ranked = ranked }
      where
        by : (t : Bool) → beats c key (found_at best key.node) ≡ t → IsOffered c key best new_best → (k : ℕ) (b : RouteKey) → found_at new_best k ≡ Some b → IsBestAt c reported k b
        by true f o = let h = rw f at o in rw h bests_taken
        by false f o = let h = rw f at o in rw h q.bests

    -- the node has the better of what was open and what was offered
    pub offered_found : IsOffered c key best new_best → (k : ℕ) → found_at (routes_of reported new_best) k
        ≡ (if k == key.node then better_of c (found_at (routes_of reported best) k) (Some (route_of reported key)) else found_at (routes_of reported best) k)
    offered_found o k = open-found reported new_best k ∙ (by (k == key.node) refl (beats c key (found_at best key.node)) refl o ∙ ap (λ x. if k == key.node then better_of c x (Some (route_of reported key)) else x) (sym (open-found reported best k)))
      where
        better : (old : Option RouteKey) → found_at best key.node ≡ old → better_of c (option_map (route_of reported) old) (Some (route_of reported key)) ≡ option_map (route_of reported) (if beats c key old then Some key else old)
        better None e = refl
        better (Some b) e =
            let at_b = q.bests key.node b e in
            let none : reported b.node ≡ None = rw at_b.node at_b.is_open in
            rw (first_agree c reported key b is_open none shaped at_b.shaped) (cases (is_better c (route_of reported key) (route_of reported b)))
          where
            cases : (t : Bool) → (if t then Some (route_of reported key) else Some (route_of reported b)) ≡ option_map (route_of reported) (if t then Some key else Some b)
            cases true = refl
            cases false = refl

        by : (s : Bool) → (k == key.node) ≡ s → (t : Bool) → beats c key (found_at best key.node) ≡ t → IsOffered c key best new_best
            → option_map (route_of reported) (found_at new_best k) ≡ (if k == key.node then better_of c (option_map (route_of reported) (found_at best k)) (Some (route_of reported key)) else option_map (route_of reported) (found_at best k))
        by true g true f o =
            let h = rw f at o in
            let same : k ≡ key.node = grind (arith, nat_tests) in
            rw (g, h, at_node k, g, same, better (found_at best key.node) refl, f) refl
        by true g false f o =
            let h = rw f at o in
            let same : k ≡ key.node = grind (arith, nat_tests) in
            rw (g, h, same, better (found_at best key.node) refl, f) refl
        by false g true f o =
            let h = rw f at o in
            rw (g, h, at_node k, g) refl
        by false g false f o =
            let h = rw f at o in
            rw (g, h) refl

shaped_more : (reported : Reported) (i : ℕ) (r : PureRoute) (k : RouteKey) → reported i ≡ None → IsShaped reported k → IsShaped (with_reported reported i r) k
shaped_more reported i r k none (inl own) = inl own
shaped_more reported i r k none (inr b) = inr (by (k.next == i) refl)
  where
    by : (t : Bool) → (k.next == i) ≡ t → IsAfter (with_reported reported i r) k
    by true e =
        let same : k.next ≡ i = grind (arith, nat_tests) in
        some_none (reported i) b.next none (rw same at b.is_reported)
    by false e = record { next = b.next; is_reported = rw e b.is_reported; begins = b.begins; size = b.size }

-- the node that no node comes before tells the best route
module _ (c : PureCarrier) (reported : Reported) (best : List (Option RouteKey)) (t new_t : PureTournament) (i : ℕ) (first : IsFirstSlot (precedes c best) (length best) i) (q : IsQueue c reported best t) where
  module _ (than : RouteKey) (here : found_at best i ≡ Some than) where
    than_at : IsBestAt c reported i than
    than_at = q.bests i than here

    unbeaten : (k : ℕ) (s : PureRoute) → found_at (routes_of reported best) k ≡ Some s → ¬ Better c s (route_of reported than)
    unbeaten k s e better =
        let from = from_some (route_of reported) (found_at best k) s (sym (open-found reported best k) ∙ e) in
        let b = from.0 in
        let at_b = q.bests k b from.1 in
        let none : reported b.node ≡ None = rw at_b.node at_b.is_open in
        let none_than : reported than.node ≡ None = rw than_at.node than_at.is_open in
        let order : is_first c b than ≡ false = rw (from.1, here) at (first k (found_within best k b from.1)) in
        let same = first_agree c reported b than none none_than at_b.shaped than_at.shaped in
        let worse : is_better c (route_of reported b) (route_of reported than) ≡ false = sym same ∙ order in
        let is_less_then : Better c (route_of reported b) (route_of reported than) = rw from.2 at better in
        let yes_better : is_better c (route_of reported b) (route_of reported than) ≡ true = ap is_less is_less_then in
        false≢true (sym worse ∙ yes_better)

    next_bests : (r : PureRoute) (k : ℕ) (b : RouteKey) → found_at (set best i None) k ≡ Some b → IsBestAt c (with_reported reported i r) k b
    next_bests r k b e = by (k == i) refl (sym (found-set best i k None (found_within best i than here)) ∙ e)
      where
        by : (t : Bool) → (k == i) ≡ t → (if k == i then None else found_at best k) ≡ Some b → IsBestAt c (with_reported reported i r) k b
        by true g e = absurd (let f : None ≡ Some b = rw g at e in cc)
        by false g e =
            let old = q.bests k b (rw g at e) in
            record {
              node = old.node;
              is_open = rw g old.is_open;
              shaped = shaped_more reported i r b than_at.is_open old.shaped;
              value_in = old.value_in;
            }

    pub next_is : IsRanked c (set best i None) new_t → IsNext c reported best new_t i
    next_is ranked = record {
      is_open = than_at.is_open;
      best_of_all = (route_of reported than, open-found reported best i ∙ ap (option_map (route_of reported)) here, unbeaten);
      queue = λ r. record { bests = next_bests r; ranked = ranked };
    }
