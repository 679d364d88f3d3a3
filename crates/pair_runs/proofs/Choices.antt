-- What the nodes of the pair choose: a node takes the other's own route, but keeps its own value where the other's route
-- is by it.
use Rattle.std.proofs.Common.{◌≡◌, ℕ, [], ◌∷◌, Bool, true, false, not, ◌&&◌, Option, Some, None, refl}
use Rattle.alg_model.specs.Expressions.{PureAlg, PureLabel, PureValue}
use Rattle.alg_model.specs.Tests.{same_value}
use Rattle.net_graph.specs.Nets.{PureNet}
use Rattle.net_graph.specs.Routes.{PureRoute}
use Rattle.path_vector.specs.Node.{choice, may_be_of, same_row}
use Rattle.settled_laws.specs.Pair.{pair_net}
use Rattle.pair_runs.specs.BestOfTwo.{route, chosen_of, own_p, own_q, by_q, by_p}
use Rattle.pair_runs.specs.ImprovedValues.{AreTested}

-- the routes of node i: its own, and that by node j
abbrev pub route_of : PureValue → PureValue → ℕ → ℕ → Bool → PureRoute
route_of v w i j true = route v (i ∷ [])
route_of v w i j false = route w (i ∷ j ∷ [])

never : (b : Bool) → (b && false) ≡ false
never true = refl
never false = refl

module _ (alg : PureAlg) (l : PureLabel) (v w : PureValue) (t : AreTested alg l v w) where
  abbrev net : PureNet
  net = pair_net alg l v

  module _ (heard : ℕ → ℕ → Option PureRoute) where
    -- at first each has its own value alone
    pub p_alone : heard 0 0 ≡ None → choice net 0 0 heard ≡ Some (route_of v w 0 1 true)
    p_alone e = chosen_of net 0 heard (route v (0 ∷ []) ∷ []) (route v (0 ∷ [])) (rw (e) refl) (own_p alg l v w t)

    pub q_alone : heard 1 0 ≡ None → choice net 0 1 heard ≡ Some (route_of v w 1 0 true)
    q_alone e = chosen_of net 1 heard (route v (1 ∷ []) ∷ []) (route v (1 ∷ [])) (rw (e) refl) (own_q alg l v w t)

    -- and then it takes the other's route, or goes back
    pub p_turns : (x : Bool) → heard 0 0 ≡ Some (route_of v w 1 0 x) → choice net 0 0 heard ≡ Some (route_of v w 0 1 (not x))
    p_turns true e = chosen_of net 0 heard (route v (0 ∷ []) ∷ route w (0 ∷ 1 ∷ []) ∷ []) (route w (0 ∷ 1 ∷ [])) (rw (e, t.image) refl) (by_q alg l v w t)
    p_turns false e = chosen_of net 0 heard (route v (0 ∷ []) ∷ []) (route v (0 ∷ [])) (rw (e) refl) (own_p alg l v w t)

    pub q_turns : (x : Bool) → heard 1 0 ≡ Some (route_of v w 0 1 x) → choice net 0 1 heard ≡ Some (route_of v w 1 0 (not x))
    q_turns true e = chosen_of net 1 heard (route v (1 ∷ []) ∷ route w (1 ∷ 0 ∷ []) ∷ []) (route w (1 ∷ 0 ∷ [])) (rw (e, t.image) refl) (by_p alg l v w t)
    q_turns false e = chosen_of net 1 heard (route v (1 ∷ []) ∷ []) (route v (1 ∷ [])) (rw (e) refl) (own_q alg l v w t)

  -- each route may be its node's
  pub p_may_be : (x : Bool) → may_be_of net 0 (route_of v w 0 1 x) ≡ true
  p_may_be true = rw (t.own_in, t.own_small) refl
  p_may_be false = rw (t.made_in, t.made_small) refl

  pub q_may_be : (x : Bool) → may_be_of net 1 (route_of v w 1 0 x) ≡ true
  q_may_be true = rw (t.own_in, t.own_small) refl
  q_may_be false = rw (t.made_in, t.made_small) refl

  -- and the two of a node differ
  pub p_changes : (x : Bool) → same_row (Some (route_of v w 0 1 (not x))) (Some (route_of v w 0 1 x)) ≡ false
  p_changes true = never (same_value w v)
  p_changes false = never (same_value v w)

  pub q_changes : (x : Bool) → same_row (Some (route_of v w 1 0 (not x))) (Some (route_of v w 1 0 x)) ≡ false
  q_changes true = never (same_value w v)
  q_changes false = never (same_value v w)
