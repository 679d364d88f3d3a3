-- What the nodes of the wedge choose in each phase: a node takes the other's own route, but keeps its own value where the
-- other's route is by it. Lemmas, so that proofs of other crates may cite them.
use Rattle.std.proofs.Common.{◌≡◌, ℕ, [], ◌∷◌, Option, Some, None, refl}
use Rattle.alg_model.specs.Expressions.{PureAlg, PureLabel, PureValue}
use Rattle.net_graph.specs.Routes.{PureRoute}
use Rattle.path_vector.specs.Node.{choice}
use Rattle.settled_laws.specs.Wedge.{wedge_net}
use Rattle.wedge_runs.specs.WedgePhases.{wedge_two, wedge_three, wedge_four}
use Rattle.pair_runs.specs.BestOfTwo.{route, chosen_of, own_p, own_q, by_q, by_p}
use Rattle.pair_runs.specs.ImprovedValues.{AreTested}

module _ (alg : PureAlg) (l : PureLabel) (v w : PureValue) (t : AreTested alg l v w) where
  module _ (heard : ℕ → ℕ → Option PureRoute) where
    -- on the first network
    pub one_p_alone : heard 0 0 ≡ None → choice (wedge_net alg l v) 0 0 heard ≡ Some (route v (0 ∷ []))
    one_p_alone e = chosen_of (wedge_net alg l v) 0 heard (route v (0 ∷ []) ∷ []) (route v (0 ∷ [])) (rw (e) refl) (own_p alg l v w t)

    pub one_p_by_q : heard 0 0 ≡ Some (route v (1 ∷ [])) → choice (wedge_net alg l v) 0 0 heard ≡ Some (route w (0 ∷ 1 ∷ []))
    one_p_by_q e = chosen_of (wedge_net alg l v) 0 heard (route v (0 ∷ []) ∷ route w (0 ∷ 1 ∷ []) ∷ []) (route w (0 ∷ 1 ∷ [])) (rw (e, t.image) refl) (by_q alg l v w t)

    pub one_q : choice (wedge_net alg l v) 0 1 heard ≡ Some (route v (1 ∷ []))
    one_q = chosen_of (wedge_net alg l v) 1 heard (route v (1 ∷ []) ∷ []) (route v (1 ∷ [])) refl (own_q alg l v w t)

    -- on the second
    pub two_p_by_q : heard 0 0 ≡ Some (route v (1 ∷ [])) → choice (wedge_two alg l v) 0 0 heard ≡ Some (route w (0 ∷ 1 ∷ []))
    two_p_by_q e = chosen_of (wedge_two alg l v) 0 heard (route v (0 ∷ []) ∷ route w (0 ∷ 1 ∷ []) ∷ []) (route w (0 ∷ 1 ∷ [])) (rw (e, t.image) refl) (by_q alg l v w t)

    pub two_q_alone : heard 1 0 ≡ None → choice (wedge_two alg l v) 0 1 heard ≡ Some (route v (1 ∷ []))
    two_q_alone e = chosen_of (wedge_two alg l v) 1 heard (route v (1 ∷ []) ∷ []) (route v (1 ∷ [])) (rw (e) refl) (own_q alg l v w t)

    pub two_q_passed : heard 1 0 ≡ Some (route w (0 ∷ 1 ∷ [])) → choice (wedge_two alg l v) 0 1 heard ≡ Some (route v (1 ∷ []))
    two_q_passed e = chosen_of (wedge_two alg l v) 1 heard (route v (1 ∷ []) ∷ []) (route v (1 ∷ [])) (rw (e) refl) (own_q alg l v w t)

    -- on the third
    pub three_p : choice (wedge_three alg l v) 0 0 heard ≡ Some (route v (0 ∷ []))
    three_p = chosen_of (wedge_three alg l v) 0 heard (route v (0 ∷ []) ∷ []) (route v (0 ∷ [])) refl (own_p alg l v w t)

    pub three_q_passed : heard 0 0 ≡ Some (route w (0 ∷ 1 ∷ [])) → choice (wedge_three alg l v) 0 1 heard ≡ Some (route v (1 ∷ []))
    three_q_passed e = chosen_of (wedge_three alg l v) 1 heard (route v (1 ∷ []) ∷ []) (route v (1 ∷ [])) (rw (e) refl) (own_q alg l v w t)

    pub three_q_by_p : heard 0 0 ≡ Some (route v (0 ∷ [])) → choice (wedge_three alg l v) 0 1 heard ≡ Some (route w (1 ∷ 0 ∷ []))
    three_q_by_p e = chosen_of (wedge_three alg l v) 1 heard (route v (1 ∷ []) ∷ route w (1 ∷ 0 ∷ []) ∷ []) (route w (1 ∷ 0 ∷ [])) (rw (e, t.image) refl) (by_p alg l v w t)

    -- on the fourth
    pub four_p_alone : heard 1 0 ≡ None → choice (wedge_four alg l v) 0 0 heard ≡ Some (route v (0 ∷ []))
    four_p_alone e = chosen_of (wedge_four alg l v) 0 heard (route v (0 ∷ []) ∷ []) (route v (0 ∷ [])) (rw (e) refl) (own_p alg l v w t)

    pub four_p_passed : heard 1 0 ≡ Some (route w (1 ∷ 0 ∷ [])) → choice (wedge_four alg l v) 0 0 heard ≡ Some (route v (0 ∷ []))
    four_p_passed e = chosen_of (wedge_four alg l v) 0 heard (route v (0 ∷ []) ∷ []) (route v (0 ∷ [])) (rw (e) refl) (own_p alg l v w t)

    pub four_q_by_p : heard 0 0 ≡ Some (route v (0 ∷ [])) → choice (wedge_four alg l v) 0 1 heard ≡ Some (route w (1 ∷ 0 ∷ []))
    four_q_by_p e = chosen_of (wedge_four alg l v) 1 heard (route v (1 ∷ []) ∷ route w (1 ∷ 0 ∷ []) ∷ []) (route w (1 ∷ 0 ∷ [])) (rw (e, t.image) refl) (by_p alg l v w t)
