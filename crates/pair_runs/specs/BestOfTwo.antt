-- What a node chooses of its own value and of what it could have by another node. Lemmas, so that proofs of other crates
-- may cite them.
use Rattle.std.proofs.Common.{◌≡◌, ℕ, List, [], ◌∷◌, true, false, Option, Some, refl, ap, ◌∙◌}
use Rattle.alg_model.specs.Expressions.{PureAlg, PureCarrier, PureLabel, PureValue}
use Rattle.alg_model.specs.Carriers.{carrier_of}
use Rattle.net_graph.specs.Nets.{PureNet}
use Rattle.net_graph.specs.Routes.{PureRoute, is_better}
use Rattle.net_graph.specs.Tables.{carrier}
use Rattle.path_vector.specs.Node.{best_of, choice, offers_to}
use Rattle.pair_runs.specs.ImprovedValues.{AreTested}

abbrev pub route : PureValue → List ℕ → PureRoute
route v p = record { value = v; path = p }

best_one : (c : PureCarrier) (r : PureRoute) → is_better c r r ≡ false → best_of c (r ∷ []) ≡ Some r
best_one c r e = rw e refl

best_two : (c : PureCarrier) (r s : PureRoute) → is_better c s r ≡ true → is_better c r s ≡ false → is_better c r r ≡ false → is_better c s s ≡ false → best_of c (r ∷ s ∷ []) ≡ Some s
best_two c r s e f g h = rw (e, f, g, h) refl

pub chosen_of : (net : PureNet) (i : ℕ) (heard : ℕ → ℕ → Option PureRoute) (offers : List PureRoute) (r : PureRoute) → offers_to net 0 i (λ a. heard a 0) ≡ offers → best_of (carrier net) offers ≡ Some r → choice net 0 i heard ≡ Some r
chosen_of net i heard offers r e f = ap (best_of (carrier net)) e ∙ f

module _ (alg : PureAlg) (l : PureLabel) (v w : PureValue) (t : AreTested alg l v w) where
  abbrev c : PureCarrier
  c = carrier_of alg.expression

  -- its own value alone
  pub own_p : best_of c (route v (0 ∷ []) ∷ []) ≡ Some (route v (0 ∷ []))
  own_p = best_one c (route v (0 ∷ [])) (rw (t.own_self) refl)

  pub own_q : best_of c (route v (1 ∷ []) ∷ []) ≡ Some (route v (1 ∷ []))
  own_q = best_one c (route v (1 ∷ [])) (rw (t.own_self) refl)

  -- and rather by the other
  pub by_q : best_of c (route v (0 ∷ []) ∷ route w (0 ∷ 1 ∷ []) ∷ []) ≡ Some (route w (0 ∷ 1 ∷ []))
  by_q = best_two c (route v (0 ∷ [])) (route w (0 ∷ 1 ∷ [])) (rw (t.first) refl) (rw (t.second) refl) (rw (t.own_self) refl) (rw (t.made_self) refl)

  pub by_p : best_of c (route v (1 ∷ []) ∷ route w (1 ∷ 0 ∷ []) ∷ []) ≡ Some (route w (1 ∷ 0 ∷ []))
  by_p = best_two c (route v (1 ∷ [])) (route w (1 ∷ 0 ∷ [])) (rw (t.first) refl) (rw (t.second) refl) (rw (t.own_self) refl) (rw (t.made_self) refl)
