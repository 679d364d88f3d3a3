-- What waits on an arc, by what its listener's block has of it.
use Rattle.std.proofs.Common.{◌≡◌, ℕ, ◌+◌, ◌<◌, ◌≤◌, Bool, true, false, List, [], ◌∷◌, Some, length, map, slice_get, inl, inr, refl, sym, ap, subst, ◌∙◌, arith}
use Rattle.std.specs.Prelude.{◌==◌}
use Rattle.std.proofs.lemmas.Bool.{cases_lt, eqb-true}
use Rattle.std.proofs.lemmas.Bool.Decides.{nat_tests}
use Rattle.std.proofs.lemmas.List.{length-map}
use Rattle.std.proofs.lemmas.Option.{slice_get_past}
use Rattle.net_graph.specs.Nets.{PureNet}
use Rattle.node_core.specs.Kinds.{listener}
use Rattle.weave.specs.declared.block.Block.{Block}
use Rattle.weave.specs.Blocks.{view_of}
use Rattle.weave.specs.Gathered.{block_of, machine_across, view_at}
use Rattle.weave.specs.Lanes.{PureLane, elsewhere, inside, coming, going, lane_in, noted_lane, waits_inside}
use Rattle.weave.specs.Views.{View}
use Rattle.weave.proofs.Changing.{view_here}

noted_waits : {M W : Type 0} (note : M → W) (l : PureLane M) → waits_inside (noted_lane note l) ≡ map note (waits_inside l)
noted_waits note elsewhere = refl
noted_waits note (inside waits) = refl
noted_waits note (coming link received) = refl
noted_waits note (going link sent) = refl

nothing : {X : Type 0} (xs : List X) → length xs ≡ 0 → xs ≡ []
nothing [] e = refl
nothing (x ∷ xs) e = absurd (omega (arith, e))

module _ {N M S W : Type 0} (state : N → S) (note : M → W) (net : PureNet) (count : ℕ) (blocks : List (Block N M)) where
  pub waits_at : (a i b : ℕ) (x : Block N M) → listener net a ≡ Some i → b ≡ block_of count i → slice_get blocks b ≡ Some x
      → length ((machine_across net count (view_at state note blocks)).link a) ≡ length (waits_inside (lane_in (slice_get x.lanes.items a)))
  waits_at a i b x listens stands there =
      let here : view_at state note blocks (block_of count i) ≡ view_of state note x = subst (λ c. view_at state note blocks c ≡ view_of state note x) stands (view_here state note blocks b x there) in
      let lane = lane_in (slice_get x.lanes.items a) in
      rw listens (ap (λ (v : View S W). length (waits_inside (v.lane a))) here ∙ (ap length (noted_waits note lane) ∙ length-map (waits_inside lane) note))

  -- past the network's arcs nothing waits
  none_past : (a : ℕ) → length net.arcs ≤ a → (machine_across net count (view_at state note blocks)).link a ≡ []
  none_past a past = rw (slice_get_past net.arcs a past) refl

  -- where nothing waits on the arcs so far and on this one, nothing waits on one arc more
  pub none_more : (n : ℕ) → ((a : ℕ) → a < n → (machine_across net count (view_at state note blocks)).link a ≡ []) → length ((machine_across net count (view_at state note blocks)).link n) ≡ 0
      → (a : ℕ) → a < n + 1 → (machine_across net count (view_at state note blocks)).link a ≡ []
  none_more n before here a lt = by (a == n) refl
    where
      by : (t : Bool) → (a == n) ≡ t → (machine_across net count (view_at state note blocks)).link a ≡ []
      by true t = let same : a ≡ n = eqb-true a n t in subst (λ x. (machine_across net count (view_at state note blocks)).link x ≡ []) (sym same) (nothing ((machine_across net count (view_at state note blocks)).link n) here)
      by false t = let less : a < n = grind (arith, nat_tests) in before a less

  pub none_at_all : (n : ℕ) → length net.arcs ≤ n → ((a : ℕ) → a < n → (machine_across net count (view_at state note blocks)).link a ≡ []) → (a : ℕ) → (machine_across net count (view_at state note blocks)).link a ≡ []
  none_at_all n all before a = elim (cases_lt a n) [
    | inl less ↦ before a less
    | inr more ↦ none_past a (omega (arith, all, more))
  ]
