-- What a node of the pair makes of the other's route.
use Rattle.std.proofs.Common.{◌≡◌, ℕ, [], ◌∷◌, ◌&&◌, Bool, true, false, not, Some, length, refl, ap, ◌∙◌}
use Rattle.std.specs.Prelude.{nat_lt}
use Rattle.std.specs.Option.{option_map_or}
use Rattle.alg_model.specs.Expressions.{PureAlg, PureLabel, PureValue}
use Rattle.net_graph.specs.Nets.{PureNet, arcs_to}
use Rattle.net_graph.specs.Routes.{PureRoute}
use Rattle.node_core.specs.Kinds.{speaker}
use Rattle.path_vector.specs.Node.{PvState, PureUpdate, Step, choice, fits, heard_with, may_be_of, same_row, reported_on}
use Rattle.settled_laws.specs.Pair.{pair_net}
use Rattle.pair_runs.specs.ImprovedValues.{AreTested}
use Rattle.pair_runs.proofs.Choices.{route_of, p_turns, q_turns, p_may_be, q_may_be, p_changes, q_changes}

-- the node of the network's number, with that route
pub record IsEnd (net : PureNet) (s : PvState) (i : ℕ) (r : PureRoute) : Type 0 where
  pub net_is : s.net ≡ net
  pub number_is : s.number ≡ i
  pub row_is : s.rows 0 ≡ Some r

abbrev pub update_of : PureRoute → ℕ → PureUpdate
update_of r t = record { dest = 0; route = Some r; stamp = t }

-- it takes the update on arc a, has then that route, and puts it on arc b
pub record Takes (net : PureNet) (s : PvState) (i a b : ℕ) (u : PureUpdate) (t : ℕ) (r : PureRoute) : Type 0 where
  pub is_end : IsEnd net (Step s a u t).0 i r
  pub puts : (Step s a u t).1 ≡ (b, update_of r t) ∷ []

-- A node whose choice after the update is another route takes it, and puts the new route on its one arc.
module _ (net : PureNet) (s : PvState) (i a b u t : ℕ) (mine theirs next : PureRoute) where
  abbrev news : PureUpdate
  news = update_of theirs u

  takes : IsEnd net s i mine → (nat_lt 0 (length net.dests) && option_map_or (λ j. may_be_of net j theirs) (speaker net a) false) ≡ true
      → choice net 0 i (heard_with s.heard a news) ≡ Some next → same_row (Some next) (Some mine) ≡ false → reported_on (arcs_to net i) (update_of next t) ≡ (b, update_of next t) ∷ []
      → Takes net s i a b news t next
  takes e may turns differ to_one = record { is_end = rw fit (record { net_is = e.net_is; number_is = e.number_is; row_is = chosen }); puts = rw (fit, changes) reported }
    where
      fit : fits s a news ≡ true
      fit = rw (e.net_is) may

      chosen : choice s.net 0 s.number (heard_with s.heard a news) ≡ Some next
      chosen = rw (e.net_is, e.number_is) turns

      changes : same_row (choice s.net 0 s.number (heard_with s.heard a news)) (s.rows 0) ≡ false
      changes = rw (chosen, e.row_is) differ

      reported : reported_on (arcs_to s.net s.number) (record { dest = 0; route = choice s.net 0 s.number (heard_with s.heard a news); stamp = t }) ≡ (b, update_of next t) ∷ []
      reported = ap (λ z. reported_on (arcs_to s.net s.number) (record { dest = 0; route = z; stamp = t })) chosen ∙ rw (e.net_is, e.number_is) to_one

module _ (alg : PureAlg) (l : PureLabel) (v w : PureValue) (tested : AreTested alg l v w) (s : PvState) (x : Bool) (u t : ℕ) where
  pub p_takes : IsEnd (pair_net alg l v) s 0 (route_of v w 0 1 x) → Takes (pair_net alg l v) s 0 0 1 (update_of (route_of v w 1 0 x) u) t (route_of v w 0 1 (not x))
  p_takes e =
      takes (pair_net alg l v) s 0 0 1 u t (route_of v w 0 1 x) (route_of v w 1 0 x) (route_of v w 0 1 (not x)) e
      (q_may_be alg l v w tested x) (p_turns alg l v w tested (heard_with s.heard 0 (update_of (route_of v w 1 0 x) u)) x refl) (p_changes alg l v w tested x) refl

  pub q_takes : IsEnd (pair_net alg l v) s 1 (route_of v w 1 0 x) → Takes (pair_net alg l v) s 1 1 0 (update_of (route_of v w 0 1 x) u) t (route_of v w 1 0 (not x))
  q_takes e =
      takes (pair_net alg l v) s 1 1 0 u t (route_of v w 1 0 x) (route_of v w 0 1 x) (route_of v w 1 0 (not x)) e
      (p_may_be alg l v w tested x) (q_turns alg l v w tested (heard_with s.heard 1 (update_of (route_of v w 0 1 x) u)) x refl) (q_changes alg l v w tested x) refl
