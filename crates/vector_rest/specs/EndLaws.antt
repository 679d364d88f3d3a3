-- Runs of path-vector nodes end where labels are monotone. Lemmas, so that proofs of other crates may cite them.
use Rattle.std.proofs.Common.{◌≡◌, ℕ, suc, ◌+◌, ◌≤◌, false, List, [], ◌∷◌, Some, slice_get, length, refl, ◌∙◌, arith}
use Rattle.meta_base.specs.declared.ids.Delivery.{Delivery}
use Rattle.alg_model.specs.Properties.{monotone}
use Rattle.net_graph.specs.Nets.{PureNet, IsNet}
use Rattle.net_graph.specs.Tables.{NetHas}
use Rattle.node_core.specs.Machine.{Machine, AreUnbegun, Start, Replay}
use Rattle.node_core.specs.MachineLaws.{start_runs}
use Rattle.path_vector.specs.Node.{PvState, PureUpdate, path_vector}
use Rattle.path_vector.specs.Coherent.{MayBegin}
use Rattle.path_vector.specs.Lawful.{path_vector_is_lawful}
use Rattle.path_vector.specs.Starting.{start_is_coherent}
use Rattle.vector_rest.specs.Left.{left_at_start, left_from}
use Rattle.vector_rest.specs.MachineReads.{runs_end}

-- nodes of the network in order, none of which is begun
unbegun_from : (net : PureNet) (i : ℕ) (nodes : List PvState) → ((k : ℕ) (s : PvState) → slice_get nodes k ≡ Some s → (s.net ≡ net) × (s.number ≡ i + k) × (s.is_begun ≡ false))
    → length net.nodes ≡ i + length nodes → AreUnbegun path_vector net i nodes
unbegun_from net i [] fresh count = omega (arith, count)
unbegun_from net i (s ∷ nodes) fresh count =
    let here = fresh 0 s refl in
    let first : i + 0 ≡ i = omega arith in
    (here.0, here.1 ∙ first, here.2, unbegun_from net (i + 1) nodes (λ k t e. later k t (fresh (suc k) t e)) (omega (arith, count)))
  where
    later : (k : ℕ) (t : PvState) → (t.net ≡ net) × (t.number ≡ i + suc k) × (t.is_begun ≡ false) → (t.net ≡ net) × (t.number ≡ i + 1 + k) × (t.is_begun ≡ false)
    later k t there = let place : i + suc k ≡ i + 1 + k = omega arith in (there.0, there.1 ∙ place, there.2)

pub may_begin_unbegun : (net : PureNet) (nodes : List PvState) → MayBegin net nodes → AreUnbegun path_vector net 0 nodes
may_begin_unbegun net nodes m =
    let count = m.count in
    unbegun_from net 0 nodes fresh (omega (arith, count))
  where
    fresh : (k : ℕ) (s : PvState) → slice_get nodes k ≡ Some s → (s.net ≡ net) × (s.number ≡ 0 + k) × (s.is_begun ≡ false)
    fresh k s e =
        let is = m.fresh k s e in
        let place : k ≡ 0 + k = omega arith in
        (is.0, is.1 ∙ place, is.2)

-- from nodes that may begin
pub begun_runs_end : (net : PureNet) (nodes : List PvState) (journal : List Delivery) (c : Machine PvState PureUpdate) → IsNet net → NetHas monotone net → MayBegin net nodes → Replay path_vector net nodes journal ≡ Some c
    → length journal + left_from net (Start path_vector nodes) c ≤ left_at_start net nodes
begun_runs_end net nodes journal c n mono m e =
    runs_end net n (Start path_vector nodes) (start_is_coherent net n nodes m) mono (start_runs path_vector path_vector_is_lawful net n nodes (may_begin_unbegun net nodes m)) journal c e
