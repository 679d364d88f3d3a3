-- Runs are bounded on every network over an algebra exactly if all its labels are monotone.
use Rattle.std.proofs.Common.{◌+◌, ◌↔◌, length, map, refl, arith}
use Rattle.std.specs.List.{range_with_len}
use Rattle.alg_model.specs.Expressions.{PureAlg, PureLabel, PureValue}
use Rattle.alg_model.specs.Formation.{IsAlg}
use Rattle.node_core.specs.Machine.{Start}
use Rattle.path_vector.specs.Laws.{new_nodes_may_begin}
use Rattle.path_vector.specs.Node.{new_node, path_vector}
use Rattle.settled_laws.specs.OneTable.{monotone_where_none_improves, net_has_monotone}
use Rattle.settled_laws.specs.Pair.{pair_net, Fits, Improves}
use Rattle.settled_laws.specs.PairIsNet.{pair_is_net}
use Rattle.settled_laws.specs.UniqueTables.{LabelsAreMonotone}
use Rattle.vector_rest.specs.EndLaws.{begun_runs_end}
use Rattle.vector_rest.specs.Left.{left_from}
use Rattle.pair_runs.specs.Unfinished.{AllRunsAreBounded}
use Rattle.pair_runs.proofs.Rounds.{never_rests}

none_improves : (alg : PureAlg) (l : PureLabel) (v w : PureValue) → IsAlg alg → AllRunsAreBounded alg → Fits alg l v → ¬ Improves alg l v w
none_improves alg l v w a bounded f g =
    let bound = bounded (pair_net alg l v) refl (pair_is_net alg l v a f) in
    let run = never_rests alg l v w (bound.most + 1) a f g in
    let few = bound.within run.journal run.end run.replayed in
    let count = run.count_is in
    absurd (omega (arith, few, count))

pub monotone_where_bounded : (alg : PureAlg) → IsAlg alg → AllRunsAreBounded alg → LabelsAreMonotone alg
monotone_where_bounded alg a bounded = monotone_where_none_improves alg a (λ l v w. none_improves alg l v w a bounded)

-- where they are, no more deliveries are made than are left at the start
pub bounded_where_monotone : (alg : PureAlg) → LabelsAreMonotone alg → AllRunsAreBounded alg
bounded_where_monotone alg m net e n =
    let nodes = map (new_node net) (range_with_len 0 (length net.nodes)) in
    record {
      most = left_from net (Start path_vector nodes) (Start path_vector nodes);
      within = λ journal end replayed.
          let all = begun_runs_end net nodes journal end n (net_has_monotone alg m net e n) (new_nodes_may_begin net) replayed in
          omega (arith, all);
    }

pub bounded_exactly_where_monotone : (alg : PureAlg) → IsAlg alg → (AllRunsAreBounded alg ↔ LabelsAreMonotone alg)
bounded_exactly_where_monotone alg a = (monotone_where_bounded alg a, bounded_where_monotone alg)
