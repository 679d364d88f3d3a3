-- The nodes of a generated network come to rest.
use Rattle.std.proofs.Common.{◌≡◌, ℕ, ◌<◌, ◌≤◌, Bool, true, false, List, [], Some, length, refl, arith}
use Rattle.meta_base.specs.declared.ids.Delivery.{Delivery}
use Rattle.node_core.specs.Machine.{Machine, Start, Replay}
use Rattle.node_core.specs.MachineLaws.{start_runs}
use Rattle.path_vector.specs.Node.{PvState, PureUpdate, path_vector}
use Rattle.path_vector.specs.Laws.{new_nodes_may_begin}
use Rattle.path_vector.specs.Lawful.{path_vector_is_lawful}
use Rattle.rest_laws.specs.ReachLaws.{journal_within}
use Rattle.vector_rest.specs.EndLaws.{may_begin_unbegun}
use Rattle.vector_runs.specs.Runs.{PurePhase, IsPhaseOf, IsRun, new_nodes}
use Rattle.net_gen.specs.Generated.{AreDemoNodes}
use Rattle.net_gen.specs.Networks.{generated_net}
use Rattle.demo_rest.specs.Most.{most_demo_deliveries}
use Rattle.demo_rest.proofs.Nets.{generated_is_net}
use Rattle.demo_rest.proofs.Room.{most, has_room, all_most}

pub runs_are_short : (seed n : ℕ) (journal : List Delivery) (c : Machine PvState PureUpdate) → AreDemoNodes n
    → Replay path_vector (generated_net seed n) (new_nodes (generated_net seed n)) journal ≡ Some c → length journal ≤ most_demo_deliveries
runs_are_short seed n journal c d e =
    let net = generated_net seed n in
    let is_net = generated_is_net seed n d in
    let running = start_runs path_vector path_vector_is_lawful net is_net (new_nodes net) (may_begin_unbegun net (new_nodes net) (new_nodes_may_begin net)) in
    let within = journal_within path_vector path_vector_is_lawful net is_net (Start path_vector (new_nodes net)) (most seed n is_net) (has_room seed n is_net) running journal c e in
    let all = all_most seed n is_net d in
    omega (arith, within, all)

-- with more turns than that a run is quiet
pub runs_are_quiet : (seed n turns : ℕ) (last : PurePhase) (quiet : Bool) → AreDemoNodes n → most_demo_deliveries < turns → IsRun (generated_net seed n) [] turns [] last quiet → quiet ≡ true
runs_are_quiet seed n turns last true d more runs = refl
runs_are_quiet seed n turns last false d more runs = absurd (spent runs.1)
  where
    spent : IsPhaseOf (generated_net seed n) (new_nodes (generated_net seed n)) turns last false runs.0 → ⊥
    spent is =
        let short = runs_are_short seed n last.journal is.end d is.phase.replayed in
        let all : length last.journal ≡ turns = (is.phase.spent refl).1 in
        omega (arith, short, all, more)
