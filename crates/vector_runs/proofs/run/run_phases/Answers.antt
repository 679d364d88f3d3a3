use denote.Param.Send.{sendable}
use Rattle.std.proofs.Common.{◌≡◌, ◌+◌, ◌-◌, ◌∷◌, [], true, Some, ap, arith, drop, length, map, refl, slice_get, subst, sym, ◌∙◌}
use Rattle.std.proofs.Crossing.{crosses}
use Rattle.std.proofs.lemmas.List.{map-append}
use Rattle.std.proofs.lemmas.Option.{slice_get-get_or}
use Rattle.net_graph.specs.Views.{pure_row}
use Rattle.node_core.specs.Machine.{AreUnbegun}
use Rattle.path_vector.specs.Node.{path_vector}
use Rattle.path_vector.specs.Nodes.{state_of}
use Rattle.vector_runs.specs.NodeLaws.{carried_are_unbegun}
use Rattle.vector_runs.specs.Runs.{pure_phase}
use Rattle.vector_runs.proofs.Phases.{IsSoFar, drop_all, drop_next, first_so_far, new_are_unbegun, next_so_far, ran, ran_phase, so_far_is_run}
use Rattle.weave.proofs.Sent.{net_sync}
use Rattle.vector_runs.proofs.run.run_phases.Goals as goal
use Rattle.vector_runs.proofs.run.run_phases.Goals.{else-loop-next-test, then-loop-next-test+in_default}

pub run_once-requires-send-F-Node : goal.run_once-requires-send-F-Node
run_once-requires-send-F-Node g c κs within =
    let sig = c.type_bounds.send-A-Sig in
    let lab = c.type_bounds.send-A-Lab in
    let algebra = c.type_bounds.sync-A in
    search (net_sync, crosses, sendable) depth 60 fits 20000

pub run_once-requires-in-loop-next-send-F-Node : goal.run_once-requires-in-loop-next-send-F-Node
run_once-requires-in-loop-next-send-F-Node g c κs within =
    let sig = c.type_bounds.send-A-Sig in
    let lab = c.type_bounds.send-A-Lab in
    let algebra = c.type_bounds.sync-A in
    search (net_sync, crosses, sendable) depth 60 fits 20000

pub run_once-requires-clause-nodes : goal.run_once-requires-clause-nodes
run_once-requires-clause-nodes g c _ _ = subst (AreUnbegun path_vector c.args.net.now 0) (sym c.in_ok-nodes.ensures) (new_are_unbegun c.args.net.now)

pub run_once-requires-in-loop-next-clause-nodes : goal.run_once-requires-in-loop-next-clause-nodes
run_once-requires-in-loop-next-clause-nodes g c _ _ =
    let m = c.next-item.result in
    let nets = c.args.changed.now in
    let k = c.loop-next.next-index in
    let now = c.loop-next.now in
    let there : slice_get nets k ≡ Some m = slice_get-get_or nets k m c.loop-next-test.true ∙ ap (λ z. Some z) (sym c.next-item.is) in
    let is : IsSoFar c.args.net.now nets c.args.budget.turns (map pure_phase c.loop-next.past) (m ∷ drop (k + 1) nets) c.loop-next.left.turns (ran (map pure_row now.found) now.journal) now.is_quiet (map state_of now.nodes) =
    subst (λ z. IsSoFar c.args.net.now nets c.args.budget.turns (map pure_phase c.loop-next.past) z c.loop-next.left.turns (ran (map pure_row now.found) now.journal) now.is_quiet (map state_of now.nodes)) (drop_next nets k m there) c.loop-next.invariant.so_far in
    subst (AreUnbegun path_vector m 0) (sym c.in_ok-nodes-2.ensures) (carried_are_unbegun is.net m is.later.0 0 (map state_of now.nodes) is.begun)

pub loop-next-init : goal.loop-next-init
loop-next-init g c =
    let net = c.args.net.now in
    let nets = c.args.changed.now in
    let turns = c.args.budget.turns in
    let nodes = map state_of c.in_ok-nodes.nodes in
    let now = c.in_ok-now.now in
    let rows = map pure_row now.found in
    let states = map state_of now.nodes in
    let ended = c.in_ok-now.ensures.phase in
    record {
      workers = refl;
      few = omega arith;
      so_far = rw c.new-past.ensures (first_so_far net nets turns nodes (ran rows now.journal) now.is_quiet states c.in_ok-nodes.ensures c.requires.changed
          (ran_phase net nodes turns now.journal now.is_quiet states rows ended c.in_ok-now.ensures.found) ended.begun);
    }

pub loop-next-preserved : goal.loop-next-preserved
loop-next-preserved g c =
    let m = c.next-item.result in
    let nets = c.args.changed.now in
    let k = c.loop-next.next-index in
    let now = c.loop-next.now in
    let next = c.in_ok-now-2.now in
    let left = c.loop-next.left.turns in
    let past = map pure_phase c.loop-next.past in
    let states = map state_of now.nodes in
    let p = ran (map pure_row now.found) now.journal in
    let there : slice_get nets k ≡ Some m = slice_get-get_or nets k m c.loop-next-test.true ∙ ap (λ z. Some z) (sym c.next-item.is) in
    let at : IsSoFar c.args.net.now nets c.args.budget.turns past (m ∷ drop (k + 1) nets) left p now.is_quiet states =
    subst (λ z. IsSoFar c.args.net.now nets c.args.budget.turns past z left p now.is_quiet states) (drop_next nets k m there) c.loop-next.invariant.so_far in
    let quiet : now.is_quiet ≡ true = (let f = c.in-true in cc) in
    let is : IsSoFar c.args.net.now nets c.args.budget.turns past (m ∷ drop (k + 1) nets) left p true states =
    subst (λ q. IsSoFar c.args.net.now nets c.args.budget.turns past (m ∷ drop (k + 1) nets) left p q states) quiet at in
    let nodes = map state_of c.in_ok-nodes-2.nodes in
    let new = map state_of next.nodes in
    let rows = map pure_row next.found in
    let ended = rw c.len.ensures at c.in_ok-now-2.ensures.phase in
    let ran = next_so_far c.args.net.now nets c.args.budget.turns past m (drop (k + 1) nets) left p states is nodes c.in_ok-nodes-2.ensures
    (ran rows next.journal) next.is_quiet new (ran_phase m nodes (left - length now.journal) next.journal next.is_quiet new rows ended c.in_ok-now-2.ensures.found) ended.begun in
    record {
      workers = c.loop-next.invariant.workers;
      few = let few = c.loop-next.invariant.few in omega arith;
      so_far = rw (c.in_ok-push.ensures.ok, map-append pure_phase c.loop-next.past (record { rows = now.found; journal = now.journal } ∷ []), c.len.ensures) ran;
    }

pub returns : goal.returns
returns g c =
    let now = c.loop-next.now in
    so_far_is_run c.args.net.now c.args.changed.now c.args.budget.turns (map pure_phase c.loop-next.past) _ c.loop-next.left.turns (ran (map pure_row now.found) now.journal) now.is_quiet (map state_of now.nodes) c.loop-next.invariant.so_far
    (elim c.loop-next-test.branch [
      | else-loop-next-test w ↦ λ e. drop_all c.args.changed.now c.loop-next.next-index w.loop-next-test.false
      | then-loop-next-test+in_default w ↦ λ e. absurd (let f = w.in_default in cc)
    ])
