use Rattle.std.proofs.Common.{map, refl, subst, sym}
use Rattle.std.specs.List.{AllByRecursion}
use Rattle.journal_merge.specs.Merging.{AreOfDifferentNodes, ClocksAscend, IsMerged}
use Rattle.node_core.specs.Machine.{Start}
use Rattle.weave.proofs.Going.{mergeable, phase_ends}
use Rattle.weave.proofs.phase.weave.Goals as goal

pub run_all-requires-clause-started : goal.run_all-requires-clause-started
run_all-requires-clause-started g c _ _ = let k = g.N.NodeCore in (Start k.kind (map k.state c.args.nodes), c.in_ok-started.ensures)

pub from_logs-requires-clause-nodes : goal.from_logs-requires-clause-nodes
from_logs-requires-clause-nodes g c =
    let k = g.N.NodeCore in
    let nodes = map k.state c.args.nodes in
    let is = c.in_ok-started.ensures in
    subst AreOfDifferentNodes (sym c.as_slice.ensures) (mergeable k.kind c.args.net.now c.args.turns nodes is.running (map k.state c.in_ok-ended.ended.nodes) c.in_ok-ended.ended.logs c.in_ok-ended.ended.totals (c.in_ok-ended.ensures (Start k.kind nodes) is)).0

pub from_logs-requires-clause-clocks : goal.from_logs-requires-clause-clocks
from_logs-requires-clause-clocks g c =
    let k = g.N.NodeCore in
    let nodes = map k.state c.args.nodes in
    let is = c.in_ok-started.ensures in
    subst (AllByRecursion (λ log. ClocksAscend log.entries)) (sym c.as_slice.ensures) (mergeable k.kind c.args.net.now c.args.turns nodes is.running (map k.state c.in_ok-ended.ended.nodes) c.in_ok-ended.ended.logs c.in_ok-ended.ended.totals (c.in_ok-ended.ensures (Start k.kind nodes) is)).1

pub returns : goal.returns
returns g c =
    let k = g.N.NodeCore in
    let net = c.args.net.now in
    let is_net = c.keeps_rules.ensures in
    let nodes = map k.state c.args.nodes in
    let is = c.in_ok-started.ensures in
    phase_ends k.kind net c.args.turns nodes is.running (map k.state c.in_ok-ended.ended.nodes) c.in_ok-ended.ended.logs c.in_ok-ended.ended.totals (c.in_ok-ended.ensures (Start k.kind nodes) is)
    (c.histories_replay.ensures net)
    (λ journal d e. c.replays_count.ensures net nodes journal d is_net c.requires.nodes e)
    (λ d history w. c.histories_count.ensures net (Start k.kind nodes) d history is_net w)
    c.in_ok-journal.journal (subst (λ l. IsMerged l c.in_ok-journal.journal) c.as_slice.ensures c.in_ok-journal.ensures) _ refl
