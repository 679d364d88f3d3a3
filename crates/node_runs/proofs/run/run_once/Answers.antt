use Rattle.std.proofs.Common.{map, subst, sym}
use Rattle.node_runs.specs.RunLaws.{ended_phase}
use Rattle.node_runs.specs.Runs.{HaveRun}
use Rattle.node_runs.proofs.run.run_once.Goals as goal

pub find-requires-clause-run : goal.find-requires-clause-run
find-requires-clause-run g c =
    let k = g.F.Node.NodeCore in
    let net = c.args.net.now in
    let nodes = map k.state c.args.nodes in
    let ended = c.in_ok-nodes.field-0 in
    let is = c.in_ok-nodes.ensures in
    let running = c.replays_run.ensures.running net nodes ended.journal is.end c.keeps_rules.ensures c.requires.nodes is.phase.replayed in
    subst (λ z. HaveRun k.kind net (map k.state z)) (sym c.as_slice.ensures) (record {
      is_net = c.keeps_rules.ensures;
      nodes = nodes;
      unbegun = c.requires.nodes;
      turns = c.args.budget.turns;
      journal = ended.journal;
      quiet = ended.quiet;
      phase = ended_phase k.kind net nodes c.args.budget.turns ended.journal (map k.state ended.nodes) ended.totals ended.quiet is running;
    })

pub returns-clause-phase : goal.returns-clause-phase
returns-clause-phase g c =
    let k = g.F.Node.NodeCore in
    let net = c.args.net.now in
    let nodes = map k.state c.args.nodes in
    let ended = c.in_ok-nodes.field-0 in
    let is = c.in_ok-nodes.ensures in
    let running = c.replays_run.ensures.running net nodes ended.journal is.end c.keeps_rules.ensures c.requires.nodes is.phase.replayed in
    ended_phase k.kind net nodes c.args.budget.turns ended.journal (map k.state ended.nodes) ended.totals ended.quiet is running
