use Rattle.std.proofs.Common.{◌≡◌, true, arith}
use Rattle.net_graph.specs.Nets.{has_arc}
use Rattle.topology_file.specs.NetText.{changed_net}
use Rattle.topology_file.specs.Views.{file_with}
use Rattle.topology_file.proofs.Steps.{drop_made}
use Rattle.topology_file.proofs.draft.FileDraft.add_then_drop.Goals as goal

pub returns-clause-bad : goal.returns-clause-bad
returns-clause-bad c =
    let there : has_arc (changed_net c.args.self.now) c.in_ok-tail.tail.0 c.in_ok-tail.head.0 ≡ true = grind arith in
    let made = drop_made (file_with c.self.inside.draft c.self.inside.changes) c.args.listener.now c.args.speaker.now c.in_ok-tail.tail.0 c.in_ok-tail.head.0
    c.in_ok-tail.ensures.nodes (rw (← c.self.view_is) at there) in
    rw (← c.self.view_is, made) (rw (← c.self.view_is) at c.add_change-2.ensures.bad)
