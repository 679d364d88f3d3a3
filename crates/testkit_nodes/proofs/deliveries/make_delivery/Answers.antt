use Rattle.std.proofs.Common.{ap, Ok, ◌∙◌}
use Rattle.node_core.specs.MachineOf.{machine_of, net_of}
use Rattle.testkit_nodes.proofs.Steps.{answered_up_to}
use Rattle.testkit_nodes.proofs.deliveries.make_delivery.Goals as goal

pub returns-clause-begun : goal.returns-clause-begun
returns-clause-begun g c =
    let then = c.args.config.now in
    let machine = machine_of g.N.NodeCore.state g.N.NodeCore.note in
    answered_up_to g.N.NodeCore.kind g.met.N.NodeCore.lawful (net_of then) (machine then) (machine c.deliver.new.self) _ c.args.made c.in_ok-answer.answer c.requires.begun
    (λ e. c.deliver.ensures.taken (c.in_ok-answer.was ∙ ap Ok e)) (λ e. c.deliver.ensures.unchanged (c.in_ok-answer.was ∙ ap Ok e))
