use Rattle.std.proofs.Common.{map}
use Rattle.alg_classes.specs.Instances.{pure_instance, pure_property}
use Rattle.net_graph.specs.Views.{pure_arc}
use Rattle.property_infer.specs.Reported.{IsMissingOf}
use Rattle.net_facts.proofs.Found.{first_shown}
use Rattle.net_facts.proofs.missing.first_missing.Goals as goal

pub returns-clause-first : goal.returns-clause-first
returns-clause-first c =
    let arc = pure_arc c.arc.result in
    let p = pure_property c.in-Some.property in
    let x = pure_instance c.in_ok-instance.instance in
    let shown : IsMissingOf c.args.net.now.alg p arc.label x = rw c.alg.ensures.alg at c.in_ok-instance.ensures in
    first_shown (map pure_property c.args.properties.now) c.args.net.now c.in-Some.arc.0 p arc x c.in-Some.ensures c.arc.ensures.arc shown
