use Rattle.std.proofs.Common.{◌∙◌, ap, sym, map, length, refl}
use Rattle.node_core.specs.MachineOf.{machine_of}
use Rattle.weave.proofs.Starting.{few_links, has_started}
use Rattle.weave.proofs.started.start.Goals as goal

pub waiting_in-waiting-requires-clause-few : goal.waiting_in-waiting-requires-clause-few
waiting_in-waiting-requires-clause-few g c a =
    let k = g.N.NodeCore in
    let started = c.in_ok-start in
    let made = c.into_parts-nodes in
    rw c.deref.ensures.value (few_links k.state k.note k.kind c.keeps_laws.ensures c.args.net.now c.keeps_rules.ensures (map k.state c.args.nodes) c.requires (machine_of k.state k.note started.field-0)
    started.ensures.start started.ensures.running made.result.0 made.result.1.items made.ensures.nodes made.ensures.links a)

pub returns : goal.returns
returns g c =
    let k = g.N.NodeCore in
    let net = c.args.net.now in
    let started = c.in_ok-start in
    let made = c.into_parts-nodes in
    let links = made.result.1 in
    let count = made.ensures.count ∙ ap (λ m. length m.arcs) started.ensures.net in
    has_started k.state k.note k.kind c.keeps_laws.ensures net c.keeps_rules.ensures (map k.state c.args.nodes) c.requires (machine_of k.state k.note started.field-0)
    started.ensures.start started.ensures.running made.result.0 links.items made.ensures.nodes made.ensures.links _ refl refl count (sym links.ok.0 ∙ count) (rw c.deref.ensures.value at c.waiting_in-waiting.ensures)
