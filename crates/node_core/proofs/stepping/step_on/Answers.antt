use Rattle.std.proofs.Common.{map}
use Rattle.std.proofs.lemmas.Option.{slice_get_read}
use Rattle.std.proofs.lemmas.Result.{on_ok_weaker}
use Rattle.node_core.specs.Configs.{noted}
use Rattle.node_core.proofs.Parts.{has_stepped}
use Rattle.node_core.proofs.stepping.step_on.Goals as goal

pub returns-clause-taken : goal.returns-clause-taken
returns-clause-taken g c =
    let nodes = c.args.nodes.now in
    let clocks = c.args.clocks.now in
    let links = c.args.links.now in
    let node = c.index_mut.result.now in
    let clock = c.index_mut-2.result.now in
    let link = c.index_mut-3.result.now in
    on_ok_weaker c.step_front.result (λ w.
    has_stepped g.N.NodeCore.state g.N.NodeCore.note g.N.NodeCore.kind nodes.items clocks.items links.items c.args.place.0 c.args.arc.0 node clock link
    (slice_get_read nodes.items nodes.len c.args.place.0 node nodes.ok.0 c.requires.node c.index_mut.ensures.value)
    (slice_get_read clocks.items clocks.len c.args.place.0 clock clocks.ok.0 c.requires.clock c.index_mut-2.ensures.value)
    (slice_get_read links.items links.len c.args.arc.0 link links.ok.0 c.requires.arc c.index_mut-3.ensures.value)
    c.step_front.new.node c.step_front.new.clock c.step_front.new.link (map (noted g.N.NodeCore.note) c.step_front.new.out)
    w.0 w.1 w.2 w.3 w.4) c.step_front.ensures.taken
