use Rattle.std.proofs.Common.{map}
use Rattle.link_queues.specs.Links.{in_link, out_link, received_on, sent_on}
use Rattle.link_queues.specs.Locals.{waiting_of}
use Rattle.weave.specs.Gathered.{view_at}
use Rattle.weave.specs.Lanes.{lane_of, noted_lane}
use Rattle.weave.proofs.Linking.{loses_link, noted_whole}
use Rattle.weave.proofs.links.settle_between.Goals as goal

pub returns-clause-settled : goal.returns-clause-settled
returns-clause-settled g c =
    let note = g.N.NodeCore.note in
    let views = view_at g.N.NodeCore.state note in
    let into = c.in_ok-into.into in
    let out = c.in_ok-out.out in
    let waits = c.from_list-waits.result in
    loses_link (views c.args.blocks.now.items) (views c.take_into.new.blocks.items) (views c.take_out.new.blocks.items) (views c.replace_lane.new.blocks.items)
    c.args.heard c.args.spoken c.args.arc.0 (in_link into) (out_link out) (map note (received_on into)) (map note (sent_on out)) (map note (waiting_of waits)) (noted_lane note (lane_of c.in_ok-replace_lane.field-0))
    c.requires.blocks.2 c.in_ok-into.ensures.taken c.in_ok-out.ensures.taken c.in_ok-replace_lane.ensures.replaced
    (noted_whole note (received_on into) (waiting_of waits) c.in_ok-settle_pair.field-0 (sent_on out) c.in_ok-settle_pair.ensures.whole c.from_list-waits.ensures)
