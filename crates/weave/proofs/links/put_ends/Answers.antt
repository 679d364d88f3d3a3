use Rattle.std.proofs.Common.{map}
use Rattle.link_queues.specs.Links.{in_link, out_link, received_on, sent_on}
use Rattle.weave.specs.Gathered.{view_at}
use Rattle.weave.specs.Lanes.{coming, going, lane_of, noted_lane}
use Rattle.weave.proofs.Linking.{ends_put}
use Rattle.weave.proofs.links.put_ends.Goals as goal

pub returns-clause-put : goal.returns-clause-put
returns-clause-put g c =
    let note = g.N.NodeCore.note in
    let views = view_at g.N.NodeCore.state note in
    let into = c.args.ends.0 in
    let out = c.args.ends.1 in
    ends_put (views c.args.blocks.now.items) (views c.note_between.new.blocks.items) (views c.replace_lane.new.blocks.items) (views c.replace_lane-2.new.blocks.items)
    c.args.heard c.args.spoken c.args.arc.0 (noted_lane note (lane_of c.in_ok-replace_lane.field-0)) (noted_lane note (lane_of c.in_ok-replace_lane-2.field-0))
    (coming (in_link into) (map note (received_on into))) (going (out_link out) (map note (sent_on out)))
    c.requires.blocks.2 c.note_between.ensures.same c.in_ok-replace_lane.ensures.replaced c.in_ok-replace_lane-2.ensures.replaced
