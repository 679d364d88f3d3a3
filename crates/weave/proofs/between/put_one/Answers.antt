use Rattle.std.proofs.Common.{◌++◌, ◌∷◌, [], ◌∙◌, ap, map, option_map, subst, vec_len}
use Rattle.std.proofs.lemmas.List.{map-append}
use Rattle.link_queues.specs.Locals.{waiting_of}
use Rattle.net_graph.specs.Nets.{PureArc}
use Rattle.net_graph.specs.Views.{pure_arc}
use Rattle.weave.specs.Arcs.{IsReplaced}
use Rattle.weave.specs.Gathered.{view_at}
use Rattle.weave.specs.Lanes.{inside, lane_of, noted_lane}
use Rattle.weave.proofs.OneRound.{put_one}
use Rattle.weave.proofs.Linking.{stands_at}
use Rattle.weave.proofs.between.put_one.Goals as goal

pub take_waiting-requires-clause-whole : goal.take_waiting-requires-clause-whole
take_waiting-requires-clause-whole g c =
    let k = g.N.NodeCore in
    let blocks = c.args.blocks.now in
    let arc = pure_arc c.arc.result in
    let old = view_at k.state k.note blocks.items in
    let stands = stands_at c.block_at-heard.result c.len.result (vec_len blocks) arc.tail c.block_at-heard.ensures.block c.len.ensures in
    rw stands (c.requires.gathered.whole c.args.arc.0 arc.tail (ap (option_map (λ (a : PureArc). a.tail)) c.arc.ensures.arc))

pub returns-clause-put : goal.returns-clause-put
returns-clause-put g c =
    let k = g.N.NodeCore in
    let blocks = c.args.blocks.now in
    let arc = pure_arc c.arc.result in
    let view = view_at k.state k.note in
    let waits = waiting_of c.in_ok-queue.queue in
    let m = c.args.message in
    let stands = stands_at c.block_at-heard.result c.len.result (vec_len blocks) arc.tail c.block_at-heard.ensures.block c.len.ensures in
    put_one c.args.net.now (vec_len blocks) (view blocks.items) (view c.take_waiting.new.blocks.items) (view c.replace_lane.new.blocks.items) c.block_at-heard.result c.args.arc.0 arc.tail (k.note m) (map k.note waits)
    (noted_lane k.note (lane_of c.in_ok-replace_lane.field-0)) c.requires.gathered (ap (option_map (λ (a : PureArc). a.tail)) c.arc.ensures.arc) stands c.in_ok-queue.ensures.taken
    (subst (λ l. IsReplaced (view c.take_waiting.new.blocks.items) (view c.replace_lane.new.blocks.items) c.block_at-heard.result c.args.arc.0 (noted_lane k.note (lane_of c.in_ok-replace_lane.field-0)) (inside l))
    (ap (map k.note) (c.send.ensures.waiting ∙ ap (λ l. l ++ m ∷ []) c.reserve.ensures.waiting) ∙ map-append k.note waits (m ∷ [])) c.in_ok-replace_lane.ensures.replaced)
