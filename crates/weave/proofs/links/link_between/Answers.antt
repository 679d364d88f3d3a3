use Rattle.std.proofs.Common.{◌∙◌, ap, map}
use Rattle.link_queues.specs.Links.{in_link, out_link, received_on, sent_on}
use Rattle.link_queues.specs.Locals.{waiting_of}
use Rattle.weave.specs.Arcs.{GetsLink, IsDoneBetween}
use Rattle.weave.specs.Gathered.{view_at}
use Rattle.weave.proofs.Changing.{on_ok}
use Rattle.weave.proofs.Linking.{gets_link}
use Rattle.weave.proofs.links.link_between.Goals as goal

pub returns-clause-linked : goal.returns-clause-linked
returns-clause-linked g c =
    let note = g.N.NodeCore.note in
    let views = view_at g.N.NodeCore.state note in
    let into = c.in_ok-ends.ends.0 in
    let out = c.in_ok-ends.ends.1 in
    let old = views c.args.blocks.now.items in
    let new = views c.put_ends.new.blocks.items in
    on_ok c.put_ends.result _ (IsDoneBetween GetsLink c.args.heard c.args.spoken c.args.arc.0 old new) c.put_ends.ensures.put
    (λ d. gets_link old (views c.take_waiting.new.blocks.items) new c.args.heard c.args.spoken c.args.arc.0
    (map note (waiting_of c.in_ok-queue.queue)) (map note (received_on into)) (map note (sent_on out)) (in_link into) (out_link out)
    c.in_ok-queue.ensures.taken d c.in_ok-ends.ensures.link (ap (map note) c.in_ok-ends.ensures.received) (ap (map note) (c.in_ok-ends.ensures.sent ∙ c.into_list.ensures)))
