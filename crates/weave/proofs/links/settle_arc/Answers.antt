use Rattle.std.proofs.Common.{◌≡◌, ap, option_map, vec_len}
use Rattle.net_graph.specs.Nets.{PureArc}
use Rattle.net_graph.specs.Views.{pure_arc}
use Rattle.weave.specs.Arcs.{IsDoneOn, LosesLink}
use Rattle.weave.specs.Gathered.{block_of, view_at}
use Rattle.weave.proofs.Changing.{on_ok}
use Rattle.weave.proofs.Linking.{apart_test, done_across, stands_at}
use Rattle.weave.proofs.links.settle_arc.Goals as goal

pub settle_between-requires-clause-ends : goal.settle_between-requires-clause-ends
settle_between-requires-clause-ends g c =
    let arc = pure_arc c.arc-ends.result in
    let heard : c.block_at-heard.result ≡ block_of (vec_len c.args.blocks.now) arc.tail = stands_at c.block_at-heard.result c.len.result (vec_len c.args.blocks.now) arc.tail c.block_at-heard.ensures.block c.len.ensures in
    let spoken : c.block_at-spoken.result ≡ block_of (vec_len c.args.blocks.now) arc.head = stands_at c.block_at-spoken.result c.len-2.result (vec_len c.args.blocks.now) arc.head c.block_at-spoken.ensures.block c.len-2.ensures in
    rw (heard, spoken)
    (c.requires.ends arc.tail arc.head (ap (option_map (λ (a : PureArc). a.tail)) c.arc-ends.ensures.arc) (ap (option_map (λ (a : PureArc). a.head)) c.arc-ends.ensures.arc)
    (rw (heard, spoken) at (apart_test c.block_at-heard.result c.block_at-spoken.result c.if-heard-spoken.false)))

pub returns-else-heard-spoken-clause-settled : goal.returns-else-heard-spoken-clause-settled
returns-else-heard-spoken-clause-settled g c =
    let arc = pure_arc c.arc-ends.result in
    let views = view_at g.N.NodeCore.state g.N.NodeCore.note in
    let count = vec_len c.args.blocks.now in
    let old = views c.args.blocks.now.items in
    let new = views c.settle_between.new.blocks.items in
    let heard : c.block_at-heard.result ≡ block_of count arc.tail = stands_at c.block_at-heard.result c.len.result (vec_len c.args.blocks.now) arc.tail c.block_at-heard.ensures.block c.len.ensures in
    let spoken : c.block_at-spoken.result ≡ block_of count arc.head = stands_at c.block_at-spoken.result c.len-2.result (vec_len c.args.blocks.now) arc.head c.block_at-spoken.ensures.block c.len-2.ensures in
    on_ok c.settle_between.result _ (IsDoneOn LosesLink c.args.net.now count c.args.arc.0 old new) c.settle_between.ensures.settled
    (λ d. done_across LosesLink c.args.net.now count c.args.arc.0 arc old new c.arc-ends.ensures.arc c.block_at-heard.result c.block_at-spoken.result heard spoken c.if-heard-spoken.false d)
