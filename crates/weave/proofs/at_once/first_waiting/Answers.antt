use Rattle.std.proofs.Common.{◌≡◌, ◌∙◌, Some, false, ap, option_map, length, slice_get, sym, arith}
use Rattle.std.specs.Prelude.{nat_lt}
use Rattle.std.proofs.lemmas.Bool.Decides.{nat_tests}
use Rattle.std.proofs.lemmas.Option.{slice_get-get_or}
use Rattle.net_graph.specs.Nets.{PureArc}
use Rattle.net_graph.specs.Views.{pure_arc}
use Rattle.node_core.specs.Kinds.{listener}
use Rattle.weave.specs.declared.block.Block.{Block}
use Rattle.weave.specs.Lanes.{lane_in, waits_inside}
use Rattle.weave.proofs.Waiting.{none_at_all, none_more, waits_at}
use Rattle.weave.proofs.at_once.first_waiting.Goals as goal

pub loop-id-preserved : goal.loop-id-preserved
loop-id-preserved g c =
    let k = g.N.NodeCore in
    let net = c.args.net.now in
    let blocks = c.args.blocks.now in
    let arc = pure_arc c.arc.result in
    let b = c.block_at-block.result in
    let x = c.index-blocks-block.result in
    let id = c.loop-id.id in
    let there : slice_get blocks b ≡ Some x = slice_get-get_or blocks b x c.block_at-block.ensures.among ∙ ap (λ y. Some y) (sym c.index-blocks-block.is) in
    let listens : listener net id ≡ Some arc.tail = ap (option_map (λ (a : PureArc). a.tail)) c.arc.ensures.arc in
    let lanes : c.deref.result.now ≡ x.lanes.items = c.deref.ensures.value ∙ ap (λ (y : Block g.row.N.Denot g.row.N-Message.Denot). y.lanes.items) (sym c.index-blocks-block.is) in
    let none : nat_lt 0 (length (waits_inside (lane_in (slice_get x.lanes.items id)))) ≡ false = rw (← lanes) (sym c.waits_on.ensures ∙ c.if-waits_on.false) in
    let empty : length (waits_inside (lane_in (slice_get x.lanes.items id))) ≡ 0 = grind (arith, nat_tests) in
    none_more k.state k.note net (length blocks) blocks id c.loop-id.invariant
    (waits_at k.state k.note net (length blocks) blocks id arc.tail b x listens c.block_at-block.ensures.block there ∙ empty)

pub returns-clause-none : goal.returns-clause-none
returns-clause-none g c =
    let k = g.N.NodeCore in
    let blocks = c.args.blocks.now in
    let count = c.arc_count-id-end.ensures.count in
    let past = c.loop-id-test.false in
    none_at_all k.state k.note c.args.net.now (length blocks) blocks c.loop-id.id (omega (arith, count, past)) c.loop-id.invariant
