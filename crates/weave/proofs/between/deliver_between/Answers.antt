use Rattle.std.proofs.Common.{◌≡◌, ◌≤◌, ◌∙◌, Some, ap, map, option_map, subst, sym, length, vec_len}
use Rattle.std.proofs.lemmas.List.{length-map}
use Rattle.net_graph.specs.Nets.{PureArc}
use Rattle.net_graph.specs.declared.limits.TheConstants.{MAX_ARCS}
use Rattle.net_graph.specs.Views.{pure_arc}
use Rattle.node_core.specs.Configs.{noted}
use Rattle.node_core.specs.Kinds.{listener}
use Rattle.weave.specs.Between.{IsOneRound, IsPut}
use Rattle.weave.specs.Gathered.{AreGathered, view_at}
use Rattle.weave.specs.Views.{IsLate}
use Rattle.weave.proofs.OneRound.{block_seated, few_out, not_late, one_round, out_within, taken_gathered}
use Rattle.weave.proofs.Linking.{stands_at}
use Rattle.weave.proofs.between.deliver_between.Goals as goal

pub hear_in-requires-clause-seated : goal.hear_in-requires-clause-seated
hear_in-requires-clause-seated g c =
    let k = g.N.NodeCore in
    let blocks = c.args.blocks.now in
    block_seated c.args.net.now (vec_len blocks) k.kind (view_at k.state k.note blocks.items) c.requires.gathered c.requires.running c.block_at-block.result

pub unreachable-requires : goal.unreachable-requires
unreachable-requires g c =
    let k = g.N.NodeCore in
    let net = c.args.net.now in
    let blocks = c.args.blocks.now in
    let n = vec_len blocks in
    let arc = pure_arc c.arc.result in
    let old = view_at k.state k.note blocks.items in
    let listens : listener net c.args.arc.0 ≡ Some arc.tail = ap (option_map (λ (a : PureArc). a.tail)) c.arc.ensures.arc in
    let stands = stands_at c.block_at-block.result c.len.result n arc.tail c.block_at-block.ensures.block c.len.ensures in
    let late = rw c.in_default.is at c.in_ok-made.ensures.late in
    not_late net n k.kind old c.requires.net c.requires.gathered c.requires.running c.args.arc.0 arc.tail listens c.requires.waits c.requires.early
    (subst (λ b. IsLate k.kind net (old b) c.args.arc.0) stands late)

pub put_all-requires-clause-gathered : goal.put_all-requires-clause-gathered
put_all-requires-clause-gathered g c =
    let k = g.N.NodeCore in
    let net = c.args.net.now in
    let n = vec_len c.args.blocks.now in
    let view = view_at k.state k.note in
    let heard = rw c.in-Some.is at c.in_ok-made.ensures.some in
    subst (λ m. AreGathered net m (view c.hear_in.new.blocks.items)) (sym c.hear_in.ensures.count)
    (taken_gathered net n k.kind (view c.args.blocks.now.items) (view c.hear_in.new.blocks.items) c.block_at-block.result c.in-Some.made (map (noted k.note) c.hear_in.new.out) c.requires.gathered heard c.hear_in.ensures.others)

pub put_all-requires-clause-arcs : goal.put_all-requires-clause-arcs
put_all-requires-clause-arcs g c =
    let k = g.N.NodeCore in
    let net = c.args.net.now in
    let blocks = c.args.blocks.now in
    let view = view_at k.state k.note in
    let at = c.block_at-block.result in
    let heard = rw c.in-Some.is at c.in_ok-made.ensures.some in
    out_within k.note k.kind c.keeps_laws.ensures net c.requires.net (view blocks.items at) (view c.hear_in.new.blocks.items at) c.in-Some.made c.hear_in.new.out
    (block_seated net (vec_len blocks) k.kind (view blocks.items) c.requires.gathered c.requires.running at) heard

pub returns-clause-made : goal.returns-clause-made
returns-clause-made g c =
    let k = g.N.NodeCore in
    let net = c.args.net.now in
    let n = vec_len c.args.blocks.now in
    let view = view_at k.state k.note in
    let old = view c.args.blocks.now.items in
    let mid = view c.hear_in.new.blocks.items in
    let new = view c.put_all.new.blocks.items in
    let out = map (noted k.note) c.hear_in.new.out in
    let heard = rw c.in-Some.is at c.in_ok-made.ensures.some in
    let put = subst (λ m. IsPut net m out mid new) c.hear_in.ensures.count c.in_ok-put_all.ensures.put in
    subst (IsOneRound k.kind net n old new) (length-map c.hear_in.new.out (noted k.note) ∙ ap length (sym c.as_slice.ensures))
    (one_round net n k.kind old mid c.block_at-block.result c.in-Some.made out c.requires.gathered heard c.hear_in.ensures.others new put c.keeps_laws.ensures c.requires.net c.requires.running)

pub returns-clause-few : goal.returns-clause-few
returns-clause-few g c =
    let k = g.N.NodeCore in
    let net = c.args.net.now in
    let blocks = c.args.blocks.now in
    let view = view_at k.state k.note in
    let at = c.block_at-block.result in
    let heard = rw c.in-Some.is at c.in_ok-made.ensures.some in
    let few = few_out k.note k.kind c.keeps_laws.ensures net c.requires.net (view blocks.items at) (view c.hear_in.new.blocks.items at) c.in-Some.made c.hear_in.new.out
    (block_seated net (vec_len blocks) k.kind (view blocks.items) c.requires.gathered c.requires.running at) heard in
    let len = c.as_slice.ensures in
    subst (λ l. length l ≤ MAX_ARCS) (sym len) few
