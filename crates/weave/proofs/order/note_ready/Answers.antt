use Rattle.std.proofs.Common.{vec_len}
use Rattle.std.proofs.lemmas.Option.{slice_get_read}
use Rattle.weave.proofs.Changing.{same_views}
use Rattle.weave.proofs.order.note_ready.Goals as goal

pub returns-clause-same : goal.returns-clause-same
returns-clause-same g c =
    let blocks = c.args.blocks.now in
    let at = slice_get_read blocks.items (vec_len blocks) c.args.block c.index_mut.result.now blocks.ok.0 c.requires.block c.index_mut.ensures.value in
    same_views g.N.NodeCore.state g.N.NodeCore.note blocks.items c.args.block c.index_mut.result.now _ at c.note_waiting.ensures
