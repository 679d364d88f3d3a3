use Rattle.std.proofs.Common.{refl, vec_len}
use Rattle.std.proofs.lemmas.Option.{slice_get_read}
use Rattle.weave.proofs.Changing.{if_both, replaced}
use Rattle.weave.proofs.replacing.replace_lane.Goals as goal

pub returns-clause-replaced : goal.returns-clause-replaced
returns-clause-replaced g c =
    let blocks = c.args.blocks.now in
    let at = slice_get_read blocks.items (vec_len blocks) c.args.block c.index_mut.result.now blocks.ok.0 c.requires.block c.index_mut.ensures.value in
    if_both c.replace_in.result _ _ _ c.replace_in.ensures.was c.replace_in.ensures.now
    (λ was lane_was lane_is. replaced g.N.NodeCore.state g.N.NodeCore.note blocks.items c.args.block c.args.arc.0 c.index_mut.result.now _ was c.args.lane at refl lane_was lane_is)
