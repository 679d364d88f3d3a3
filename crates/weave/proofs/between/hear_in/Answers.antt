use Rattle.std.proofs.Common.{[], map, subst, subst₂, sym, vec_len}
use Rattle.std.specs.Prelude.{IfOk, IfNone, IfSome}
use Rattle.std.proofs.lemmas.Option.{slice_get_read}
use Rattle.node_core.specs.Configs.{noted}
use Rattle.weave.specs.Views.{AreSeated, HasTaken, IsLate}
use Rattle.weave.proofs.Changing.{view_here, view_other, view_set}
use Rattle.weave.proofs.between.hear_in.Goals as goal

pub hear-requires-clause-seated : goal.hear-requires-clause-seated
hear-requires-clause-seated g c =
    let k = g.N.NodeCore in
    let blocks = c.args.blocks.now in
    let at = slice_get_read blocks.items (vec_len blocks) c.args.block c.index_mut-here.result.now blocks.ok.0 c.requires.block c.index_mut-here.ensures.value in
    subst (AreSeated k.kind c.args.net.now) (view_here k.state k.note blocks.items c.args.block c.index_mut-here.result.now at) c.requires.seated

pub returns-clause-others : goal.returns-clause-others
returns-clause-others g c b ne = view_other g.N.NodeCore.state g.N.NodeCore.note c.args.blocks.now.items c.args.block _ b ne

pub returns-clause-some : goal.returns-clause-some
returns-clause-some g c =
    let k = g.N.NodeCore in
    let blocks = c.args.blocks.now in
    let at = slice_get_read blocks.items (vec_len blocks) c.args.block c.index_mut-here.result.now blocks.ok.0 c.requires.block c.index_mut-here.ensures.value in
    subst₂ (λ v w. IfOk c.hear.result (λ made. IfSome made (λ e. HasTaken k.kind c.args.net.now v e (map (noted k.note) c.hear.new.out) [] w)))
    (sym (view_here k.state k.note blocks.items c.args.block c.index_mut-here.result.now at)) (sym (view_set k.state k.note blocks.items c.args.block c.index_mut-here.result.now _ at)) c.hear.ensures.some

pub returns-clause-late : goal.returns-clause-late
returns-clause-late g c =
    let k = g.N.NodeCore in
    let blocks = c.args.blocks.now in
    let at = slice_get_read blocks.items (vec_len blocks) c.args.block c.index_mut-here.result.now blocks.ok.0 c.requires.block c.index_mut-here.ensures.value in
    subst (λ v. IfOk c.hear.result (λ made. IfNone made (IsLate k.kind c.args.net.now v c.args.arc.0)))
    (sym (view_here k.state k.note blocks.items c.args.block c.index_mut-here.result.now at)) c.hear.ensures.late
