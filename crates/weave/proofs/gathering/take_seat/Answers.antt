use Rattle.std.proofs.Common.{◌∙◌, sym, vec_len}
use Rattle.std.proofs.lemmas.Option.{slice_get_read}
use Rattle.weave.proofs.Changing.{taken}
use Rattle.weave.proofs.gathering.take_seat.Goals as goal

pub returns-clause-taken : goal.returns-clause-taken
returns-clause-taken g c =
    let blocks = c.args.blocks.now in
    let at = slice_get_read blocks.items (vec_len blocks) c.args.block c.index_mut.result.now blocks.ok.0 c.requires.block c.index_mut.ensures.value in
    taken g.N.NodeCore.state g.N.NodeCore.note blocks.items c.args.block c.args.at c.index_mut.result.now _ c.in-Some.seat at (sym c.take_from.ensures.taken ∙ c.in-Some.is) c.take_from.ensures.others
