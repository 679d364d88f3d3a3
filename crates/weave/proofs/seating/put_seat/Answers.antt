use Rattle.std.proofs.Common.{refl, vec_len}
use Rattle.std.proofs.lemmas.Option.{slice_get_read}
use Rattle.weave.proofs.Changing.{on_ok, seated}
use Rattle.weave.proofs.seating.put_seat.Goals as goal

pub returns-clause-put : goal.returns-clause-put
returns-clause-put g c =
    let blocks = c.args.blocks.now in
    let at = slice_get_read blocks.items (vec_len blocks) c.args.block c.index_mut.result.now blocks.ok.0 c.requires.block c.index_mut.ensures.value in
    on_ok c.seat_in.result _ _ c.seat_in.ensures (λ put. seated g.N.NodeCore.state g.N.NodeCore.note blocks.items c.args.block c.args.at c.index_mut.result.now _ c.args.seat at refl put)
