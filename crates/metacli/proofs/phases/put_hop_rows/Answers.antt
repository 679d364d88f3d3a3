use Rattle.std.proofs.lemmas.Result.{err_from_is_err_and}
use Rattle.metacli.proofs.Exchanges.{hop_at, hop_lines_at}
use Rattle.metacli.proofs.Written.{cut_in_room, lines_begin, lines_by_room}
use Rattle.metacli.proofs.phases.put_hop_rows.Goals as goal

pub returns-in_err-room : goal.returns-in_err-room
returns-in_err-room g c =
    let p = err_from_is_err_and c.from_residual.result c.from_residual.ensures.1 in
    rw (p.1, p.2) (_, lines_begin _ _)

pub push_hop_row_line-requires : goal.push_hop_row_line-requires
push_hop_row_line-requires g c = hop_at c.args.net.now c.args.hops.now c.loop-hop.hop-index c.hop-item.result c.loop-hop-test.true c.hop-item.is c.requires

pub returns-in_err-push_hop_row_line : goal.returns-in_err-push_hop_row_line
returns-in_err-push_hop_row_line g c =
    let p = err_from_is_err_and c.from_residual-in_err-push_hop_row_line.result c.from_residual-in_err-push_hop_row_line.ensures.1 in
    rw (p.1, p.2) (_, c.loop-hop.invariant.0)

pub returns-in_err-put_room : goal.returns-in_err-put_room
returns-in_err-put_room g c =
    let lines = hop_lines_at c.args.net.now c.args.hops.now c.loop-hop.hop-index c.hop-item.result c.loop-hop-test.true c.hop-item.is in
    let p = err_from_is_err_and c.from_residual-in_err-put_room.result c.from_residual-in_err-put_room.ensures.1 in
    rw (p.1, p.2) (cut_in_room _ _ _ _ _ _ _ _ _ c.loop-hop.invariant.1 c.in_ok-push_hop_row_line.ensures (rw lines at c.loop-hop.invariant.0) c.in_err-put_room.ensures.put)

pub loop-hop-preserved : goal.loop-hop-preserved
loop-hop-preserved g c =
    let lines = hop_lines_at c.args.net.now c.args.hops.now c.loop-hop.hop-index c.hop-item.result c.loop-hop-test.true c.hop-item.is in
    (lines_by_room _ _ _ _ _ _ _ _ c.loop-hop.invariant.1 c.in_ok-push_hop_row_line.ensures (rw lines at c.loop-hop.invariant.0) c.in_ok-put_room.ensures.put, c.in_ok-put_room.ensures.empty)
