use Rattle.std.proofs.lemmas.Result.{err_from_is_err_and}
use Rattle.metacli.proofs.NextHops.{many_at, many_lines_at}
use Rattle.metacli.proofs.Written.{cut_in_room, lines_begin, lines_by_room}
use Rattle.metacli.proofs.writing.put_hops.Goals as goal

pub returns-in_err-room : goal.returns-in_err-room
returns-in_err-room g c =
    let p = err_from_is_err_and c.from_residual.result c.from_residual.ensures.1 in
    rw (p.1, p.2) (_, lines_begin _ _)

pub push_hops_line-requires : goal.push_hops_line-requires
push_hops_line-requires g c = many_at c.args.net.now c.args.many.now c.loop-hops.hops-index c.hops-item.result c.loop-hops-test.true c.hops-item.is c.requires

pub returns-in_err-push_hops_line : goal.returns-in_err-push_hops_line
returns-in_err-push_hops_line g c =
    let p = err_from_is_err_and c.from_residual-in_err-push_hops_line.result c.from_residual-in_err-push_hops_line.ensures.1 in
    rw (p.1, p.2) (_, c.loop-hops.invariant.0)

pub returns-in_err-put_room : goal.returns-in_err-put_room
returns-in_err-put_room g c =
    let lines = many_lines_at c.args.net.now c.args.many.now c.loop-hops.hops-index c.hops-item.result c.loop-hops-test.true c.hops-item.is in
    let p = err_from_is_err_and c.from_residual-in_err-put_room.result c.from_residual-in_err-put_room.ensures.1 in
    rw (p.1, p.2) (cut_in_room _ _ _ _ _ _ _ _ _ c.loop-hops.invariant.1 c.in_ok-push_hops_line.ensures (rw lines at c.loop-hops.invariant.0) c.in_err-put_room.ensures.put)

pub loop-hops-preserved : goal.loop-hops-preserved
loop-hops-preserved g c =
    let lines = many_lines_at c.args.net.now c.args.many.now c.loop-hops.hops-index c.hops-item.result c.loop-hops-test.true c.hops-item.is in
    (lines_by_room _ _ _ _ _ _ _ _ c.loop-hops.invariant.1 c.in_ok-push_hops_line.ensures (rw lines at c.loop-hops.invariant.0) c.in_ok-put_room.ensures.put, c.in_ok-put_room.ensures.empty)
