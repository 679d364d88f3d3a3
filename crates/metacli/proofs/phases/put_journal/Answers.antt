use Rattle.std.proofs.lemmas.Result.{err_from_is_err_and}
use Rattle.metacli.proofs.Written.{lines_begin}
use Rattle.metacli.proofs.phases.put_journal.Goals as goal

pub returns-in_err-deliveries : goal.returns-in_err-deliveries
returns-in_err-deliveries g c =
    let p = err_from_is_err_and c.from_residual.result c.from_residual.ensures.1 in
    rw (p.1, p.2) (_, lines_begin _ _)

pub put_deliveries-requires : goal.put_deliveries-requires
put_deliveries-requires g c = rw (c.as_slice.ensures, c.in_ok-deliveries.ensures) c.requires

pub returns : goal.returns
returns g c = rw (c.as_slice.ensures, c.in_ok-deliveries.ensures) at c.put_deliveries.ensures
