use Rattle.std.proofs.lemmas.Result.{err_from_is_err_and}
use Rattle.metacli.proofs.Written.{lines_begin}
use Rattle.metacli.proofs.putting.put_line.Goals as goal

pub returns-in_err-line : goal.returns-in_err-line
returns-in_err-line g c text h =
    let p = err_from_is_err_and c.from_residual.result c.from_residual.ensures.1 in
    rw (p.1, p.2) (text, lines_begin (g.K.Sink.holds c.args.out.now) text)
