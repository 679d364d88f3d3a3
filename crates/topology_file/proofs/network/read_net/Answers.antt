use Rattle.std.proofs.Common.{◌≡◌, length, arith}
use Rattle.std.proofs.lemmas.Bool.Decides.{nat_tests}
use Rattle.std.proofs.lemmas.Result.{err_from_is_err_and}
use Rattle.topology_file.specs.Texts.{lines_of}
use Rattle.topology_file.proofs.Outcomes.{read_to_end, refused_at}
use Rattle.topology_file.proofs.network.read_net.Goals as goal

pub returns-in_err-reserve-clause-fault : goal.returns-in_err-reserve-clause-fault
returns-in_err-reserve-clause-fault c =
    let p = err_from_is_err_and c.from_residual.result c.from_residual.ensures.1 in
    rw (p.1, p.2) tt

pub returns-in-Err-clause-fault : goal.returns-in-Err-clause-fault
returns-in-Err-clause-fault c =
    rw c.at.ensures
    (refused_at c.texts_have_one_spelling.ensures.is c.args.source.now c.args.alg c.loop-rest.file c.loop-rest.number c.in-Err.ensures.bad.line (lines_of c.loop-rest.rest.now) c.in-Err.ensures.bad.others
    c.in-Err.error c.loop-rest.invariant.outcome c.in-Err.ensures.bad.lines c.in-Err.ensures.bad.cause)

pub returns-clause-network : goal.returns-clause-network
returns-clause-network c =
    let none : length c.loop-rest.rest.now ≡ 0 = grind (arith, nat_tests, c.is_empty.ensures, c.loop-rest-test.false) in
    rw c.in_ok-finish.ensures.file (read_to_end c.texts_have_one_spelling.ensures.is c.args.source.now c.args.alg c.loop-rest.file c.loop-rest.number c.loop-rest.rest.now c.loop-rest.invariant.outcome none)
