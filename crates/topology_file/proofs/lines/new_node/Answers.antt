use Rattle.std.proofs.lemmas.Result.{err_from_is_err_and}
use Rattle.topology_file.proofs.lines.new_node.Goals as goal

pub returns-in_err-node-clause-bad : goal.returns-in_err-node-clause-bad
returns-in_err-node-clause-bad c =
    let p = err_from_is_err_and c.from_residual.result c.from_residual.ensures.1 in
    rw (p.1, p.2) (rw c.text.ensures at c.in_err-node.ensures.bad)
