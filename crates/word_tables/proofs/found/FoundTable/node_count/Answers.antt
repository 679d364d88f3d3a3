use Rattle.std.proofs.Common.{arith}
use Rattle.best_first.specs.Fixed.{fixed_route}
use Rattle.code_gen.specs.Encoding.{decoded}
use Rattle.word_tables.proofs.Lending.{length_found}
use Rattle.word_tables.proofs.found.FoundTable.node_count.Goals as goal

pub returns : goal.returns
returns g c = λ d.
    let route = fixed_route (λ row. decoded d (g.W.HeldRow.held row)) c.args.self.now.fixed.paths in
    let same = length_found route c.args.self.now.dest.0 c.args.self.now.fixed.rows in
    let len = c.node_count.ensures in
    omega arith
