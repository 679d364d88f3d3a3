use Rattle.std.proofs.Common.{Some, sym, ap, ◌∙◌, arith}
use Rattle.best_first.specs.Fixed.{fixed_route}
use Rattle.best_first.specs.Found.{found-map, row_from}
use Rattle.code_gen.specs.Encoding.{decoded}
use Rattle.word_tables.proofs.Lending.{length_found, row_first}
use Rattle.word_tables.proofs.found.FoundTable.row.Goals as goal

pub overflow_cast-node : goal.overflow_cast-node
overflow_cast-node g c =
    let route = fixed_route (λ row. decoded c.requires.node.0 (g.W.HeldRow.held row)) c.args.self.now.fixed.paths in
    let same = length_found route c.args.self.now.dest.0 c.args.self.now.fixed.rows in
    let below = c.requires.node.1 in
    let few = c.args.self.now.few in
    omega arith

pub route-requires : goal.route-requires
route-requires g c =
    let route = fixed_route (λ row. decoded c.requires.node.0 (g.W.HeldRow.held row)) c.args.self.now.fixed.paths in
    let same = length_found route c.args.self.now.dest.0 c.args.self.now.fixed.rows in
    let below = c.requires.node.1 in
    omega arith

pub returns-clause-row : goal.returns-clause-row
returns-clause-row g c = λ d.
    let rows = c.args.self.now.fixed.rows in
    let dest = c.args.self.now.dest.0 in
    let route = fixed_route (λ row. decoded d (g.W.HeldRow.held row)) c.args.self.now.fixed.paths in
    let first = fixed_route (λ row. decoded c.requires.node.0 (g.W.HeldRow.held row)) c.args.self.now.fixed.paths in
    let same = length_found first dest rows in
    let below = c.requires.node.1 in
    row_first route dest rows c.args.node (omega arith)
    ∙ ap (λ o. Some (row_from c.args.node dest o)) (found-map route rows c.args.node ∙ sym (c.route.ensures.route d))
