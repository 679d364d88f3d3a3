use Rattle.std.proofs.Common.{◌≡◌, Some, sym, ◌∙◌, rules}
use Rattle.label_code.specs.Orders.{RunOrder}
use Rattle.code_gen.proofs.Acting.{ordered, order_fits, some_inj}
use Rattle.code_gen.proofs.algebra.CodeAlgebraAlgebra.order.Goals as goal

pub compare_words-requires : goal.compare_words-requires
compare_words-requires g c =
    rw (c.as_slice.ensures, c.as_slice-2.ensures, c.as_slice-3.ensures)
    (order_fits c.args.self.now.alg.now.expression c.args.self.now.order (g.W.HeldRow.held c.args.a.now) (g.W.HeldRow.held c.args.b.now) c.keeps_rules.ensures (search rules) c.requires.first c.requires.second)

pub returns : goal.returns
returns g c =
    let reported : RunOrder c.args.self.now.order (g.W.HeldRow.held c.args.a.now) (g.W.HeldRow.held c.args.b.now) ≡ Some c.compare_words.result = rw (c.as_slice.ensures, c.as_slice-2.ensures, c.as_slice-3.ensures) at c.compare_words.ensures in
    some_inj (sym reported ∙ ordered c.args.self.now.alg.now.expression c.args.self.now.order (g.W.HeldRow.held c.args.a.now) (g.W.HeldRow.held c.args.b.now) c.keeps_rules.ensures (search rules) c.requires.first c.requires.second)
