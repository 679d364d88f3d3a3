use Rattle.raml_syntax.specs.Forest.{tree_at}
use Rattle.raml_syntax.proofs.Descent.{plus_test}
use Rattle.raml_syntax.proofs.expression.may_join.Goals as goal

pub returns-in-Plus : goal.returns-in-Plus
returns-in-Plus c =
    rw c.in-Plus.is (plus_test c.have_same_carrier.result (tree_at c.args.forest.now c.args.first) (tree_at c.args.forest.now c.args.second) c.have_same_carrier.ensures)
