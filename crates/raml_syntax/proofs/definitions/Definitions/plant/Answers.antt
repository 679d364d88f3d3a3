use Rattle.std.proofs.Common.{[], sym, subst}
use Rattle.raml_syntax.specs.Forest.{node_meaning}
use Rattle.raml_syntax.specs.Definitions.{AreApart}
use Rattle.raml_syntax.proofs.Forests.{extends_planted}
use Rattle.raml_syntax.proofs.Names.{latest_kept, trees_kept}
use Rattle.raml_syntax.proofs.definitions.Definitions.plant.Goals as goal

pub invariant_of-self : goal.invariant_of-self
invariant_of-self c =
    let old = c.self.inside.forest in
    let new = c.plant.new.self in
    let es = c.self.inside.numbers.entries in
    let x = extends_planted c.plant.result old new (node_meaning old c.args.root) c.plant.ensures.trees c.plant.ensures.err in
    (subst AreApart (sym (latest_kept old new es [] x c.self.invariant.1)) c.self.invariant.0, trees_kept old new es x c.self.invariant.1)

pub returns-clause-keeps : goal.returns-clause-keeps
returns-clause-keeps c =
    let old = c.self.inside.forest in
    let new = c.plant.new.self in
    let es = c.self.inside.numbers.entries in
    let x = extends_planted c.plant.result old new (node_meaning old c.args.root) c.plant.ensures.trees c.plant.ensures.err in
    rw (← c.self.view_is) (record { defined = latest_kept old new es [] x c.self.invariant.1; trees = x })
