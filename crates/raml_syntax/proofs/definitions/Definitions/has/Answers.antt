use Rattle.std.proofs.Common.{◌∙◌}
use Rattle.raml_syntax.proofs.Names.{has_entry}
use Rattle.raml_syntax.proofs.definitions.Definitions.has.Goals as goal

pub returns : goal.returns
returns c = rw (← c.self.view_is) (c.contains_key.ensures ∙ has_entry c.self.inside.forest c.self.inside.numbers.entries c.args.name.now c.self.invariant.0)
