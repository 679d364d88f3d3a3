use Rattle.std.proofs.Common.{◌∙◌}
use Rattle.raml_syntax.proofs.Names.{found_tree, is_tree}
use Rattle.raml_syntax.proofs.definitions.Definitions.lookup.Goals as goal

pub returns : goal.returns
returns c =
    let ts = c.self.inside.forest in
    let es = c.self.inside.numbers.entries in
    let name = c.args.name.now in
    let got = c.copied.ensures ∙ c.get.ensures.value in
    rw (← c.self.view_is)
    (record { found = found_tree c.copied.result ts es name c.self.invariant.0 got; tree = is_tree c.copied.result ts es name c.self.invariant.1 got })
