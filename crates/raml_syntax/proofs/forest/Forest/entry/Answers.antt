use Rattle.std.proofs.Common.{arith, ◌<◌, [], length}
use Rattle.raml_syntax.specs.Forest.{IsTree, trees_from}
use Rattle.raml_syntax.proofs.Forests.{length_from, stands_at}
use Rattle.raml_syntax.proofs.forest.Forest.entry.Goals as goal

pub index-requires : goal.index-requires
index-requires c =
    let es = c.self.inside.entries.items in
    let within : IsTree (trees_from [] es) c.args.id = rw c.self.view_is c.requires in
    let count = length_from [] es in
    let same = c.self.inside.entries.ok.0 in
    omega (arith, within, count, same)

pub returns : goal.returns
returns c =
    let es = c.self.inside.entries.items in
    let within : IsTree (trees_from [] es) c.args.id = rw c.self.view_is c.requires in
    let count = length_from [] es in
    let there : c.args.id.number < length es = omega (arith, within, count) in
    rw (← c.self.view_is) (stands_at es c.args.id c.index.result.now c.self.invariant there c.index.ensures)
