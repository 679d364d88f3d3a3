use Rattle.std.proofs.Common.{arith, ◌≡◌, [], ◌∷◌, ◌++◌, length, ap, sym, subst, ◌∙◌}
use Rattle.alg_model.specs.Formation.{node_count}
use Rattle.raml_syntax.specs.declared.forest.Entry.{Entry}
use Rattle.raml_syntax.specs.Forest.{node_meaning, HasParts, trees_from, AreEntries}
use Rattle.raml_syntax.proofs.Forests.{length_from, planted, planted_entries}
use Rattle.raml_syntax.proofs.forest.Forest.plant.Goals as goal

pub invariant_of-self-2 : goal.invariant_of-self-2
invariant_of-self-2 c =
    let es = c.self.inside.entries.items in
    let e : Entry = record { node = c.args.root; size = c.size_with-size.result } in
    let parts : HasParts (length (trees_from [] es)) c.args.root = rw c.self.view_is c.requires.parts in
    let size : c.size_with-size.result ≡ node_count (node_meaning (trees_from [] es) c.args.root) = rw c.self.view_is c.size_with-size.ensures in
    subst (AreEntries []) (sym c.in_ok-push.ensures.items) (planted_entries [] es e c.self.invariant (record { parts = parts; size = size }))

pub returns-clause-trees : goal.returns-clause-trees
returns-clause-trees c =
    let es = c.self.inside.entries.items in
    let e : Entry = record { node = c.args.root; size = c.size_with-size.result } in
    ap (trees_from []) c.in_ok-push.ensures.items ∙ planted [] es e ∙ ap (λ ts. ts ++ node_meaning ts c.args.root ∷ []) c.self.view_is

pub returns-clause-number : goal.returns-clause-number
returns-clause-number c =
    let es = c.self.inside.entries.items in
    let count = length_from [] es in
    let all : length (trees_from [] es) ≡ length c.args.self.now = ap length c.self.view_is in
    omega (arith, count, all, c.self.inside.entries.ok.0, c.len-number.ensures)
