use Rattle.std.proofs.Common.{◌≡◌, [], false, sym, subst}
use Rattle.raml_syntax.specs.Syntax.{is_among}
use Rattle.raml_syntax.specs.Forest.{IsTree}
use Rattle.raml_syntax.specs.Definitions.{Known, names_of, latest_first}
use Rattle.raml_syntax.proofs.Names.{inserted, inserted_apart, inserted_trees}
use Rattle.raml_syntax.proofs.definitions.Definitions.define.Goals as goal

pub invariant_of-self-2 : goal.invariant_of-self-2
invariant_of-self-2 c =
    let ts = c.self.inside.forest in
    let es = c.self.inside.numbers.entries in
    let new = c.insert.new.self.entries in
    let added = c.in_ok-insert.ensures.entries in
    let absent : is_among (names_of (latest_first ts es [])) c.args.name.now ≡ false = subst (λ (k : Known). is_among (names_of k.defined) c.args.name.now ≡ false) (sym c.self.view_is) c.requires.absent in
    let there : IsTree ts c.args.tree = subst (λ (k : Known). IsTree k.trees c.args.tree) (sym c.self.view_is) c.requires.tree in (
      inserted_apart ts es new c.args.name c.args.tree added c.self.invariant.0 absent,
      inserted_trees ts es new c.args.name c.args.tree added c.self.invariant.0 absent c.self.invariant.1 there,
    )

pub returns-clause-defined : goal.returns-clause-defined
returns-clause-defined c =
    let ts = c.self.inside.forest in
    let es = c.self.inside.numbers.entries in
    let absent : is_among (names_of (latest_first ts es [])) c.args.name.now ≡ false = subst (λ (k : Known). is_among (names_of k.defined) c.args.name.now ≡ false) (sym c.self.view_is) c.requires.absent in
    rw (← c.self.view_is) (inserted ts es c.insert.new.self.entries c.args.name c.args.tree c.in_ok-insert.ensures.entries c.self.invariant.0 absent)
