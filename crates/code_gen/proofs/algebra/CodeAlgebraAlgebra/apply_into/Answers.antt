use Rattle.std.proofs.Common.{◌≡◌, rules}
use Rattle.label_code.specs.Machine.{made, prohibited, RunCode}
use Rattle.code_gen.proofs.Acting.{code_fits, makes_only, made_from, prohibited_from}
use Rattle.code_gen.proofs.algebra.CodeAlgebraAlgebra.apply_into.Goals as goal

pub rewrite-requires-clause-fits : goal.rewrite-requires-clause-fits
rewrite-requires-clause-fits g c =
    rw (c.as_slice.ensures, c.as_slice-2.ensures)
    (code_fits c.args.self.now.alg.now.expression c.args.lab.now c.requires.lab.0 (g.W.HeldRow.held c.args.sig.now) c.keeps_rules.ensures c.requires.lab.1 c.requires.sig c.requires.small)

pub rewrite-requires-clause-holds : goal.rewrite-requires-clause-holds
rewrite-requires-clause-holds g c =
    rw (c.as_slice.ensures, c.as_slice-2.ensures)
    (makes_only g.W.HeldRow.can_hold c.args.self.now.alg.now.expression c.args.lab.now c.requires.lab.0 (g.W.HeldRow.held c.args.sig.now) c.keeps_rules.ensures c.requires.lab.1 c.requires.sig c.requires.small c.args.self.now.holds)

pub returns-in-Made-clause-sig : goal.returns-in-Made-clause-sig
returns-in-Made-clause-sig g c =
    let reported : RunCode c.args.lab.now (g.W.HeldRow.held c.args.sig.now) ≡ made (g.W.HeldRow.held c.rewrite.new.self) = search rules in
    (made_from c.args.self.now.alg.now.expression c.args.lab.now c.requires.lab.0 (g.W.HeldRow.held c.args.sig.now) (g.W.HeldRow.held c.rewrite.new.self) c.keeps_rules.ensures c.requires.lab.1 c.requires.sig c.requires.small reported).sig

pub returns-in-Made-clause-image : goal.returns-in-Made-clause-image
returns-in-Made-clause-image g c l k =
    let reported : RunCode c.args.lab.now (g.W.HeldRow.held c.args.sig.now) ≡ made (g.W.HeldRow.held c.rewrite.new.self) = search rules in
    (made_from c.args.self.now.alg.now.expression c.args.lab.now l (g.W.HeldRow.held c.args.sig.now) (g.W.HeldRow.held c.rewrite.new.self) c.keeps_rules.ensures k c.requires.sig c.requires.small reported).image

pub returns-in-Made-clause-bound : goal.returns-in-Made-clause-bound
returns-in-Made-clause-bound g c =
    let reported : RunCode c.args.lab.now (g.W.HeldRow.held c.args.sig.now) ≡ made (g.W.HeldRow.held c.rewrite.new.self) = search rules in
    (made_from c.args.self.now.alg.now.expression c.args.lab.now c.requires.lab.0 (g.W.HeldRow.held c.args.sig.now) (g.W.HeldRow.held c.rewrite.new.self) c.keeps_rules.ensures c.requires.lab.1 c.requires.sig c.requires.small reported).bound

pub returns-in-Prohibited-clause-image : goal.returns-in-Prohibited-clause-image
returns-in-Prohibited-clause-image g c l k =
    let reported : RunCode c.args.lab.now (g.W.HeldRow.held c.args.sig.now) ≡ prohibited = search rules in
    prohibited_from c.args.self.now.alg.now.expression c.args.lab.now l (g.W.HeldRow.held c.args.sig.now) c.keeps_rules.ensures k c.requires.sig c.requires.small reported
