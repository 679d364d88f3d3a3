use Rattle.std.proofs.Common.{◌≡◌, ◌%◌, sym, ap, ◌∙◌}
use Rattle.std.specs.Int.{bit_at}
use Rattle.std.proofs.lemmas.Nat.Bits.{shr_and_one}
use Rattle.path_store.specs.PathOf.{path_of}
use Rattle.path_store.proofs.Marks.{not_marked}
use Rattle.path_store.proofs.trails.Trails.passes.Goals as goal

pub returns-then-step-node-eq0 : goal.returns-then-step-node-eq0
returns-then-step-node-eq0 c =
    let path = path_of c.args.self.now c.args.id in
    let bit : bit_at c.step.result.marks (c.args.node.0 % 64) ≡ 0 = sym (shr_and_one c.step.result.marks (c.args.node.0 % 64)) ∙ c.if-step-node-eq0.true in
    sym (not_marked path c.args.node.0 (ap (λ m. bit_at m (c.args.node.0 % 64)) (sym c.step.ensures.marks) ∙ bit))
