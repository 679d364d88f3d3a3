use Rattle.std.proofs.Common.{◌≡◌, ◌++◌, ◌∷◌, [], List, length, vec_len, ap, ◌∙◌, arith}
use Rattle.label_code.specs.declared.operations.Op.{Op}
use Rattle.code_gen.proofs.Shared.{below_more, pushed}
use Rattle.code_gen.proofs.codes.LabelCodes.push.Goals as goal

pub invariant_of-self-2 : goal.invariant_of-self-2
invariant_of-self-2 c =
    let old = vec_len c.self.inside.codes in
    let len = c.in_ok-push.ensures.len in
    rw c.in_ok-push-2.ensures.items (below_more old (vec_len c.push.new.self) c.len-number.result c.self.inside.numbers.items (omega (arith, len)) (omega (arith, len, c.len-number.ensures)) c.self.invariant)

pub returns : goal.returns
returns c =
    let codes = c.self.inside.codes in
    let numbers = c.self.inside.numbers in
    let made = pushed codes.items c.args.code numbers.items (vec_len codes) c.len-number.result (omega (arith, codes.ok.0)) (omega (arith, c.len-number.ensures)) c.self.invariant in
    rw (c.in_ok-push.ensures.items, c.in_ok-push-2.ensures.items) (made ∙ ap (λ (xs : List (List Op)). xs ++ c.args.code ∷ []) c.self.view_is)
