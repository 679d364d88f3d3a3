use Rattle.std.proofs.Common.{◌≡◌, ◌∷◌, rules, ap, sym, ◌∙◌}
use Rattle.label_code.specs.Orders.{RunOrder, FitsBoth}
use Rattle.label_code.proofs.Comparing.{tied}
use Rattle.label_code.proofs.orders.compare_steps.Goals as goal

pub after-code-requires : goal.after-code-requires
after-code-requires c =
    let op = c.in-Some.op.now in
    let rest = c.in-Some.rest.now in
    let is : c.loop-op.code.now ≡ op ∷ rest = search rules in
    let fits : FitsBoth (op ∷ rest) c.loop-op.first.now c.loop-op.second.now = λ e. c.requires (sym c.loop-op.invariant.same ∙ ap (λ code. RunOrder code c.loop-op.first.now c.loop-op.second.now) is ∙ e) in
    (tied op rest c.loop-op.first.now c.loop-op.second.now c.in-Tied.left.now c.in-Tied.right.now c.in-Tied.jump fits (search rules)).within

pub loop-op-preserved : goal.loop-op-preserved
loop-op-preserved c =
    let op = c.in-Some.op.now in
    let rest = c.in-Some.rest.now in
    let is : c.loop-op.code.now ≡ op ∷ rest = search rules in
    let fits : FitsBoth (op ∷ rest) c.loop-op.first.now c.loop-op.second.now = λ e. c.requires (sym c.loop-op.invariant.same ∙ ap (λ code. RunOrder code c.loop-op.first.now c.loop-op.second.now) is ∙ e) in
    let step = tied op rest c.loop-op.first.now c.loop-op.second.now c.in-Tied.left.now c.in-Tied.right.now c.in-Tied.jump fits (search rules) in
    record {
      same = rw c.after-code.ensures (step.same ∙ ap (λ code. RunOrder code c.loop-op.first.now c.loop-op.second.now) (sym is) ∙ c.loop-op.invariant.same);
    }
