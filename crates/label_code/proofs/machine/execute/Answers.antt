use Rattle.std.proofs.Common.{◌≡◌, ◌∷◌, rules, subst, ap, sym, ◌∙◌}
use Rattle.label_code.specs.Machine.{RunCode, Fits, after_written}
use Rattle.label_code.proofs.Running.{stepped}
use Rattle.label_code.proofs.machine.execute.Goals as goal

pub after-code-requires : goal.after-code-requires
after-code-requires g c =
    let op = c.in-Some.op.now in
    let rest = c.in-Some.rest.now in
    let is : c.loop-op.code.now ≡ op ∷ rest = search rules in
    let fits : Fits (op ∷ rest) c.loop-op.row.now = subst (λ code. Fits code c.loop-op.row.now) is c.loop-op.invariant.fits in
    (stepped op rest c.loop-op.row.now c.in-Ok.next.row.now (g.W.Output.written c.loop-op.out) (g.W.Output.written c.step.new.out) c.in-Ok.next.jump fits (search rules)).within

pub loop-op-preserved : goal.loop-op-preserved
loop-op-preserved g c =
    let op = c.in-Some.op.now in
    let rest = c.in-Some.rest.now in
    let is : c.loop-op.code.now ≡ op ∷ rest = search rules in
    let fits : Fits (op ∷ rest) c.loop-op.row.now = subst (λ code. Fits code c.loop-op.row.now) is c.loop-op.invariant.fits in
    let step = stepped op rest c.loop-op.row.now c.in-Ok.next.row.now (g.W.Output.written c.loop-op.out) (g.W.Output.written c.step.new.out) c.in-Ok.next.jump fits (search rules) in
    record {
      fits = rw c.after-code.ensures step.fits;
      same = rw c.after-code.ensures (step.same ∙ ap (λ code. after_written (g.W.Output.written c.loop-op.out) (RunCode code c.loop-op.row.now)) (sym is) ∙ c.loop-op.invariant.same);
    }
