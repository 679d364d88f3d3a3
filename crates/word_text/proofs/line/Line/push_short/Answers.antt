use Rattle.std.proofs.Common.{◌++◌, arith, take, length, ap, ap₂, ◌∙◌}
use Rattle.word_text.proofs.Copies.{copied_short}
use Rattle.word_text.proofs.line.Line.push_short.Goals as goal

pub returns : goal.returns
returns c =
    let room = c.deref_mut.result.now in
    let copied = c.copy_from_slice.new.self in
    let start = c.self.inside.len in
    let n = c.name.inside.len in
    copied_short room copied _ _ start n _ (omega (arith, c.self.invariant, c.name.invariant, c.if-len-start-lt-SHORT.false, c.len.ensures)) (omega (arith, c.self.invariant, c.deref_mut.ensures.len)) (omega (arith, ap length c.copy_from_slice.ensures.after, c.copy_from_slice.ensures.len, c.name.invariant))
    ∙ ap₂ (λ x y. x ++ y) (ap (take start) c.deref_mut.ensures.value ∙ c.self.view_is) (ap (take n) c.copy_from_slice.ensures.after ∙ c.name.view_is)
