use Rattle.std.proofs.Common.{rules, ◌≡◌, ◌++◌, ◌∷◌, [], ◌+◌, ◌<◌, length, take, slice_set, subst, sym, ◌∙◌, ap}
use Rattle.std.proofs.lemmas.List.{take_more_set}
use Rattle.label_code.specs.Machine.{RunCode, Fits, after_written as after}
use Rattle.label_code.specs.Effects.{effect, goes_on}
use Rattle.label_code.specs.Rows.{MakesOnly, has_width}
use Rattle.label_code.proofs.Running.{IsStep, going}
use Rattle.label_code.proofs.fixed.FixedRow.write_left.Goals as goal

pub loop-count-preserved-in-Writes : goal.loop-count-preserved-in-Writes
loop-count-preserved-in-Writes g c =
    let op = c.in-Some.op.now in
    let others = c.in-Some.others.now in
    let row = c.loop-count.row.now in
    let rest = c.in-Writes.rest.now in
    let stand = take c.loop-count.count c.loop-count.self.words in
    let is : c.loop-count.code.now ≡ op ∷ others = search rules in
    let fits : Fits (op ∷ others) row = subst (λ code. Fits code row) is c.loop-count.invariant.fits in
    let does : effect op row ≡ goes_on (c.in-Writes.written ∷ []) rest 0 = rw c.in-Writes.is at c.replace_word.ensures in
    let step : IsStep op others row rest stand (stand ++ c.in-Writes.written ∷ []) 0 = going op others row (c.in-Writes.written ∷ []) rest stand 0 does fits in
    let within : c.loop-count.count < length c.loop-count.self.words = rw c.loop-count.invariant.width (search rules) in
    let placed : take (c.loop-count.count + 1) (slice_set c.loop-count.self.words c.loop-count.count c.in-Writes.written) ≡ stand ++ c.in-Writes.written ∷ [] = take_more_set c.loop-count.self.words c.loop-count.count c.in-Writes.written within in
    record {
      width = search rules;
      count = search rules;
      fits = step.fits;
      same = ap (λ words. after words (RunCode others rest)) placed ∙ step.same ∙ ap (λ code. after stand (RunCode code row)) (sym is) ∙ c.loop-count.invariant.same;
    }

pub write_rest-requires : goal.write_rest-requires
write_rest-requires g c = (search rules, (c.loop-count.invariant.count, (c.loop-count.invariant.fits, subst (MakesOnly (λ row. has_width g.row.N row)) (sym c.loop-count.invariant.same) c.requires.holds)))
