use Rattle.std.proofs.Common.{rules, ◌≡◌, ◌++◌, ◌∷◌, [], ◌+◌, ◌<◌, length, take, slice_set, subst, sym, ◌∙◌, ap, IfOk, arith}
use Rattle.std.proofs.lemmas.List.{take_more_set}
use Rattle.label_code.specs.Machine.{RunCode, Fits, after_written as after}
use Rattle.label_code.specs.CodeLaws.{after_none}
use Rattle.label_code.specs.Effects.{effect, goes_on}
use Rattle.label_code.specs.Steps.{effect_of}
use Rattle.label_code.specs.Rows.{MakesOnly, Reports, has_width}
use Rattle.label_code.proofs.Running.{IsStep, going, does_in_place}
use Rattle.label_code.proofs.fixed.FixedRow.write_all.Goals as goal

pub loop-count-init : goal.loop-count-init
loop-count-init g c = record {
  width = search rules;
  fits = c.requires.fits;
  same = after_none (RunCode c.args.code.now c.args.row.now);
}

pub loop-count-preserved : goal.loop-count-preserved
loop-count-preserved g c =
    let op = c.in-Some.op.now in
    let others = c.in-Some.others.now in
    let row = c.loop-count.row.now in
    let rest = c.in-Writes.rest.now in
    let stand = take c.loop-count.count c.loop-count.self.words in
    let is : c.loop-count.code.now ≡ op ∷ others = search rules in
    let fits : Fits (op ∷ others) row = subst (λ code. Fits code row) is c.loop-count.invariant.fits in
    let word = c.in-Some-split_first.word.now in
    let left = c.in-Some-split_first.left.now in
    let split : row ≡ word ∷ left = search rules in
    let does : effect op row ≡ goes_on (c.in-Writes.word ∷ []) rest 0 = rw split (does_in_place op (word ∷ left) c.in-Writes.word rest (sym c.in_place.ensures ∙ ap effect_of c.in-Writes.is)) in
    let step : IsStep op others row rest stand (stand ++ c.in-Writes.word ∷ []) 0 = going op others row (c.in-Writes.word ∷ []) rest stand 0 does fits in
    let within : c.loop-count.count < length c.loop-count.self.words = rw c.loop-count.invariant.width (search rules) in
    let placed : take (c.loop-count.count + 1) (slice_set c.loop-count.self.words c.loop-count.count c.in-Writes.word) ≡ stand ++ c.in-Writes.word ∷ [] = take_more_set c.loop-count.self.words c.loop-count.count c.in-Writes.word within in
    record {
      width = search rules;
      fits = step.fits;
      same = ap (λ words. after words (RunCode others rest)) placed ∙ step.same ∙ ap (λ code. after stand (RunCode code row)) (sym is) ∙ c.loop-count.invariant.same;
    }

pub write_left-requires-in-Other : goal.write_left-requires-in-Other
write_left-requires-in-Other g c = (search rules, (search rules, (c.loop-count.invariant.fits, subst (MakesOnly (λ row. has_width g.row.N row)) (sym c.loop-count.invariant.same) c.requires.holds)))

pub write_left-requires-2 : goal.write_left-requires-2
write_left-requires-2 g c =
    let all : c.loop-count.count ≡ g.row.N = omega (arith, c.loop-count.auto.count-end, c.loop-count-test.false) in
    let same = subst (λ count. after (take count c.loop-count.self.words) (RunCode c.loop-count.code.now c.loop-count.row.now) ≡ RunCode c.args.code.now c.args.row.now) all c.loop-count.invariant.same in
    (search rules, (search rules, (c.loop-count.invariant.fits, subst (MakesOnly (λ row. has_width g.row.N row)) (sym same) c.requires.holds)))

pub returns : goal.returns
returns g c =
    let all : c.loop-count.count ≡ g.row.N = omega (arith, c.loop-count.auto.count-end, c.loop-count-test.false) in
    let same = subst (λ count. after (take count c.loop-count.self.words) (RunCode c.loop-count.code.now c.loop-count.row.now) ≡ RunCode c.args.code.now c.args.row.now) all c.loop-count.invariant.same in
    subst (λ o. IfOk c.write_left-2.result (λ run. Reports run c.write_left-2.new.self.words o)) same c.write_left-2.ensures
