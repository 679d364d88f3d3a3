use Rattle.std.proofs.Common.{◌≡◌, ◌≤◌, ◌+◌, ◌-◌, ◌∙◌, true, ap, sym, take, drop, length, length-drop, arith}
use Rattle.std.specs.List.{list_all}
use Rattle.std.proofs.lemmas.List.{length-take-le}
use Rattle.meta_base.specs.Bytes.{is_space}
use Rattle.raml_lex.proofs.Gaps.{over_more, over_spaces}
use Rattle.raml_lex.proofs.gap.after_blocks.Goals as goal

pub loop-here-preserved : goal.loop-here-preserved
loop-here-preserved c =
    let source = c.args.source.now in
    let i = c.loop-here.here.at in
    let n = i + 240 - i in
    let left = length-drop i source in
    let test = c.loop-here-test.true in
    let room : n ≤ length (drop i source) = omega arith in
    let at : c.after_bytes-here.result.at ≡ i + n = c.after_bytes-here.ensures.at ∙ ap (λ k. i + k) (length-take-le n (drop i source) room) in
    let spaces : list_all is_space (take n (drop i source)) ≡ true = sym c.are_spaces.ensures ∙ c.if-not-are_spaces.false in
    let further = c.loop-here.invariant.further in
    record {
      cursor = c.after_bytes-here.ensures.cursor;
      further = omega arith;
      over = rw at (over_more source c.args.from.at i (i + n) c.loop-here.invariant.over (over_spaces source i n (omega arith) spaces));
    }
