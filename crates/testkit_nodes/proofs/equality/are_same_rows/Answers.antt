use Rattle.std.proofs.Common.{◌≡◌, Some, map, slice_get, refl, sym, ap, ◌∙◌, below_more, arith}
use Rattle.std.proofs.lemmas.Option.{same_Some}
use Rattle.net_graph.specs.Views.{pure_row}
use Rattle.testkit_nodes.proofs.Rows.{row_there, same_rows}
use Rattle.testkit_nodes.proofs.equality.are_same_rows.Goals as goal

pub returns-then-not-is_same_row : goal.returns-then-not-is_same_row
returns-then-not-is_same_row c =
    let first = row_there c.args.first.now c.loop-place.place c.index-first-place.result (omega (arith, c.loop-place-test.true)) c.index-first-place.is in
    let second = row_there c.args.second.now c.loop-place.place c.index-second-place.result (omega (arith, c.loop-place-test.true, c.if-first-second.false)) c.index-second-place.is in (
      λ e. absurd (cc),
      λ h. let same = c.is_same_row.ensures.1 (same_Some (pure_row c.index-first-place.result) (pure_row c.index-second-place.result) (sym first ∙ (ap (λ rows. slice_get rows c.loop-place.place) h ∙ second))) in absurd (let f = c.if-not-is_same_row.true in cc),
    )

pub loop-place-preserved : goal.loop-place-preserved
loop-place-preserved c =
    let first = row_there c.args.first.now c.loop-place.place c.index-first-place.result (omega (arith, c.loop-place-test.true)) c.index-first-place.is in
    let second = row_there c.args.second.now c.loop-place.place c.index-second-place.result (omega (arith, c.loop-place-test.true, c.if-first-second.false)) c.index-second-place.is in
    let same = c.is_same_row.ensures.0 (let f = c.if-not-is_same_row.false in f) in
    below_more (λ k. slice_get (map pure_row c.args.first.now) k ≡ slice_get (map pure_row c.args.second.now) k) c.loop-place.place c.loop-place.invariant (first ∙ (ap (λ row. Some row) same ∙ sym second))

pub returns : goal.returns
returns c = (
  λ e. same_rows c.args.first.now c.args.second.now c.loop-place.place (omega (arith, c.if-first-second.false)) (omega (arith, c.loop-place-test.false)) c.loop-place.invariant,
  λ h. refl,
)
