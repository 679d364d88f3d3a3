use Rattle.std.proofs.Common.{sym, take, ◌∙◌}
use Rattle.std.proofs.lemmas.Option.{slice_get-get_or}
use Rattle.path_vector.proofs.PathMarks.{once_next, twice_at}
use Rattle.path_vector.proofs.PathTests.{any_number}
use Rattle.path_vector.proofs.paths.has_none_before_itself.Goals as goal

pub returns-then-passes : goal.returns-then-passes
returns-then-passes c =
    let path = c.args.path.now in
    let k = c.loop-place.place in
    let at = slice_get-get_or path k _ c.loop-place-test.true in
    twice_at path k _ at (sym (any_number (take k path) _) ∙ (sym c.passes.ensures ∙ c.if-passes.true))

pub loop-place-preserved : goal.loop-place-preserved
loop-place-preserved c =
    let path = c.args.path.now in
    let k = c.loop-place.place in
    let at = slice_get-get_or path k _ c.loop-place-test.true in
    once_next path k _ at (sym (any_number (take k path) _) ∙ (sym c.passes.ensures ∙ c.if-passes.false)) c.loop-place.invariant
