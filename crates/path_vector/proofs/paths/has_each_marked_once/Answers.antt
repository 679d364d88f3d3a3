use Rattle.std.proofs.Common.{refl, sym, ◌∙◌}
use Rattle.std.proofs.lemmas.Option.{slice_get-get_or}
use Rattle.path_vector.specs.Marks.{is_marked}
use Rattle.path_vector.proofs.PathMarks.{marked_next, none_marked, once_next, twice_at}
use Rattle.path_vector.proofs.paths.has_each_marked_once.Goals as goal

pub loop-node-init : goal.loop-node-init
loop-node-init c = record { count = refl; marked = λ i. none_marked 64 i; once = refl }

pub returns-then-is_marked : goal.returns-then-is_marked
returns-then-is_marked c =
    let path = c.args.path.now in
    let k = c.loop-node.node-index in
    let at = slice_get-get_or path k _ c.loop-node-test.true in
    twice_at path k _ at (sym (c.loop-node.invariant.marked _) ∙ (sym c.is_marked.ensures ∙ c.if-is_marked.true))

pub loop-node-preserved : goal.loop-node-preserved
loop-node-preserved c =
    let path = c.args.path.now in
    let k = c.loop-node.node-index in
    let at = slice_get-get_or path k _ c.loop-node-test.true in
    record {
      count = c.mark.ensures.count ∙ c.loop-node.invariant.count;
      marked = marked_next (is_marked c.loop-node.passed) (is_marked c.mark.new.words) path k _ at c.loop-node.invariant.marked c.mark.ensures.marked;
      once = once_next path k _ at (sym (c.loop-node.invariant.marked _) ∙ (sym c.is_marked.ensures ∙ c.if-is_marked.false)) c.loop-node.invariant.once;
    }
