use Rattle.std.proofs.Common.{◌≡◌, refl, sym, take, ap, ◌∙◌, arith}
use Rattle.std.proofs.lemmas.Option.{slice_get-get_or}
use Rattle.alg_model.specs.Carriers.{distinct}
use Rattle.meta_base.specs.NodePaths.{numbers}
use Rattle.path_vector.specs.Marks.{is_marked}
use Rattle.path_vector.proofs.Choices.{take_whole}
use Rattle.path_vector.proofs.PathMarks.{folded, folded_distinct, folded_marked, folded_once, none_marked}
use Rattle.path_vector.proofs.paths.are_apart.Goals as goal

pub loop-node-init : goal.loop-node-init
loop-node-init c = record { count = refl; marked = λ i. none_marked 1 i; once = refl }

pub loop-node-preserved : goal.loop-node-preserved
loop-node-preserved c =
    let path = c.args.path.now in
    let k = c.loop-node.node-index in
    let at = slice_get-get_or path k _ c.loop-node-test.true in
    record {
      count = c.mark.ensures.count ∙ c.loop-node.invariant.count;
      marked = folded_marked (is_marked c.loop-node.passed) (is_marked c.mark.new.words) path k _ at c.loop-node.invariant.marked c.mark.ensures.marked;
      once = folded_once path k _ at (sym (c.loop-node.invariant.marked _) ∙ (sym c.is_marked.ensures ∙ c.if-is_marked.false)) c.loop-node.invariant.once;
    }

pub returns : goal.returns
returns c =
    let path = c.args.path.now in
    let k = c.loop-node.node-index in
    let end = c.loop-node-test.false in
    let whole : take k path ≡ path = take_whole path k (omega (arith, end)) in
    λ _. folded_distinct (numbers path) (ap (λ p. distinct (folded (numbers p))) (sym whole) ∙ c.loop-node.invariant.once)
