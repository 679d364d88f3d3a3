use Rattle.std.proofs.Common.{◌≡◌, Equal, length, refl, ap, sym, ◌∙◌, arith}
use Rattle.meta_base.specs.NodePaths.{numbers, compare_nodes}
use Rattle.path_store.specs.PathOf.{path_of}
use Rattle.path_store.proofs.Stepping.{nodes_same}
use Rattle.path_store.proofs.trails.Trails.compare_in_turn.Goals as goal

pub unreachable-requires : goal.unreachable-requires
unreachable-requires c =
    let more = rw c.in-Some.is at c.step-i.ensures.more in
    let last = ap length (rw c.in_default-rest-2.is at c.step-j.ensures.path) in
    omega (arith, more, last, c.step-i.ensures.after, c.loop-p.invariant.count)

pub returns : goal.returns
returns c =
    let paths = c.args.self.now in
    let same : path_of paths c.loop-p.p ≡ path_of paths c.loop-p.q = rw c.loop-p-test.false refl in
    let equal : compare_nodes (numbers (path_of paths c.loop-p.p)) (numbers (path_of paths c.loop-p.q)) ≡ Equal =
    rw same (nodes_same (numbers (path_of paths c.loop-p.q))) in
    sym equal ∙ c.loop-p.invariant.order
