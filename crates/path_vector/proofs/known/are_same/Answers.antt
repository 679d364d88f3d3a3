use Rattle.std.proofs.Common.{◌≡◌, ◌&&◌, sym, ap, subst, ◌∙◌}
use Rattle.std.specs.Prelude.{IfOk}
use Rattle.alg_model.specs.Tests.{same_value}
use Rattle.meta_base.specs.NodePaths.{numbers}
use Rattle.path_vector.proofs.PathTests.{same_paths, other_paths, and_true, and_false, unequal}
use Rattle.path_vector.proofs.known.are_same.Goals as goal

pub returns-in-Equal : goal.returns-in-Equal
returns-in-Equal g c =
    let value = g.A.Algebra.sig_value c.args.algebra.now in
    let both = same_value (value c.args.first.now.sig) (value c.args.second.now.sig) in
    let e = rw (c.as_slice.ensures, c.as_slice-2.ensures) at c.compare.ensures in
    let paths = same_paths (numbers c.args.first.now.path) (numbers c.args.second.now.path) (sym e ∙ c.in-Equal.is) in
    subst (λ z. IfOk c.has_same_value.result (λ s. s ≡ z)) (sym (ap (λ z. both && z) paths ∙ and_true both)) c.has_same_value.ensures

pub returns-in-Less : goal.returns-in-Less
returns-in-Less g c =
    let value = g.A.Algebra.sig_value c.args.algebra.now in
    let both = same_value (value c.args.first.now.sig) (value c.args.second.now.sig) in
    let e = rw (c.as_slice.ensures, c.as_slice-2.ensures) at c.compare.ensures in
    let paths = other_paths (numbers c.args.first.now.path) (numbers c.args.second.now.path) (unequal c.compare.result _ c.in-Less.is (sym e)) in
    sym (ap (λ z. both && z) paths ∙ and_false both)
