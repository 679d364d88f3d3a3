use Rattle.std.proofs.Common.{sym, ◌∙◌}
use Rattle.std.specs.Prelude.{option_map}
use Rattle.path_vector.specs.Known.{known_route}
use Rattle.path_vector.specs.Words.{same_row_is}
use Rattle.path_vector.proofs.rechoosing.change_of.Goals as goal

pub returns-then-branch-clause-change : goal.returns-then-branch-clause-change
returns-then-branch-clause-change g c =
    let value = g.A.Algebra.sig_value c.args.site.now.algebra.now in
    same_row_is (option_map (known_route value) c.args.row) (option_map (known_route value) c.args.before.now) (sym c.in_ok-is_same_row.ensures ∙ c.if-branch.true)
