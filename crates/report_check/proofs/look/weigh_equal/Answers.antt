use Rattle.std.proofs.Common.{◌≡◌, ◌∷◌, option_map, sym, ◌∙◌}
use Rattle.std.specs.declared.cmp.Ordering.TheVariants.{Equal}
use Rattle.meta_base.specs.NodePaths.{compare_paths}
use Rattle.alg_model.specs.Carriers.{carrier_of}
use Rattle.net_graph.specs.Tables.{is_among, route_at}
use Rattle.net_graph.specs.Views.{pure_route, rows_of}
use Rattle.report_check.specs.Looks.{path_after}
use Rattle.report_check.proofs.Looking.{equal_not_less, not_false, shows_equal}
use Rattle.report_check.proofs.look.weigh_equal.Goals as goal

pub returns-then-branch : goal.returns-then-branch
returns-then-branch g c =
    let form = c.args.form.now in
    let i = c.args.node.0 in
    let next = option_map (λ r. pure_route r.now) c.args.next in
    let row = pure_route c.in-Some.row.now in
    let paths = rw (c.path_after.ensures, c.as_slice.ensures) at c.compare_from.ensures in
    let order : compare_paths (i ∷ path_after next) row.path ≡ Equal = sym paths ∙ c.in-Equal.is in
    shows_equal (carrier_of (g.A.Algebra.expression form.algebra.now)) i next (g.A.Algebra.sig_value form.algebra.now c.args.image.now) (route_at (rows_of form.table.now) i) row _
    (sym c.in-Some.ensures) c.requires.equal
    (λ e. (not_false (is_among (path_after next) i) (sym c.is_loopless-then-branch.ensures ∙ e), c.in_ok-is_value-in-Equal.ensures.0 c.if-branch.true, order))
    (λ e f l. equal_not_less (compare_paths (i ∷ path_after next) row.path) order l)
