use Rattle.std.proofs.Common.{◌≡◌, true, arith}
use Rattle.alg_model.specs.Views.{pure_value}
use Rattle.net_graph.specs.Views.{pure_route, rows_of}
use Rattle.stable_check.specs.Offering.{rows_in}
use Rattle.report_check.proofs.RowSearch.{worse_not_made}
use Rattle.report_check.proofs.arcs.may_matter.Goals as goal

pub is_worse-requires-clause-row : goal.is_worse-requires-clause-row
is_worse-requires-clause-row c = rw c.route_at.ensures (rows_in c.args.net.now c.args.table.now.dest.0 (rows_of c.args.table.now) c.requires.table c.args.arc.now.tail.0)

pub returns-then-not-passes-clause-not_made : goal.returns-then-not-passes-clause-not_made
returns-then-not-passes-clause-not_made c = λ e m.
    let worse : c.is_worse.result ≡ true = grind arith in
    let w = rw c.route_at.ensures at (c.is_worse.ensures.0 worse) in
    let d = worse_not_made c.args.net.now (rows_of c.args.table.now) c.args.arc.now.tail.0 c.args.arc.now.head.0 (pure_route c.args.next.now) (pure_value c.args.value.now) c.requires.next c.requires.value c.requires.value_in w in
    let f = d.1 m in
    absurd (cc)
