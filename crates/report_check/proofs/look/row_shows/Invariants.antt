use Rattle.std.proofs.Common.{◌≡◌, true, false}
use Rattle.net_graph.specs.Tables.{route_at}
use Rattle.net_graph.specs.Views.{rows_of}
use Rattle.stable_check.specs.Checks.{IsMade}
use Rattle.report_check.proofs.RowSearch.{NotBeatenYet, NotOutdoneYet}
use Rattle.report_check.proofs.look.row_shows.Given as goal

-- what the origin and the arcs so far show
abbrev pub invariant-loop-hop : goal.invariant-loop-hop
invariant-loop-hop g l =
    let net = l.form.net.now in
    let dest = l.form.table.now.dest.0 in
    let rows = rows_of l.form.table.now in
    record {
      improves : l.shown.improves ≡ false → NotBeatenYet net dest rows l.fn.node.0 l.hop-index;
      makes : l.shown.makes ≡ true → IsMade net dest (route_at rows) l.fn.node.0;
      outdoes : l.shown.outdoes ≡ false → NotOutdoneYet net dest rows l.fn.node.0 l.hop-index;
    }
