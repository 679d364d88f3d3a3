use Rattle.std.proofs.Common.{◌≡◌, ◌<◌, ℕ, true, false}
use Rattle.net_graph.specs.Tables.{route_at}
use Rattle.net_graph.specs.Views.{rows_of}
use Rattle.stable_check.specs.Checks.{IsMade, IsOutdone}
use Rattle.report_check.specs.Judged.{IsBeaten}
use Rattle.report_check.proofs.look.cleared.Given as goal

-- what the rows so far show
abbrev pub invariant-loop-node : goal.invariant-loop-node
invariant-loop-node g l =
    let net = l.form.net.now in
    let dest = l.form.table.now.dest.0 in
    let rows = rows_of l.form.table.now in
    record {
      improves : l.shown.improves ≡ false → (k : ℕ) → k < l.node → ¬ IsBeaten net dest rows k;
      makes : l.shown.makes ≡ true → (k : ℕ) → k < l.node → IsMade net dest (route_at rows) k;
      outdoes : l.shown.outdoes ≡ false → (k : ℕ) → k < l.node → ¬ IsOutdone net dest (route_at rows) k;
    }
