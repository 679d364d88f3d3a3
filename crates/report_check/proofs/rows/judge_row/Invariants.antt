use Rattle.std.proofs.Common.{◌≡◌, true}
use Rattle.std.specs.Option.{MatchOption}
use Rattle.meta_base.specs.NodePaths.{numbers}
use Rattle.net_graph.specs.Views.{pure_route, rows_of}
use Rattle.report_check.specs.Judged.{IsBeatenBy, IsBetterOffer}
use Rattle.report_check.proofs.RowSearch.{MadeSoFar, NotBeatenYet, NotOutdoneYet}
use Rattle.report_check.proofs.rows.judge_row.Given as goal

-- what the origin and the arcs so far show
abbrev pub invariant-loop-place : goal.invariant-loop-place
invariant-loop-place l = record {
  beating : l.wanted.optimal ≡ true → MatchOption l.found.beating
      (NotBeatenYet l.net l.table.dest.0 (rows_of l.table) l.fn.node.0 l.place)
      (λ walk. IsBeatenBy l.net l.table.dest.0 (rows_of l.table) l.fn.node.0 (numbers walk));
  made : l.wanted.stable ≡ true → MadeSoFar l.net l.table.dest.0 (rows_of l.table) l.fn.node.0 l.place l.found.offers.is_made;
  better : l.wanted.stable ≡ true → MatchOption l.found.offers.better
      (NotOutdoneYet l.net l.table.dest.0 (rows_of l.table) l.fn.node.0 l.place)
      (λ s. IsBetterOffer l.net l.table.dest.0 (rows_of l.table) l.fn.node.0 (pure_route s));
}
