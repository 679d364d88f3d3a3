use Rattle.std.proofs.Common.{◌+◌, ◌≤◌, length}
use Rattle.topology_file.specs.Texts.{lines_of}
use Rattle.report_check.specs.Said.{progress_of, IsDraft}
use Rattle.report_check.proofs.Runs.{HasRead}
use Rattle.report_check.proofs.report.read_report.Given as goal

-- what the lines so far gave
abbrev pub invariant-loop-line : goal.invariant-loop-line
invariant-loop-line l = record {
  read : HasRead l.net l.source (progress_of l.draft) l.number (lines_of l.rest);
  draft : IsDraft l.net l.draft;
  bound : l.number + length l.rest ≤ length l.source + 1;
}

abbrev pub decreases-loop-line : goal.decreases-loop-line
decreases-loop-line l = length l.rest
