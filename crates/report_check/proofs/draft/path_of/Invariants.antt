use Rattle.std.proofs.Common.{◌≡◌, ◌+◌, ◌≤◌, length}
use Rattle.meta_base.specs.NodePaths.{numbers}
use Rattle.topology_file.specs.Texts.{words_of}
use Rattle.report_check.specs.ReportText.{path_in}
use Rattle.report_check.proofs.Reading.{path_after}
use Rattle.report_check.proofs.draft.path_of.Given as goal

-- the names that are left make of the path so far what all make
abbrev pub invariant-loop-name : goal.invariant-loop-name
invariant-loop-name l = record {
  path : path_after l.net (numbers l.path) (words_of l.rest) ≡ path_in l.net (words_of l.names);
  few : length l.path + length l.rest ≤ length l.names;
}

abbrev pub decreases-loop-name : goal.decreases-loop-name
decreases-loop-name l = length l.rest
