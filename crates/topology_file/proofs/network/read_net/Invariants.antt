use Rattle.std.proofs.Common.{◌≡◌, ◌+◌, ◌≤◌, length}
use Rattle.topology_file.specs.Texts.{lines_of}
use Rattle.topology_file.specs.NetText.{empty_file}
use Rattle.topology_file.proofs.Runs.{outcome}
use Rattle.topology_file.proofs.network.read_net.Given as goal

-- the lines that are left come to the same from what the lines so far gave as all lines from nothing
abbrev pub invariant-loop-rest : goal.invariant-loop-rest
invariant-loop-rest l = record {
  outcome : outcome (empty_file l.fn.alg) 1 (lines_of l.source) ≡ outcome l.file l.number (lines_of l.rest);
  bound : l.number + length l.rest ≤ length l.source + 1;
}

abbrev pub decreases-loop-rest : goal.decreases-loop-rest
decreases-loop-rest l = length l.rest
