use Rattle.std.proofs.Common.{◌≡◌, length}
use Rattle.topology_file.specs.Texts.{words_of}
use Rattle.topology_file.specs.NetText.{names_twice}
use Rattle.topology_file.proofs.lines.has_twice.Given as goal

abbrev pub invariant-loop-name : goal.invariant-loop-name
invariant-loop-name l = names_twice l.draft.nodes (words_of l.names) ≡ names_twice l.draft.nodes (words_of l.rest)

abbrev pub decreases-loop-name : goal.decreases-loop-name
decreases-loop-name l = length l.rest
