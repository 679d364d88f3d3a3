use Rattle.std.proofs.Common.{◌≡◌, length}
use Rattle.topology_file.specs.KnownTexts.{HasSameArcs, KeepsNodes}
use Rattle.topology_file.specs.Texts.{words_of}
use Rattle.topology_file.specs.LineErrors.{after_names}
use Rattle.topology_file.proofs.lines.add_nodes.Given as goal

-- the names that are left make of the network so far what all make of the first one, the arcs are the same, and nodes keep their numbers
abbrev pub invariant-loop-name : goal.invariant-loop-name
invariant-loop-name l = record {
  names : after_names l.fn.draft (words_of l.fn.names) ≡ after_names l.draft (words_of l.rest);
  arcs : HasSameArcs l.fn.draft l.draft;
  nodes : KeepsNodes l.fn.draft l.draft;
}

abbrev pub decreases-loop-name : goal.decreases-loop-name
decreases-loop-name l = length l.rest
