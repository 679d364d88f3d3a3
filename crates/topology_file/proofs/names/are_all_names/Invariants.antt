use Rattle.std.proofs.Common.{◌≡◌, length}
use Rattle.std.specs.List.{list_all}
use Rattle.net_graph.specs.Nets.{is_name}
use Rattle.topology_file.specs.Texts.{words_of}
use Rattle.topology_file.proofs.names.are_all_names.Given as goal

abbrev pub invariant-loop-word : goal.invariant-loop-word
invariant-loop-word l = list_all is_name (words_of l.text) ≡ list_all is_name (words_of l.rest)

abbrev pub decreases-loop-word : goal.decreases-loop-word
decreases-loop-word l = length l.rest
