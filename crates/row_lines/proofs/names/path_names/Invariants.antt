use Rattle.std.proofs.Common.{◌≡◌, ◌++◌, drop, map}
use Rattle.word_text.specs.PathNames.{after_space, name_text}
use Rattle.row_lines.proofs.names.path_names.Given as goal

-- with those that are left they are the names of all nodes
abbrev pub invariant-loop-node : goal.invariant-loop-node
invariant-loop-node l = map name_text l.names.items ++ map after_space (drop l.node l.net.nodes) ≡ map after_space l.net.nodes
