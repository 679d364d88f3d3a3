use Rattle.std.proofs.Common.{◌≡◌, ◌++◌, drop, map}
use Rattle.word_text.specs.PathNames.{between_spaces, name_text}
use Rattle.row_lines.proofs.names.dest_names.Given as goal

-- with those that are left they are the names of all destinations
abbrev pub invariant-loop-dest : goal.invariant-loop-dest
invariant-loop-dest l = map name_text l.names.items ++ map between_spaces (drop l.dest l.net.dests) ≡ map between_spaces l.net.dests
