use Rattle.std.proofs.Common.{◌≡◌, ◌++◌}
use Rattle.std.specs.Prelude.{string_bytes}
use Rattle.topology_file.specs.LineTexts.{text_of}
use Rattle.net_gen.specs.Generated.{node_lines}
use Rattle.net_gen.proofs.lines.push_nodes.Given as goal

abbrev pub invariant-loop-node : goal.invariant-loop-node
invariant-loop-node l = string_bytes l.out ≡ string_bytes l.fn.out ++ text_of (node_lines l.node)
