-- The lines of rows that are written one after another in the same room.
use Rattle.std.specs.Prelude.{ℕ, List, ◌++◌, codes, drop}
use Rattle.net_graph.specs.Nets.{PureNet}
use Rattle.net_graph.specs.RowTexts.{dest_text, node_text}
use Rattle.row_lines.specs.declared.row_lines.RowLines.{RowLines}

-- the network of the rows, and the line that was written last, which stands after a space
abbrev pub net_of : RowLines → PureNet
net_of lines = lines.net.now

abbrev pub room_of : RowLines → List ℕ
room_of lines = lines.line

abbrev pub line_of : RowLines → List ℕ
line_of lines = drop 1 (room_of lines)

-- the names of a node and of a destination, each before a space
abbrev pub names_text : PureNet → ℕ → ℕ → List ℕ
names_text net node dest = node_text net node ++ codes " " ++ dest_text net dest ++ codes " "
