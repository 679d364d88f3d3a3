-- The printed text of a row with its next hop.
use Rattle.std.specs.Prelude.{ℕ, List, ◌++◌, Option, Some, None, codes}
use Rattle.alg_model.specs.Expressions.{PureValue}
use Rattle.alg_model.specs.Texts.{value_text}
use Rattle.distance_node.specs.Rows.{PureHopRow}
use Rattle.net_graph.specs.Nets.{PureNet}
use Rattle.net_graph.specs.RowTexts.{dest_text, node_text}
use Rattle.net_graph.specs.Tables.{carrier}

-- the name of the next hop, or the word here where the value is the node's own origin's
abbrev pub next_text : PureNet → Option ℕ → List ℕ
next_text net None = codes " here"
next_text net (Some j) = codes " via " ++ node_text net j

-- the value and its next hop, or the word none
abbrev pub hop_text : PureNet → Option PureValue → Option ℕ → List ℕ
hop_text net None next = codes "none"
hop_text net (Some v) next = value_text (carrier net) v ++ next_text net next

-- the node, the destination and these, and a line feed
abbrev pub hop_row_text : PureNet → PureHopRow → List ℕ
hop_row_text net row = node_text net row.node ++ codes " " ++ dest_text net row.dest ++ codes " " ++ hop_text net row.value row.next ++ codes "\n"
