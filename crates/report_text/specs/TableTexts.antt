-- The printed text before stable tables.
use Rattle.std.specs.Prelude.{ℕ, List, ◌++◌, codes, decimal}
use Rattle.net_graph.specs.Nets.{PureNet}
use Rattle.net_graph.specs.RowTexts.{dest_text}

-- DEST N stable: how many stable tables the destination has
abbrev pub stable_text : PureNet → ℕ → ℕ → List ℕ
stable_text net dest count = dest_text net dest ++ codes " " ++ decimal count ++ codes " stable\n"

-- table K
abbrev pub table_text : ℕ → List ℕ
table_text number = codes "table " ++ decimal number ++ codes "\n"
