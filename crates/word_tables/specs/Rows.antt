-- The rows of all destinations, and what holds of those of a network.
use Rattle.std.specs.Prelude.{◌≡◌, List, map, length}
use Rattle.std.specs.List.{AllByRecursion}
use Rattle.alg_model.specs.Formation.{IsCarrier}
use Rattle.alg_model.specs.Views.{pure_carrier}
use Rattle.net_graph.specs.Nets.{PureNet}
use Rattle.net_graph.specs.Tables.{PureRow, carrier, joined_rows}
use Rattle.word_tables.specs.declared.rows.WordRows.{WordRows}
use Rattle.word_tables.specs.Tables.{word_rows, AreWordsOf}

-- the rows of each table, and those of all
abbrev pub table_rows : WordRows → List (List PureRow)
table_rows rows = map (word_rows (pure_carrier rows.carrier)) rows.tables

abbrev pub pure_word_rows : WordRows → List PureRow
pure_word_rows rows = joined_rows (table_rows rows)

-- the words of all values are those of values of the network's carrier, and there is a table for each destination, with
-- a row for each node
pub record HasWordsOn (net : PureNet) (rows : WordRows) : Type 0 where
  pub carrier_is : pure_carrier rows.carrier ≡ carrier net
  pub may_be : IsCarrier (pure_carrier rows.carrier)
  pub words : AllByRecursion (AreWordsOf (pure_carrier rows.carrier)) rows.tables
  pub nodes : AllByRecursion (λ t. length t ≡ length net.nodes) (table_rows rows)
  pub count : length rows.tables ≡ length net.dests
