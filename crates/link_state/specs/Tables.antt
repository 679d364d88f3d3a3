-- The tables of a network.
use Rattle.std.specs.Prelude.{◌≡◌, ℕ, ◌+◌, List, [], ◌∷◌, length}
use Rattle.net_graph.specs.declared.route.DestTable.{DestTable}
use Rattle.net_graph.specs.Nets.{PureNet}
use Rattle.net_graph.specs.Tables.{BestFirst}
use Rattle.net_graph.specs.Views.{rows_of}

-- the table is that of destination k, and is made best first
pub record IsTableOf (net : PureNet) (k : ℕ) (table : DestTable) : Type 0 where
  pub dest : table.dest.0 ≡ k
  pub best_first : BestFirst net k (rows_of table)

-- the tables are those of the destinations from k on, in order
abbrev pub AreTablesFrom : PureNet → ℕ → List DestTable → Type 0
AreTablesFrom net k [] = Unit {0}
AreTablesFrom net k (table ∷ tables) = IsTableOf net k table × AreTablesFrom net (k + 1) tables

-- there is one table for each destination of the network, in order
pub record AreTablesOf (net : PureNet) (tables : List DestTable) : Type 0 where
  pub tables_from : AreTablesFrom net 0 tables
  pub count : length tables ≡ length net.dests
