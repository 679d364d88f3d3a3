-- One network has one list of tables.
use Rattle.std.proofs.Common.{◌≡◌, ℕ, ◌+◌, ◌<◌, List, [], ◌∷◌, map, length, arith, refl}
use Rattle.net_graph.specs.declared.route.DestTable.{DestTable}
use Rattle.net_graph.specs.Nets.{PureNet}
use Rattle.net_graph.specs.Tables.{PureRow, BestFirst}
use Rattle.net_graph.specs.Views.{rows_of}
use Rattle.link_state.specs.Tables.{AreTablesFrom, AreTablesOf}

module _ (net : PureNet) (unique : (dest : ℕ) (t u : List PureRow) → dest < length net.dests → BestFirst net dest t → BestFirst net dest u → t ≡ u) where
  same_from : (k : ℕ) (t u : List DestTable) → k + length t ≡ length net.dests → length t ≡ length u
      → AreTablesFrom net k t → AreTablesFrom net k u → map rows_of t ≡ map rows_of u
  same_from k [] [] inside even a b = refl
  same_from k [] (y ∷ u) inside even a b = absurd (omega arith)
  same_from k (x ∷ t) [] inside even a b = absurd (omega arith)
  same_from k (x ∷ t) (y ∷ u) inside even a b =
      let first : rows_of x ≡ rows_of y = unique k (rows_of x) (rows_of y) (omega arith) a.0.best_first b.0.best_first in
      let rest : map rows_of t ≡ map rows_of u = same_from (k + 1) t u (omega arith) (omega arith) a.1 b.1 in
      cc

  pub same_tables : (t u : List DestTable) → AreTablesOf net t → AreTablesOf net u → map rows_of t ≡ map rows_of u
  same_tables t u a b = same_from 0 t u (omega arith) (omega arith) a.tables_from b.tables_from
