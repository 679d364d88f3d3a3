-- The rows of a node that begins.
use Rattle.std.specs.Prelude.{◌≡◌, ℕ, ◌<◌, List, Option, Some, length, option_map}
use Rattle.alg_model.specs.Expressions.{PureValue}
use Rattle.net_graph.specs.Nets.{PureNet}
use Rattle.distance_node.specs.declared.chosen.Chosen.{Chosen}
use Rattle.distance_node.specs.Chosen.{entry_of, hop_at}
use Rattle.distance_node.specs.Node.{own_hop}

-- so many rows, each of which is the own origin's offer
pub record AreBegun {S : Type 0} (is_sig : S → Type 0) (value : S → PureValue) (net : PureNet) (i count : ℕ) (rows : List (Option (Chosen S))) : Type 0 where
  pub row_count : length rows ≡ count
  pub sigs : (dest : ℕ) (r : Chosen S) → entry_of rows dest ≡ Some r → is_sig r.sig
  pub first : (dest : ℕ) (r : Chosen S) → entry_of rows dest ≡ Some r → r.offer ≡ 0
  pub hops : (dest : ℕ) → dest < count → option_map (hop_at value net i) (entry_of rows dest) ≡ own_hop net dest i
