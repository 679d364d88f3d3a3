-- What the program's node stands for.
use Rattle.std.specs.Prelude.{◌≡◌, ℕ, ◌<◌, List, Option, Some, length, option_map}
use Rattle.alg_model.specs.Expressions.{PureValue, PureLabel}
use Rattle.net_graph.specs.Nets.{PureNet, arcs_from, origin_value}
use Rattle.path_vector.specs.declared.known.Known.{Known}
use Rattle.path_vector.specs.Known.{known_route, entry_of, AreNeighbours, Listened}
use Rattle.net_graph.specs.Routes.{PureRoute}

module _ {L S : Type 0} (stands_for : L → PureLabel → Type 0) (is_sig : S → Type 0) (value : S → PureValue) (net : PureNet) (number : ℕ) where
  -- what a node of the network keeps: its own origins' values, its neighbours, and its rows, by destination
  pub record IsKept (own : List (Option S)) (ns : List (Listened L S)) (rows : List (Option (Known S))) : Type 0 where
    pub inside : number < length net.nodes
    pub own_count : length own ≡ length net.dests
    pub own_values : (dest : ℕ) → option_map value (entry_of own dest) ≡ origin_value net dest number
    pub own_sigs : (dest : ℕ) (s : S) → entry_of own dest ≡ Some s → is_sig s
    pub neighbours : AreNeighbours stands_for is_sig value net (arcs_from net number) ns
    pub row_count : length rows ≡ length net.dests
    pub row_sigs : (dest : ℕ) (k : Known S) → entry_of rows dest ≡ Some k → is_sig k.sig

-- the rows, as routes
abbrev pub row_routes : {S : Type 0} → (S → PureValue) → List (Option (Known S)) → ℕ → Option PureRoute
row_routes value rows dest = option_map (known_route value) (entry_of rows dest)
