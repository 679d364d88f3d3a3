-- What contracts see of the program's node, and the state that it stands for.
use Rattle.std.specs.Prelude.{◌≡◌, ℕ, ◌==◌, Bool, true, List, Option, find, map, option_map, option_and_then, refl}
use Rattle.std.specs.Coded.{Coded, code_by, coded×, coded_bool, coded_list, coded_option, coded_ℕ}
use Rattle.alg_model.specs.Codes.{coded_value}
use Rattle.alg_model.specs.Expressions.{Expression, PureLabel, PureValue}
use Rattle.net_graph.specs.Codes.{coded_net}
use Rattle.net_graph.specs.Nets.{PureNet, IsNet}
use Rattle.net_graph.specs.Routes.{PureRoute}
use Rattle.path_vector.specs.declared.known.Known.{Known}
use Rattle.path_vector.specs.Known.{known_route, entry_of, heard_by, Listened}
use Rattle.path_vector.specs.Node.{PvState, choice}
use Rattle.path_vector.specs.State.{IsKept, row_routes}

-- a node by lists: of each arc that it listens on, its number and the route heard for each destination; and the
-- row of each destination
pub record PureNode : Type 0 where
  pub net : PureNet
  pub before : Option PureNet
  pub number : ℕ
  pub is_begun : Bool
  pub heard : List (ℕ × List (Option PureRoute))
  pub rows : List (Option PureRoute)
  pub last : ℕ

abbrev pub heard_in : List (ℕ × List (Option PureRoute)) → ℕ → ℕ → Option PureRoute
heard_in heard a dest = option_and_then (λ (p : ℕ × List (Option PureRoute)). entry_of p.1 dest) (find (λ (p : ℕ × List (Option PureRoute)). p.0 == a) heard)

abbrev pub state_of : PureNode → PvState
state_of n =
    record {
      net = n.net;
      before = n.before;
      number = n.number;
      is_begun = n.is_begun;
      heard = heard_in n.heard;
      rows = entry_of n.rows;
      last = n.last;
    }

abbrev pub row_list : {S : Type 0} → (S → PureValue) → List (Option (Known S)) → List (Option PureRoute)
row_list value rows = map (option_map (known_route value)) rows

abbrev pub heard_lists : {L S : Type 0} → (S → PureValue) → List (Listened L S) → List (ℕ × List (Option PureRoute))
heard_lists value neighbours = map (λ (n : Listened _ _). (n.arc.0, row_list value n.heard)) neighbours

-- a node of a network that keeps its rules, over the network's algebra; where it is said to have chosen, its rows are
-- its choices
pub record IsNodeOf {L S : Type 0} (stands_for : L → PureLabel → Type 0) (is_sig : S → Type 0) (value : S → PureValue) (expression : Expression) (net : PureNet) (number : ℕ) (has_chosen : Bool)
    (own : List (Option S)) (ns : List (Listened L S)) (rows : List (Option (Known S))) : Type 0 where
  pub algebra : expression ≡ net.alg.expression
  pub is_net : IsNet net
  pub kept : IsKept stands_for is_sig value net number own ns rows
  pub chosen : has_chosen ≡ true → (dest : ℕ) → row_routes value rows dest ≡ choice net dest number (heard_by value ns)

abbrev pub coded_route : Coded PureRoute
coded_route =
    code_by (PureValue × List ℕ) (coded× coded_value (coded_list coded_ℕ))
    (λ r. (r.value, r.path)) (λ p. record { value = p.0; path = p.1 }) (λ _. refl)

abbrev pub coded_rows : Coded (List (Option PureRoute))
coded_rows = coded_list (coded_option coded_route)

abbrev pub coded_node : Coded PureNode
coded_node =
    code_by (PureNet × (Option PureNet × (ℕ × (Bool × (List (ℕ × List (Option PureRoute)) × (List (Option PureRoute) × ℕ))))))
    (coded× coded_net (coded× (coded_option coded_net) (coded× coded_ℕ (coded× coded_bool (coded× (coded_list (coded× coded_ℕ coded_rows)) (coded× coded_rows coded_ℕ))))))
    (λ n. (n.net, (n.before, (n.number, (n.is_begun, (n.heard, (n.rows, n.last)))))))
    (λ p. record { net = p.0; before = p.1.0; number = p.1.1.0; is_begun = p.1.1.1.0; heard = p.1.1.1.1.0; rows = p.1.1.1.1.1.0; last = p.1.1.1.1.1.1 }) (λ _. refl)
