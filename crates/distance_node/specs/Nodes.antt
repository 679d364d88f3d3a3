-- What contracts see of the program's node, the state that it stands for, and what it keeps.
use Rattle.std.specs.Prelude.{◌≡◌, ℕ, ◌*◌, ◌^◌, ◌<◌, ◌≤◌, Bool, true, false, List, Option, Some, None, length, map, option_map, refl}
use Rattle.std.specs.Coded.{Coded, code_by, coded×, coded_bool, coded_list, coded_option, coded_ℕ}
use Rattle.alg_model.specs.Bounds.{AtMost}
use Rattle.alg_model.specs.Codes.{coded_value}
use Rattle.alg_model.specs.Expressions.{Expression, PureLabel, PureValue}
use Rattle.arc_labels.specs.declared.neighbours.Neighbour.{Neighbour}
use Rattle.arc_labels.specs.Neighbours.{AreNeighbours, head_of}
use Rattle.net_graph.specs.Codes.{coded_net}
use Rattle.net_graph.specs.Nets.{PureNet, IsNet, arcs_from, origin_value}
use Rattle.node_core.specs.declared.node.TheConstants.{MAX_CLOCK}
use Rattle.distance_node.specs.declared.chosen.Chosen.{Chosen}
use Rattle.distance_node.specs.Chosen.{entry_of, hop_at, IsBest}
use Rattle.distance_node.specs.Node.{Hop, DvState, offers}
use Rattle.distance_node.specs.Places.{width, heard_in, heard_by}

-- a node by lists
pub record PureNode : Type 0 where
  pub net : PureNet
  pub number : ℕ
  pub is_begun : Bool
  pub heard : List (Option PureValue)
  pub rows : List (Option Hop)
  pub last : ℕ

abbrev pub state_of : PureNode → DvState
state_of n =
    record {
      net = n.net;
      number = n.number;
      is_begun = n.is_begun;
      heard = heard_in n.net n.number n.heard;
      rows = entry_of n.rows;
      last = n.last;
    }

abbrev pub row_list : {S : Type 0} → (S → PureValue) → PureNet → ℕ → List (Option (Chosen S)) → List (Option Hop)
row_list value net i rows = map (option_map (hop_at value net i)) rows

module _ {S : Type 0} (is_sig : S → Type 0) (value : S → PureValue) (net : PureNet) (number : ℕ) where
  -- what a node of the network heard before a clock
  pub record HasHeard (last : ℕ) (heard : List (Option S)) : Type 0 where
    pub count : length heard ≡ length net.dests * width net number
    pub each : (k : ℕ) (s : S) → entry_of heard k ≡ Some s → is_sig s × AtMost (last * 2 ^ 64) (value s)
    pub early : last ≤ MAX_CLOCK

  -- its rows, which are its choices
  pub record HasRows (heard : List (Option S)) (rows : List (Option (Chosen S))) : Type 0 where
    pub sigs : (dest : ℕ) (r : Chosen S) → entry_of rows dest ≡ Some r → is_sig r.sig
    pub best : (dest : ℕ) → IsBest value net number (offers net dest number (λ a. heard_by value net number heard a dest)) (entry_of rows dest)

module _ {L S : Type 0} (stands_for : L → PureLabel → Type 0) (is_sig : S → Type 0) (value : S → PureValue) (net : PureNet) (number : ℕ) where
  -- what it has from the first: its own origins' values by destination, and its neighbours
  pub record IsPlaced (own : List (Option S)) (speakers : List (Neighbour L)) : Type 0 where
    pub is_net : IsNet net
    pub inside : number < length net.nodes
    pub near : AreNeighbours stands_for head_of (arcs_from net number) speakers
    pub own_count : length own ≡ length net.dests
    pub own_values : (dest : ℕ) → option_map value (entry_of own dest) ≡ origin_value net dest number
    pub own_sigs : (dest : ℕ) (s : S) → entry_of own dest ≡ Some s → is_sig s

  -- a node that isn't begun has heard nothing and has no rows; a begun one's rows are its choices
  pub record IsNodeOf (expression : Expression) (is_begun : Bool) (last : ℕ) (own : List (Option S)) (speakers : List (Neighbour L)) (heard : List (Option S)) (rows : List (Option (Chosen S))) : Type 0 where
    pub algebra : expression ≡ net.alg.expression
    pub placed : IsPlaced own speakers
    pub has_heard : HasHeard is_sig value net number last heard
    pub silent : is_begun ≡ false → (k : ℕ) → entry_of heard k ≡ None
    pub row_count : length rows ≡ length net.dests
    pub rowless : is_begun ≡ false → (k : ℕ) → entry_of rows k ≡ None
    pub has_rows : is_begun ≡ true → HasRows is_sig value net number heard rows

abbrev pub coded_hop : Coded Hop
coded_hop =
    code_by (PureValue × Option ℕ) (coded× coded_value (coded_option coded_ℕ))
    (λ h. (h.value, h.next)) (λ p. record { value = p.0; next = p.1 }) (λ _. refl)

abbrev pub coded_node : Coded PureNode
coded_node =
    code_by (PureNet × (ℕ × (Bool × (List (Option PureValue) × (List (Option Hop) × ℕ)))))
    (coded× coded_net (coded× coded_ℕ (coded× coded_bool (coded× (coded_list (coded_option coded_value)) (coded× (coded_list (coded_option coded_hop)) coded_ℕ)))))
    (λ n. (n.net, (n.number, (n.is_begun, (n.heard, (n.rows, n.last))))))
    (λ p. record { net = p.0; number = p.1.0; is_begun = p.1.1.0; heard = p.1.1.1.0; rows = p.1.1.1.1.0; last = p.1.1.1.1.1 }) (λ _. refl)
