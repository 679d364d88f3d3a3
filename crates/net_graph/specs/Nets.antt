-- Networks as contracts speak of them: an algebra and four lists.
use Rattle.std.specs.Prelude.{◌≡◌, ℕ, ◌+◌, ◌^◌, ◌<◌, ◌≤◌, List, [], ◌∷◌, Bool, true, false, ◌==◌, ◌&&◌, ◌||◌, nat_le, Option, option_map, length, filter, find, position}
use Rattle.std.specs.List.{list_any, list_all, AllByRecursion}
use Rattle.std.specs.Str.{bytes_eq}
use Rattle.net_graph.specs.Limits.{max_arcs, max_nodes, max_dests}
use Rattle.alg_model.specs.Expressions.{PureAlg, PureLabel, PureValue}
use Rattle.alg_model.specs.Carriers.{carrier_of, In}
use Rattle.alg_model.specs.Application.{IsLabel}
use Rattle.alg_model.specs.Bounds.{AtMost, LabelAtMost, greatest_number}
use Rattle.alg_model.specs.Formation.{IsAlg}

-- an arc: its tail may route by its head, so the tail listens and the head speaks
pub record PureArc : Type 0 where
  pub id : ℕ
  pub tail : ℕ
  pub head : ℕ
  pub label : PureLabel

-- a node has a value for a destination
pub record PureOrigin : Type 0 where
  pub node : ℕ
  pub dest : ℕ
  pub value : PureValue

-- the names of nodes and destinations in order of first sight; arcs and origins in file order
pub record PureNet : Type 0 where
  pub alg : PureAlg
  pub nodes : List (List ℕ)
  pub dests : List (List ℕ)
  pub arcs : List PureArc
  pub origins : List PureOrigin

-- the arcs that a node may route by, in file order
abbrev pub arcs_from : PureNet → ℕ → List PureArc
arcs_from net node = filter (λ (a : PureArc). a.tail == node) net.arcs

-- the arcs that a node speaks on, in file order
abbrev pub arcs_to : PureNet → ℕ → List PureArc
arcs_to net node = filter (λ (a : PureArc). a.head == node) net.arcs

-- the origins of a destination, in file order
abbrev pub origins_of : PureNet → ℕ → List PureOrigin
origins_of net dest = filter (λ (o : PureOrigin). o.dest == dest) net.origins

abbrev pub is_arc_between : ℕ → ℕ → PureArc → Bool
is_arc_between tail head a = a.tail == tail && a.head == head

abbrev pub is_origin_at : ℕ → ℕ → PureOrigin → Bool
is_origin_at dest node o = o.dest == dest && o.node == node

-- there is an arc from the tail to the head; there is an origin of the destination at the node
abbrev pub has_arc : PureNet → ℕ → ℕ → Bool
has_arc net tail head = list_any (is_arc_between tail head) net.arcs

abbrev pub has_origin : PureNet → ℕ → ℕ → Bool
has_origin net dest node = list_any (is_origin_at dest node) net.origins

-- the label of the arc from the tail to the head, if there is one
abbrev pub label_between : PureNet → ℕ → ℕ → Option PureLabel
label_between net tail head = option_map (λ (a : PureArc). a.label) (find (is_arc_between tail head) net.arcs)

-- the value of the node's origin of the destination, if it has one
abbrev pub origin_value : PureNet → ℕ → ℕ → Option PureValue
origin_value net dest node = option_map (λ (o : PureOrigin). o.value) (find (is_origin_at dest node) net.origins)

-- so many things have a number each
abbrev pub CanBeNumbered : ℕ → Type 0
CanBeNumbered count = count < 2 ^ 32

-- the number of the name in the list, if it is there
abbrev pub number_of : List (List ℕ) → List ℕ → Option ℕ
number_of names name = position (λ n. bytes_eq name n) names

-- a byte of a name: an ASCII letter or digit, or one of _ - .
abbrev pub is_name_byte : ℕ → Bool
is_name_byte c = (nat_le 97 c && nat_le c 122) || (nat_le 65 c && nat_le c 90) || (nat_le 48 c && nat_le c 57) || c == 95 || c == 45 || c == 46

-- 1 to 32 such bytes
abbrev pub is_name : List ℕ → Bool
is_name name = nat_le 1 (length name) && nat_le (length name) 32 && list_all is_name_byte name

-- what holds of an arc, and of an origin, in a network over the algebra of so many nodes and destinations:
-- labels and values are the algebra's, and their numbers those of a text of its edition
pub record IsArcOf (alg : PureAlg) (nodes : ℕ) (a : PureArc) : Type 0 where
  pub tail_in : a.tail < nodes
  pub head_in : a.head < nodes
  pub apart : (a.tail == a.head) ≡ false
  pub label_in : IsLabel alg.expression a.label
  pub bound : LabelAtMost (greatest_number alg.edition) a.label

pub record IsOriginOf (alg : PureAlg) (nodes dests : ℕ) (o : PureOrigin) : Type 0 where
  pub node_in : o.node < nodes
  pub dest_in : o.dest < dests
  pub value_in : In (carrier_of alg.expression) o.value
  pub bound : AtMost (greatest_number alg.edition) o.value

-- no item of the list passes the test with an earlier one
abbrev pub AreDistinct : {X : Type 0} → (X → X → Bool) → List X → Type 0
AreDistinct same [] = Unit {0}
AreDistinct same (x ∷ xs) = AllByRecursion (λ y. same x y ≡ false) xs × AreDistinct same xs

-- the ids are the places from n on
abbrev pub AreNumbered : ℕ → List PureArc → Type 0
AreNumbered n [] = Unit {0}
AreNumbered n (a ∷ arcs) = (a.id ≡ n) × AreNumbered (n + 1) arcs

abbrev pub joins_same : PureArc → PureArc → Bool
joins_same a b = a.tail == b.tail && a.head == b.head

abbrev pub stands_same : PureOrigin → PureOrigin → Bool
stands_same o q = o.dest == q.dest && o.node == q.node

-- the rules of a network: names are distinct, no two arcs join one ordered pair of nodes and none a
-- node to itself, no node has two origins of a destination, and all is within its bounds
pub record IsNet (net : PureNet) : Type 0 where
  pub is_alg : IsAlg net.alg
  pub node_room : length net.nodes ≤ max_nodes net.alg.edition
  pub arc_room : length net.arcs ≤ max_arcs
  pub dest_room : length net.dests ≤ max_dests net.alg.edition
  pub node_names : AllByRecursion (λ n. is_name n ≡ true) net.nodes
  pub dest_names : AllByRecursion (λ n. is_name n ≡ true) net.dests
  pub node_apart : AreDistinct (λ m n. bytes_eq m n) net.nodes
  pub dest_apart : AreDistinct (λ m n. bytes_eq m n) net.dests
  pub arcs_in : AllByRecursion (IsArcOf net.alg (length net.nodes)) net.arcs
  pub arc_apart : AreDistinct joins_same net.arcs
  pub arc_ids : AreNumbered 0 net.arcs
  pub origins_in : AllByRecursion (IsOriginOf net.alg (length net.nodes) (length net.dests)) net.origins
  pub origin_apart : AreDistinct stands_same net.origins
