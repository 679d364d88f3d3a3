-- Which nodes are joined by an arc, as the sets of the heads of each tail.
use Rattle.std.specs.Prelude.{◌≡◌, ℕ, List, Bool}
use Rattle.std.specs.List.{list_any}
use Rattle.number_sets.specs.NumberSets.{has_number}
use Rattle.net_graph.specs.Groups.{group_at}
use Rattle.net_graph.specs.Nets.{PureArc, is_arc_between}

-- the tail is joined to the head
abbrev pub is_joined : List (List ℕ) → ℕ → ℕ → Bool
is_joined joins tail head = has_number (group_at joins tail) head

-- nodes are joined exactly where one of the arcs goes from the one to the other
abbrev pub AreJoinedBy : List (List ℕ) → List PureArc → Type 0
AreJoinedBy joins arcs = (tail head : ℕ) → is_joined joins tail head ≡ list_any (is_arc_between tail head) arcs
