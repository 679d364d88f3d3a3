-- Arcs by which a node routes alike: what it hears on them, it takes for the same offers.
use Rattle.std.specs.Prelude.{◌≡◌, ℕ, ◌==◌, ◌&&◌, Bool, true, false, List, Some, length, slice_get}
use Rattle.alg_model.specs.Expressions.{PureLabel, number_label, keep, symbol_label, mark, unmark, need, bar, allow, deny, row_label, pair_label, both_label, first_label, second_label, const_label, outer, inner}
use Rattle.alg_model.specs.Tests.{same_value}
use Rattle.net_graph.specs.Nets.{PureArc}
use Rattle.path_vector.specs.Known.{Listened}

-- the labels are one
abbrev pub same_label : PureLabel → PureLabel → Bool
same_label (number_label m) (number_label n) = m == n
same_label keep keep = true
same_label (symbol_label m) (symbol_label n) = m == n
same_label (mark j) (mark k) = j == k
same_label (unmark j) (unmark k) = j == k
same_label (need j) (need k) = j == k
same_label (bar j) (bar k) = j == k
same_label allow allow = true
same_label deny deny = true
same_label (row_label q) (row_label r) = q == r
same_label (pair_label l m) (pair_label n o) = same_label l n && same_label m o
same_label (both_label l m) (both_label n o) = same_label l n && same_label m o
same_label (first_label l) (first_label n) = same_label l n
same_label (second_label m) (second_label o) = same_label m o
same_label (const_label u) (const_label v) = same_value u v
same_label (outer l u) (outer n v) = same_label l n && same_value u v
same_label (inner m) (inner o) = same_label m o
same_label _ _ = false

-- the arcs have one head and one label
abbrev pub is_alike : PureArc → PureArc → Bool
is_alike a b = a.head == b.head && same_label a.label b.label

-- so have the arcs at each place
pub record AreAlike (arcs others : List PureArc) : Type 0 where
  pub count : length arcs ≡ length others
  pub each : (k : ℕ) (a b : PureArc) → slice_get arcs k ≡ Some a → slice_get others k ≡ Some b → is_alike a b ≡ true

module _ {L S : Type 0} where
  -- the neighbour is as it was, at this arc
  pub record IsRenewed (a : PureArc) (n m : Listened L S) : Type 0 where
    pub arc : m.arc.0 ≡ a.id
    pub label : m.label ≡ n.label
    pub heard : m.heard ≡ n.heard

  -- so is the neighbour at each place
  pub record AreRenewed (arcs : List PureArc) (old new : List (Listened L S)) : Type 0 where
    pub count : length new ≡ length old
    pub each : (k : ℕ) (a : PureArc) (n m : Listened L S) → slice_get arcs k ≡ Some a → slice_get old k ≡ Some n → slice_get new k ≡ Some m → IsRenewed a n m
