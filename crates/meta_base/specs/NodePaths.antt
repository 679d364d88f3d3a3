-- Paths of a network as lists of node numbers, and which comes first.
use Rattle.std.specs.Prelude.{ℕ, List, [], ◌∷◌, length, map}
use Rattle.std.specs.Ordering.{ordering_then, nat_cmp}
use Rattle.std.specs.declared.cmp.Ordering.{Ordering}
use Rattle.std.specs.declared.cmp.Ordering.TheVariants.{Less, Equal, Greater}
use Rattle.meta_base.specs.declared.ids.NodeId.{NodeId}

-- the numbers of the nodes
abbrev pub numbers : List NodeId → List ℕ
numbers nodes = map (λ (n : NodeId). n.0) nodes

-- paths of one length, by node numbers from the front
abbrev pub compare_nodes : List ℕ → List ℕ → Ordering
compare_nodes [] [] = Equal
compare_nodes [] (j ∷ q) = Less
compare_nodes (i ∷ p) [] = Greater
compare_nodes (i ∷ p) (j ∷ q) = ordering_then (nat_cmp i j) (compare_nodes p q)

-- the shorter path first, then by node numbers
abbrev pub compare_paths : List ℕ → List ℕ → Ordering
compare_paths p q = ordering_then (nat_cmp (length p) (length q)) (compare_nodes p q)
