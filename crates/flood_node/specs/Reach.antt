-- What a node can come to know: the nodes to which chains of arcs lead from it.
use Rattle.std.specs.Prelude.{◌≡◌, ℕ, zero, suc, ◌*◌, ◌==◌, ◌&&◌, ◌||◌, Bool, true, List, [], ◌∷◌, length, cond}
use Rattle.std.specs.List.{list_any}
use Rattle.net_graph.specs.Nets.{PureArc, PureNet, has_arc, arcs_to}
use Rattle.rest_laws.specs.Ways.{total}

-- an arc leads from i to the first of these nodes and from each to the next, and j is the last
abbrev pub IsChain : PureNet → ℕ → List ℕ → ℕ → Type 0
IsChain net i [] j = i ≡ j
IsChain net i (k ∷ nodes) j = (has_arc net i k ≡ true) × IsChain net k nodes j

-- j is i, or a chain of arcs leads from i to j
abbrev pub Reach : PureNet → ℕ → ℕ → Type 0
Reach net i j = (nodes : List ℕ) × IsChain net i nodes j

-- the same by a chain of at most so many arcs
abbrev pub reaches_by : PureNet → ℕ → ℕ → ℕ → Bool
reaches_by net zero i j = i == j
reaches_by net (suc n) i j = i == j || list_any (λ (a : PureArc). a.tail == i && reaches_by net n a.head j) net.arcs

-- the same by a chain that visits each node once at most
abbrev pub reaches : PureNet → ℕ → ℕ → Bool
reaches net i j = reaches_by net (length net.nodes) i j

-- how many of the network's nodes pass the test
abbrev pub count_nodes : PureNet → (ℕ → Bool) → ℕ
count_nodes net p = total (length net.nodes) (λ j. cond (p j) 1 0)

-- over all nodes, how many nodes each reaches, once for each arc that it speaks on
abbrev pub cards_sent : PureNet → ℕ
cards_sent net = total (length net.nodes) (λ i. count_nodes net (reaches net i) * length (arcs_to net i))
