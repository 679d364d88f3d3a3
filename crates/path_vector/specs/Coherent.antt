-- What holds in every machine of path-vector nodes, whatever deliveries were made (Griffin and Sobrinho 2005).
use Rattle.std.specs.Prelude.{◌≡◌, ℕ, ◌+◌, ◌<◌, ◌==◌, true, false, List, [], ◌∷◌, Option, Some, None, cond, option_and_then, length, find, slice_get}
use Rattle.std.specs.List.{AllByRecursion}
use Rattle.net_graph.specs.Nets.{PureArc, PureNet, is_arc_between}
use Rattle.net_graph.specs.Routes.{PureRoute}
use Rattle.net_graph.specs.Tables.{PureRow, Reported, IsChoice}
use Rattle.node_core.specs.Machine.{Machine, Deliver}
use Rattle.path_vector.specs.Node.{PvState, PureUpdate, fits, spoke_on, may_be_of, path_vector}

-- what a node heard of each neighbour for a destination
abbrev pub heard_of : PvState → ℕ → Reported
heard_of s dest j = option_and_then (λ (a : PureArc). s.heard a.id dest) (find (is_arc_between s.number j) s.net.arcs)

-- the last that a list of updates says of a destination; what was heard, if it says nothing
abbrev pub last_said : ℕ → Option PureRoute → List PureUpdate → Option PureRoute
last_said dest heard [] = heard
last_said dest heard (u ∷ us) = last_said dest (cond (u.dest == dest) u.route heard) us

-- the machine's nodes are begun, and number i has that state
abbrev pub IsNode : PureNet → Machine PvState PureUpdate → ℕ → PvState → Type 0
IsNode net c i s = (c.node i ≡ Some s) × (s.net ≡ net) × (s.number ≡ i) × (s.is_begun ≡ true)

-- Every message fits its listener, and what was heard of a speaker and what stands in a row may be that node's;
-- each row is its node's choice from what it heard; what a listener knows of a destination, with what is on its
-- way to it, is the speaker's row.
pub record IsCoherent (net : PureNet) (c : Machine PvState PureUpdate) : Type 0 where
  pub nodes : (i : ℕ) → i < length net.nodes → (s : PvState) × IsNode net c i s
  pub inside : (i : ℕ) (s : PvState) → c.node i ≡ Some s → i < length net.nodes
  pub fit : (a : PureArc) (s : PvState) → slice_get net.arcs a.id ≡ Some a → c.node a.tail ≡ Some s
      → AllByRecursion (λ u. fits s a.id u ≡ true) (c.link a.id)
  pub known : (a : PureArc) (s : PvState) (dest : ℕ) (r : PureRoute) → slice_get net.arcs a.id ≡ Some a → c.node a.tail ≡ Some s
      → s.heard a.id dest ≡ Some r → (dest < length net.dests) × (may_be_of net a.head r ≡ true)
  pub routes : (i dest : ℕ) (s : PvState) (r : PureRoute) → c.node i ≡ Some s → s.rows dest ≡ Some r
      → (dest < length net.dests) × (may_be_of net i r ≡ true)
  pub chosen : (i dest : ℕ) (s : PvState) → c.node i ≡ Some s → dest < length net.dests
      → IsChoice net dest (heard_of s dest) i (s.rows dest)
  pub reported : (a : PureArc) (s t : PvState) (dest : ℕ) → slice_get net.arcs a.id ≡ Some a
      → c.node a.tail ≡ Some s → c.node a.head ≡ Some t → last_said dest (s.heard a.id dest) (c.link a.id) ≡ t.rows dest

-- the row of each node for a destination, as a table
abbrev pub AreRowsOf : Machine PvState PureUpdate → ℕ → ℕ → List PureRow → Type 0
AreRowsOf c dest i [] = Unit {0}
AreRowsOf c dest i (row ∷ rows) = ((s : PvState) × (c.node i ≡ Some s) × (row.node ≡ i) × (row.dest ≡ dest) × (row.route ≡ s.rows dest)) × AreRowsOf c dest (i + 1) rows

-- deliveries on these arcs, one after another, whatever clocks they give
abbrev pub deliver_along : PureNet → Machine PvState PureUpdate → List ℕ → Option (Machine PvState PureUpdate)
deliver_along net c [] = Some c
deliver_along net c (a ∷ arcs) = option_and_then (λ d. deliver_along net d arcs) (Deliver path_vector net c a)

-- the nodes of the machine in order, from number i on
abbrev pub AreNodesOf : Machine PvState PureUpdate → ℕ → List PvState → Type 0
AreNodesOf c i [] = Unit {0}
AreNodesOf c i (s ∷ states) = (c.node i ≡ Some s) × AreNodesOf c (i + 1) states

-- A node that may begin has heard on each arc the speaker's row, where the speaker spoke there before, and else
-- nothing; new nodes are such, and so are nodes that are carried from a drained machine.
pub record MayBegin (net : PureNet) (nodes : List PvState) : Type 0 where
  pub count : length nodes ≡ length net.nodes
  pub fresh : (i : ℕ) (s : PvState) → slice_get nodes i ≡ Some s → (s.net ≡ net) × (s.number ≡ i) × (s.is_begun ≡ false)
  pub heard : (a : PureArc) (s t : PvState) (dest : ℕ) → slice_get net.arcs a.id ≡ Some a
      → slice_get nodes a.tail ≡ Some s → slice_get nodes a.head ≡ Some t → s.heard a.id dest ≡ cond (spoke_on t a) (t.rows dest) None
  pub routes : (i dest : ℕ) (s : PvState) (r : PureRoute) → slice_get nodes i ≡ Some s → s.rows dest ≡ Some r
      → (dest < length net.dests) × (may_be_of net i r ≡ true)
