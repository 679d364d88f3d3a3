-- How the rows of nodes are found: nodes that hold the same cards share what is solved for one of them.
use Rattle.std.specs.Prelude.{◌≡◌, ℕ, zero, suc, ◌==◌, ◌<◌, ◌≤◌, Bool, List, [], ◌++◌, Option, Some, None, is_some, option_and_then, length, map, cond, slice_get}
use Rattle.net_graph.specs.Nets.{PureOrigin, PureNet, origin_value}
use Rattle.net_graph.specs.Tables.{PureRow, BestFirst}
use Rattle.flood_node.specs.Cards.{PureCard, PureCardOrigin, card_of}
use Rattle.flood_node.specs.Node.{FloodState, has_card, holds}
use Rattle.flood_node.specs.Reported.{Reported, IsReportedRow}

-- what stands at a place, if anything does
abbrev pub placed_at : {X : Type 0} → List (Option X) → ℕ → Option X
placed_at placed i = option_and_then (λ o. o) (slice_get placed i)

abbrev pub is_placed : {X : Type 0} → List (Option X) → ℕ → Bool
is_placed placed i = is_some (placed_at placed i)

-- the node's true card, where it is among these
abbrev pub card_among : PureNet → List PureCard → ℕ → Option PureCard
card_among net cards i = cond (has_card cards i) (Some (card_of net i)) None

-- what stands at a node's place is its true card
abbrev pub AreTrueAt : {X : Type 0} → (X → PureCard) → PureNet → List (Option X) → Type 0
AreTrueAt {X = X} view net placed = (i : ℕ) (x : X) → placed_at placed i ≡ Some x → view x ≡ card_of net i

-- the origins that a card tells of
abbrev pub origins_on : ℕ → List PureCardOrigin → List PureOrigin
origins_on i origins = map (λ (o : PureCardOrigin). record { node = i; dest = o.dest; value = o.value }) origins

-- those of the nodes below this one that pass the test, by node
abbrev pub reported_origins : PureNet → (ℕ → Bool) → ℕ → List PureOrigin
reported_origins net known zero = []
reported_origins net known (suc i) = reported_origins net known i ++ cond (known i) (origins_on i (card_of net i).origins) []

-- the network of what is known, but for the order of its origins
pub record IsAsReported (net : PureNet) (known : ℕ → Bool) (reported : PureNet) : Type 0 where
  pub but_origins : reported ≡ record (Reported net known) { origins = reported.origins }
  pub origins : (dest i : ℕ) → origin_value reported dest i ≡ origin_value (Reported net known) dest i

-- each node's leader holds the same cards, and is its own leader
pub record AreLeaders (nodes : List FloodState) (leaders : List ℕ) : Type 0 where
  pub count : length leaders ≡ length nodes
  pub each : (i l : ℕ) → slice_get leaders i ≡ Some l → (l ≤ i) × (slice_get leaders l ≡ Some l)
  pub same : (i l : ℕ) (s t : FloodState) → slice_get leaders i ≡ Some l → slice_get nodes i ≡ Some s → slice_get nodes l ≡ Some t
      → (j : ℕ) → holds s j ≡ holds t j

-- the rows for a destination that were found so far: those of the nodes whose leaders are below the bound, at least
pub record AreFound (net : PureNet) (nodes : List FloodState) (leaders : List ℕ) (bound dest : ℕ) (found : List (Option PureRow)) : Type 0 where
  pub count : length found ≡ length nodes
  pub rows : (i : ℕ) (s : FloodState) (row : PureRow) → slice_get nodes i ≡ Some s → slice_get found i ≡ Some (Some row) → IsReportedRow net dest s row
  pub there : (i l : ℕ) → slice_get leaders i ≡ Some l → l < bound → (row : PureRow) × (slice_get found i ≡ Some (Some row))

-- the same for each destination: the bound is the first one for those below the destination, and the second for others
pub record AreAllFound (net : PureNet) (nodes : List FloodState) (leaders : List ℕ) (done bound dest : ℕ) (found : List (List (Option PureRow))) : Type 0 where
  pub count : length found ≡ length net.dests
  pub before : (d : ℕ) (rows : List (Option PureRow)) → slice_get found d ≡ Some rows → d < dest → AreFound net nodes leaders done d rows
  pub after : (d : ℕ) (rows : List (Option PureRow)) → slice_get found d ≡ Some rows → AreFound net nodes leaders bound d rows

-- the rows of the nodes with that leader are those of a table that is made best first on the network, and the other rows
-- are as they were
pub record ArePlacedOn (reported : PureNet) (leaders : List ℕ) (leader dest : ℕ) (old new : List (Option PureRow)) : Type 0 where
  pub table : List PureRow
  pub best_first : BestFirst reported dest table
  pub count : length new ≡ length old
  pub placed : (i l : ℕ) → slice_get leaders i ≡ Some l → placed_at new i ≡ cond (l == leader) (slice_get table i) (placed_at old i)

-- the same for each destination below one; those of the others are as they were
pub record AreAllPlaced (reported : PureNet) (leaders : List ℕ) (leader dest : ℕ) (old new : List (List (Option PureRow))) : Type 0 where
  pub count : length new ≡ length old
  pub done : (d : ℕ) (before after : List (Option PureRow)) → d < dest → slice_get old d ≡ Some before → slice_get new d ≡ Some after → ArePlacedOn reported leaders leader d before after
  pub left : (d : ℕ) → dest ≤ d → slice_get new d ≡ slice_get old d
