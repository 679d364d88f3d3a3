-- What holds in every machine of distance-vector nodes, whatever deliveries were made.
use Rattle.std.specs.Prelude.{◌≡◌, ℕ, ◌*◌, ◌^◌, ◌<◌, ◌==◌, true, List, [], ◌∷◌, Option, Some, cond, length}
use Rattle.std.specs.List.{AllByRecursion}
use Rattle.alg_model.specs.Expressions.{PureValue}
use Rattle.alg_model.specs.Carriers.{In}
use Rattle.alg_model.specs.Bounds.{AtMost}
use Rattle.net_graph.specs.Nets.{PureNet}
use Rattle.net_graph.specs.Tables.{carrier}
use Rattle.node_core.specs.Kinds.{listener, speaker}
use Rattle.node_core.specs.Machine.{Machine}
use Rattle.node_core.specs.Running.{IsRunning}
use Rattle.distance_node.specs.Node.{DvState, PureVector, value_of, choice, fits_in, distance}

-- the last that messages say of a destination; what was heard before, if they say nothing
abbrev pub last_reported : ℕ → Option PureValue → List PureVector → Option PureValue
last_reported dest heard [] = heard
last_reported dest heard (m ∷ ms) = last_reported dest (cond (m.dest == dest) m.value heard) ms

-- the value may have been heard by a node before this clock
pub record IsHeard (net : PureNet) (dest clock : ℕ) (v : PureValue) : Type 0 where
  pub dest_in : dest < length net.dests
  pub value_in : In (carrier net) v
  pub small : AtMost (clock * 2 ^ 64) v

-- Every message fits, and what a node heard was sent before its clock; each row is its node's choice from what it heard;
-- what a listener heard of a destination, with what is on its way to it, is the value of the speaker's row.
pub record IsCoherent (net : PureNet) (c : Machine DvState PureVector) : Type 0 where
  pub running : IsRunning distance net c
  pub fit : (a : ℕ) → AllByRecursion (λ m. fits_in net m ≡ true) (c.link a)
  pub known : (i a dest : ℕ) (s : DvState) (v : PureValue) → c.node i ≡ Some s → s.heard a dest ≡ Some v
      → IsHeard net dest (c.clock i) v
  pub chosen : (i dest : ℕ) (s : DvState) → c.node i ≡ Some s → s.rows dest ≡ choice net dest i (λ a. s.heard a dest)
  pub reported : (a i j dest : ℕ) (s t : DvState) → listener net a ≡ Some i → speaker net a ≡ Some j → c.node i ≡ Some s
      → c.node j ≡ Some t → last_reported dest (s.heard a dest) (c.link a) ≡ value_of (t.rows dest)
