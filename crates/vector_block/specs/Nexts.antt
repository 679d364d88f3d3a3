-- Which delivery is made next.
use Rattle.std.specs.Prelude.{◌≡◌, ℕ, ◌+◌, ◌<◌, ◌≤◌, max, List, Some, IfSome, length, get_or, slice_get}
use Rattle.net_graph.specs.Nets.{PureArc, PureNet, arcs_to}
use Rattle.node_core.specs.declared.node.TheConstants.{MAX_CLOCK}
use Rattle.path_vector.specs.Node.{PureUpdate}
use Rattle.vector_block.specs.declared.look.Hearing.{Hearing}

-- a listener of the report in front hears it yet, if there is one
abbrev pub HasListener : PureNet → List (ℕ × PureUpdate) → ℕ → ℕ → Type 0
HasListener net reports front passed = IfSome (slice_get reports front) (λ (p : ℕ × PureUpdate). passed < length (arcs_to net p.0))

-- the listener of the arc, whose turn it is, hears the report in front, at the clock that it gets by that
pub record IsNext (net : PureNet) (reports : List (ℕ × PureUpdate)) (clocks : List ℕ) (front passed : ℕ) (a : PureArc) (h : Hearing) : Type 0 where
  pub speaker : ℕ
  pub update : PureUpdate
  pub there : slice_get reports front ≡ Some (speaker, update)
  pub turn : slice_get (arcs_to net speaker) passed ≡ Some a
  pub report : h.report.0 ≡ front
  pub dest : h.dest.0 ≡ update.dest
  pub arc : h.arc.0 ≡ a.id
  pub node : h.node.0 ≡ a.tail
  pub by_speaker : h.speaker.0 ≡ speaker
  pub clock : max (get_or clocks a.tail 0) update.stamp + 1 ≤ MAX_CLOCK → h.clock ≡ max (get_or clocks a.tail 0) update.stamp + 1
