-- What a node is sent on an arc, and what it heard then.
use Rattle.std.specs.Prelude.{◌≡◌, ℕ, ◌*◌, ◌^◌, ◌<◌, ◌≤◌, List, Option, Some, IfSome, length, option_map, slice_get}
use Rattle.alg_model.specs.Bounds.{AtMost}
use Rattle.alg_model.specs.Expressions.{PureValue}
use Rattle.net_graph.specs.Nets.{PureArc, PureNet, arcs_from}
use Rattle.node_core.specs.declared.node.TheConstants.{MAX_CLOCK}
use Rattle.distance_node.specs.declared.site.Arrival.{Arrival}
use Rattle.distance_node.specs.Node.{heard_with}
use Rattle.distance_node.specs.Places.{heard_by}

-- the arc stands at its place among the node's arcs, the destination is the network's, and the value was sent before the
-- clock
pub record IsArrival {S : Type 0} (is_sig : S → Type 0) (value : S → PureValue) (net : PureNet) (i : ℕ) (t : Arrival S) : Type 0 where
  pub from : PureArc
  pub there : slice_get (arcs_from net i) t.place ≡ Some from
  pub number : from.id ≡ t.arc.0
  pub dest_in : t.dest.0 < length net.dests
  pub reported : IfSome t.value.now (λ s. is_sig s × AtMost (t.clock * 2 ^ 64) (value s))
  pub early : t.clock ≤ MAX_CLOCK

-- what was heard on each arc of the destination, with what is sent
abbrev pub heard_reported : {S : Type 0} → (S → PureValue) → PureNet → ℕ → List (Option S) → Arrival S → ℕ → Option PureValue
heard_reported value net i heard t a = heard_with (heard_by value net i heard) t.arc.0 t.dest.0 (option_map value t.value.now) a t.dest.0
