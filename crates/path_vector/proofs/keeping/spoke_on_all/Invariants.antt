use Rattle.std.proofs.Common.{◌≡◌, ◌<◌, ℕ, Some, map, slice_get, true}
use Rattle.std.specs.Prelude.{option_map}
use Rattle.meta_base.specs.declared.ids.ArcId.{ArcId}
use Rattle.net_graph.specs.Nets.{PureArc, arcs_to}
use Rattle.path_vector.specs.Updates.{spoken_in}
use Rattle.path_vector.proofs.keeping.spoke_on_all.Given as goal

-- it spoke on the arcs so far
abbrev pub invariant-loop-id : goal.invariant-loop-id
invariant-loop-id l = record {
  ids : map (λ (id : ArcId). id.0) l.id-items ≡ map (λ (a : PureArc). a.id) (arcs_to l.fn.net l.fn.node.0);
  spoke : (k : ℕ) (a : PureArc) → k < l.id-index → slice_get (arcs_to l.fn.net l.fn.node.0) k ≡ Some a → spoken_in (option_map (λ n. n.now) l.fn.before) a.tail a.head ≡ true;
}
