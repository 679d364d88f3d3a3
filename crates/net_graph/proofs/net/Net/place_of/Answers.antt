use Rattle.std.proofs.Common.{◌≡◌, refl, arith, map, Option, Some, None}
use Rattle.alg_model.specs.Views.{pure_label}
use Rattle.std.specs.Prelude.{slice_get, IfSome}
use Rattle.net_graph.specs.Nets.{PureArc, arcs_from}
use Rattle.net_graph.specs.NetParts.{net_of}
use Rattle.net_graph.proofs.FiledLemmas.{arcs_counted, arc_place}
use Rattle.net_graph.proofs.net.Net.place_of.Goals as goal

pub index-requires : goal.index-requires
index-requires c =
    let count = arcs_counted (map pure_label c.self.inside.labels.items) c.self.inside.out c.self.inside.arc_spots.items c.self.invariant.filed.arc_spots in
    let within = rw (← c.self.view_is) at c.requires in
    omega (arith, count, within, c.self.inside.arc_spots.ok.0)

pub returns : goal.returns
returns c =
    let net = net_of c.self.inside in
    let count = arcs_counted (map pure_label c.self.inside.labels.items) c.self.inside.out c.self.inside.arc_spots.items c.self.invariant.filed.arc_spots in
    let within = rw (← c.self.view_is, ← count) at c.requires in
    rw (← c.self.view_is) (by (slice_get net.arcs c.args.id.0) (λ a e. arc_place net (map pure_label c.self.inside.labels.items) c.self.inside.out c.self.inside.arc_spots.items c.args.id.0 c.index.result.now a c.self.invariant.filed.out c.self.invariant.filed.arc_spots within c.index.ensures e))
  where
    by : (o : Option PureArc) → ((a : PureArc) → o ≡ Some a → slice_get (arcs_from (net_of c.self.inside) a.tail) c.index.result.now.place ≡ Some a) → IfSome o (λ a. slice_get (arcs_from (net_of c.self.inside) a.tail) c.index.result.now.place ≡ Some a)
    by None f = tt
    by (Some a) f = f a refl
