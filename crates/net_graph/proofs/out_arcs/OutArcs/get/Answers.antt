use Rattle.std.proofs.Common.{map}
use Rattle.std.proofs.lemmas.List.{length-map}
use Rattle.alg_model.specs.Views.{pure_label}
use Rattle.net_graph.specs.Kept.{kept_arc}
use Rattle.net_graph.proofs.out_arcs.OutArcs.get.Goals as goal

pub arc_at-requires-clause-place : goal.arc_at-requires-clause-place
arc_at-requires-clause-place c =
    let inside = c.self.inside in
    rw (length-map inside.arcs.now (kept_arc (map pure_label inside.labels.now))) at (rw (← c.self.view_is) at c.requires)
