use Rattle.std.proofs.Common.{◌∙◌, map}
use Rattle.alg_model.specs.Views.{pure_label}
use Rattle.net_graph.proofs.FiledLemmas.{arcs_counted}
use Rattle.net_graph.proofs.net.Net.arc_count.Goals as goal

pub returns-clause-count : goal.returns-clause-count
returns-clause-count c = rw (← c.self.view_is) (c.len.ensures ∙ c.self.inside.arc_spots.ok.0 ∙ arcs_counted (map pure_label c.self.inside.labels.items) c.self.inside.out c.self.inside.arc_spots.items c.self.invariant.filed.arc_spots)
