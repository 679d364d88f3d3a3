use Rattle.std.proofs.Common.{◌∙◌, ap, eqb, map, option_map}
use Rattle.std.specs.List.{find}
use Rattle.meta_base.specs.declared.ids.ArcId.{ArcId}
use Rattle.alg_model.specs.Views.{pure_label}
use Rattle.net_graph.specs.NetParts.{net_of}
use Rattle.net_graph.specs.declared.arcs.KeptArc.{KeptArc}
use Rattle.net_graph.proofs.BetweenLemmas.{between}
use Rattle.net_graph.proofs.net.Net.arc_between.Goals as goal

pub returns : goal.returns
returns c =
    let inside = c.self.inside in
    rw (← c.self.view_is)
    (ap (option_map (λ (id : ArcId). id.0)) (c.id_to.ensures ∙ ap (λ arcs. option_map (λ (a : KeptArc). a.id) (find (λ (a : KeptArc). eqb a.head.0 c.args.head.0) arcs)) c.group_if_any.ensures)
    ∙ between (net_of inside) (map pure_label inside.labels.items) inside.out c.args.tail.0 c.args.head.0 c.self.invariant.known.is_net c.self.invariant.filed.out)
