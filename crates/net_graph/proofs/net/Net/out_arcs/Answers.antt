use Rattle.std.proofs.Common.{List, ◌∙◌, ap, map}
use Rattle.std.proofs.lemmas.List.{length-map}
use Rattle.alg_model.specs.Views.{pure_label}
use Rattle.alg_model.specs.declared.tree.Label.{Label}
use Rattle.net_graph.specs.Kept.{arcs_of, kept_arc}
use Rattle.net_graph.specs.NetParts.{net_of}
use Rattle.net_graph.proofs.FiledLemmas.{arcs_from_within}
use Rattle.net_graph.proofs.net.Net.out_arcs.Goals as goal

pub new-requires : goal.new-requires
new-requires c =
    let inside = c.self.inside in
    rw (c.deref.ensures.value, c.group.ensures) (rw (length-map inside.labels.items pure_label) at c.self.invariant.filed.labelled c.args.node.0)

pub returns-clause-arcs : goal.returns-clause-arcs
returns-clause-arcs c =
    let inside = c.self.inside in
    let labels = ap (λ (labels : List Label). arcs_of labels c.group.result.now) c.deref.ensures.value in
    rw (← c.self.view_is) (c.new.ensures ∙ labels ∙ ap (map (kept_arc (map pure_label inside.labels.items))) c.group.ensures ∙ c.self.invariant.filed.out c.args.node.0)

pub returns-clause-within : goal.returns-clause-within
returns-clause-within c =
    let inside = c.self.inside in
    let labels = ap (λ (labels : List Label). arcs_of labels c.group.result.now) c.deref.ensures.value in
    let arcs = c.new.ensures ∙ labels ∙ ap (map (kept_arc (map pure_label inside.labels.items))) c.group.ensures ∙ c.self.invariant.filed.out c.args.node.0 in
    rw (← c.self.view_is, arcs) (arcs_from_within (net_of inside) c.args.node.0 c.self.invariant.known.is_net)
