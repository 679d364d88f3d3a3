use Rattle.std.proofs.Common.{◌∙◌, ap, length, map}
use Rattle.alg_model.specs.Views.{pure_label}
use Rattle.net_graph.specs.Changes.{without_arc}
use Rattle.net_graph.specs.Kept.{kept_arc}
use Rattle.net_graph.proofs.KeptLemmas.{have_without, without_kept}
use Rattle.net_graph.proofs.arcs.Arcs.changed.Goals as goal

pub from_parts-requires : goal.from_parts-requires
from_parts-requires c =
    let parts = c.into_parts-labels.result in
    rw (c.in_ok-arcs-in-Drop.ensures, c.deref.ensures.value) (have_without (length parts.0.items) c.in-Drop.tail.0 c.in-Drop.head.0 parts.1.items c.into_parts-labels.ensures.labels)

pub returns-in_ok-arcs-in-Drop : goal.returns-in_ok-arcs-in-Drop
returns-in_ok-arcs-in-Drop c =
    let parts = c.into_parts-labels.result in
    let labels = map pure_label parts.0.items in
    let made = rw c.deref.ensures.value at c.in_ok-arcs-in-Drop.ensures in
    rw c.in-Drop.is
    (c.from_parts.ensures ∙ ap (map (kept_arc labels)) made ∙ without_kept labels c.in-Drop.tail.0 c.in-Drop.head.0 parts.1.items ∙ ap (without_arc c.in-Drop.tail.0 c.in-Drop.head.0) c.into_parts-labels.ensures.arcs)
