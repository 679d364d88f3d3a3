use Rattle.std.proofs.Common.{ap, ◌∙◌}
use Rattle.net_graph.specs.Groups.{items_at}
use Rattle.net_graph.specs.Changes.{changed}
use Rattle.net_graph.specs.Kept.{arcs_of}
use Rattle.net_graph.specs.Views.{pure_change}
use Rattle.net_graph.proofs.CopyLemmas.{changed_draft, changed_parts}
use Rattle.net_graph.proofs.net.Net.changed.Goals as goal

pub from_parts-requires : goal.from_parts-requires
from_parts-requires c =
    let inside = c.self.inside in
    let arcs = rw (c.in_ok-copy_arcs.ensures.arcs, ← c.self.view_is) at c.in_ok-arcs.ensures in
    let origins = rw (← c.self.view_is) at c.in_ok-origins.ensures in
    let may = rw (← c.self.view_is) at c.requires in
    let known = c.in_ok-known.ensures in
    changed_draft inside.known c.in_ok-known.known (arcs_of inside.labels.items (items_at inside.out inside.arc_spots.items)) c.in_ok-arcs.arcs (items_at inside.homes inside.origin_spots.items) c.in_ok-origins.origins.items
    (pure_change c.args.change.now) c.self.invariant.known may arcs origins known

pub returns : goal.returns
returns c =
    let inside = c.self.inside in
    let arcs = rw (c.in_ok-copy_arcs.ensures.arcs, ← c.self.view_is) at c.in_ok-arcs.ensures in
    let origins = rw (← c.self.view_is) at c.in_ok-origins.ensures in
    let known = c.in_ok-known.ensures in
    let parts = changed_parts inside.known c.in_ok-known.known (arcs_of inside.labels.items (items_at inside.out inside.arc_spots.items)) c.in_ok-arcs.arcs (items_at inside.homes inside.origin_spots.items) c.in_ok-origins.origins.items
    (pure_change c.args.change.now) arcs origins known in
    let whole = c.from_parts.ensures ∙ parts ∙ ap (λ net. changed net (pure_change c.args.change.now)) c.self.view_is in
    rw (← whole) c.finish.ensures
