use Rattle.std.proofs.Common.{◌≡◌, ◌∙◌, ap, sym, length, map, true, false}
use Rattle.std.proofs.lemmas.List.{length_push}
use Rattle.std.specs.List.{list_any}
use Rattle.alg_model.specs.Views.{pure_label}
use Rattle.net_graph.specs.Changes.{with_label}
use Rattle.net_graph.specs.Nets.{is_arc_between}
use Rattle.net_graph.proofs.KeptLemmas.{any_kept, have_relabelled, relabelled_kept}
use Rattle.net_graph.proofs.arcs.Arcs.linked.Goals as goal

pub returns-then-not-are_joined : goal.returns-then-not-are_joined
returns-then-not-are_joined c =
    let inside = c.self.inside in
    let apart = rw c.deref.ensures.value at (sym c.if-not-are_joined.ensures) in
    let absent : list_any (is_arc_between c.args.tail.0 c.args.head.0) c.args.self ≡ false = rw (← c.self.view_is) (any_kept (map pure_label inside.labels.items) c.args.tail.0 c.args.head.0 inside.arcs.items ∙ apart) in
    rw absent c.in_ok-push.ensures.ok

pub from_parts-requires : goal.from_parts-requires
from_parts-requires c =
    let parts = c.into_parts-labels.result in
    let number = c.in_ok-next_label.ensures ∙ ap length c.deref-3.ensures.value in
    rw (c.in_ok-push-2.ensures.items, c.in_ok-arcs.ensures, c.deref-2.ensures.value, length_push parts.0.items c.args.label, ← number)
    (have_relabelled c.args.tail.0 c.args.head.0 c.in_ok-next_label.field-0 parts.1.items (rw number c.into_parts-labels.ensures.labels))

pub returns : goal.returns
returns c =
    let inside = c.self.inside in
    let parts = c.into_parts-labels.result in
    let joined = rw c.deref.ensures.value at (sym c.if-not-are_joined.ensures) in
    let there : list_any (is_arc_between c.args.tail.0 c.args.head.0) c.args.self ≡ true = rw (← c.self.view_is) (any_kept (map pure_label inside.labels.items) c.args.tail.0 c.args.head.0 inside.arcs.items ∙ joined) in
    let number = c.in_ok-next_label.ensures ∙ ap length c.deref-3.ensures.value in
    let made = rw (c.in_ok-push-2.ensures.items, c.in_ok-arcs.ensures, c.deref-2.ensures.value) at c.from_parts.ensures in
    rw there
    (made ∙ relabelled_kept parts.0.items c.args.label c.args.tail.0 c.args.head.0 c.in_ok-next_label.field-0 parts.1.items c.into_parts-labels.ensures.labels number
    ∙ ap (with_label c.args.tail.0 c.args.head.0 (pure_label c.args.label)) c.into_parts-labels.ensures.arcs)
