use Rattle.std.proofs.Common.{◌∙◌, ap, length}
use Rattle.net_graph.proofs.KeptLemmas.{pushed}
use Rattle.net_graph.proofs.arcs.Arcs.push.Goals as goal

pub returns-clause-ok : goal.returns-clause-ok
returns-clause-ok c =
    let inside = c.self.inside in
    let number = c.in_ok-next_label.ensures ∙ ap length c.deref.ensures.value in
    let more = rw c.unwrap.ensures at c.push-2.ensures.items in
    rw (more, c.in_ok-reserve.ensures.items, c.in_ok-push.ensures.items, ← c.self.view_is)
    (pushed inside.labels.items c.args.label inside.arcs.items (record { id = record { 0 = c.len.result }; tail = c.args.tail; head = c.args.head; label = c.in_ok-next_label.field-0 })
    c.self.invariant number (c.len.ensures ∙ inside.arcs.ok.0))
