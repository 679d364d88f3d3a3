use Rattle.std.proofs.lemmas.Result.{err_from_is_err_and}
use Rattle.alg_model.specs.Views.{pure_label}
use Rattle.topology_file.specs.Views.{file_with}
use Rattle.topology_file.proofs.Steps.{link_refused, link_full, link_made, may_link}
use Rattle.topology_file.proofs.draft.FileDraft.add_then_link.Goals as goal

pub returns-in_err-label-clause-bad : goal.returns-in_err-label-clause-bad
returns-in_err-label-clause-bad c =
    let p = err_from_is_err_and c.from_residual-in_err-label.result c.from_residual-in_err-label.ensures.1 in
    rw (p.1, p.2, ← c.self.view_is) (link_refused (file_with c.self.inside.draft c.self.inside.changes) c.args.listener.now c.args.speaker.now c.args.label.now c.in_ok-tail.tail.0 c.in_ok-tail.head.0 c.in_err-label.field-0.0
    c.in_ok-tail.ensures.nodes (rw c.alg.ensures at c.in_err-label.ensures.bad))

pub returns-in_err-arc_count-clause-bad : goal.returns-in_err-arc_count-clause-bad
returns-in_err-arc_count-clause-bad c =
    let p = err_from_is_err_and c.from_residual-in_err-arc_count.result c.from_residual-in_err-arc_count.ensures.1 in
    let full = rw (← c.self.view_is) at c.in_err-arc_count.ensures.full in
    rw (p.1, p.2, c.in_err-arc_count.ensures.fault, ← c.self.view_is) (link_full (file_with c.self.inside.draft c.self.inside.changes) c.args.listener.now c.args.speaker.now c.args.label.now c.in_ok-tail.tail.0 c.in_ok-tail.head.0 (pure_label c.in_ok-label.label)
    c.in_ok-tail.ensures.nodes (rw c.alg.ensures at c.in_ok-label.ensures.ok) full)

pub add_change-requires-clause-may : goal.add_change-requires-clause-may
add_change-requires-clause-may c =
    rw (← c.self.view_is) (may_link (file_with c.self.inside.draft c.self.inside.changes) c.in_ok-tail.tail.0 c.in_ok-tail.head.0 (pure_label c.in_ok-label.label)
    c.in_ok-tail.ensures.ends (rw c.alg.ensures at c.in_ok-label.ensures.is_label) (rw c.alg.ensures at c.in_ok-label.ensures.bound) (rw (← c.self.view_is) at c.in_ok-arc_count.ensures.room))

pub returns-clause-bad : goal.returns-clause-bad
returns-clause-bad c =
    let made = link_made (file_with c.self.inside.draft c.self.inside.changes) c.args.listener.now c.args.speaker.now c.args.label.now c.in_ok-tail.tail.0 c.in_ok-tail.head.0 (pure_label c.in_ok-label.label)
    c.in_ok-tail.ensures.nodes (rw c.alg.ensures at c.in_ok-label.ensures.ok) (rw (← c.self.view_is) at c.in_ok-arc_count.ensures.room) in
    rw (← c.self.view_is, made) (rw (← c.self.view_is) at c.add_change.ensures.bad)
