use Rattle.std.proofs.lemmas.Result.{err_from_is_err_and}
use Rattle.alg_model.specs.Views.{pure_label}
use Rattle.topology_file.specs.KnownTexts.{IsLinked, IsSpelledBy}
use Rattle.topology_file.proofs.SpelledLabels.{last_spelled, like_within, linked_like, room_refused, knows_linked}
use Rattle.topology_file.proofs.lines.add_arc.Goals as goal

pub returns-in_err-check_room-clause-bad : goal.returns-in_err-check_room-clause-bad
returns-in_err-check_room-clause-bad c = λ made.
    let s = c.in-Some.ensures.arc c.args.draft.now c.requires.known in
    let p = err_from_is_err_and c.from_residual.result c.from_residual.ensures.1 in
    rw (p.1, p.2, c.in_err-check_room.ensures.fault) (room_refused c.args.draft.now c.args.text.now c.args.count made s.0.label s.2 c.in_err-check_room.ensures.full)

pub add_arc_like-requires-clause-like : goal.add_arc_like-requires-clause-like
add_arc_like-requires-clause-like c =
    like_within c.args.draft.now c.args.text.now c.in-Some.like.0 (c.in-Some.ensures.arc c.args.draft.now c.requires.known)

pub returns-in-Some-clause-known : goal.returns-in-Some-clause-known
returns-in-Some-clause-known c =
    let linked = linked_like c.args.draft.now c.add_arc_like.new.self c.args.text.now c.args.ends.0.0 c.args.ends.1.0 c.args.count c.in-Some.like.0
    (c.in-Some.ensures.arc c.args.draft.now c.requires.known) c.in_ok-check_room.ensures.room c.in_ok-add_arc_like.ensures.ok in
    knows_linked c.args.draft.now c.add_arc_like.new.self c.args.text.now c.args.ends.0.0 c.args.ends.1.0 c.args.count c.arc_of.new.self linked (c.arc_of.ensures.known c.args.draft.now c.requires.known)

pub returns-in-Some-clause-ok : goal.returns-in-Some-clause-ok
returns-in-Some-clause-ok c =
    linked_like c.args.draft.now c.add_arc_like.new.self c.args.text.now c.args.ends.0.0 c.args.ends.1.0 c.args.count c.in-Some.like.0
    (c.in-Some.ensures.arc c.args.draft.now c.requires.known) c.in_ok-check_room.ensures.room c.in_ok-add_arc_like.ensures.ok

pub returns-in_err-note_arc-clause-known : goal.returns-in_err-note_arc-clause-known
returns-in_err-note_arc-clause-known c =
    let net = c.args.draft.now in
    let new = c.add_arc.new.self in
    let text = c.args.text.now in
    let tail = c.args.ends.0.0 in
    let head = c.args.ends.1.0 in
    let linked : IsLinked net text tail head c.args.count new = (pure_label c.in_ok-label.label, rw (c.alg.ensures, c.text-literal.ensures) at c.in_ok-label.ensures.ok, c.in_ok-check_room-2.ensures.room, c.in_ok-add_arc.ensures.ok) in
    let last : IsSpelledBy new c.text-literal.result.now c.arc_count.result = rw (c.arc_count.ensures.count, c.text-literal.ensures) (last_spelled net new text tail head c.args.count linked) in
    c.note_arc.ensures new (knows_linked net new text tail head c.args.count c.arc_of.new.self linked (c.arc_of.ensures.known c.args.draft.now c.requires.known)) last

pub returns-clause-known : goal.returns-clause-known
returns-clause-known c =
    let net = c.args.draft.now in
    let new = c.add_arc.new.self in
    let text = c.args.text.now in
    let tail = c.args.ends.0.0 in
    let head = c.args.ends.1.0 in
    let linked : IsLinked net text tail head c.args.count new = (pure_label c.in_ok-label.label, rw (c.alg.ensures, c.text-literal.ensures) at c.in_ok-label.ensures.ok, c.in_ok-check_room-2.ensures.room, c.in_ok-add_arc.ensures.ok) in
    let last : IsSpelledBy new c.text-literal.result.now c.arc_count.result = rw (c.arc_count.ensures.count, c.text-literal.ensures) (last_spelled net new text tail head c.args.count linked) in
    c.note_arc.ensures new (knows_linked net new text tail head c.args.count c.arc_of.new.self linked (c.arc_of.ensures.known c.args.draft.now c.requires.known)) last

pub returns-in_err-check_room-clause-known : goal.returns-in_err-check_room-clause-known
returns-in_err-check_room-clause-known c = c.arc_of.ensures.known c.args.draft.now c.requires.known

pub returns-in_err-add_arc_like-clause-known : goal.returns-in_err-add_arc_like-clause-known
returns-in_err-add_arc_like-clause-known c = rw c.in_err-add_arc_like.ensures.err (c.arc_of.ensures.known c.args.draft.now c.requires.known)

pub returns-in_err-label-clause-known : goal.returns-in_err-label-clause-known
returns-in_err-label-clause-known c = c.arc_of.ensures.known c.args.draft.now c.requires.known

pub returns-in_err-check_room-2-clause-known : goal.returns-in_err-check_room-2-clause-known
returns-in_err-check_room-2-clause-known c = c.arc_of.ensures.known c.args.draft.now c.requires.known

pub returns-in_err-add_arc-clause-known : goal.returns-in_err-add_arc-clause-known
returns-in_err-add_arc-clause-known c = rw c.in_err-add_arc.ensures.err (c.arc_of.ensures.known c.args.draft.now c.requires.known)
