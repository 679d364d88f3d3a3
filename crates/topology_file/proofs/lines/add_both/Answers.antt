use Rattle.std.proofs.Common.{◌≡◌, false, arith}
use Rattle.std.proofs.lemmas.Result.{err_from_is_err_and}
use Rattle.net_graph.specs.Lines.{with_arc}
use Rattle.net_graph.specs.Nets.{has_arc}
use Rattle.topology_file.specs.KnownTexts.{IsSpelledBy}
use Rattle.topology_file.proofs.SpelledLabels.{both_made, both_refused, last_spelled, knows_like}
use Rattle.topology_file.proofs.lines.add_both.Goals as goal

pub returns-in_err-add_arc-clause-bad : goal.returns-in_err-add_arc-clause-bad
returns-in_err-add_arc-clause-bad c =
    let net = c.args.draft.now in
    let tail = c.in_ok-tail.tail.0 in
    let head = c.in_ok-tail.head.0 in
    let absent : has_arc net tail head ≡ false = grind arith in
    let back : has_arc net head tail ≡ false = grind arith in
    let p = err_from_is_err_and c.from_residual-in_err-add_arc.result c.from_residual-in_err-add_arc.ensures.1 in
    rw (p.1, p.2) (both_refused net c.args.line.now.listener c.args.line.now.speaker c.args.line.now.label tail head c.in_err-add_arc.field-0.0 c.in_ok-tail.ensures.nodes absent back
    (c.in_err-add_arc.ensures.bad (λ l. with_arc (with_arc net tail head l) head tail l)))

pub returns-clause-known : goal.returns-clause-known
returns-clause-known c =
    let mid = c.add_arc.new.draft in
    let text = c.args.line.now.label in
    let tail = c.in_ok-tail.tail.0 in
    let head = c.in_ok-tail.head.0 in
    let first : IsSpelledBy mid text c.arc_count.result = rw c.arc_count.ensures.count (last_spelled c.args.draft.now mid text tail head 2 c.in_ok-add_arc.ensures.ok) in
    knows_like mid c.add_arc_like.new.self text head tail c.arc_count.result c.add_arc.new.known first c.in_ok-add_arc_like.ensures.ok c.in_ok-add_arc.ensures.known

pub returns-clause-ok : goal.returns-clause-ok
returns-clause-ok c =
    let net = c.args.draft.now in
    let tail = c.in_ok-tail.tail.0 in
    let head = c.in_ok-tail.head.0 in
    let absent : has_arc net tail head ≡ false = grind arith in
    let back : has_arc net head tail ≡ false = grind arith in
    both_made net c.args.line.now.listener c.args.line.now.speaker c.args.line.now.label tail head c.add_arc.new.draft c.add_arc_like.new.self c.in_ok-tail.ensures.nodes absent back c.in_ok-add_arc.ensures.ok
    (rw c.arc_count.ensures.count at c.in_ok-add_arc_like.ensures.ok)
