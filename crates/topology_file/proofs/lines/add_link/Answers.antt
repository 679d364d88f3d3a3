use Rattle.std.proofs.Common.{◌≡◌, false, arith}
use Rattle.std.proofs.lemmas.Result.{MatchResult-weaker}
use Rattle.net_graph.specs.Lines.{with_arc}
use Rattle.net_graph.specs.Nets.{has_arc}
use Rattle.topology_file.proofs.SpelledLabels.{link_refused}
use Rattle.topology_file.proofs.lines.add_link.Goals as goal

pub returns-clause-bad : goal.returns-clause-bad
returns-clause-bad c =
    let net = c.args.draft.now in
    let tail = c.in_ok-tail.tail.0 in
    let head = c.in_ok-tail.head.0 in
    let absent : has_arc net tail head ≡ false = grind arith in
    MatchResult-weaker c.add_arc.result (c.add_arc.ensures.bad (λ l. with_arc net tail head l)) (λ x p. p)
    (λ e r. link_refused net c.args.line.now.listener c.args.line.now.speaker c.args.line.now.label tail head e c.in_ok-tail.ensures.nodes absent r)
