use Rattle.std.proofs.Common.{◌≡◌, drop}
use Rattle.metacli.specs.Texts.{HasLines, journal_text}
use Rattle.trace_lines.specs.DeliveryLines.{net_of}
use Rattle.metacli.proofs.phases.put_deliveries.Given as goal

-- the lines of the deliveries so far were appended, and those to come are of the same network
abbrev pub invariant-loop-delivery : goal.invariant-loop-delivery
invariant-loop-delivery g l =
    HasLines (g.K.Sink.holds l.fn.out) (journal_text l.net l.journal) (journal_text l.net (drop l.delivery-index l.journal)) (g.K.Sink.holds l.out)
    × (net_of l.lines ≡ l.net)
