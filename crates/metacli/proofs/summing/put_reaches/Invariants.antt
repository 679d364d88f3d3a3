use Rattle.std.proofs.Common.{◌-◌, length, map}
use Rattle.std.specs.List.{range_with_len}
use Rattle.net_graph.specs.Views.{pure_row}
use Rattle.report_text.specs.SummaryTexts.{reaches_text}
use Rattle.metacli.specs.Texts.{HasLines}
use Rattle.metacli.proofs.summing.put_reaches.Given as goal

-- the lines of the destinations so far were appended
abbrev pub invariant-loop-dest : goal.invariant-loop-dest
invariant-loop-dest g l =
    let rows = map pure_row l.fn.rows in
    let dests = length l.fn.net.dests in
    HasLines (g.K.Sink.holds l.fn.out) (reaches_text l.fn.net rows (range_with_len 0 dests)) (reaches_text l.fn.net rows (range_with_len l.dest (dests - l.dest))) (g.K.Sink.holds l.out)
