use Rattle.std.proofs.Common.{◌-◌, ◌<◌, length}
use Rattle.raml_lex.specs.Sources.{IsCursor}
use Rattle.raml_lex.proofs.Gaps.{GapOver}
use Rattle.raml_lex.proofs.gap.long_gap_end.Given as goal

-- the gap was read up to here
abbrev pub invariant-loop-here : goal.invariant-loop-here
invariant-loop-here l = record {
  cursor : IsCursor l.source l.here;
  over : GapOver l.source l.fn.from.at l.here.at;
  run : l.run < 240;
}

abbrev pub decreases-loop-here : goal.decreases-loop-here
decreases-loop-here l = length l.source - l.here.at
