use Rattle.std.proofs.Common.{arith}
use Rattle.raml_lex.proofs.Gaps.{over_none}
use Rattle.raml_lex.proofs.gap.long_gap_end.Goals as goal

pub loop-here-init : goal.loop-here-init
loop-here-init c = record { cursor = c.requires; over = over_none c.args.source.now c.args.from.at; run = omega arith }
