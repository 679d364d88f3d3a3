use Rattle.std.proofs.Common.{◌≡◌, [], map, drop}
use Rattle.std.specs.Prelude.{string_bytes}
use Rattle.report_check.specs.Views.{pure_hops}
use Rattle.metacli.specs.Texts.{HasLines, many_text}
use Rattle.metacli.proofs.writing.put_hops.Given as goal

-- the lines of the rows so far were appended, and the room is empty
abbrev pub invariant-loop-hops : goal.invariant-loop-hops
invariant-loop-hops g l =
    HasLines (g.K.Sink.holds l.fn.out) (many_text l.net (map pure_hops l.many)) (many_text l.net (map pure_hops (drop l.hops-index l.many))) (g.K.Sink.holds l.out)
    × (string_bytes l.room ≡ [])
