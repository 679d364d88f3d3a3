use Rattle.std.proofs.Common.{◌≡◌, [], map, drop}
use Rattle.std.specs.Prelude.{string_bytes}
use Rattle.distance_node.specs.Rows.{pure_hop_row}
use Rattle.metacli.specs.Texts.{HasLines, hop_rows_text}
use Rattle.metacli.proofs.phases.put_hop_rows.Given as goal

-- the lines of the rows so far were appended, and the room is empty
abbrev pub invariant-loop-hop : goal.invariant-loop-hop
invariant-loop-hop g l =
    HasLines (g.K.Sink.holds l.fn.out) (hop_rows_text l.net (map pure_hop_row l.hops)) (hop_rows_text l.net (map pure_hop_row (drop l.hop-index l.hops))) (g.K.Sink.holds l.out)
    × (string_bytes l.room ≡ [])
