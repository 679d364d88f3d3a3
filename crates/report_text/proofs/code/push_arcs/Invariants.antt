use Rattle.std.proofs.Common.{◌≡◌, ◌++◌, drop}
use Rattle.std.specs.Prelude.{string_bytes}
use Rattle.report_text.specs.CodeTexts.{arcs_text}
use Rattle.report_text.proofs.code.push_arcs.Given as goal

-- with the lines of the arcs that are left it has those of all
abbrev pub invariant-loop-arc : goal.invariant-loop-arc
invariant-loop-arc l =
    string_bytes l.out ++ arcs_text l.alg.expression l.net (drop l.arc l.net.arcs) (drop l.arc l.labels)
    ≡ string_bytes l.fn.out ++ arcs_text l.alg.expression l.net l.net.arcs l.labels
