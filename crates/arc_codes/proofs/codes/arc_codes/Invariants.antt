use Rattle.std.proofs.Common.{◌≡◌, ◌<◌, map, take, vec_len}
use Rattle.std.specs.List.{AllByRecursion}
use Rattle.code_gen.specs.Compilation.{CompileLabel}
use Rattle.arc_codes.specs.ArcLabels.{labels_of}
use Rattle.arc_codes.proofs.codes.arc_codes.Given as goal

-- the codes so far are those of the labels of the arcs so far, and each number has a place
abbrev pub invariant-loop-place : goal.invariant-loop-place
invariant-loop-place l = record {
  codes : l.codes ≡ map (CompileLabel l.net.alg.expression) (take l.place (labels_of l.net));
  places : AllByRecursion (λ n. n < vec_len l.latest) l.numbers;
}
