use Rattle.std.proofs.Common.{◌<◌, vec_len}
use Rattle.std.specs.List.{AllByRecursion}
use Rattle.arc_labels.proofs.Filling.{AreMade}
use Rattle.arc_labels.proofs.forms.forms_of.Given as goal

-- the forms of the labels of the arcs so far are made, and each number has a place
abbrev pub invariant-loop-arc : goal.invariant-loop-arc
invariant-loop-arc g l = record {
  made : AreMade (g.A.Algebra.stands_for l.algebra) l.net l.numbers l.arc l.forms.items;
  places : AllByRecursion (λ n. n < vec_len l.forms) l.numbers;
}
