use Rattle.std.proofs.Common.{◌≡◌, map, take}
use Rattle.alg_model.specs.Views.{pure_label}
use Rattle.net_graph.proofs.arcs.copy_labels.Given as goal

-- the labels so far were copied
abbrev pub invariant-loop-label : goal.invariant-loop-label
invariant-loop-label l = map pure_label l.copied.items ≡ map pure_label (take l.label-index l.labels)
