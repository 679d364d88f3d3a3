-- Arcs as a network keeps them, with the list of its labels.
use Rattle.std.specs.Prelude.{◌<◌, ◌+◌, ℕ, List, [], ◌∷◌, Bool, ◌==◌, ◌&&◌, not, map, filter, slice_index_or, if◌then◌else◌}
use Rattle.std.specs.List.{AllByRecursion}
use Rattle.alg_model.specs.Expressions.{PureLabel, keep}
use Rattle.alg_model.specs.Views.{pure_label}
use Rattle.alg_model.specs.declared.tree.Label.{Label}
use Rattle.net_graph.specs.declared.arcs.KeptArc.{KeptArc}
use Rattle.net_graph.specs.declared.arcs.LabelId.{LabelId}
use Rattle.net_graph.specs.Nets.{PureArc}

-- an arc whose label stands in this list; past the end of the list no arc has its label
abbrev pub kept_arc : List PureLabel → KeptArc → PureArc
kept_arc labels a = record { id = a.id.0; tail = a.tail.0; head = a.head.0; label = slice_index_or labels a.label.0 keep }

abbrev pub arcs_of : List Label → List KeptArc → List PureArc
arcs_of labels arcs = map (kept_arc (map pure_label labels)) arcs

-- the labels of these arcs stand in a list of so many
abbrev pub HaveLabels : ℕ → List KeptArc → Type 0
HaveLabels count arcs = AllByRecursion (λ (a : KeptArc). a.label.0 < count) arcs

abbrev pub is_kept_between : ℕ → ℕ → KeptArc → Bool
is_kept_between tail head a = a.tail.0 == tail && a.head.0 == head

-- the arc, with the label at that place where it goes from the tail to the head
abbrev pub kept_with : ℕ → ℕ → LabelId → KeptArc → KeptArc
kept_with tail head label a = if is_kept_between tail head a then record a { label = label } else a

-- the arcs with the ids from n on
abbrev pub kept_from : ℕ → List KeptArc → List KeptArc
kept_from n [] = []
kept_from n (a ∷ arcs) = record a { id = record { 0 = n } } ∷ kept_from (n + 1) arcs

-- the arcs but the one from the tail to the head; those after it move up by one
abbrev pub kept_without : ℕ → ℕ → List KeptArc → List KeptArc
kept_without tail head arcs = kept_from 0 (filter (λ (a : KeptArc). not (is_kept_between tail head a)) arcs)
