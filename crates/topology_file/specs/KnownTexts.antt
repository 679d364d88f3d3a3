-- Texts that name what stands in a network.
use Rattle.std.specs.Prelude.{◌≡◌, ◌+◌, ℕ, List, Bool, true, nat_le, length, Some, Ok, slice_get}
use Rattle.std.specs.List.{AllByRecursion}
use denote.Ref.{Bor}
use Rattle.meta_base.specs.declared.ids.ArcId.{ArcId}
use Rattle.meta_base.specs.declared.ids.NodeId.{NodeId}
use Rattle.alg_model.specs.Expressions.{PureLabel}
use Rattle.net_graph.specs.Limits.{max_arcs}
use Rattle.net_graph.specs.Lines.{with_arc}
use Rattle.net_graph.specs.Nets.{PureArc, PureNet, number_of}
use Rattle.sig_text.specs.Spelled.{spelled}
use Rattle.topology_file.specs.NetText.{label_in, node_in}
use Rattle.topology_file.specs.TextSpots.{AreNoted}
use Rattle.topology_file.specs.declared.known.KnownTexts.{KnownTexts}

-- the text spells the label of the arc of that number
abbrev pub IsSpelledBy : PureNet → List ℕ → ℕ → Type 0
IsSpelledBy net text arc = (a : PureArc) × (slice_get net.arcs arc ≡ Some a) × (label_in spelled net.alg text ≡ Ok a.label)

-- and so with each of these
abbrev pub AreSpelled : PureNet → List (Bor (List ℕ) × ArcId) → Type 0
AreSpelled net texts = AllByRecursion (λ (t : Bor (List ℕ) × ArcId). IsSpelledBy net t.0.now t.1.0) texts

-- what the texts name is so in the network
pub record Knows (net : PureNet) (known : KnownTexts) : Type 0 where
  pub arcs : AreSpelled net known.arcs.entries
  pub labels : AreNoted (λ text (arc : ArcId). IsSpelledBy net text arc.0) known.labels.spots.items
  pub nodes : AreNoted (λ text (node : NodeId). node_in net text ≡ Ok node.0) known.nodes.spots.items

-- there is room for so many arcs more
abbrev pub has_room_for_arcs : PureNet → ℕ → Bool
has_room_for_arcs net count = nat_le (length net.arcs + count) max_arcs

-- there is room for so many arcs, and the one between these nodes is added with the label that the text spells
abbrev pub IsLinked : PureNet → List ℕ → ℕ → ℕ → ℕ → PureNet → Type 0
IsLinked old text tail head count new =
    (l : PureLabel) × (label_in spelled old.alg text ≡ Ok l) × (has_room_for_arcs old count ≡ true) × (new ≡ with_arc old tail head l)

-- both have the same arcs over the same algebra
abbrev pub HasSameArcs : PureNet → PureNet → Type 0
HasSameArcs old new = (new.alg ≡ old.alg) × (new.arcs ≡ old.arcs)

-- the nodes of the first have the same numbers in the second
abbrev pub KeepsNodes : PureNet → PureNet → Type 0
KeepsNodes old new = (name : List ℕ) (node : ℕ) → number_of old.nodes name ≡ Some node → number_of new.nodes name ≡ Some node
