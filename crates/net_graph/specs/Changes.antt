-- Changes of a network: what each makes of it, and which it may have.
use Rattle.std.specs.Prelude.{◌≡◌, ℕ, ◌+◌, ◌<◌, ◌≢◌, List, [], ◌∷◌, length, map, filter, take, not, true, false, if◌then◌else◌}
use Rattle.std.specs.List.{list_any}
use Rattle.alg_model.specs.Expressions.{PureLabel}
use Rattle.alg_model.specs.Application.{IsLabel}
use Rattle.alg_model.specs.Bounds.{LabelAtMost, greatest_number}
use Rattle.net_graph.specs.Limits.{max_arcs}
use Rattle.net_graph.specs.Nets.{PureArc, PureNet, is_arc_between, has_arc}
use Rattle.net_graph.specs.Lines.{arcs_with}

pub data PureChange : Type 0 where
  -- tail, head, label: the arc gets this label in its place, or is added as the last one
  link : ℕ → ℕ → PureLabel → PureChange
  -- tail, head: the arc is taken out
  drop : ℕ → ℕ → PureChange

-- the arc, with that label where it goes from the tail to the head
abbrev pub relabelled : ℕ → ℕ → PureLabel → PureArc → PureArc
relabelled tail head l a = if is_arc_between tail head a then record a { label = l } else a

-- the arcs, where the one from the tail to the head has that label
abbrev pub with_label : ℕ → ℕ → PureLabel → List PureArc → List PureArc
with_label tail head l arcs = map (relabelled tail head l) arcs

-- the arcs with the ids from n on
abbrev pub numbered_from : ℕ → List PureArc → List PureArc
numbered_from n [] = []
numbered_from n (a ∷ arcs) = record a { id = n } ∷ numbered_from (n + 1) arcs

-- the arcs but the one from the tail to the head; those after it move up by one
abbrev pub without_arc : ℕ → ℕ → List PureArc → List PureArc
without_arc tail head arcs = numbered_from 0 (filter (λ (a : PureArc). not (is_arc_between tail head a)) arcs)

-- what the change makes of the arcs
abbrev pub changed_arcs : PureChange → List PureArc → List PureArc
changed_arcs (link tail head l) arcs = if list_any (is_arc_between tail head) arcs then with_label tail head l arcs else arcs_with tail head l arcs
changed_arcs (drop tail head) arcs = without_arc tail head arcs

-- what it makes of the network
abbrev pub changed : PureNet → PureChange → PureNet
changed net c = record net { arcs = changed_arcs c net.arcs }

-- the network after these changes, one after another
abbrev pub after_all : PureNet → List PureChange → PureNet
after_all net [] = net
after_all net (c ∷ cs) = after_all (changed net c) cs

-- the network after the first k of the changes
abbrev pub After : PureNet → List PureChange → ℕ → PureNet
After net changes k = after_all net (take k changes)

-- the rules of an arc that gets a label, and is new or not
pub record MayLink (net : PureNet) (tail head : ℕ) (l : PureLabel) : Type 0 where
  pub tail_in : tail < length net.nodes
  pub head_in : head < length net.nodes
  pub apart : tail ≢ head
  pub label_in : IsLabel net.alg.expression l
  pub bound : LabelAtMost (greatest_number net.alg.edition) l
  pub room : has_arc net tail head ≡ false → length net.arcs < max_arcs

-- the network may have the change
abbrev pub MayChange : PureNet → PureChange → Type 0
MayChange net (link tail head l) = MayLink net tail head l
MayChange net (drop tail head) = has_arc net tail head ≡ true

-- each change is one that the network after those before it may have
abbrev pub AreChanges : PureNet → List PureChange → Type 0
AreChanges net [] = Unit {0}
AreChanges net (c ∷ cs) = MayChange net c × AreChanges (changed net c) cs
