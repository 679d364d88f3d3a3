-- What the nodes of a network took and sent, each by itself, in whatever order of all.
use Rattle.std.specs.Prelude.{◌≡◌, ℕ, ◌<◌, ◌≤◌, ◌==◌, false, Bool, List, [], ◌++◌, Some, None, length, map, filter}
use Rattle.std.specs.Option.{option_map_or}
use Rattle.std.specs.List.{AllByRecursion}
use Rattle.meta_base.specs.declared.ids.Delivery.{Delivery}
use Rattle.net_graph.specs.Nets.{PureNet}
use Rattle.node_core.specs.Kinds.{Kind, listener, speaker, on_arc}
use Rattle.node_core.specs.Machine.{Machine}
use Rattle.woven_laws.specs.Histories.{Taken, entry_of, taken_on, clock_past, IsTimed, option_after, option_out}

-- From machine c each node took what its history says, on arcs on which it listens, and put out what its steps made,
-- on arcs on which it speaks; the machine is then d. On each arc, what waited and was then put there is what was
-- taken there and what waits.
pub record Woven {S M : Type 0} (k : Kind S M) (net : PureNet) (c : Machine S M) (history : ℕ → List (Taken M)) (d : Machine S M) : Type 0 where
  pub node_is : (i : ℕ) → d.node i ≡ option_after k (c.node i) (history i)
  pub none_takes : (i : ℕ) → c.node i ≡ None → history i ≡ []
  pub clock_is : (i : ℕ) → d.clock i ≡ clock_past (c.clock i) (history i)
  pub timed : (i : ℕ) → IsTimed k (c.clock i) (history i)
  pub heard : (i : ℕ) → AllByRecursion (λ h. listener net h.arc ≡ Some i) (history i)
  pub spoken : (i : ℕ) → AllByRecursion (λ p. speaker net p.0 ≡ Some i) (option_out k (c.node i) (history i))
  pub link_is : (a i j : ℕ) → listener net a ≡ Some i → speaker net a ≡ Some j
      → c.link a ++ on_arc a (option_out k (c.node j) (history j)) ≡ taken_on a (history i) ++ d.link a
  pub outside : (a : ℕ) → length net.arcs ≤ a → c.link a ≡ d.link a

-- the node listens on the entry's arc
abbrev pub hears : PureNet → ℕ → Delivery → Bool
hears net i e = option_map_or (λ j. j == i) (listener net e.arc.0) false

-- the journal has the entries of each node's history, in its order, and no others
pub record IsMergeOf {M : Type 0} (net : PureNet) (history : ℕ → List (Taken M)) (journal : List Delivery) : Type 0 where
  pub on_arcs : AllByRecursion (λ (e : Delivery). e.arc.0 < length net.arcs) journal
  pub each : (i : ℕ) → filter (hears net i) journal ≡ map entry_of (history i)
