-- How many messages wait, were put out and were taken.
use Rattle.std.specs.Prelude.{ℕ, zero, suc, ◌+◌, List, Option, length}
use Rattle.net_graph.specs.Nets.{PureNet}
use Rattle.node_core.specs.Kinds.{Kind}
use Rattle.node_core.specs.Machine.{Machine}
use Rattle.woven_laws.specs.Histories.{Taken, option_out}

-- the sum of f below n
abbrev pub total : ℕ → (ℕ → ℕ) → ℕ
total zero f = 0
total (suc n) f = total n f + f n

-- how many messages the nodes took
abbrev pub taken_by_all : {M : Type 0} → PureNet → (ℕ → List (Taken M)) → ℕ
taken_by_all net history = total (length net.nodes) (λ i. length (history i))

module _ {S M : Type 0} where
  -- how many messages wait on the network's arcs
  abbrev pub waiting_on : PureNet → Machine S M → ℕ
  waiting_on net c = total (length net.arcs) (λ a. length (c.link a))

  -- how many messages the nodes put out
  abbrev pub sent_by_all : Kind S M → PureNet → (ℕ → Option S) → (ℕ → List (Taken M)) → ℕ
  sent_by_all k net node history = total (length net.nodes) (λ i. length (option_out k (node i) (history i)))
