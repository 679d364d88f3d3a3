-- How far a phase has come, and how it ends, whoever makes its deliveries.
use Rattle.std.specs.Prelude.{◌≡◌, ℕ, ◌+◌, ◌≤◌, ◌⊎◌, List, length, map, slice_get}
use Rattle.std.specs.List.{range_with_len}
use Rattle.meta_base.specs.declared.ids.Delivery.{Delivery}
use Rattle.net_graph.specs.Nets.{PureNet}
use Rattle.node_core.specs.Kinds.{Kind}
use Rattle.node_core.specs.Machine.{Machine}
use Rattle.node_core.specs.Running.{IsRunning}
use Rattle.quiet_ledger.specs.declared.totals.Totals.{Totals}
use Rattle.journal_merge.specs.declared.log.NodeLog.{NodeLog}
use Rattle.woven_laws.specs.Histories.{Taken, entry_of}
use Rattle.woven_laws.specs.Woven.{Woven}
use Rattle.woven_laws.specs.Counts.{sent_by_all, taken_by_all, waiting_on}

-- nothing is on its way, or all turns are used up
abbrev pub IsOver : ℕ → Totals → Type 0
IsOver turns totals = (totals.sent ≡ totals.taken) ⊎ (totals.taken ≡ turns)

-- the logs of the first n nodes, in order, by what each of them took
abbrev pub logs_by : (ℕ → List Delivery) → ℕ → List NodeLog
logs_by log n = map (λ i. record { node = record { 0 = i }; entries = log i }) (range_with_len 0 n)

module _ {S M : Type 0} (k : Kind S M) (net : PureNet) (turns : ℕ) (c : Machine S M) where
  -- From machine c the deliveries so far led to machine d: each node took and logged what its history says, no more was
  -- taken than there are turns, and the totals count what waited at first and all that was sent and taken.
  pub record HasGone (d : Machine S M) (log : ℕ → List Delivery) (totals : Totals) : Type 0 where
    pub history : ℕ → List (Taken M)
    pub woven : Woven k net c history d
    pub running : IsRunning k net d
    pub log_is : (i : ℕ) → log i ≡ map entry_of (history i)
    pub sent : totals.sent ≡ waiting_on net c + sent_by_all k net c.node history
    pub taken : totals.taken ≡ taken_by_all net history
    pub few : totals.taken ≤ turns

  -- it is over, and these are the nodes and their logs, in the order of the network
  pub record HasEnded (ended : List S) (logs : List NodeLog) (totals : Totals) : Type 0 where
    pub end : Machine S M
    pub log : ℕ → List Delivery
    pub gone : HasGone end log totals
    pub nodes_are : (i : ℕ) → end.node i ≡ slice_get ended i
    pub logs_are : logs ≡ logs_by log (length net.nodes)
    pub over : IsOver turns totals
