-- A delivery between two rounds of workers, while what waits on an arc stands with its listener.
use Rattle.std.specs.Prelude.{◌≡◌, ℕ, ◌+◌, List, ◌++◌, Some}
use Rattle.net_graph.specs.Nets.{PureNet}
use Rattle.node_core.specs.Kinds.{Kind, listener, on_arc}
use Rattle.quiet_ledger.specs.declared.totals.Totals.{Totals}
use Rattle.weave.specs.Arcs.{KeepsSeats}
use Rattle.weave.specs.Gathered.{block_of}
use Rattle.weave.specs.Lanes.{inside, waits_inside}
use Rattle.weave.specs.Rounds.{IsRound}
use Rattle.weave.specs.Views.{View}

module _ {S M : Type 0} (net : PureNet) (count : ℕ) where
  -- messages were put on arcs, where they wait with the listeners after what waited before
  pub record IsPut (out : List (ℕ × M)) (old new : ℕ → View S M) : Type 0 where
    pub seats : KeepsSeats old new
    pub lane_is : (a i : ℕ) → listener net a ≡ Some i
        → (new (block_of count i)).lane a ≡ inside (waits_inside ((old (block_of count i)).lane a) ++ on_arc a out)

-- one message was taken, and so many were sent: a round of one delivery, with the totals that count it
abbrev pub IsOneRound : {S M : Type 0} → Kind S M → PureNet → ℕ → (ℕ → View S M) → (ℕ → View S M) → ℕ → Type 0
IsOneRound k net count old new sent = (before after : Totals)
    → after.sent ≡ before.sent + sent → after.taken ≡ before.taken + 1 → IsRound k net count 1 old new before after
