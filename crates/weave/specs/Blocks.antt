-- A block and a worker's part, as contracts see them.
use Rattle.std.specs.Prelude.{◌≡◌, false, ℕ, ◌+◌, ◌*◌, ◌≤◌, List, [], Option, Some, None, option_map, slice_get}
use Rattle.meta_base.specs.declared.ids.Delivery.{Delivery}
use Rattle.net_graph.specs.Nets.{PureNet}
use Rattle.node_core.specs.Kinds.{Kind}
use Rattle.quiet_ledger.specs.Ledger.{sent_by, taken_by}
use Rattle.quiet_ledger.specs.Numbers.{max_share}
use Rattle.net_graph.specs.Limits.{max_arcs}
use Rattle.woven_laws.specs.Histories.{Taken}
use Rattle.woven_laws.specs.Counts.{sent_by_all, taken_by_all}
use Rattle.weave.specs.declared.lane.Lane.{Lane}
use Rattle.weave.specs.declared.seat.Seat.{Seat}
use Rattle.weave.specs.declared.block.Block.{Block}
use Rattle.weave.specs.declared.part.Part.{Part}
use Rattle.weave.specs.Lanes.{lane_in, noted_lane}
use Rattle.weave.specs.Views.{View, AreSeated, HasRun}

-- an option of an option, as one
abbrev pub flat : {X : Type 0} → Option (Option X) → Option X
flat None = None
flat (Some o) = o

module _ {N X : Type 0} where
  abbrev pub clock_in : Option (Seat N X) → ℕ
  clock_in None = 0
  clock_in (Some seat) = seat.clock

  abbrev pub log_in : Option (Seat N X) → List Delivery
  log_in None = []
  log_in (Some seat) = seat.log

  module _ {S W : Type 0} (state : N → S) where
    abbrev pub view_over : {M : Type 0} → (M → W) → List (Option (Seat N X)) → List (Lane M) → View S W
    view_over note seats lanes =
        record {
          node = λ i. option_map (λ (seat : Seat N X). state seat.node) (flat (slice_get seats i));
          clock = λ i. clock_in (flat (slice_get seats i));
          log = λ i. log_in (flat (slice_get seats i));
          lane = λ a. noted_lane note (lane_in (slice_get lanes a));
        }

module _ {N M S W : Type 0} (state : N → S) (note : M → W) where
  abbrev pub view_of : Block N M → View S W
  view_of block = view_over state note block.seats.items block.lanes.items

module _ {N M : Type 0} where
  -- how many messages the part's nodes sent and took in this round
  abbrev pub sent_in : Part N M → ℕ
  sent_in part = sent_by part.share + part.sent

  abbrev pub taken_in : Part N M → ℕ
  taken_in part = taken_by part.share + part.taken

  -- all that was counted is in the share
  abbrev pub IsEntered : Part N M → Type 0
  IsEntered part = (part.sent ≡ 0) × (part.taken ≡ 0)

  -- nothing was counted yet
  pub record IsFresh (part : Part N M) : Type 0 where
    pub sent : sent_in part ≡ 0
    pub taken : taken_in part ≡ 0
    pub refused : part.refused ≡ false

  module _ {S W : Type 0} (state : N → S) (note : M → W) (k : Kind S W) (net : PureNet) where
    -- a worker may take the part up: its nodes are seated, and what it may come to count fits its share
    pub record IsReady (part : Part N M) : Type 0 where
      pub seated : AreSeated k net (view_of state note part.block)
      pub sent_room : sent_in part + part.turns * max_arcs ≤ max_share
      pub taken_room : taken_in part + part.turns ≤ max_share

    -- from one part to another the worker only had nodes take messages and send, and counted both
    pub record HasWorked (old new : Part N M) : Type 0 where
      pub history : ℕ → List (Taken W)
      pub run : HasRun k net (view_of state note old.block) history (view_of state note new.block)
      pub sent : sent_in new ≡ sent_in old + sent_by_all k net (view_of state note old.block).node history
      pub taken : taken_in new ≡ taken_in old + taken_by_all net history
      pub turns : new.turns + taken_in new ≡ old.turns + taken_in old
      pub room : sent_in new + new.turns * max_arcs ≤ sent_in old + old.turns * max_arcs
