-- All nodes with one queue of what waits, as contracts see them.
use Rattle.std.specs.Prelude.{ℕ, ◌+◌, List, [], ◌∷◌, ◌++◌, map, option_map, slice_get}
use Rattle.std.specs.declared.collections.VecDeque.{VecDeque}
use Rattle.std.specs.declared.alloc.Global.{Global}
use Rattle.meta_base.specs.declared.ids.ArcId.{ArcId}
use Rattle.meta_base.specs.declared.ids.Delivery.{Delivery}
use Rattle.journal_merge.specs.declared.log.NodeLog.{NodeLog}
use Rattle.node_core.specs.Configs.{noted}
use Rattle.node_core.specs.Kinds.{on_arc}
use Rattle.node_core.specs.Machine.{Machine}
use Rattle.weave.specs.declared.seat.Seat.{Seat}
use Rattle.weave.specs.Blocks.{clock_in, log_in}

module _ {N X : Type 0} where
  -- a node that took nothing yet
  abbrev pub fresh_seat : N → Seat N X
  fresh_seat n = record { node = n; clock = 0; log = [] }

  -- what the node of a number took
  abbrev pub queued_log : List (Seat N X) → ℕ → List Delivery
  queued_log seats i = log_in (slice_get seats i)

  -- the logs of these nodes, of which the first has that number
  abbrev pub logs_from : ℕ → List (Seat N X) → List NodeLog
  logs_from n [] = []
  logs_from n (seat ∷ seats) = record { node = record { 0 = n }; entries = seat.log } ∷ logs_from (n + 1) seats

  module _ {S M : Type 0} (state : N → S) (note : X → M) where
    -- each node by its number, and on each arc the queue's messages for it
    abbrev pub queued_machine : List (Seat N X) → List (ArcId × X) → Machine S M
    queued_machine seats queue =
        record {
          node = λ i. option_map (λ (seat : Seat N X). state seat.node) (slice_get seats i);
          clock = λ i. clock_in (slice_get seats i);
          link = λ a. on_arc a (map (noted note) queue);
        }

module _ {X : Type 0} where
  -- a message on the arc of a number
  abbrev pub on_its_arc : ℕ → X → ArcId × X
  on_its_arc a m = (record { 0 = a }, m)

  -- the messages of these links, of which the first has that number, link by link
  abbrev pub queue_from : ℕ → List (VecDeque X Global) → List (ArcId × X)
  queue_from n [] = []
  queue_from n (link ∷ links) = map (on_its_arc n) link.items ++ queue_from (n + 1) links
