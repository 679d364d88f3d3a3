-- What a contract sees of the two ends of a link.
use Rattle.std.specs.Prelude.{ℕ, ◌-◌, List, ◌++◌, length, drop}
use Rattle.std.specs.VecDeque.{deque_len, deque_capacity}
use Rattle.std.specs.declared.alloc.Global.{Global}
use Rattle.rtrb.specs.Ring.{sent, received, known_free, known_items}
use Rattle.rtrb.specs.Shared.{Names}
use denote.RawPtr.{Ptr}
use Rattle.link_queues.specs.declared.out_end.OutEnd.{OutEnd}
use Rattle.link_queues.specs.declared.in_end.InEnd.{InEnd}

-- a link, by its ring's memory
pub record LinkId : Type 0 where
  pub words : Ptr
  pub slots : Ptr
  pub names : Names
  pub heap : Global

module _ {T : Type 0} where
  -- the items that were moved on into the ring, oldest first
  abbrev pub pushed_on : OutEnd T → List T
  pushed_on out = sent out.producer

  -- the items that are not yet in the ring, oldest first
  abbrev pub outbox_of : OutEnd T → List T
  outbox_of out = out.outbox.items

  -- every item that was sent, oldest first
  abbrev pub sent_on : OutEnd T → List T
  sent_on out = pushed_on out ++ outbox_of out

  -- how many items can be sent without memory
  abbrev pub spare_of : OutEnd T → ℕ
  spare_of out = deque_capacity out.outbox - deque_len out.outbox

  -- how many slots of the ring are known to be free
  abbrev pub free_slots : OutEnd T → ℕ
  free_slots out = known_free out.producer

  -- every item that was received, oldest first
  abbrev pub received_on : InEnd T → List T
  received_on into = received into.consumer

  -- the items that are known to wait in the ring, oldest first: the next takes give them
  abbrev pub known_on : InEnd T → List T
  known_on into = known_items into.consumer

  -- which link an end belongs to. No call changes it
  abbrev pub out_link : OutEnd T → LinkId
  out_link out = record { words = out.producer.end.words; slots = out.producer.end.slots; names = out.producer.end.names; heap = out.producer.end.heap }

  abbrev pub in_link : InEnd T → LinkId
  in_link into = record { words = into.consumer.end.words; slots = into.consumer.end.slots; names = into.consumer.end.names; heap = into.consumer.end.heap }

  -- the items in the ring of a link: those that were moved into it and not yet received
  abbrev pub ring_of : OutEnd T → InEnd T → List T
  ring_of out into = drop (length (received_on into)) (pushed_on out)
