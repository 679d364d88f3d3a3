-- What a contract sees of a queue whose two ends are with one worker.
use Rattle.std.specs.Prelude.{ℕ, ◌-◌, List}
use Rattle.std.specs.VecDeque.{deque_len, deque_capacity}
use Rattle.link_queues.specs.declared.local.Local.{Local}

module _ {T : Type 0} where
  -- the items that wait, oldest first
  abbrev pub waiting_of : Local T → List T
  waiting_of local = local.queue.items

  -- how many items can be sent without memory
  abbrev pub spare_in : Local T → ℕ
  spare_in local = deque_capacity local.queue - deque_len local.queue
