-- The parts of a configuration, as a machine.
use Rattle.std.specs.Prelude.{ℕ, ◌-◌, List, [], Option, Some, None, map, option_map, slice_get, slice_index}
use Rattle.std.specs.VecDeque.{deque_len, deque_capacity}
use Rattle.std.specs.declared.collections.VecDeque.{VecDeque}
use Rattle.std.specs.declared.alloc.Global.{Global}
use Rattle.meta_base.specs.declared.ids.ArcId.{ArcId}
use Rattle.node_core.specs.Machine.{Machine}

module _ {M : Type 0} where
  -- a message with the number of its arc
  abbrev pub numbered : ArcId × M → ℕ × M
  numbered p = (p.0.0, p.1)

  abbrev pub waits_in : Option (VecDeque M Global) → List M
  waits_in None = []
  waits_in (Some q) = q.items

  -- what waits on an arc, front first
  abbrev pub waits_on : List (VecDeque M Global) → ℕ → List M
  waits_on links a = waits_in (slice_get links a)

  abbrev pub spare_in : Option (VecDeque M Global) → ℕ
  spare_in None = 0
  spare_in (Some q) = deque_capacity q - deque_len q

  -- how many messages can be put on an arc without memory
  abbrev pub spare_on : List (VecDeque M Global) → ℕ → ℕ
  spare_on links a = spare_in (slice_get links a)

module _ {N M S W : Type 0} (state : N → S) (note : M → W) where
  -- the machine of these nodes, clocks and links
  abbrev pub machine_over : List N → List ℕ → List (VecDeque M Global) → Machine S W
  machine_over nodes clocks links =
      record {
        node = λ i. option_map state (slice_get nodes i);
        clock = λ i. slice_index clocks i;
        link = λ a. map note (waits_on links a);
      }

-- what a message that is sent says, with the number of its arc
abbrev pub noted : {M W : Type 0} → (M → W) → ArcId × M → ℕ × W
noted note p = (p.0.0, note p.1)
