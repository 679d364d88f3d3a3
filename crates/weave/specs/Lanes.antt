-- What a worker has of an arc, as contracts see it.
use Rattle.std.specs.Prelude.{◌≡◌, List, [], ◌++◌, Option, Some, None, map}
use Rattle.link_queues.specs.Links.{LinkId, in_link, out_link, received_on, sent_on}
use Rattle.link_queues.specs.Locals.{waiting_of}
use Rattle.weave.specs.declared.lane.Lane.{Lane}
use Rattle.weave.specs.declared.lane.Lane.TheVariants.{Elsewhere, Inside, From, To}

-- Neither end; both, and what waits; the end that takes what comes from another worker, its link, and what was
-- received; or the end that sends to another worker, its link, and what was sent.
pub data PureLane (M : Type 0) : Type 0 where
  elsewhere : PureLane M
  inside : List M → PureLane M
  coming : LinkId → List M → PureLane M
  going : LinkId → List M → PureLane M

module _ {M : Type 0} where
  abbrev pub lane_of : Lane M → PureLane M
  lane_of Elsewhere = elsewhere
  lane_of (Inside queue) = inside (waiting_of queue)
  lane_of (From into) = coming (in_link into) (received_on into)
  lane_of (To out) = going (out_link out) (sent_on out)

  -- of the arcs past a list of lanes there is nothing
  abbrev pub lane_in : Option (Lane M) → PureLane M
  lane_in None = elsewhere
  lane_in (Some lane) = lane_of lane

-- the same, by what its messages say
abbrev pub noted_lane : {M W : Type 0} → (M → W) → PureLane M → PureLane W
noted_lane note elsewhere = elsewhere
noted_lane note (inside waits) = inside (map note waits)
noted_lane note (coming link received) = coming link (map note received)
noted_lane note (going link sent) = going link (map note sent)

module _ {M : Type 0} where
  -- So much was put on the arc by a speaker of the worker's, and so much was taken there by a listener of its.
  abbrev pub HasPassed : PureLane M → List M → List M → PureLane M → Type 0
  HasPassed elsewhere put taken elsewhere = Unit {0}
  HasPassed (inside old) put taken (inside new) = old ++ put ≡ taken ++ new
  HasPassed (coming link old) put taken (coming other new) = (other ≡ link) × (new ≡ old ++ taken)
  HasPassed (going link old) put taken (going other new) = (other ≡ link) × (new ≡ old ++ put)
  HasPassed _ put taken _ = ⊥

  -- what waits on an arc inside a block
  abbrev pub waits_inside : PureLane M → List M
  waits_inside elsewhere = []
  waits_inside (inside waits) = waits
  waits_inside (coming link received) = []
  waits_inside (going link sent) = []
