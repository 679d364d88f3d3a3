-- What is done with one arc between two blocks, and with all arcs below a number.
use Rattle.std.specs.Prelude.{◌≡◌, ℕ, ◌<◌, ◌≤◌, ◌==◌, false, List, [], ◌++◌, Some, cond}
use Rattle.link_queues.specs.Links.{LinkId}
use Rattle.net_graph.specs.Nets.{PureNet}
use Rattle.node_core.specs.Kinds.{listener, speaker}
use Rattle.node_core.specs.Machine.{changed_at}
use Rattle.weave.specs.Lanes.{PureLane, inside, coming, going, waits_inside}
use Rattle.weave.specs.Views.{View}
use Rattle.weave.specs.Gathered.{block_of}

module _ {M : Type 0} where
  -- what a block has of an arc: both ends; the one that takes; the one that sends
  abbrev pub IsWhole : PureLane M → Type 0
  IsWhole lane = lane ≡ inside (waits_inside lane)

  abbrev pub IsComing : PureLane M → Type 0
  IsComing lane = (link : LinkId) × (received : List M) × (lane ≡ coming link received)

  abbrev pub IsGoing : PureLane M → Type 0
  IsGoing lane = (link : LinkId) × (sent : List M) × (lane ≡ going link sent)

  -- two blocks have the two ends of a link
  abbrev pub HaveEnds : PureLane M → PureLane M → Type 0
  HaveEnds into out = (link : LinkId) × (received sent : List M)
      × (into ≡ coming link received) × (out ≡ going link sent)

-- What the listener's and the speaker's block have of an arc, before and after: it gets a link on which what waited
-- with the listener was sent.
abbrev pub GetsLink : {M : Type 0} → PureLane M → PureLane M → PureLane M → PureLane M → Type 0
GetsLink heard spoken into out = (link : LinkId) × (into ≡ coming link []) × (out ≡ going link (waits_inside heard))

-- or what was sent on its link and not received waits with the listener
abbrev pub LosesLink : {M : Type 0} → PureLane M → PureLane M → PureLane M → PureLane M → Type 0
LosesLink {M} into out heard spoken = (link : LinkId) (received sent : List M)
    → into ≡ coming link received → out ≡ going link sent
    → (waits : List M) × (heard ≡ inside waits) × (received ++ waits ≡ sent)

module _ {S M : Type 0} where
  -- the same nodes, clocks and logs are in each block
  pub record KeepsSeats (old new : ℕ → View S M) : Type 0 where
    pub node_is : (b i : ℕ) → (new b).node i ≡ (old b).node i
    pub clock_is : (b i : ℕ) → (new b).clock i ≡ (old b).clock i
    pub log_is : (b i : ℕ) → (new b).log i ≡ (old b).log i

  -- the block has another lane of the arc, and all else stays
  pub record IsReplaced (old new : ℕ → View S M) (block a : ℕ) (was is : PureLane M) : Type 0 where
    pub seats : KeepsSeats old new
    pub lane_was : (old block).lane a ≡ was
    pub lane_is : (b n : ℕ) → (new b).lane n ≡ cond (b == block) (changed_at (old b).lane a is n) ((old b).lane n)

  module _ (Becomes : PureLane M → PureLane M → PureLane M → PureLane M → Type 0) where
    -- the two blocks have other lanes of the arc, and all else stays
    pub record IsDoneBetween (heard spoken a : ℕ) (old new : ℕ → View S M) : Type 0 where
      pub seats : KeepsSeats old new
      pub others : (b n : ℕ) → (n == a) ≡ false → (new b).lane n ≡ (old b).lane n
      pub becomes : Becomes ((old heard).lane a) ((old spoken).lane a) ((new heard).lane a) ((new spoken).lane a)

    module _ (net : PureNet) (count : ℕ) where
      -- the arc is done, where it is between two blocks
      pub record IsDoneOn (a : ℕ) (old new : ℕ → View S M) : Type 0 where
        pub seats : KeepsSeats old new
        pub others : (b n : ℕ) → (n == a) ≡ false → (new b).lane n ≡ (old b).lane n
        pub within : (i j : ℕ) → listener net a ≡ Some i → speaker net a ≡ Some j
            → block_of count i ≡ block_of count j
            → (new (block_of count i)).lane a ≡ (old (block_of count i)).lane a
        pub across : (i j : ℕ) → listener net a ≡ Some i → speaker net a ≡ Some j
            → (block_of count i == block_of count j) ≡ false
            → Becomes ((old (block_of count i)).lane a) ((old (block_of count j)).lane a)
            ((new (block_of count i)).lane a) ((new (block_of count j)).lane a)

      -- the arcs below the number are done, and the others are as before
      pub record AreDoneBelow (n : ℕ) (old new : ℕ → View S M) : Type 0 where
        pub seats : KeepsSeats old new
        pub later : (b a : ℕ) → n ≤ a → (new b).lane a ≡ (old b).lane a
        pub within : (a i j : ℕ) → a < n → listener net a ≡ Some i → speaker net a ≡ Some j
            → block_of count i ≡ block_of count j
            → (new (block_of count i)).lane a ≡ (old (block_of count i)).lane a
        pub across : (a i j : ℕ) → a < n → listener net a ≡ Some i → speaker net a ≡ Some j
            → (block_of count i == block_of count j) ≡ false
            → Becomes ((old (block_of count i)).lane a) ((old (block_of count j)).lane a)
            ((new (block_of count i)).lane a) ((new (block_of count j)).lane a)
