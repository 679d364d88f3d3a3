-- All blocks as they stand between the rounds of workers, and what is done with them before and after a round.
use Rattle.std.specs.Prelude.{◌≡◌, ℕ, ◌%◌, ◌==◌, false, List, [], ◌++◌, Some, None, slice_get}
use Rattle.std.specs.Option.{option_map_or}
use Rattle.link_queues.specs.Links.{LinkId}
use Rattle.net_graph.specs.Nets.{PureNet}
use Rattle.node_core.specs.Kinds.{listener, speaker}
use Rattle.node_core.specs.Machine.{Machine}
use Rattle.weave.specs.declared.block.Block.{Block}
use Rattle.weave.specs.Lanes.{PureLane, elsewhere, inside, coming, going, waits_inside}
use Rattle.weave.specs.Views.{View}
use Rattle.weave.specs.Blocks.{view_of}

-- the block of a node, among so many
abbrev pub block_of : ℕ → ℕ → ℕ
block_of count i = i % count

-- nothing at all
abbrev pub no_view : {S M : Type 0} → View S M
no_view = record { node = λ i. None; clock = λ i. 0; log = λ i. []; lane = λ a. elsewhere }

-- the views of blocks, by their numbers
abbrev pub view_at : {N M S W : Type 0} → (N → S) → (M → W) → List (Block N M) → ℕ → View S W
view_at state note blocks b = option_map_or (view_of state note) (slice_get blocks b) no_view

module _ {S M : Type 0} (net : PureNet) (count : ℕ) where
  -- what its listener's block has of an arc
  abbrev pub lane_across : (ℕ → View S M) → ℕ → PureLane M
  lane_across views a = option_map_or (λ i. (views (block_of count i)).lane a) (listener net a) elsewhere

  -- the blocks as one machine: each node stands in its block, and what waits on an arc stands with its listener
  abbrev pub machine_across : (ℕ → View S M) → Machine S M
  machine_across views =
      record {
        node = λ i. (views (block_of count i)).node i;
        clock = λ i. (views (block_of count i)).clock i;
        link = λ a. waits_inside (lane_across views a);
      }

  -- No node stands in a block that isn't its own, and what waits on an arc is whole with its listener.
  pub record AreGathered (views : ℕ → View S M) : Type 0 where
    pub own : (i b : ℕ) → (b == block_of count i) ≡ false → (views b).node i ≡ None
    pub whole : (a i : ℕ) → listener net a ≡ Some i
        → (views (block_of count i)).lane a ≡ inside (waits_inside ((views (block_of count i)).lane a))

  -- the same nodes, clocks and logs are in each block
  pub record AreSameSeats (old new : ℕ → View S M) : Type 0 where
    pub node_is : (b i : ℕ) → (new b).node i ≡ (old b).node i
    pub clock_is : (b i : ℕ) → (new b).clock i ≡ (old b).clock i
    pub log_is : (b i : ℕ) → (new b).log i ≡ (old b).log i

  -- the two ends of an arc between two blocks: so much was received and sent on a link
  pub record HasEnds (views : ℕ → View S M) (a i j : ℕ) (received sent : List M) : Type 0 where
    pub link : LinkId
    pub into_is : (views (block_of count i)).lane a ≡ coming link received
    pub out_is : (views (block_of count j)).lane a ≡ going link sent

  -- each arc between two blocks got a link, on which what waited was sent; inside the blocks nothing changed
  pub record AreLinked (old new : ℕ → View S M) : Type 0 where
    pub seats : AreSameSeats old new
    pub within : (a i j : ℕ) → listener net a ≡ Some i → speaker net a ≡ Some j → block_of count i ≡ block_of count j
        → (new (block_of count i)).lane a ≡ (old (block_of count i)).lane a
    pub across : (a i j : ℕ) → listener net a ≡ Some i → speaker net a ≡ Some j → (block_of count i == block_of count j) ≡ false
        → HasEnds new a i j [] (waits_inside ((old (block_of count i)).lane a))

  -- each arc between two blocks has its two ends in them
  abbrev pub AreEnded : (ℕ → View S M) → Type 0
  AreEnded views = (a i j : ℕ) → listener net a ≡ Some i → speaker net a ≡ Some j → (block_of count i == block_of count j) ≡ false
      → (received : List M) × (sent : List M) × HasEnds views a i j received sent

  -- what was sent and not received waits with the listener again; inside the blocks nothing changed
  pub record AreSettled (old new : ℕ → View S M) : Type 0 where
    pub seats : AreSameSeats old new
    pub within : (a i j : ℕ) → listener net a ≡ Some i → speaker net a ≡ Some j → block_of count i ≡ block_of count j
        → (new (block_of count i)).lane a ≡ (old (block_of count i)).lane a
    pub across : (a i j : ℕ) → listener net a ≡ Some i → speaker net a ≡ Some j → (block_of count i == block_of count j) ≡ false
        → (received sent : List M) → HasEnds old a i j received sent
        → (waits : List M) × ((new (block_of count i)).lane a ≡ inside waits) × (received ++ waits ≡ sent)
