-- A round of workers.
use Rattle.std.specs.Prelude.{◌≡◌, ℕ, ◌+◌, ◌/◌, ◌%◌, ◌==◌, ◌≤◌, ◌++◌, cond, List, Some, slice_get, map}
use Rattle.net_graph.specs.Nets.{PureNet}
use Rattle.node_core.specs.Kinds.{Kind}
use Rattle.node_core.specs.Machine.{Machine}
use Rattle.quiet_ledger.specs.declared.totals.Totals.{Totals}
use Rattle.woven_laws.specs.Histories.{Taken, entry_of}
use Rattle.woven_laws.specs.Woven.{Woven}
use Rattle.woven_laws.specs.Counts.{sent_by_all, taken_by_all}
use Rattle.weave.specs.declared.block.Block.{Block}
use Rattle.weave.specs.declared.part.Part.{Part}
use Rattle.weave.specs.Views.{View, HasRun}
use Rattle.weave.specs.Blocks.{IsFresh}
use Rattle.weave.specs.Going.{HasGone}
use Rattle.weave.specs.Gathered.{block_of, machine_across, AreGathered}

-- the turns of one of so many workers, of which one gets those that can't be shared
abbrev pub share_of : ℕ → ℕ → ℕ → ℕ → ℕ
share_of turns count extra w = turns / count + cond (w == extra) (turns % count) 0

-- each worker is lent its block, with its share of the turns, and has counted nothing
pub record AreLent {N M : Type 0} (turns count extra : ℕ) (blocks : List (Block N M)) (parts : List (Part N M)) : Type 0 where
  pub blocks_are : map (λ (p : Part N M). p.block) parts ≡ blocks
  pub fresh : (w : ℕ) (p : Part N M) → slice_get parts w ≡ Some p → IsFresh p
  pub turns_are : (w : ℕ) (p : Part N M) → slice_get parts w ≡ Some p → p.turns ≡ share_of turns count extra w

module _ {S M : Type 0} (k : Kind S M) (net : PureNet) (count : ℕ) where
  -- In a round the machine went on from the old views to the new ones: each node took what its history says and logged
  -- it, no more was taken than there are turns, and the totals count it.
  pub record IsRound (turns : ℕ) (old new : ℕ → View S M) (before after : Totals) : Type 0 where
    pub history : ℕ → List (Taken M)
    pub woven : Woven k net (machine_across net count old) history (machine_across net count new)
    pub gathered : AreGathered net count new
    pub log_is : (i : ℕ) → (new (block_of count i)).log i ≡ (old (block_of count i)).log i ++ map entry_of (history i)
    pub sent : after.sent ≡ before.sent + sent_by_all k net (machine_across net count old).node history
    pub taken : after.taken ≡ before.taken + taken_by_all net history
    pub few : taken_by_all net history ≤ turns

  -- a worker had the nodes of a block take messages, from its first view to its second
  pub record HasRunIn (first second : ℕ → View S M) (w : ℕ) : Type 0 where
    pub history : ℕ → List (Taken M)
    pub run : HasRun k net (first w) history (second w)

  -- From machine c the rounds so far led to these views.
  pub record HasCome (turns : ℕ) (c : Machine S M) (views : ℕ → View S M) (totals : Totals) : Type 0 where
    pub gone : HasGone k net turns c (machine_across net count views) (λ i. (views (block_of count i)).log i) totals
    pub gathered : AreGathered net count views
