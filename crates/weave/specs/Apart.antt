-- How blocks are taken apart.
use Rattle.std.specs.Prelude.{◌≡◌, ℕ, ◌<◌, ◌==◌, false, List, Some, length, map, slice_get}
use Rattle.meta_base.specs.declared.ids.Delivery.{Delivery}
use Rattle.journal_merge.specs.declared.log.NodeLog.{NodeLog}
use Rattle.weave.specs.Going.{logs_by}
use Rattle.weave.specs.Views.{View}
use Rattle.weave.specs.Gathered.{block_of}

module _ {S M : Type 0} where
  -- the logs of the first n nodes, in order, among so many blocks
  abbrev pub logs_across : ℕ → (ℕ → View S M) → ℕ → List NodeLog
  logs_across count views n = logs_by (λ i. (views (block_of count i)).log i) n

  -- the block had that node at the number, with that log, and nothing else was taken
  pub record IsSeatTaken (old new : ℕ → View S M) (block i : ℕ) (s : S) (log : List Delivery) : Type 0 where
    pub node_was : (old block).node i ≡ Some s
    pub log_was : (old block).log i ≡ log
    pub node_is : (b n : ℕ) → (n == i) ≡ false → (new b).node n ≡ (old b).node n
    pub log_is : (b n : ℕ) → (n == i) ≡ false → (new b).log n ≡ (old b).log n

  -- each of the first n nodes stands in its block
  abbrev pub AreThere : ℕ → (ℕ → View S M) → ℕ → Type 0
  AreThere count views n = (i : ℕ) → i < n → (s : S) × ((views (block_of count i)).node i ≡ Some s)

  -- the first n nodes, in order
  pub record AreNodesOf {N : Type 0} (state : N → S) (count : ℕ) (views : ℕ → View S M) (n : ℕ)
      (nodes : List N) : Type 0 where
    pub count_is : length nodes ≡ n
    pub node_is : (i : ℕ) → i < n → slice_get (map state nodes) i ≡ (views (block_of count i)).node i
