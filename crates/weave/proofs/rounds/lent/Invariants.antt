use Rattle.std.proofs.Common.{◌≡◌, ◌+◌, ℕ, map, length, slice_get, Some, vec_len}
use Rattle.std.specs.List.{AllByRecursion}
use Rattle.quiet_ledger.specs.Ledger.{sent_by, taken_by}
use Rattle.weave.specs.Blocks.{IsFresh}
use Rattle.weave.specs.Rounds.{share_of}
use Rattle.weave.proofs.rounds.lent.Given as goal

-- the parts of the blocks so far, with a share left for each other block
abbrev pub invariant-loop-block : goal.invariant-loop-block
invariant-loop-block g l =
    record {
      blocks : map (λ part. part.block) l.parts.items ≡ l.yielded;
      count : vec_len l.parts ≡ length l.yielded;
      fresh : (w : ℕ) (p : _) → slice_get l.parts.items w ≡ Some p → IsFresh p;
      turns : (w : ℕ) (p : _) → slice_get l.parts.items w ≡ Some p → p.turns ≡ share_of l.turns l.count l.extra w;
      left : length l.yielded + length l.shares.items ≡ vec_len l.fn.blocks;
      zero : AllByRecursion (λ share. (sent_by share ≡ 0) × (taken_by share ≡ 0)) l.shares.items;
    }
