use Rattle.std.proofs.Common.{◌≡◌, ℕ, vec_len}
use Rattle.weave.specs.Dealt.{IsEmptyView}
use Rattle.weave.specs.Gathered.{view_at}
use Rattle.weave.proofs.dealing.empty_blocks.Given as goal

abbrev pub invariant-loop : goal.invariant-loop
invariant-loop g l =
    record {
      count : vec_len l.blocks ≡ l.counter;
      empty : (b : ℕ) → IsEmptyView (view_at g.N.NodeCore.state g.N.NodeCore.note l.blocks.items b);
    }
