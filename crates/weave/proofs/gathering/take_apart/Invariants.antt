use Rattle.std.proofs.Common.{◌≡◌, ◌≤◌, ℕ, vec_len}
use Rattle.weave.specs.Apart.{AreNodesOf, logs_across}
use Rattle.weave.specs.Gathered.{view_at}
use Rattle.weave.proofs.gathering.take_apart.Given as goal

-- the nodes so far are taken, and the others are there
abbrev pub invariant-loop-number : goal.invariant-loop-number
invariant-loop-number g l =
    let views = view_at g.N.NodeCore.state g.N.NodeCore.note in
    let first = views l.fn.blocks.items in
    let now = views l.blocks.items in
    record {
      count : vec_len l.blocks ≡ vec_len l.fn.blocks;
      node_is : (b i : ℕ) → l.number ≤ i → (now b).node i ≡ (first b).node i;
      log_is : (b i : ℕ) → l.number ≤ i → (now b).log i ≡ (first b).log i;
      nodes : AreNodesOf g.N.NodeCore.state (vec_len l.fn.blocks) first l.number l.nodes;
      logs : l.logs ≡ logs_across (vec_len l.fn.blocks) first l.number;
    }
