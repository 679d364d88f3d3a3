use Rattle.std.proofs.Common.{◌≡◌, ℕ, [], vec_len}
use Rattle.node_core.specs.Configs.{waits_on}
use Rattle.node_core.proofs.links.empty_links.Given as goal

-- as many links as were made, with nothing on them
abbrev pub invariant-loop-made : goal.invariant-loop-made
invariant-loop-made g l = record {
  count : vec_len l.links ≡ l._made;
  empty : (b : ℕ) → waits_on l.links.items b ≡ [];
}
