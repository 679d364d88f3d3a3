use Rattle.std.proofs.Common.{◌≡◌, ℕ, ◌++◌, map, vec_len}
use Rattle.node_core.specs.Kinds.{on_arc}
use Rattle.node_core.specs.Configs.{numbered, waits_on}
use Rattle.node_core.proofs.links.put_all.Given as goal

-- the messages so far were put on their arcs
abbrev pub invariant-loop-arc : goal.invariant-loop-arc
invariant-loop-arc g l = record {
  count : vec_len l.links ≡ vec_len l.fn.links;
  put : (b : ℕ) → waits_on l.links.items b ≡ waits_on l.fn.links.items b ++ on_arc b (map numbered l.yielded);
}
