use Rattle.std.proofs.Common.{◌≡◌, ◌<◌, ℕ, All, take, vec_len}
use Rattle.node_core.specs.Configs.{waits_on, spare_on}
use Rattle.node_core.proofs.links.make_room.Given as goal

-- there is room on the arcs so far, and nothing that waits has changed
abbrev pub invariant-loop-arc : goal.invariant-loop-arc
invariant-loop-arc g l = record {
  count : vec_len l.links ≡ vec_len l.fn.links;
  kept : (b : ℕ) → waits_on l.links.items b ≡ waits_on l.fn.links.items b;
  room : All (λ arc. 0 < spare_on l.links.items arc.0) (take l.arc-index l.arcs);
}
