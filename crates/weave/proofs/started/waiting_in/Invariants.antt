use Rattle.std.proofs.Common.{◌≡◌, ◌*◌, ◌≤◌, ◌^◌, length}
use Rattle.node_core.specs.Configs.{waits_on}
use Rattle.woven_laws.specs.Counts.{total}
use Rattle.weave.proofs.started.waiting_in.Given as goal

abbrev pub invariant-loop-link : goal.invariant-loop-link
invariant-loop-link g l =
    record {
      sum : l.waiting ≡ total l.link-index (λ a. length (waits_on l.links a));
      few : l.waiting ≤ l.link-index * 2 ^ 16;
    }
