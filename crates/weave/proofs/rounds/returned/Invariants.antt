use Rattle.std.proofs.Common.{◌≡◌, false, map}
use Rattle.std.specs.List.{AllByRecursion}
use Rattle.weave.proofs.rounds.returned.Given as goal

-- the blocks and shares of the parts so far
abbrev pub invariant-loop-part : goal.invariant-loop-part
invariant-loop-part g l =
    record {
      blocks : l.blocks.items ≡ map (λ part. part.block) l.yielded;
      shares : l.shares ≡ map (λ part. part.share) l.yielded;
      worked : AllByRecursion (λ part. part.refused ≡ false) l.yielded;
    }
