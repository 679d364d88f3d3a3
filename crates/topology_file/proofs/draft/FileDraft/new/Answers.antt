use Rattle.std.proofs.Common.{refl}
use Rattle.topology_file.proofs.draft.FileDraft.new.Goals as goal

pub invariant_of-result : goal.invariant_of-result
invariant_of-result c = (rw (c.new.ensures, c.new-3.ensures) (record { may = tt; count = refl }), c.new-2.ensures c.new.result)
