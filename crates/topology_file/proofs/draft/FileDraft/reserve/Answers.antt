use Rattle.topology_file.proofs.draft.FileDraft.reserve.Goals as goal

pub invariant_of-self : goal.invariant_of-self
invariant_of-self c = rw c.reserve_arcs.ensures (c.self.invariant.0, c.make_spots.ensures c.self.inside.draft c.self.invariant.1)
