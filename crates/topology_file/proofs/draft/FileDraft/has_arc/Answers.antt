use Rattle.topology_file.proofs.Steps.{draft_is_net}
use Rattle.topology_file.proofs.draft.FileDraft.has_arc.Goals as goal

pub returns-clause-net : goal.returns-clause-net
returns-clause-net c = rw (← c.self.view_is) (draft_is_net c.self.inside.draft c.self.inside.changes c.self.inside.arc_count c.has_arc.ensures.net c.self.invariant.0)
