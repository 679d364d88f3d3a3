use Rattle.topology_file.proofs.Steps.{draft_more}
use Rattle.topology_file.proofs.draft.FileDraft.add_change.Goals as goal

pub invariant_of-self-2 : goal.invariant_of-self-2
invariant_of-self-2 c = (
  rw c.in_ok-push.ensures.ok (draft_more c.self.inside.draft c.self.inside.changes c.args.change c.self.inside.arc_count c.args.arc_count c.self.invariant.0
      (rw (← c.self.view_is) at c.requires.may) (rw (← c.self.view_is) at c.requires.count)),
  c.self.invariant.1,
)
