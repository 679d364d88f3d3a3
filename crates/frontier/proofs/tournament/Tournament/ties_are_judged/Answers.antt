use Rattle.frontier.proofs.Judging.{ties_judged}
use Rattle.frontier.proofs.tournament.Tournament.ties_are_judged.Goals as goal

pub returns : goal.returns
returns c = λ before none. rw (← c.self.view_is) (ties_judged _ c.self.invariant.placed before (rw (← c.self.view_is) at none))
