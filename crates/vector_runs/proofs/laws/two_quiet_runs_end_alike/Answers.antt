use Rattle.vector_runs.specs.AlikeLaws.{last_rows_are_alike, past_rows_are_alike}
use Rattle.vector_runs.proofs.laws.two_quiet_runs_end_alike.Goals as goal

pub returns-clause-last : goal.returns-clause-last
returns-clause-last c net nets turns others_turns past others last end n ns later mono runs more =
    last_rows_are_alike turns others_turns net nets past others last end n ns later runs more mono

pub returns-clause-past : goal.returns-clause-past
returns-clause-past c net nets turns others_turns past others last end n ns later mono runs more =
    past_rows_are_alike turns others_turns net nets past others last end n ns later runs more mono
