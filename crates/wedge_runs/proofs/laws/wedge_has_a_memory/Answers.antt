use Rattle.settled_laws.specs.PairTables.{tables_differ}
use Rattle.wedge_runs.specs.WedgeRuns.{phases_of_the_wedge, replays_of_the_wedge, run_of_the_wedge, same_arcs, wedge_has_a_run}
use Rattle.wedge_runs.proofs.laws.wedge_has_a_memory.Goals as goal

pub returns-clause-replays : goal.returns-clause-replays
returns-clause-replays c = replays_of_the_wedge

pub returns-clause-only : goal.returns-clause-only
returns-clause-only c = run_of_the_wedge

pub returns-clause-begins : goal.returns-clause-begins
returns-clause-begins c = phases_of_the_wedge

pub returns-clause-some : goal.returns-clause-some
returns-clause-some c = wedge_has_a_run

pub returns-clause-same_arcs : goal.returns-clause-same_arcs
returns-clause-same_arcs c = same_arcs

pub returns-clause-differ : goal.returns-clause-differ
returns-clause-differ c = tables_differ
