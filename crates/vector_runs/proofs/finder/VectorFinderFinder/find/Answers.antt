use Rattle.vector_runs.proofs.Phases.{begun_nets}
use Rattle.vector_runs.proofs.finder.VectorFinderFinder.find.Goals as goal

pub rows_of-requires : goal.rows_of-requires
rows_of-requires g c = (c.args._net.now, begun_nets c.args._net.now 0 c.args.nodes.now c.requires.run.phase.begun)

pub returns : goal.returns
returns g c = c.rows_of.ensures c.args._net.now (begun_nets c.args._net.now 0 c.args.nodes.now c.requires.run.phase.begun)
