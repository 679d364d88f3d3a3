use Rattle.vector_runs.proofs.one_worker.run_alone.Goals as goal

pub returns : goal.returns
returns g c = c.run_labelled.ensures
