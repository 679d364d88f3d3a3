use Rattle.vector_runs.specs.Runs.{pure_phase}
use Rattle.metacli.proofs.Demos.{labels_are_strict, rows_are_summed}
use Rattle.metacli.proofs.generating.demo.Goals as goal

pub returns-in-Ok-clause-shown : goal.returns-in-Ok-clause-shown
returns-in-Ok-clause-shown g c =
    let file = c.in-Ok.ensures.file in
    let run = c.in-Ok.ensures.run in
    (c.in-Ok.ensures.alg, file.text, file.changes, labels_are_strict c.in-Ok.file.net run.is_net file.alg, run.is_run, run.settled)

pub returns-in-Ok-clause-printable : goal.returns-in-Ok-clause-printable
returns-in-Ok-clause-printable g c =
    let run = c.in-Ok.ensures.run in
    record { printable = rows_are_summed c.in-Ok.file.net run.is_net c.in-Ok.ensures.file.alg (pure_phase c.in-Ok.last) run.of_network; after = tt }
