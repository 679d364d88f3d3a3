use Rattle.alg_model.specs.Properties.{monotone}
use Rattle.property_infer.specs.Views.{pure_verdict}
use Rattle.metacli.proofs.Printable.{printable}
use Rattle.metacli.proofs.checking.check.Goals as goal

pub returns-in-Ok-clause-printable : goal.returns-in-Ok-clause-printable
returns-in-Ok-clause-printable c = record { printable = printable _ _ _ c.in-Ok.ensures.exact c.in-Ok.ensures.bound; after = tt }

pub returns-in-Ok-clause-decides : goal.returns-in-Ok-clause-decides
returns-in-Ok-clause-decides c =
    c.monotone_verdict_decides_uniqueness.ensures c.args.alg (pure_verdict c.in-Ok.verdicts.monotone) c.tree.ensures.formed (c.in-Ok.ensures.exact monotone)
