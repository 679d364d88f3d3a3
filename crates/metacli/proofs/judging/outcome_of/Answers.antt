use Rattle.std.proofs.Common.{Ok, Err, refl}
use Rattle.metacli.proofs.judging.outcome_of.Goals as goal

pub returns-in-Ok-clause-judged : goal.returns-in-Ok-clause-judged
returns-in-Ok-clause-judged c = record { report = Ok _; is_report = c.in-Ok.ensures.found.means; goes_on = (refl, refl, refl, c.in-Ok.ensures.found.judged) }

pub returns-in-Ok-clause-printable : goal.returns-in-Ok-clause-printable
returns-in-Ok-clause-printable c = record { printable = c.in-Ok.ensures.found.printable; after = c.in-Ok.ensures.after }

pub returns-in-Err-clause-judged : goal.returns-in-Err-clause-judged
returns-in-Err-clause-judged c = record { report = Err _; is_report = c.in-Err.ensures.refused; goes_on = refl }
