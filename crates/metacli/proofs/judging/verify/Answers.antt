use Rattle.std.proofs.Common.{◌≤◌, length, sym, subst}
use Rattle.meta_base.specs.Numbers.{max_file_bytes}
use Rattle.topology_file.specs.Views.{pure_file}
use Rattle.metacli.specs.Found.{IsJudgedBy}
use Rattle.metacli.specs.Views.{pure_outcome}
use Rattle.metacli.proofs.Reports.{judged_taken, not_taken, taken_short}
use Rattle.metacli.proofs.judging.verify.Goals as goal

pub outcome_of-requires-clause-short : goal.outcome_of-requires-clause-short
outcome_of-requires-clause-short g c =
    subst (λ bytes. length bytes ≤ max_file_bytes) (sym c.as_slice.ensures) (taken_short _ _ _ _ c.in-Ok.ensures)

pub returns-in-Ok-clause-judged : goal.returns-in-Ok-clause-judged
returns-in-Ok-clause-judged g c =
    judged_taken _ _ _ _ _ _ _ c.in-Ok.ensures
    (subst (λ bytes. IsJudgedBy c.args.alg (pure_file c.args.file) bytes (pure_outcome c.outcome_of.result)) c.as_slice.ensures c.outcome_of.ensures.judged)

pub returns-in-Err-clause-judged : goal.returns-in-Err-clause-judged
returns-in-Err-clause-judged g c = not_taken _ _ _ _ _ _ c.in-Err.ensures
