use Rattle.journal_merge.specs.MergeLaws.{each_log, no_log}
use Rattle.journal_merge.proofs.laws.keeps_each_log.Goals as goal

pub returns-clause-log : goal.returns-clause-log
returns-clause-log c logs journal different clocks merged p log there = each_log logs different clocks journal merged p log there

pub returns-clause-none : goal.returns-clause-none
returns-clause-none c = no_log
