use Rattle.journal_merge.specs.Merging.{tagged_entries}
use Rattle.journal_merge.specs.MergedLaws.{one_journal}
use Rattle.journal_merge.proofs.laws.logs_have_one_journal.Goals as goal

pub returns : goal.returns
returns c logs = one_journal (tagged_entries logs)
