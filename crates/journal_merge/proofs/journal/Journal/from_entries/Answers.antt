use Rattle.std.proofs.Common.{map}
use Rattle.journal_merge.specs.MergedLaws.{journal_is}
use Rattle.journal_merge.specs.Timing.{tagged_of}
use Rattle.journal_merge.proofs.journal.Journal.from_entries.Goals as goal

pub returns : goal.returns
returns c = journal_is (map tagged_of c.args.entries.items) c.requires
