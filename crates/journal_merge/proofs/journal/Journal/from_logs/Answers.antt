use Rattle.std.proofs.Common.{map, sym, subst}
use Rattle.journal_merge.specs.MergeLaws.{logs_ascend}
use Rattle.journal_merge.specs.MergedLaws.{journal_is}
use Rattle.journal_merge.specs.Merged.{journal_of}
use Rattle.journal_merge.specs.Merging.{IsJournalOf, NodesAscend}
use Rattle.journal_merge.specs.Timing.{tagged_of}
use Rattle.journal_merge.proofs.journal.Journal.from_logs.Goals as goal

pub invariant_of-result : goal.invariant_of-result
invariant_of-result c = subst NodesAscend (sym c.in_ok-entries.ensures) (logs_ascend c.args.logs.now c.requires.nodes c.requires.clocks)

pub returns : goal.returns
returns c =
    let all = map tagged_of c.in_ok-entries.entries.items in
    subst (λ z. IsJournalOf z (journal_of all)) c.in_ok-entries.ensures (journal_is all (subst NodesAscend (sym c.in_ok-entries.ensures) (logs_ascend c.args.logs.now c.requires.nodes c.requires.clocks)))
