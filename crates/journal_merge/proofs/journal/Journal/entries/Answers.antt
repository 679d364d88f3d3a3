use Rattle.std.proofs.Common.{◌≡◌, map, subst, ◌∙◌}
use Rattle.std.proofs.lemmas.Result.{IfOk-weaker}
use Rattle.journal_merge.specs.Merged.{journal_of}
use Rattle.journal_merge.specs.MergedLaws.{journal_is, one_journal}
use Rattle.journal_merge.specs.Merging.{IsJournalOf}
use Rattle.journal_merge.specs.Timing.{tagged_of}
use Rattle.journal_merge.proofs.journal.Journal.entries.Goals as goal

pub returns : goal.returns
returns c =
    let entries = map tagged_of c.self.inside.entries.items in
    IfOk-weaker c.in_order.result (IsJournalOf (map tagged_of c.as_slice.result.now)) (λ journal. journal ≡ c.args.self.now)
    (λ journal is. one_journal entries journal (journal_of entries) (subst (λ z. IsJournalOf (map tagged_of z) journal) c.as_slice.ensures.value is) (journal_is entries c.self.invariant) ∙ c.self.view_is)
    c.in_order.ensures
