use Rattle.std.proofs.Common.{ap, length, map, sym, ◌∙◌}
use Rattle.std.proofs.lemmas.List.{length-map}
use Rattle.journal_merge.specs.MergedLaws.{journal_length}
use Rattle.journal_merge.specs.Timing.{tagged_of}
use Rattle.journal_merge.proofs.journal.Journal.len.Goals as goal

pub returns : goal.returns
returns c =
    let entries = c.self.inside.entries.items in
    ap length c.as_slice.ensures.value ∙ (sym (journal_length (map tagged_of entries) ∙ length-map entries tagged_of) ∙ ap length c.self.view_is)
