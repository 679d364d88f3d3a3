use Rattle.std.proofs.Common.{◌≡◌, ◌/◌, ◌||◌, ◌==◌, ◌∙◌, ap, get_or}
use Rattle.std.proofs.lemmas.List.{get_or_read}
use Rattle.number_sets.specs.NumberSets.{has_number}
use Rattle.number_sets.proofs.Words.{number_set}
use Rattle.number_sets.proofs.number_set.NumberSet.note.Goals as goal

pub returns : goal.returns
returns c = λ i.
    let words = c.self.inside.words.items in
    let number = c.args.number in
    let read : c.index_mut.result.now ≡ get_or words (number / 64) 0 = get_or_read words (number / 64) c.index_mut.result.now (rw (← c.self.view_is) at c.requires) c.index_mut.ensures.value 0 in
    rw read (number_set words number i (rw (← c.self.view_is) at c.requires) ∙ ap (λ z. has_number z i || number == i) c.self.view_is)
