use Rattle.std.proofs.Common.{◌≡◌, rules}
use Rattle.command_words.specs.Words.{Words}
use Rattle.command_words.proofs.Places.{words_have_places}
use Rattle.command_words.proofs.reading.read_words.Goals as goal

pub returns-in-Some-clause-places : goal.returns-in-Some-clause-places
unfolding Words
returns-in-Some-clause-places c =
    let means : c.meaning_of.result ≡ Words c.args.words.now = search rules in
    rw means (words_have_places c.args.words.now)
