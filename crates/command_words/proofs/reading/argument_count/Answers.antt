use Rattle.std.proofs.Common.{rules, tests}
use Rattle.std.proofs.lemmas.Iterator.Consumers.{YieldsList-from_first, YieldsList-from_filter_map, YieldsList-at, count_from_yields_List}
use Rattle.command_words.specs.Parts.{pure_part, place_of}
use Rattle.command_words.specs.PartsLeft.{parts_left}
use Rattle.command_words.proofs.reading.argument_count.Goals as goal

pub returns : goal.returns
returns c =
    count_from_yields_List _ _ c.count.ensures.ran (YieldsList-from_filter_map _ place_of
    (YieldsList-at c.filter_map.ensures.source (YieldsList-from_first pure_part parts_left _ c.after_command.ensures.parts))
    c.filter_map.ensures.closure (λ x r q k. search (rules, tests)))
