use Rattle.std.proofs.Common.{rules, tests, ◌∙◌, sym}
use Rattle.std.proofs.lemmas.Iterator.Adapters.{option_map_id}
use Rattle.std.proofs.lemmas.Iterator.Consumers.{YieldsList-from_first, YieldsList-from_filter_map, YieldsList-at, nth_from_yields_List}
use Rattle.command_words.specs.Parts.{pure_part, place_of}
use Rattle.command_words.specs.PartsLeft.{parts_left}
use Rattle.command_words.proofs.reading.argument.Goals as goal

pub returns : goal.returns
returns c =
    sym (option_map_id c.nth.result)
    ∙ nth_from_yields_List _ c.nth.new.self _ c.nth.ensures.ran (YieldsList-from_filter_map _ place_of
    (YieldsList-at c.filter_map.ensures.source (YieldsList-from_first pure_part parts_left _ c.after_command.ensures.parts))
    c.filter_map.ensures.closure (λ x r q k. search (rules, tests)))
