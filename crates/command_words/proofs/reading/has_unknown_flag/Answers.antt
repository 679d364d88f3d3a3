use Rattle.std.proofs.Common.{rules, tests}
use Rattle.std.proofs.lemmas.Iterator.Consumers.{YieldsList-from_first}
use Rattle.std.proofs.lemmas.Iterator.Search.{any_from_yields_List}
use Rattle.command_words.specs.Parts.{pure_part, is_unknown}
use Rattle.command_words.specs.PartsLeft.{parts_left}
use Rattle.command_words.proofs.reading.has_unknown_flag.Goals as goal

pub returns : goal.returns
returns c =
    any_from_yields_List (is_unknown c.args.flags.now) c.any.new.self _ _ c.any.ensures.ran
    (YieldsList-from_first pure_part parts_left _ c.after_command.ensures.parts) (λ x b q k. search (rules, tests))
