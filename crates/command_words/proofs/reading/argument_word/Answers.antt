use Rattle.std.proofs.Common.{rules, tests, ◌≡◌, refl, slice_get}
use Rattle.std.specs.Option.{option_map}
use Rattle.std.specs.List.{filter}
use Rattle.std.proofs.lemmas.Iterator.Consumers.{YieldsList-from_first, YieldsList-from_filter, YieldsList-at, nth_from_yields_List}
use Rattle.command_words.specs.Parts.{pure_part, is_argument, parts_from}
use Rattle.command_words.specs.PartsLeft.{parts_left}
use Rattle.command_words.proofs.reading.argument_word.Goals as goal

pub returns-in_err-part : goal.returns-in_err-part
returns-in_err-part c =
    let found : option_map pure_part c.nth.result ≡ slice_get (filter is_argument (parts_from 1 c.args.rest.now)) c.args.number =
    nth_from_yields_List _ c.nth.new.self _ c.nth.ensures.ran (YieldsList-from_filter _ is_argument
    (YieldsList-at c.filter.ensures.source (YieldsList-from_first pure_part parts_left _ c.after_command.ensures.parts))
    c.filter.ensures.closure (λ x b q k. search (rules, tests))) in
    rw (c.from_residual.ensures, ← found, c.in_err-part.was) refl

pub returns : goal.returns
returns c =
    let found : option_map pure_part c.nth.result ≡ slice_get (filter is_argument (parts_from 1 c.args.rest.now)) c.args.number =
    nth_from_yields_List _ c.nth.new.self _ c.nth.ensures.ran (YieldsList-from_filter _ is_argument
    (YieldsList-at c.filter.ensures.source (YieldsList-from_first pure_part parts_left _ c.after_command.ensures.parts))
    c.filter.ensures.closure (λ x b q k. search (rules, tests))) in
    rw (c.word.ensures, ← found, c.in_ok-part.was) refl
