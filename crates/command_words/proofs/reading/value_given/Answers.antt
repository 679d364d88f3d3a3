use Rattle.std.proofs.Common.{rules, tests, ◌≡◌, refl}
use Rattle.std.specs.Option.{option_map}
use Rattle.std.specs.List.{find}
use Rattle.std.proofs.lemmas.Iterator.Consumers.{YieldsList-from_first}
use Rattle.std.proofs.lemmas.Iterator.Search.{find_from_yields_List}
use Rattle.command_words.specs.Parts.{pure_part, gives, parts_from}
use Rattle.command_words.specs.PartsLeft.{parts_left}
use Rattle.command_words.proofs.reading.value_given.Goals as goal

pub returns-in_err-find : goal.returns-in_err-find
returns-in_err-find c =
    let found : option_map pure_part c.find.result ≡ find (gives c.args.flag) (parts_from 1 c.args.rest.now) =
    find_from_yields_List (gives c.args.flag) c.find.new.self _ c.find.result c.find.ensures.ran
    (YieldsList-from_first pure_part parts_left _ c.after_command.ensures.parts) (λ x b q k. search (rules, tests)) in
    rw (c.from_residual.ensures, ← found, c.in_err-find.was) refl

pub returns : goal.returns
returns c =
    let found : option_map pure_part c.find.result ≡ find (gives c.args.flag) (parts_from 1 c.args.rest.now) =
    find_from_yields_List (gives c.args.flag) c.find.new.self _ c.find.result c.find.ensures.ran
    (YieldsList-from_first pure_part parts_left _ c.after_command.ensures.parts) (λ x b q k. search (rules, tests)) in
    rw (c.value.ensures, ← found, c.in_ok-find.was) refl
