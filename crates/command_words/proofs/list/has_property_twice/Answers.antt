use Rattle.std.proofs.Common.{rules, tests}
use Rattle.std.proofs.lemmas.Iterator.{YieldsList-from_slice}
use Rattle.std.proofs.lemmas.Iterator.Search.{any_from_yields_List}
use Rattle.command_words.specs.Lists.{is_twice_among, list_words}
use Rattle.command_words.proofs.list.has_property_twice.Goals as goal

pub returns : goal.returns
returns c =
    any_from_yields_List (λ w. is_twice_among (list_words c.args.list.now) w.now) c.any.new.self _ _ c.any.ensures.ran
    (YieldsList-from_slice _ c.iter.ensures.rest) (λ x b q k. search (rules, tests))
