use Rattle.std.proofs.Common.{rules, tests, lit<, ap, ◌∙◌, ◌≡◌, length, nat_lt}
use Rattle.std.specs.List.{filter}
use Rattle.std.specs.Str.{bytes_eq}
use Rattle.std.proofs.lemmas.List.Sums.{length-filter}
use Rattle.std.proofs.lemmas.Iterator.Consumers.{YieldsList-from_filter, YieldsList-at, count_from_yields_List}
use Rattle.std.proofs.lemmas.Iterator.Splits.{YieldsList-from_str_split}
use Rattle.command_words.specs.Lists.{list_words}
use Rattle.command_words.proofs.list.has_word_twice.Goals as goal

pub returns : goal.returns
returns c =
    let counted : c.count.result ≡ length (filter (λ w. bytes_eq w c.args.word.now) (list_words c.args.list.now)) =
    count_from_yields_List _ _ c.count.ensures.ran (YieldsList-from_filter _ (λ w. bytes_eq w c.args.word.now)
    (YieldsList-at c.filter.ensures.source (YieldsList-from_str_split 44 c.args.list.now (lit< tt) c.split.ensures.text c.split.ensures.has_more c.split.ensures.pattern))
    c.filter.ensures.closure (λ x b q k. search (rules, tests))) in
    ap (nat_lt 1) (counted ∙ length-filter (λ w. bytes_eq w c.args.word.now) (list_words c.args.list.now))
