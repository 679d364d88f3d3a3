use Rattle.std.proofs.Common.{arith}
use Rattle.command_words.proofs.FirstParts.{first_flag}
use Rattle.command_words.proofs.parts.PartsIterator.next.Goals as goal

pub returns-then-is_flag-clause-steps : goal.returns-then-is_flag-clause-steps
returns-then-is_flag-clause-steps c =
    first_flag _ _ _ _ _ _ _ _ c.in_ok-word.ensures.word (cc) c.in_ok-word.ensures.place c.take_word-value.ensures.word c.take_word-value.ensures.place

pub returns-then-is_flag-clause-goes : goal.returns-then-is_flag-clause-goes
returns-then-is_flag-clause-goes c =
    let e = first_flag _ _ _ _ _ _ _ _ c.in_ok-word.ensures.word (cc) c.in_ok-word.ensures.place c.take_word-value.ensures.word c.take_word-value.ensures.place in
    grind (arith, e)
