use Rattle.std.proofs.Common.{◌≡◌, ◌++◌, ◌-◌}
use Rattle.alg_model.specs.Texts.{numbers_text, members_from, members}
use Rattle.sig_text.specs.Listed.{listed, separator}
use Rattle.word_text.proofs.text.push_members.Given as goal

abbrev pub invariant-loop-k : goal.invariant-loop-k
invariant-loop-k l = l.out ++ listed (separator l.follows) (members_from l.k (l.count - l.k) l.marks) ≡ l.fn.out ++ numbers_text (members l.count l.marks)
