use Rattle.alg_model.proofs.membership.+is_member.Goals as goal

pub returns-in-Symbols : goal.returns-in-Symbols
returns-in-Symbols t c = rw (← c.in-Seqs.ensures.carrier, c.in-Symbols.is) (rw c.as_slice.ensures at c.are_below.ensures)
