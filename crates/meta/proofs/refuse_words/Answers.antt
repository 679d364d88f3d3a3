use Rattle.std.proofs.Common.{inl, inr, refl}
use Rattle.meta.proofs.refuse_words.Goals as goal

pub returns-in-Ok-flush : goal.returns-in-Ok-flush
returns-in-Ok-flush g c = inl (refl, (_, c.in-Ok.ensures, c.in-Ok-flush.ensures))

pub returns-in-Err-flush : goal.returns-in-Err-flush
returns-in-Err-flush g c = inr (refl, inr (_, c.in-Ok.ensures, c.in-Err-flush.ensures))

pub returns-in-Err : goal.returns-in-Err
returns-in-Err g c = inr (refl, inl c.in-Err.ensures)
