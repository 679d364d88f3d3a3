use Rattle.std.proofs.Common.{refl}
use Rattle.sig_text.proofs.value.symbols_at.Goals as goal

pub returns : goal.returns
returns c = (rw (c.in_ok-numbers.ensures.0, c.in_ok-symbols_from.ensures, c.deref.ensures.value) refl, λ h. absurd (cc))
