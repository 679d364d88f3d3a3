use Rattle.std.proofs.Common.{◌≡◌, ◌+◌, ◌-◌, ◌*◌, ◌∙◌, sym, get_or, drop, true, arith, rules}
use Rattle.meta_base.specs.Bytes.{is_digit, front}
use Rattle.raml_lex.proofs.Fronts.{number_from_more, number_from_le, at_most_none}
use Rattle.raml_lex.proofs.bytes.number_at_front.Goals as goal

pub returns-in_err-number : goal.returns-in_err-number
returns-in_err-number c =
    let text = c.args.text.now in
    let i = c.loop-byte.byte-index in
    let digit : is_digit (get_or text i 0) ≡ true = search rules in
    let more = number_from_more text i c.loop-byte.number (omega arith) digit in
    let least = number_from_le (front is_digit (drop (i + 1) text)) (10 * c.loop-byte.number + (get_or text i 0 - 48)) in
    let value = rw c.loop-byte.invariant.count at c.loop-byte.invariant.value in
    let above = at_most_none c.args.greatest (10 * c.loop-byte.number + (get_or text i 0 - 48)) (sym c.with_digit.ensures ∙ c.in_err-number.was) in
    rw c.from_residual.ensures (omega arith)
