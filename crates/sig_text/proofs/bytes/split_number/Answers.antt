use Rattle.std.proofs.Common.{◌≡◌, ◌+◌, ◌-◌, ◌*◌, get_or, drop, true, arith, rules}
use Rattle.meta_base.specs.Bytes.{is_digit, front}
use Rattle.sig_text.proofs.Numbers.{after_more, number_from_more, number_from_le}
use Rattle.sig_text.proofs.bytes.split_number.Goals as goal
use Rattle.sig_text.proofs.bytes.split_number.Goals.{then-n-le-MAX_LITERAL_NUMBER, else-n-le-MAX_LITERAL_NUMBER}

pub loop-byte-preserved : goal.loop-byte-preserved
loop-byte-preserved c =
    let text = c.args.text.now in
    let i = c.loop-byte.byte-index in
    let digit : is_digit (get_or text i 0) ≡ true = search rules in
    let more = after_more is_digit text i (omega arith) digit in
    let number = number_from_more text i c.loop-byte.n (omega arith) digit in
    let least = number_from_le (front is_digit (drop (i + 1) text)) (10 * c.loop-byte.n + (get_or text i 0 - 48)) in
    let byte = c.type_inv.text i in
    elim c.if-n-le-MAX_LITERAL_NUMBER.branch [ then-n-le-MAX_LITERAL_NUMBER w ↦ grind arith | else-n-le-MAX_LITERAL_NUMBER w ↦ grind arith ]
