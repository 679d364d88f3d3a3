use Rattle.std.proofs.Common.{◌≡◌, ◌<◌, ◌≤◌, ◌^◌, drop}
use Rattle.meta_base.specs.Bytes.{is_digit, front, after_front, number_from}
use Rattle.sig_text.proofs.bytes.split_number.Given as goal

-- the digits so far spell n, or more than a text may hold
abbrev pub invariant-loop-byte : goal.invariant-loop-byte
invariant-loop-byte l =
    let all = number_from 0 (front is_digit l.text) in
    record {
      count : l.len ≡ l.byte-index;
      after_front : after_front is_digit (drop l.len l.text) ≡ after_front is_digit l.text;
      bound : l.n < 2 ^ 124;
      small : l.n ≤ 2 ^ 119 → number_from l.n (front is_digit (drop l.len l.text)) ≡ all;
      large : 2 ^ 119 < l.n → 2 ^ 119 < all;
    }
