use Rattle.std.proofs.Common.{◌≡◌, ◌++◌, ◌≤◌, take, drop}
use Rattle.meta_base.specs.Bytes.{is_digit, front, after_front, number_from}
use Rattle.raml_lex.proofs.bytes.number_at_front.Given as goal

-- the digits so far spell the number
abbrev pub invariant-loop-byte : goal.invariant-loop-byte
invariant-loop-byte l = record {
  count : l.len ≡ l.byte-index;
  small : l.number ≤ l.greatest;
  bytes : take l.len l.text ++ front is_digit (drop l.len l.text) ≡ front is_digit l.text;
  left : after_front is_digit (drop l.len l.text) ≡ after_front is_digit l.text;
  value : number_from l.number (front is_digit (drop l.len l.text)) ≡ number_from 0 (front is_digit l.text);
}
