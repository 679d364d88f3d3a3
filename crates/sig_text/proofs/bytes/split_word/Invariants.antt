use Rattle.std.proofs.Common.{◌≡◌, ◌++◌, take, drop}
use Rattle.meta_base.specs.Bytes.{is_word_byte, front, after_front}
use Rattle.sig_text.proofs.bytes.split_word.Given as goal

abbrev pub invariant-loop-byte : goal.invariant-loop-byte
invariant-loop-byte l = record {
  count : l.len ≡ l.byte-index;
  front : take l.len l.text ++ front is_word_byte (drop l.len l.text) ≡ front is_word_byte l.text;
  after_front : after_front is_word_byte (drop l.len l.text) ≡ after_front is_word_byte l.text;
}
