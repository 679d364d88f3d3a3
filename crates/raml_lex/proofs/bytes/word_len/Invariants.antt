use Rattle.std.proofs.Common.{◌≡◌, ◌++◌, take, drop}
use Rattle.meta_base.specs.Bytes.{is_word_byte, front, after_front}
use Rattle.raml_lex.proofs.bytes.word_len.Given as goal

-- the bytes so far are those of the word
abbrev pub invariant-loop-byte : goal.invariant-loop-byte
invariant-loop-byte l = record {
  count : l.len ≡ l.byte-index;
  bytes : take l.len l.text ++ front is_word_byte (drop l.len l.text) ≡ front is_word_byte l.text;
  left : after_front is_word_byte (drop l.len l.text) ≡ after_front is_word_byte l.text;
}
