use Rattle.std.proofs.Common.{◌≡◌, ◌++◌, take, drop}
use Rattle.meta_base.specs.Bytes.{front, after_front}
use Rattle.topology_file.specs.Keys.{AreBytes, key_from}
use Rattle.topology_file.specs.QuickForms.{is_said_byte}
use Rattle.topology_file.proofs.quick_forms.said_front.Given as goal

abbrev pub invariant-loop-byte : goal.invariant-loop-byte
invariant-loop-byte l = record {
  count : l.len ≡ l.byte-index;
  key : key_from l.key (front is_said_byte (drop l.len l.text)) ≡ key_from 0 (front is_said_byte l.text);
  bytes : AreBytes (front is_said_byte (drop l.len l.text)) → AreBytes (front is_said_byte l.text);
  front : take l.len l.text ++ front is_said_byte (drop l.len l.text) ≡ front is_said_byte l.text;
  after_front : after_front is_said_byte (drop l.len l.text) ≡ after_front is_said_byte l.text;
}
