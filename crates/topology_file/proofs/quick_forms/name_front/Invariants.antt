use Rattle.std.proofs.Common.{◌≡◌, ◌++◌, take, drop}
use Rattle.meta_base.specs.Bytes.{front, after_front}
use Rattle.net_graph.specs.Nets.{is_name_byte}
use Rattle.topology_file.specs.Keys.{key_from}
use Rattle.topology_file.proofs.quick_forms.name_front.Given as goal

abbrev pub invariant-loop-byte : goal.invariant-loop-byte
invariant-loop-byte l = record {
  count : l.len ≡ l.byte-index;
  key : key_from l.key (front is_name_byte (drop l.len l.text)) ≡ key_from 0 (front is_name_byte l.text);
  front : take l.len l.text ++ front is_name_byte (drop l.len l.text) ≡ front is_name_byte l.text;
  after_front : after_front is_name_byte (drop l.len l.text) ≡ after_front is_name_byte l.text;
}
