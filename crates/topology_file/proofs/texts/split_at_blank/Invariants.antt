use Rattle.std.proofs.Common.{◌≡◌, ◌++◌, take, drop}
use Rattle.meta_base.specs.Bytes.{front, after_front}
use Rattle.topology_file.specs.Texts.{is_no_blank}
use Rattle.topology_file.proofs.texts.split_at_blank.Given as goal

abbrev pub invariant-loop-byte : goal.invariant-loop-byte
invariant-loop-byte l = record {
  count : l.len ≡ l.byte-index;
  front : take l.len l.text ++ front is_no_blank (drop l.len l.text) ≡ front is_no_blank l.text;
  after_front : after_front is_no_blank (drop l.len l.text) ≡ after_front is_no_blank l.text;
}
