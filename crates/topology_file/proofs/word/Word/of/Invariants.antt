use Rattle.std.proofs.Common.{◌≡◌, drop}
use Rattle.topology_file.specs.Keys.{AreBytes, key_from}
use Rattle.topology_file.proofs.word.Word.of.Given as goal

abbrev pub invariant-loop-byte : goal.invariant-loop-byte
invariant-loop-byte l = record {
  key : key_from l.key (drop l.byte-index l.text) ≡ key_from 0 l.text;
  bytes : AreBytes (drop l.byte-index l.text) → AreBytes l.text;
}
