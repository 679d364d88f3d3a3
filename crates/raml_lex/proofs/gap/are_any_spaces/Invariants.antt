use Rattle.std.proofs.Common.{◌≡◌, take}
use Rattle.std.specs.List.{list_all}
use Rattle.meta_base.specs.Bytes.{is_space}
use Rattle.raml_lex.proofs.gap.are_any_spaces.Given as goal

abbrev pub invariant-loop-byte : goal.invariant-loop-byte
invariant-loop-byte l = l.all ≡ list_all is_space (take l.byte-index l.bytes)
