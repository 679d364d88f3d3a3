use Rattle.std.proofs.Common.{◌≡◌, take}
use Rattle.std.specs.List.{list_all}
use Rattle.raml_lex.specs.Gaps.{is_plain_space}
use Rattle.raml_lex.proofs.gap.are_plain_spaces.Given as goal

abbrev pub invariant-loop-byte : goal.invariant-loop-byte
invariant-loop-byte l = l.all ≡ list_all is_plain_space (take l.byte-index l.bytes)
