-- Faults: their numbers, and what those of the lexer come to.
use Rattle.std.specs.Prelude.{ℕ}
use Rattle.raml_lex.specs.declared.token.LexKind.{LexKind}
use Rattle.raml_lex.specs.declared.token.LexKind.TheVariants as lex
use Rattle.raml_syntax.specs.declared.faults.ExprKind.{ExprKind}
use Rattle.raml_syntax.specs.declared.faults.ExprKind.TheVariants.{BadByte, Unexpected, EndOfText, NumberTooLarge, UnknownName, NameTwice, BadRange, CarriersDiffer, TooLarge, BadTable, TrailingText, UnknownProfile}

-- the number that stands after the X of a printed fault
abbrev pub fault_number : ExprKind → ℕ
fault_number BadByte = 1
fault_number Unexpected = 2
fault_number EndOfText = 3
fault_number NumberTooLarge = 4
fault_number UnknownName = 5
fault_number NameTwice = 6
fault_number BadRange = 7
fault_number CarriersDiffer = 8
fault_number TooLarge = 9
fault_number BadTable = 10
fault_number TrailingText = 11
fault_number UnknownProfile = 12

-- the fault of bytes that are no token, where a number may stand
abbrev pub kind_of : LexKind → ExprKind
kind_of lex.BadByte = BadByte
kind_of lex.NumberTooLarge = NumberTooLarge
