-- What an iterator over parts yields.
use Rattle.std.specs.Prelude.{List}
use Rattle.command_words.specs.declared.parts.Parts.{Parts}
use Rattle.command_words.specs.Parts.{PurePart, parts_from}

-- the parts that it has yet to yield
abbrev pub parts_left : Parts → List PurePart
parts_left parts = parts_from parts.place parts.words.now
