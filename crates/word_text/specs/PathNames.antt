-- The names of the nodes on paths, each after a space.
use Rattle.std.specs.Prelude.{ℕ, List, ◌++◌, codes}
use Rattle.word_text.specs.declared.line.PathName.{PathName}
use Rattle.word_text.specs.declared.line.PathName.TheVariants.{Short, Long}

-- the bytes of a name with its space
abbrev pub name_text : PathName → List ℕ
name_text (Short text) = text
name_text (Long text) = text.items

-- a space and the name
abbrev pub after_space : List ℕ → List ℕ
after_space name = codes " " ++ name

-- a space, the name and a space
abbrev pub between_spaces : List ℕ → List ℕ
between_spaces name = codes " " ++ name ++ codes " "
