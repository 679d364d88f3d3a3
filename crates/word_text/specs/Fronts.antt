-- The value whose words stand in front of a row.
use Rattle.std.specs.Prelude.{◌≡◌, ℕ, List, Some}
use Rattle.alg_model.specs.Expressions.{PureCarrier}
use Rattle.alg_model.specs.Texts.{value_text}
use Rattle.code_gen.specs.Encoding.{Dec, value_in}

-- its text
abbrev pub front_text : PureCarrier → List ℕ → List ℕ
front_text c row = value_text c (value_in (Dec c row))

-- the second row comes after its words in the first
abbrev pub Leaves : PureCarrier → List ℕ → List ℕ → Type 0
Leaves c row rest = Some (value_in (Dec c row), rest) ≡ Dec c row
