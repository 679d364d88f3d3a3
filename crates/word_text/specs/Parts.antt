-- The parts of a carrier that are no pairs, and the texts between their values.
use Rattle.std.specs.Prelude.{◌≢◌, ℕ, List, [], ◌∷◌, ◌++◌, None, Some, codes}
use Rattle.alg_model.specs.Expressions.{PureCarrier, pairs}
use Rattle.alg_model.specs.Formation.{IsCarrier}
use Rattle.alg_model.specs.Views.{pure_carrier}
use Rattle.code_gen.specs.Encoding.{Dec, Front}
use Rattle.word_text.specs.Fronts.{front_text}
use Rattle.word_text.specs.PathNames.{name_text}
use Rattle.word_text.specs.declared.form.Part.{Part}

-- a part, and the text before its value
pub record PurePart : Type 0 where
  pub before : List ℕ
  pub carrier : PureCarrier

abbrev pub pure_part : Part → PurePart
pure_part p = record { before = name_text p.before; carrier = pure_carrier p.carrier }

-- the text after the last part
abbrev pub closing : PureCarrier → List ℕ
closing (pairs c d) = closing d ++ codes ")"
closing _ = []

-- the parts of a carrier after this text
abbrev pub parts_of : List ℕ → PureCarrier → List PurePart
parts_of before (pairs c d) = parts_of (before ++ codes "(") c ++ parts_of (closing c ++ codes ",") d
parts_of before c = record { before = before; carrier = c } ∷ []

-- the row after the value in front
abbrev pub rest_in : Front → List ℕ
rest_in (Some (v, rest)) = rest
rest_in None = []

-- the text of the values of these parts, whose words stand in front of a row one after another, and the texts before them
abbrev pub parts_text : List PurePart → List ℕ → List ℕ
parts_text [] row = []
parts_text (p ∷ parts) row = p.before ++ front_text p.carrier row ++ parts_text parts (rest_in (Dec p.carrier row))

-- the words of these parts' values stand there
abbrev pub AreThere : List PurePart → List ℕ → Type 0
AreThere [] row = Unit {0}
AreThere (p ∷ parts) row = IsCarrier p.carrier × (Dec p.carrier row ≢ None) × AreThere parts (rest_in (Dec p.carrier row))
