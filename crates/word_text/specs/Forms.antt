-- Carriers that are prepared for printing.
use Rattle.std.specs.Prelude.{◌≡◌, ℕ, List, ◌++◌, map}
use Rattle.alg_model.specs.Expressions.{PureCarrier}
use Rattle.alg_model.specs.Formation.{IsCarrier}
use Rattle.alg_model.specs.Texts.{value_text}
use Rattle.code_gen.specs.Encoding.{decoded, IsEncoded}
use Rattle.word_text.specs.Parts.{PurePart, parts_text, pure_part, AreThere}
use Rattle.word_text.specs.PathNames.{name_text}
use Rattle.word_text.specs.declared.form.ValueForm.{ValueForm}

-- the parts of a form, and its text with these words
abbrev pub form_parts : ValueForm → List PurePart
form_parts form = map pure_part form.parts.items

abbrev pub form_text : ValueForm → List ℕ → List ℕ
form_text form words = parts_text (form_parts form) words ++ name_text form.end

-- the form is the carrier's: with the words of any of its values it has the value's text
pub record Prints (c : PureCarrier) (form : ValueForm) : Type 0 where
  pub there : (words : List ℕ) → IsCarrier c → IsEncoded c words → AreThere (form_parts form) words
  pub text : (words : List ℕ) → IsEncoded c words → form_text form words ≡ value_text c (decoded c words)
