-- The tokens of a text. The greatest number that a text may hold is an argument.
use Rattle.std.specs.Prelude.{◌≡◌, ℕ, List, [], ◌∷◌, false, ◌==◌, nat_le, if◌then◌else◌}
use Rattle.raml_lex.specs.declared.token.LexKind.{LexKind}
use Rattle.raml_lex.specs.declared.token.LexKind.TheVariants.{BadByte, NumberTooLarge}
use Rattle.meta_base.specs.Bytes.{is_digit, is_letter, is_word_byte, front, after_front, number_from}
use Rattle.raml_lex.specs.Gaps.{after_gap}

-- a token: a word with its bytes, a number with its value, or a mark
pub data Tok : Type 0 where
  word : List ℕ → Tok
  number : ℕ → Tok
  left_paren : Tok
  right_paren : Tok
  left_brace : Tok
  right_brace : Tok
  comma : Tok
  semicolon : Tok
  colon : Tok
  dots : Tok
  equals : Tok
  less : Tok
  arrow : Tok

-- what stands at the front: nothing, a fault, or a token and what comes after it
pub data Step : Type 0 where
  end : Step
  bad : LexKind → Step
  token : Tok → List ℕ → Step

-- a number that these digits spell, if it isn't too large
abbrev pub number_at : ℕ → List ℕ → List ℕ → Step
number_at greatest digits rest = if nat_le (number_from 0 digits) greatest then token (number (number_from 0 digits)) rest else bad NumberTooLarge

-- a mark of two bytes, after the first
abbrev pub pair_at : ℕ → Tok → List ℕ → Step
pair_at second t [] = bad BadByte
pair_at second t (c ∷ cs) = if c == second then token t cs else bad BadByte

-- the mark that begins with this byte: `(` `)` `{` `}` `,` `;` `:` `=` `<` `..` `->`
abbrev pub mark_at : ℕ → List ℕ → Step
mark_at c cs =
    if c == 40 then token left_paren cs else
    (if c == 41 then token right_paren cs else
    (if c == 123 then token left_brace cs else
    (if c == 125 then token right_brace cs else
    (if c == 44 then token comma cs else
    (if c == 59 then token semicolon cs else
    (if c == 58 then token colon cs else
    (if c == 61 then token equals cs else
    (if c == 60 then token less cs else
    (if c == 46 then pair_at 46 dots cs else
    (if c == 45 then pair_at 62 arrow cs else
    bad BadByte))))))))))

-- the longest token of a text that begins with no space and no comment
abbrev pub token_at : ℕ → List ℕ → Step
token_at greatest [] = end
token_at greatest (c ∷ cs) =
    if is_letter c then token (word (front is_word_byte (c ∷ cs))) (after_front is_word_byte (c ∷ cs)) else
    (if is_digit c then number_at greatest (front is_digit (c ∷ cs)) (after_front is_digit (c ∷ cs)) else
    mark_at c cs)

-- spaces and comments are skipped, and the longest token is taken
abbrev pub step_of : ℕ → List ℕ → Step
step_of greatest text = token_at greatest (after_gap false text)

-- these are the tokens of the text, all of it
abbrev pub Lexes : ℕ → List Tok → List ℕ → Type 0
Lexes greatest [] text = step_of greatest text ≡ end
Lexes greatest (t ∷ ts) text = (rest : List ℕ) × (step_of greatest text ≡ token t rest) × Lexes greatest ts rest
