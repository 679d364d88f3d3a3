-- Tokens of the program, without where they lie in memory.
use Rattle.std.specs.Prelude.{ℕ, List, [], take, drop, ◌<◌, ◌≤◌, length, ◌≡◌, true, not}
use Rattle.std.specs.List.{list_all}
use Rattle.meta_base.specs.Bytes.{is_line_feed}
use Rattle.raml_lex.specs.Tokens.{Tok, word, number, left_paren, right_paren, left_brace, right_brace, comma, semicolon, colon, dots, equals, less, arrow, Step, end, bad, token}
use Rattle.raml_lex.specs.declared.token.TokenKind.{TokenKind}
use Rattle.raml_lex.specs.declared.token.TokenKind.TheVariants as k
use Rattle.raml_lex.specs.declared.front.Front.{Front}
use Rattle.raml_lex.specs.declared.front.Front.TheVariants as f

-- the token of a kind with this text
abbrev pub tok_of : TokenKind → List ℕ → Tok
tok_of k.Word text = word text
tok_of (k.Number n) text = number n
tok_of k.LeftParen text = left_paren
tok_of k.RightParen text = right_paren
tok_of k.LeftBrace text = left_brace
tok_of k.RightBrace text = right_brace
tok_of k.Comma text = comma
tok_of k.Semicolon text = semicolon
tok_of k.Colon text = colon
tok_of k.Dots text = dots
tok_of k.Equals text = equals
tok_of k.Less text = less
tok_of k.Arrow text = arrow

-- what was found at the front of this text
abbrev pub step_for : Front → List ℕ → Step
step_for f.End text = end
step_for (f.Bad kind) text = bad kind
step_for (f.Found kind len) text = token (tok_of kind (take len text)) (drop len text)

-- a text of so many bytes, at least one, which stands within the text and within its line
pub record IsWithin (len : ℕ) (text : List ℕ) : Type 0 where
  pub some : 0 < len
  pub within : len ≤ length text
  pub one_line : list_all (λ c. not (is_line_feed c)) (take len text) ≡ true

-- what more is known of what was found
abbrev pub Fits : Front → List ℕ → Type 0
Fits f.End text = text ≡ []
Fits (f.Bad kind) text = Unit {0}
Fits (f.Found kind len) text = IsWithin len text
