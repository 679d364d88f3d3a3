-- Tokens of one kind at the front of a text, each known by its first byte or two.
use Rattle.std.specs.Prelude.{◌≡◌, ℕ, List, [], ◌∷◌, Bool, false, ◌&&◌, ◌==◌, take, drop, if◌then◌else◌}
use Rattle.meta_base.specs.Bytes.{is_letter}
use Rattle.raml_lex.specs.declared.token.TokenKind.{TokenKind}
use Rattle.raml_lex.specs.declared.token.TokenKind.TheVariants as k
use Rattle.raml_lex.specs.Tokens.{token, token_at}
use Rattle.raml_lex.specs.Views.{IsWithin, tok_of}

-- the text after the blank at its front, if one stands there
abbrev pub after_blank : List ℕ → List ℕ
after_blank [] = []
after_blank (c ∷ cs) = if c == 32 then cs else c ∷ cs

abbrev pub begins_letter : List ℕ → Bool
begins_letter [] = false
begins_letter (c ∷ cs) = is_letter c

abbrev pub begins : ℕ → List ℕ → Bool
begins a [] = false
begins a (c ∷ cs) = c == a

abbrev pub begins_pair : ℕ → ℕ → List ℕ → Bool
begins_pair a b [] = false
begins_pair a b (c ∷ cs) = c == a && begins b cs

-- does a token of the kind stand at the front? Of numbers nothing is said.
abbrev pub stands : TokenKind → List ℕ → Bool
stands k.Word text = begins_letter text
stands (k.Number n) text = false
stands k.LeftParen text = begins 40 text
stands k.RightParen text = begins 41 text
stands k.LeftBrace text = begins 123 text
stands k.RightBrace text = begins 125 text
stands k.Comma text = begins 44 text
stands k.Semicolon text = begins 59 text
stands k.Colon text = begins 58 text
stands k.Dots text = begins_pair 46 46 text
stands k.Equals text = begins 61 text
stands k.Less text = begins 60 text
stands k.Arrow text = begins_pair 45 62 text

-- how many bytes a mark has
abbrev pub mark_len : TokenKind → ℕ
mark_len k.Dots = 2
mark_len k.Arrow = 2
mark_len _ = 1

-- the token of this kind at the front has so many bytes
pub record IsFront (kind : TokenKind) (text : List ℕ) (len : ℕ) : Type 0 where
  pub step : (greatest : ℕ) → token (tok_of kind (take len text)) (drop len text) ≡ token_at greatest text
  pub within : IsWithin len text
