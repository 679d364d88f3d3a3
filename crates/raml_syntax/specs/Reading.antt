-- What taking tokens from a text does.
use Rattle.std.specs.Prelude.{◌≡◌, ℕ, List, [], ◌∷◌, ◌++◌, None}
use Rattle.raml_lex.specs.Tokens.{Tok, token, step_of}
use Rattle.raml_lex.specs.Lexers.{Lexer}

-- one token was taken, and what stands before it was skipped
pub record TakesOne (t : Tok) (old new : Lexer) : Type 0 where
  pub no_fault : old.fault ≡ None
  pub step : step_of old.greatest old.rest ≡ token t new.rest
  -- what was skipped and taken
  pub passed : List ℕ
  pub rest : old.rest ≡ passed ++ new.rest
  pub before : new.before ≡ old.before ++ passed
  pub greatest : new.greatest ≡ old.greatest
  pub still_none : new.fault ≡ None

-- these tokens were taken, one after another
abbrev pub Takes : List Tok → Lexer → Lexer → Type 0
Takes [] old new = (old ≡ new)
Takes (t ∷ ts) old new = (mid : Lexer) × TakesOne t old mid × Takes ts mid new
