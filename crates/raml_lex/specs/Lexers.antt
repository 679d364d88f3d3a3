-- What a reader of tokens shows, and what a call does to that.
use Rattle.std.specs.Prelude.{◌≡◌, ◌⊎◌, ◌<◌, ℕ, List, [], ◌++◌, false, length, Option, Some, None}
use Rattle.meta_base.specs.declared.ids.Place.{Place}
use Rattle.raml_lex.specs.declared.token.Token.{Token}
use Rattle.raml_lex.specs.declared.token.LexFault.{LexFault}
use Rattle.raml_lex.specs.Gaps.{gap_of, IsGap}
use Rattle.raml_lex.specs.Places.{place_after}
use Rattle.raml_lex.specs.Tokens.{step_of, end, bad, token}
use Rattle.raml_lex.specs.Views.{tok_of}

-- what a reader shows at one moment: the source is the bytes before and then the rest
pub record Lexer : Type 0 where
  -- the bytes of the tokens that were handed out, with what stands before and between them
  pub before : List ℕ
  -- the bytes that are left
  pub rest : List ℕ
  -- the greatest number that a token may hold
  pub greatest : ℕ
  -- the fault that was met
  pub fault : Option LexFault

-- the place of what stands at the front, after its spaces and comments
abbrev pub next_place : Lexer → Place
next_place x = place_after (x.before ++ gap_of false x.rest)

-- a token was handed out: its text is the slice of the source that follows what was handed out
-- before, with only spaces and comments between
pub record Found (old : Lexer) (t : Token) (new : Lexer) : Type 0 where
  pub no_fault : old.fault ≡ None
  -- it is the token that stands at the front, and what comes after it is left
  pub step : step_of old.greatest old.rest ≡ token (tok_of t.kind t.text.now) new.rest
  pub some : 0 < length t.text.now
  -- where its text stands
  pub text : old.rest ≡ gap_of false old.rest ++ (t.text.now ++ new.rest)
  pub gap : IsGap false (gap_of false old.rest) (t.text.now ++ new.rest)
  pub place : t.place ≡ next_place old
  -- what is shown then
  pub before : new.before ≡ old.before ++ (gap_of false old.rest ++ t.text.now)
  pub greatest : new.greatest ≡ old.greatest
  pub still_none : new.fault ≡ None

-- nothing but spaces and comments was left, and now nothing is
pub record Ended (old new : Lexer) : Type 0 where
  pub no_fault : old.fault ≡ None
  pub step : step_of old.greatest old.rest ≡ end
  pub all : gap_of false old.rest ≡ old.rest
  pub gap : IsGap false old.rest []
  pub after : new ≡ record old { before = old.before ++ old.rest; rest = [] }

-- the fault stands at the front, or was met before; it is kept, and nothing else changes
pub record Faulted (old : Lexer) (f : LexFault) (new : Lexer) : Type 0 where
  pub cause : (old.fault ≡ Some f) ⊎ ((old.fault ≡ None) × (step_of old.greatest old.rest ≡ bad f.kind) × (f.place ≡ next_place old))
  pub after : new ≡ record old { fault = Some f }
