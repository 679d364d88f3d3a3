-- What an attempt to read one token comes to.
use Rattle.std.specs.Prelude.{◌≡◌, ℕ, List, None}
use Rattle.meta_base.specs.declared.ids.Place.{Place}
use Rattle.raml_lex.specs.declared.token.LexKind.TheVariants as lex
use Rattle.raml_lex.specs.declared.token.TokenKind.{TokenKind}
use Rattle.raml_lex.specs.declared.token.TokenKind.TheVariants as kind
use Rattle.raml_lex.specs.Tokens.{Tok, word, number, Step, end, bad, token, step_of}
use Rattle.raml_lex.specs.Lexers.{Lexer, next_place}
use Rattle.raml_syntax.specs.declared.faults.ExprKind.{ExprKind}
use Rattle.raml_syntax.specs.declared.faults.ExprKind.TheVariants.{BadByte, Unexpected, EndOfText}
use Rattle.raml_syntax.specs.declared.faults.AlgError.{AlgError}
use Rattle.raml_syntax.specs.declared.faults.AlgError.TheVariants.{Bad, NoMemory}
use Rattle.raml_syntax.specs.Faults.{kind_of}
use Rattle.raml_syntax.specs.Reading.{TakesOne}

-- a reader of tokens that has met no fault
pub record IsReady (x : Lexer) : Type 0 where
  pub no_fault : x.fault ≡ None

-- a token was taken, and stood at this place
pub record TakesAt (t : Tok) (here : Place) (old new : Lexer) : Type 0 where
  pub takes : TakesOne t old new
  pub place : here ≡ next_place old

-- no token stands next, and what does is at fault wherever a token but a number may stand
abbrev pub EndsWith : Step → ExprKind → Type 0
EndsWith end k = k ≡ EndOfText
EndsWith (bad lex.BadByte) k = k ≡ BadByte
EndsWith (bad lex.NumberTooLarge) k = k ≡ Unexpected
EndsWith (token t rest) k = ⊥

-- what stands next isn't a token that is wanted, and this is its fault
abbrev pub Misses : (Tok → Type 0) → Step → ExprKind → Type 0
Misses wanted end k = k ≡ EndOfText
Misses wanted (bad lex.BadByte) k = k ≡ BadByte
Misses wanted (bad lex.NumberTooLarge) k = k ≡ Unexpected
Misses wanted (token t rest) k = (k ≡ Unexpected) × (wanted t → ⊥)

-- the same where a number is wanted
abbrev pub MissesNumber : Step → ExprKind → Type 0
MissesNumber end k = k ≡ EndOfText
MissesNumber (bad fault) k = k ≡ kind_of fault
MissesNumber (token t rest) k = (k ≡ Unexpected) × ((n : ℕ) → t ≡ number n → ⊥)

-- the error says what stands next and where
abbrev pub IsRefusal : (Step → ExprKind → Type 0) → Lexer → AlgError → Type 0
IsRefusal Is old (Bad f) = (f.place ≡ next_place old) × Is (step_of old.greatest old.rest) f.kind
IsRefusal Is old NoMemory = ⊥

-- it is this token
abbrev pub IsTok : Tok → Tok → Type 0
IsTok wanted t = t ≡ wanted

-- it is a word
abbrev pub IsWord : Tok → Type 0
IsWord t = (w : List ℕ) × (t ≡ word w)

-- the kind is that of a mark
abbrev pub IsMark : TokenKind → Type 0
IsMark kind.Word = ⊥
IsMark (kind.Number n) = ⊥
IsMark _ = Unit {0}
