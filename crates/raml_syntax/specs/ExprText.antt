-- Which algebra a text means, and which fault refuses it.
use Rattle.std.specs.Prelude.{◌≡◌, ◌⊎◌, List, ℕ, [], ◌∷◌, ◌++◌, false, Option, Some, None, if◌then◌else◌, codes}
use Rattle.std.specs.Str.{bytes_eq}
use Rattle.raml_lex.specs.Gaps.{gap_of}
use Rattle.raml_lex.specs.Places.{place_after}
use Rattle.raml_lex.specs.Tokens.{Tok, word, number, semicolon, Step, end, bad, token, step_of}
use Rattle.alg_model.specs.Bounds.{greatest_number}
use Rattle.alg_model.specs.Expressions.{PureAlg}
use Rattle.raml_syntax.specs.declared.faults.ExprFault.{ExprFault}
use Rattle.raml_syntax.specs.declared.faults.ExprKind.{ExprKind}
use Rattle.raml_syntax.specs.declared.faults.ExprKind.TheVariants.{TrailingText}
use Rattle.raml_syntax.specs.Faults.{kind_of}
use Rattle.raml_syntax.specs.Meaning.{edition_of}
use Rattle.raml_syntax.specs.Trees.{File}
use Rattle.raml_syntax.specs.Productions.{clean, FaultAt}

-- the number of the header that these tokens are, if they are one
abbrev pub header_from : Tok → Tok → Tok → Option ℕ
header_from (word w) (number n) semicolon = if bytes_eq w (codes "raml") then Some n else None
header_from _ _ _ = None

-- the number of the header that the tokens begin with, if they begin with one
abbrev pub header_of : List Tok → Option ℕ
header_of (t ∷ u ∷ v ∷ ts) = header_from t u v
header_of _ = None

-- the greatest number that may stand next after these tokens: that of profile 2 exactly where they begin
-- with `raml`, 2 and `;`, and else that of profile 1
abbrev pub greatest_following : List Tok → ℕ
greatest_following before = greatest_number (edition_of (header_of before))

-- after the tokens `before` the text begins with the tokens `ts`, and the rest is left
abbrev pub BeginsWith : List Tok → List Tok → List ℕ → List ℕ → Type 0
BeginsWith before [] text rest = text ≡ rest
BeginsWith before (t ∷ ts) text rest =
    (after : List ℕ) × (step_of (greatest_following before) text ≡ token t after) × BeginsWith (before ++ t ∷ []) ts after rest

-- the text means the algebra: its tokens are those of a file, and no fault stands at any of them
pub record ExprText (text : List ℕ) (a : PureAlg) : Type 0 where
  pub tokens : List Tok
  pub file : File a (clean tokens)
  -- the bytes after the last of them, where no other stands
  pub rest : List ℕ
  pub lexed : BeginsWith [] tokens text rest
  pub ended : step_of (greatest_following tokens) rest ≡ end

-- what comes after a whole file is at fault
abbrev pub Trails : Step → ExprKind → Type 0
Trails end k = ⊥
Trails (bad fault) k = k ≡ kind_of fault
Trails (token t rest) k = k ≡ TrailingText

-- the tokens at the front are a file without a fault
abbrev pub IsWhole : List Tok → Type 0
IsWhole front = (a : PureAlg) × File a (clean front)

-- what comes next after the front is at fault
abbrev pub Stands : List Tok → Step → ExprKind → Type 0
Stands front step k = FaultAt File front step k ⊎ (IsWhole front × Trails step k)

-- the text means no algebra, and this is its first fault
pub record IsExprFault (text : List ℕ) (f : ExprFault) : Type 0 where
  pub front : List Tok
  -- the bytes up to the end of the front, and those after it
  pub passed : List ℕ
  pub rest : List ℕ
  pub split : text ≡ passed ++ rest
  pub lexed : BeginsWith [] front text rest
  -- the place of what comes next, after spaces and comments
  pub place : f.place ≡ place_after (passed ++ gap_of false rest)
  pub shows : Stands front (step_of (greatest_following front) rest) f.kind
