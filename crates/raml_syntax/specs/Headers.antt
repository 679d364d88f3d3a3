-- A file as it is read: its header, if it has one, and then its statements. The greatest number of the
-- tokens changes after a header, so what was read of a text is said for each part, and then joined.
use Rattle.std.specs.Prelude.{◌≡◌, ℕ, List, [], ◌∷◌, ◌++◌, Bool, Result, Ok, Err, Some, codes}
use Rattle.raml_lex.specs.Tokens.{Tok, semicolon}
use Rattle.raml_lex.specs.Lexers.{Lexer}
use Rattle.alg_model.specs.declared.edition.Edition.{Edition}
use Rattle.alg_model.specs.declared.edition.Edition.TheVariants as profile
use Rattle.alg_model.specs.declared.tree.Tree.{Tree}
use Rattle.alg_model.specs.Expressions.{Expression, PureAlg}
use Rattle.alg_model.specs.Views.{expression_of}
use Rattle.raml_syntax.specs.declared.faults.AlgError.{AlgError}
use Rattle.raml_syntax.specs.declared.file.Keyword.{Keyword}
use Rattle.raml_syntax.specs.declared.file.Opening.{Opening}
use Rattle.raml_syntax.specs.declared.file.Opening.TheVariants as o
use Rattle.raml_syntax.specs.Syntax.{is_among}
use Rattle.raml_syntax.specs.Meaning.{edition_of}
use Rattle.raml_syntax.specs.Marks.{Mark, plain_word, header_number}
use Rattle.raml_syntax.specs.Productions.{clean}
use Rattle.raml_syntax.specs.Forms.{After}
use Rattle.raml_syntax.specs.Trees.{Rest, File}
use Rattle.raml_syntax.specs.Sequences.{Nothing, One, Then, Reads, map_ok}
use Rattle.raml_syntax.specs.ExprText.{greatest_following, BeginsWith}
use Rattle.raml_syntax.specs.Statements.{keyword_word, Statement, IsAlgError}

-- a file may begin with the word
abbrev pub is_opening : List ℕ → Bool
is_opening w = is_among (codes "raml" ∷ codes "let" ∷ codes "main" ∷ []) w

-- the word that a file begins with
abbrev pub opening_word : Opening → List ℕ
opening_word o.Header = codes "raml"
opening_word (o.Statement key) = keyword_word key

abbrev pub Starts : Opening → List Mark → Type 0
Starts = One (λ opening. plain_word (opening_word opening))

-- a header after its word
abbrev pub Profile : Edition → List Mark → Type 0
Profile = Then (One header_number) (λ n. After semicolon (Nothing (edition_of (Some n))))

-- what the production means, in this edition
abbrev pub InEdition : Edition → (Expression → List Mark → Type 0) → PureAlg → List Mark → Type 0
InEdition edition P a ms = (a.edition ≡ edition) × P a.expression ms

-- what is left of a file after the word that it begins with
abbrev pub Opened : Opening → PureAlg → List Mark → Type 0
Opened o.Header = Then Profile (λ edition. InEdition edition (Rest []))
Opened (o.Statement key) = InEdition profile.One (Statement [] key)

-- the reader took these tokens from the front of the text
pub record HasTaken (text : List ℕ) (ts : List Tok) (now : Lexer) : Type 0 where
  pub split : text ≡ now.before ++ now.rest
  pub lexed : BeginsWith [] ts text now.rest
  pub greatest : now.greatest ≡ greatest_following ts

-- a file was read from the front of the text, or the fault is the first of the text
abbrev pub ReadsText : List ℕ → Result PureAlg AlgError → Lexer → Type 0
ReadsText text (Ok a) now = (ts : List Tok) × File a (clean ts) × HasTaken text ts now
ReadsText text (Err e) now = IsAlgError text e

-- the algebra of this expression in this edition
abbrev pub alg_in : Edition → Expression → PureAlg
alg_in edition a = record { expression = a; edition = edition }

-- what was read of a file
abbrev pub alg_read : Edition × Tree → PureAlg
alg_read (edition, tree) = alg_in edition (expression_of tree)

-- what stood before leads to here: whatever is read after the word of the first statement makes the file
abbrev pub LeadsText : List ℕ → Edition → Keyword → Lexer → Type 0
LeadsText text edition key now =
    (result : Result Expression AlgError) (new : Lexer) → Reads (Statement [] key) now result new → ReadsText text (map_ok (alg_in edition) result) new
