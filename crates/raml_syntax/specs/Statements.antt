-- The statements of a file as they are read, one after another.
use Rattle.std.specs.Prelude.{ℕ, List, [], ◌∷◌, ◌||◌, Bool, Result, None, codes}
use Rattle.meta_base.specs.Numbers.{max_number}
use Rattle.raml_lex.specs.Tokens.{semicolon, equals}
use Rattle.raml_lex.specs.Lexers.{Lexer}
use Rattle.alg_model.specs.Expressions.{Expression}
use Rattle.raml_syntax.specs.declared.faults.AlgError.{AlgError}
use Rattle.raml_syntax.specs.declared.faults.AlgError.TheVariants.{Bad, NoMemory}
use Rattle.raml_syntax.specs.declared.file.Keyword.{Keyword}
use Rattle.raml_syntax.specs.declared.file.Keyword.TheVariants as k
use Rattle.raml_syntax.specs.Syntax.{is_among, is_expression_word}
use Rattle.raml_syntax.specs.Meaning.{Definition}
use Rattle.raml_syntax.specs.Marks.{Mark, plain_word, let_name}
use Rattle.raml_syntax.specs.Forms.{After}
use Rattle.raml_syntax.specs.Trees.{Expr, Rest}
use Rattle.raml_syntax.specs.ExprText.{IsExprFault}
use Rattle.raml_syntax.specs.Sequences.{Nothing, One, Then, Reads}

-- the word begins a statement
abbrev pub is_keyword : List ℕ → Bool
is_keyword w = is_among (codes "let" ∷ codes "main" ∷ []) w

-- the word is one of the grammar's
abbrev pub is_reserved : List ℕ → Bool
is_reserved w = is_expression_word w || is_keyword w

-- the word of this keyword
abbrev pub keyword_word : Keyword → List ℕ
keyword_word k.Let = codes "let"
keyword_word k.Main = codes "main"

abbrev pub Opens : Keyword → List Mark → Type 0
Opens = One (λ key. plain_word (keyword_word key))

-- an expression and its semicolon
abbrev pub Body : List Definition → Expression → List Mark → Type 0
Body ds = Then (Expr ds 0) (λ a. After semicolon (Nothing a))

-- a `let` after its word, which defines one name more
abbrev pub Let : List Definition → List Definition → List Mark → Type 0
Let ds = Then (One (let_name ds)) (λ name. After equals (Then (Body ds) (λ a. Nothing (record { name = name; expression = a } ∷ ds))))

-- what is left of a file after the word that begins a statement
abbrev pub Statement : List Definition → Keyword → Expression → List Mark → Type 0
Statement ds k.Let = Then (Let ds) Rest
Statement ds k.Main = Body ds

-- the statement that began with `first` leads to one that begins with `key`: whatever is read after that
-- word makes all from the first on
abbrev pub Leads : Keyword → Lexer → List Definition → Keyword → Lexer → Type 0
Leads first old ds key now = (result : Result Expression AlgError) (new : Lexer) → Reads (Statement ds key) now result new → Reads (Statement [] first) old result new

-- the reader at the start of a text
abbrev pub start : List ℕ → Lexer
start text = record { before = []; rest = text; greatest = max_number; fault = None }

-- the fault is the first of the text
abbrev pub IsAlgError : List ℕ → AlgError → Type 0
IsAlgError text (Bad f) = IsExprFault text f
IsAlgError text NoMemory = Unit {0}
