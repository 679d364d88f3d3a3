-- Productions of parts, and what an attempt to read one comes to.
use Rattle.std.specs.Prelude.{◌≡◌, List, [], ◌∷◌, ◌++◌, Result, Ok, Err}
use Rattle.raml_lex.specs.Tokens.{Tok, step_of}
use Rattle.raml_lex.specs.Lexers.{Lexer, next_place}
use Rattle.raml_syntax.specs.declared.faults.ExprFault.{ExprFault}
use Rattle.raml_syntax.specs.declared.faults.AlgError.{AlgError}
use Rattle.raml_syntax.specs.declared.faults.AlgError.TheVariants.{Bad, NoMemory}
use Rattle.raml_syntax.specs.Marks.{Mark}
use Rattle.raml_syntax.specs.Productions.{clean, toks, FaultAt}
use Rattle.raml_syntax.specs.Reading.{Takes}

-- nothing, which means this
abbrev pub Nothing : {R : Type 0} → R → R → List Mark → Type 0
Nothing meant r ms = (r ≡ meant) × (ms ≡ [])

-- one mark, which depends on what it means
abbrev pub One : {R : Type 0} → (R → Mark) → R → List Mark → Type 0
One f r ms = ms ≡ f r ∷ []

-- a production, and then one that depends on what the first means
abbrev pub Then : {R S : Type 0} → (R → List Mark → Type 0) → (R → S → List Mark → Type 0) → S → List Mark → Type 0
Then {R} P Q s ms = (r : R) × (xs : List Mark) × (ys : List Mark) × P r xs × Q r s ys × (ms ≡ xs ++ ys)

-- after these tokens comes what the production refuses
pub record FaultFrom {R : Type 0} (P : R → List Mark → Type 0) (old : Lexer) (f : ExprFault) : Type 0 where
  pub front : List Tok
  pub at : Lexer
  pub taken : Takes front old at
  pub place : f.place ≡ next_place at
  pub shows : FaultAt P front (step_of at.greatest at.rest) f.kind

-- the tokens of what was read were taken, and no fault stands at them; or a fault comes next after some
abbrev pub Reads : {R : Type 0} → (R → List Mark → Type 0) → Lexer → Result R AlgError → Lexer → Type 0
Reads P old (Ok r) new = (ts : List Tok) × P r (clean ts) × Takes ts old new
Reads P old (Err (Bad f)) new = FaultFrom P old f
Reads P old (Err NoMemory) new = Unit {0}

-- tokens that begin a text of the production are its only ones, and say what they mean
abbrev pub IsDetermined : {R : Type 0} → (R → List Mark → Type 0) → Type 0
IsDetermined {R} P = (r s : R) (xs ys : List Mark) (y z : List Tok) → P r xs → P s ys → toks xs ++ y ≡ toks ys ++ z → (r ≡ s) × (xs ≡ ys)

-- there is something that the production takes
abbrev pub IsPossible : {R : Type 0} → (R → List Mark → Type 0) → Type 0
IsPossible {R} P = (r : R) × (ms : List Mark) × P r ms

-- the result under another name
abbrev pub map_ok : {R S E : Type 0} → (R → S) → Result R E → Result S E
map_ok f (Ok r) = Ok (f r)
map_ok f (Err e) = Err e
