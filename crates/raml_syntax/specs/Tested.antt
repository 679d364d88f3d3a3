-- Names of a table, where a test says whether they are at fault.
use Rattle.std.specs.Prelude.{◌≡◌, List, Bool, true, false, Result, Ok, Err}
use Rattle.meta_base.specs.declared.ids.Place.{Place}
use Rattle.raml_lex.specs.Lexers.{Lexer}
use Rattle.raml_syntax.specs.declared.faults.ExprKind.TheVariants.{BadTable}
use Rattle.raml_syntax.specs.declared.faults.AlgError.{AlgError}
use Rattle.raml_syntax.specs.declared.faults.AlgError.TheVariants.{Bad, NoMemory}
use Rattle.raml_syntax.specs.Marks.{Mark}
use Rattle.raml_syntax.specs.Sequences.{Reads}

-- the result of reading the name at this place: this where the test passes, and else that it is at fault
abbrev pub Tested : {R : Type 0} → Bool → Place → R → Result R AlgError → Type 0
Tested test here r (Err NoMemory) = Unit {0}
Tested true here r (Ok s) = s ≡ r
Tested true here r (Err (Bad f)) = ⊥
Tested false here r (Ok s) = ⊥
Tested false here r (Err (Bad f)) = f ≡ record { kind = BadTable; place = here }

-- the production was read after the name at this place, if the name isn't at fault
abbrev pub ReadsFollowing : {R : Type 0} → Bool → Place → (R → List Mark → Type 0) → Lexer → Result R AlgError → Lexer → Type 0
ReadsFollowing true here P old result new = Reads P old result new
ReadsFollowing false here P old result new = result ≡ Err (Bad (record { kind = BadTable; place = here }))
