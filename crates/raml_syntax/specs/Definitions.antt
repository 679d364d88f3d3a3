-- Definitions as contracts see them.
use Rattle.std.specs.Prelude.{◌≡◌, ℕ, List, [], ◌∷◌, map, false, refl, Result, Ok, Err}
use denote.Ref.{Bor}
use Rattle.std.specs.Coded.{Coded, code_by, coded×, coded_list, coded_ℕ}
use Rattle.alg_model.specs.Expressions.{Expression}
use Rattle.alg_model.specs.Codes.{coded_expression}
use Rattle.raml_syntax.specs.declared.faults.AlgError.{AlgError}
use Rattle.raml_syntax.specs.declared.faults.AlgError.TheVariants.{Bad, NoMemory}
use Rattle.raml_syntax.specs.declared.forest.TreeId.{TreeId}
use Rattle.raml_syntax.specs.Syntax.{is_among}
use Rattle.raml_syntax.specs.Meaning.{Definition}
use Rattle.raml_syntax.specs.Forest.{IsTree, tree_at, Extends}

-- the trees that were read, and what is defined, the latest first
pub record Known : Type 0 where
  pub trees : List Expression
  pub defined : List Definition

abbrev pub coded_definition : Coded Definition
coded_definition =
    code_by (List ℕ × Expression) (coded× (coded_list coded_ℕ) coded_expression)
    (λ d. (d.name, d.expression)) (λ p. record { name = p.0; expression = p.1 }) (λ _. refl)

abbrev pub coded_known : Coded Known
coded_known =
    code_by (List Expression × List Definition) (coded× (coded_list coded_expression) (coded_list coded_definition))
    (λ k. (k.trees, k.defined)) (λ p. record { trees = p.0; defined = p.1 }) (λ _. refl)

-- the names that are defined
abbrev pub names_of : List Definition → List (List ℕ)
names_of ds = map (λ (d : Definition). d.name) ds

-- the definitions of entries over these trees, the last of them first, in front of these
abbrev pub latest_first : List Expression → List (Bor (List ℕ) × TreeId) → List Definition → List Definition
latest_first trees [] ds = ds
latest_first trees (e ∷ es) ds = latest_first trees es (record { name = e.0.now; expression = tree_at trees e.1 } ∷ ds)

-- each entry stands for one of the trees
abbrev pub HaveTrees : List Expression → List (Bor (List ℕ) × TreeId) → Type 0
HaveTrees trees [] = Unit {0}
HaveTrees trees (e ∷ es) = IsTree trees e.1 × HaveTrees trees es

-- no name is there twice
abbrev pub AreApart : List Definition → Type 0
AreApart [] = Unit {0}
AreApart (d ∷ ds) = (is_among (names_of ds) d.name ≡ false) × AreApart ds

-- the definitions are those of before, and each tree has its number still
pub record Keeps (old new : Known) : Type 0 where
  pub defined : new.defined ≡ old.defined
  pub trees : Extends old.trees new.trees

-- what was read came to this, unless there was no memory
abbrev pub ReadAs : Result Expression AlgError → Result Expression AlgError → Type 0
ReadAs read (Ok a) = read ≡ Ok a
ReadAs read (Err (Bad f)) = read ≡ Err (Bad f)
ReadAs read (Err NoMemory) = Unit {0}
