-- Productions of a table's values.
use Rattle.std.specs.Prelude.{◌≡◌, ℕ, ◌+◌, List, [], ◌∷◌, ◌++◌, map, Bool, if◌then◌else◌}
use Rattle.raml_lex.specs.Tokens.{semicolon}
use Rattle.raml_syntax.specs.declared.values.AfterValue.{AfterValue}
use Rattle.raml_syntax.specs.declared.values.AfterValue.TheVariants as after
use Rattle.raml_syntax.specs.declared.values.ValueList.{ValueList}
use Rattle.raml_syntax.specs.Syntax.{ValueSyntax}
use Rattle.raml_syntax.specs.Meaning.{ranks_from}
use Rattle.raml_syntax.specs.Marks.{Mark, plain, own_name, rank_tok, values_marks}
use Rattle.raml_syntax.specs.Sequences.{One, Then}

-- the mark after a value
abbrev pub after_value : AfterValue → Mark
after_value (after.Value is_tied) = plain (rank_tok is_tied)
after_value after.Rows = plain semicolon

-- the rank of a value after one of this rank
abbrev pub rank_following : ℕ → Bool → ℕ
rank_following rank is_tied = if is_tied then rank else rank + 1

-- what follows these values, the last of which has this rank; it means all values
abbrev pub MoreValues : ValueList → ℕ → ValueList → List Mark → Type 0
MoreValues done rank r ms = (more : List ValueSyntax)
    × (r ≡ record { names = done.names ++ map (λ (v : ValueSyntax). v.name) more; ranks = done.ranks ++ ranks_from rank more })
    × (ms ≡ values_marks done.names more ++ plain semicolon ∷ [])

-- the values, and the semicolon after them
abbrev pub Values : ValueList → List Mark → Type 0
Values = Then (One (own_name [])) (λ first. MoreValues (record { names = first ∷ []; ranks = 0 ∷ [] }) 0)
