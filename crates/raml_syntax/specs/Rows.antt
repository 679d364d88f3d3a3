-- Productions of a table's rows.
use Rattle.std.specs.Prelude.{◌≡◌, ℕ, List, [], ◌∷◌, ◌++◌, map}
use Rattle.std.specs.List.{AllByRecursion}
use Rattle.raml_lex.specs.Tokens.{right_brace, semicolon, colon}
use Rattle.alg_model.specs.declared.tree.TableRow.{TableRow}
use Rattle.raml_syntax.specs.declared.maps.AfterRow.{AfterRow}
use Rattle.raml_syntax.specs.Syntax.{MapSyntax, RowSyntax, IsRow}
use Rattle.raml_syntax.specs.Meaning.{image_place, row_meaning}
use Rattle.raml_syntax.specs.Marks.{Mark, plain, own_name, rows_marks}
use Rattle.raml_syntax.specs.Sequences.{Nothing, One, Then}
use Rattle.raml_syntax.specs.Maps.{Maps}

abbrev pub row_names : List TableRow → List (List ℕ)
row_names rows = map (λ (row : TableRow). row.name) rows

abbrev pub colon_mark : Unit {0} → Mark
colon_mark _ = plain colon

-- the row of this name whose maps are these
abbrev pub row_of : List (List ℕ) → List ℕ → List MapSyntax → TableRow
row_of names name ms = record { name = name; images = map (image_place names ms) names }

-- a row after those of these names, and the mark after it
abbrev pub OneRow : List (List ℕ) → List (List ℕ) → TableRow × AfterRow → List Mark → Type 0
OneRow names before =
    Then (One (own_name before)) (λ name. Then (One colon_mark) (λ _. Then (Maps names) (λ maps. Nothing (row_of names name maps.0, maps.1))))

-- what follows these rows and a semicolon; it means all rows
abbrev pub MoreRows : List (List ℕ) → List TableRow → List TableRow → List Mark → Type 0
MoreRows names done r ms = (more : List RowSyntax)
    × AllByRecursion IsRow more
    × (r ≡ done ++ map (row_meaning names) more)
    × (plain semicolon ∷ ms ≡ rows_marks names (row_names done) more ++ plain right_brace ∷ [])
