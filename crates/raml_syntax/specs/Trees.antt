-- The productions of the grammar: what a part of a file means, and the marks that it may have.
use Rattle.std.specs.Prelude.{◌≡◌, ℕ, List}
use Rattle.std.specs.List.{AllByRecursion}
use Rattle.alg_model.specs.declared.tree.TableSpec.{TableSpec}
use Rattle.alg_model.specs.Expressions.{Expression, PureAlg}
use Rattle.raml_syntax.specs.Syntax.{IsRow, IsSyntax, TableSyntax, Syntax, LetSyntax, FileSyntax, IsFile}
use Rattle.raml_syntax.specs.Meaning.{Definition, table_meaning, meaning, file_meaning, with_lets}
use Rattle.raml_syntax.specs.Marks.{Mark, table_marks, marks, rest_marks, file_marks}

-- a table, from its brace on
pub record Table (t : TableSpec) (ms : List Mark) : Type 0 where
  pub syntax : TableSyntax
  pub first_row : IsRow syntax.row
  pub other_rows : AllByRecursion IsRow syntax.rows
  pub means : t ≡ table_meaning syntax
  pub marks : ms ≡ table_marks syntax

-- an expression where these names are defined, after so many nodes
pub record Expr (ds : List Definition) (nodes : ℕ) (a : Expression) (ms : List Mark) : Type 0 where
  pub syntax : Syntax
  pub is_syntax : IsSyntax syntax
  pub means : a ≡ meaning ds syntax
  pub marks : ms ≡ marks ds nodes syntax

-- what is left of a file where these names are defined
pub record Rest (ds : List Definition) (a : Expression) (ms : List Mark) : Type 0 where
  pub lets : List LetSyntax
  pub main : Syntax
  pub are_lets : AllByRecursion (λ (l : LetSyntax). IsSyntax l.body) lets
  pub is_main : IsSyntax main
  pub means : a ≡ meaning (with_lets ds lets) main
  pub marks : ms ≡ rest_marks ds lets main

-- a file
pub record File (a : PureAlg) (ms : List Mark) : Type 0 where
  pub syntax : FileSyntax
  pub is_file : IsFile syntax
  pub means : a ≡ file_meaning syntax
  pub marks : ms ≡ file_marks syntax
