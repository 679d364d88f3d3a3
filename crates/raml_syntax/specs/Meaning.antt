-- What a tree of the grammar means, where each name stands for the expression of its `let`.
use Rattle.std.specs.Prelude.{ℕ, ◌+◌, ◌==◌, List, [], ◌∷◌, map, Option, Some, None, option_and_then, if◌then◌else◌}
use Rattle.std.specs.Str.{bytes_eq}
use Rattle.alg_model.specs.Names.{place_of}
use Rattle.alg_model.specs.declared.tree.TableSpec.{TableSpec}
use Rattle.alg_model.specs.declared.tree.TableRow.{TableRow}
use Rattle.alg_model.specs.declared.edition.Edition.{Edition}
use Rattle.alg_model.specs.declared.edition.Edition.TheVariants.{One, Two}
use Rattle.alg_model.specs.Expressions.{PureAlg, Expression, add, cap, worst, width, pref, orig, seq, simseq, tags, guard, gate, table, lex, scoped, union, sum, plus, left, right}
use Rattle.raml_syntax.specs.Syntax.{Ranged, cap_head, worst_head, width_head, Counted, lp_head, op_head, seq_head, simseq_head, tags_head, guard_head, Paired, lex_head, scoped_head, union_head, sum_head, plus_head, Single, left_head, right_head}
use Rattle.raml_syntax.specs.Syntax.{ValueSyntax, MapSyntax, MapsSyntax, no_maps, maps, RowSyntax, TableSyntax, Syntax, named, add_syntax, ranged, counted, gate_syntax, table_syntax, paired, single, LetSyntax, FileSyntax}

-- a name, and what it stands for
pub record Definition : Type 0 where
  pub name : List ℕ
  pub expression : Expression

-- what a name stands for, if an earlier `let` names it
abbrev pub lookup : List Definition → List ℕ → Option Expression
lookup [] w = None
lookup (d ∷ ds) w = if bytes_eq d.name w then Some d.expression else lookup ds w

-- a name that nothing stands after is at fault, so what it means plays no part
abbrev pub known : Option Expression → Expression
known (Some a) = a
known None = gate

abbrev pub ranged_meaning : Ranged → ℕ → ℕ → ℕ → Expression
ranged_meaning cap_head top low high = cap top low high
ranged_meaning worst_head top low high = worst top low high
ranged_meaning width_head top low high = width top low high

abbrev pub counted_meaning : Counted → ℕ → Expression
counted_meaning lp_head n = pref n
counted_meaning op_head n = orig n
counted_meaning seq_head n = seq n
counted_meaning simseq_head n = simseq n
counted_meaning tags_head n = tags n
counted_meaning guard_head n = guard n

abbrev pub paired_meaning : Paired → Expression → Expression → Expression
paired_meaning lex_head a b = lex a b
paired_meaning scoped_head a b = scoped a b
paired_meaning union_head a b = union a b
paired_meaning sum_head a b = sum a b
paired_meaning plus_head a b = plus a b

abbrev pub single_meaning : Single → Expression → Expression
single_meaning left_head a = left a
single_meaning right_head a = right a

-- the names of a table's values
abbrev pub value_names : TableSyntax → List (List ℕ)
value_names t = t.first ∷ map (λ (v : ValueSyntax). v.name) t.others

-- the ranks of the values after one of this rank
abbrev pub ranks_from : ℕ → List ValueSyntax → List ℕ
ranks_from rank [] = []
ranks_from rank (v ∷ vs) = if v.is_tied then rank ∷ ranks_from rank vs else (rank + 1) ∷ ranks_from (rank + 1) vs

-- the name that maps give for a value: without a map there is none
abbrev pub target_of : List MapSyntax → List ℕ → Option (List ℕ)
target_of [] w = None
target_of (m ∷ ms) w = if bytes_eq m.source w then Some m.target else target_of ms w

abbrev pub all_maps : MapsSyntax → List MapSyntax
all_maps no_maps = []
all_maps (maps m ms) = m ∷ ms

-- the place of the image of the value of this name; `none` names no value
abbrev pub image_place : List (List ℕ) → List MapSyntax → List ℕ → Option ℕ
image_place names ms w = option_and_then (place_of names) (target_of ms w)

abbrev pub row_meaning : List (List ℕ) → RowSyntax → TableRow
row_meaning names row = record { name = row.name; images = map (image_place names (all_maps row.images)) names }

abbrev pub table_meaning : TableSyntax → TableSpec
table_meaning t = record {
  names = value_names t;
  ranks = 0 ∷ ranks_from 0 t.others;
  rows = map (row_meaning (value_names t)) (t.row ∷ t.rows);
}

-- what a tree means where these names are defined
abbrev pub meaning : List Definition → Syntax → Expression
meaning ds (named w) = known (lookup ds w)
meaning ds (add_syntax low high) = add low high
meaning ds (ranged k top low high) = ranged_meaning k top low high
meaning ds (counted k n) = counted_meaning k n
meaning ds gate_syntax = gate
meaning ds (table_syntax t) = table (table_meaning t)
meaning ds (paired k a b) = paired_meaning k (meaning ds a) (meaning ds b)
meaning ds (single k a) = single_meaning k (meaning ds a)

-- a `let` defines its name for all that comes after it
abbrev pub with_let : List Definition → LetSyntax → List Definition
with_let ds l = record { name = l.name; expression = meaning ds l.body } ∷ ds

abbrev pub with_lets : List Definition → List LetSyntax → List Definition
with_lets ds [] = ds
with_lets ds (l ∷ ls) = with_lets (with_let ds l) ls

-- the edition of a file with this header, if it has one; a number other than 1 and 2 is at fault, so its
-- edition plays no part
abbrev pub edition_of : Option ℕ → Edition
edition_of None = One
edition_of (Some n) = if n == 2 then Two else One

-- what a file means
abbrev pub file_meaning : FileSyntax → PureAlg
file_meaning file = record { expression = meaning (with_lets [] file.lets) file.main; edition = edition_of file.header }
