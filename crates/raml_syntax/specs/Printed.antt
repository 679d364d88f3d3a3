-- The text in which an algebra is printed: one `main`, with a space after that word, and a header before
-- it where a text without one would mean another edition.
use Rattle.std.specs.Prelude.{ℕ, ◌==◌, List, [], ◌∷◌, ◌++◌, Option, Some, None, slice_index_or, if◌then◌else◌, decimal, codes}
use Rattle.alg_model.specs.declared.tree.TableSpec.{TableSpec}
use Rattle.alg_model.specs.declared.tree.TableRow.{TableRow}
use Rattle.alg_model.specs.declared.edition.Edition.{Edition}
use Rattle.alg_model.specs.declared.edition.Edition.TheVariants.{One, Two}
use Rattle.alg_model.specs.Expressions.{PureAlg, Expression, add, cap, worst, width, pref, orig, seq, simseq, tags, guard, gate, table, lex, scoped, union, sum, plus, left, right}
use Rattle.raml_syntax.specs.Syntax.{Ranged, cap_head, worst_head, width_head, ranged_word, Counted, lp_head, op_head, seq_head, simseq_head, tags_head, guard_head, counted_word}
use Rattle.raml_syntax.specs.Syntax.{Paired, lex_head, scoped_head, union_head, sum_head, plus_head, paired_word, Single, left_head, right_head, single_word, MapSyntax}

abbrev pub ranged_text : Ranged → ℕ → ℕ → ℕ → List ℕ
ranged_text k top low high = ranged_word k ++ codes "(" ++ decimal top ++ codes ";" ++ decimal low ++ codes ".." ++ decimal high ++ codes ")"

abbrev pub counted_text : Counted → ℕ → List ℕ
counted_text k n = counted_word k ++ codes "(" ++ decimal n ++ codes ")"

abbrev pub paired_text : Paired → List ℕ → List ℕ → List ℕ
paired_text k a b = paired_word k ++ codes "(" ++ a ++ codes "," ++ b ++ codes ")"

abbrev pub single_text : Single → List ℕ → List ℕ
single_text k a = single_word k ++ codes "(" ++ a ++ codes ")"

-- what stands before a value: has it the rank of the value before it?
abbrev pub rank_text : ℕ → ℕ → List ℕ
rank_text before rank = if rank == before then codes "=" else codes "<"

-- the values after one of this rank
abbrev pub more_values_text : ℕ → List (List ℕ) → List ℕ → List ℕ
more_values_text before (name ∷ names) (rank ∷ ranks) = rank_text before rank ++ name ++ more_values_text rank names ranks
more_values_text before _ _ = []

-- the names of values, ascending in rank
abbrev pub values_text : List (List ℕ) → List ℕ → List ℕ
values_text (name ∷ names) (rank ∷ ranks) = name ++ more_values_text rank names ranks
values_text _ _ = []

-- the maps of the values that have an image, in the values' order; the images are places among all names
abbrev pub maps_of : List (List ℕ) → List (List ℕ) → List (Option ℕ) → List MapSyntax
maps_of all (name ∷ names) (Some place ∷ images) = record { source = name; target = slice_index_or all place [] } ∷ maps_of all names images
maps_of all (name ∷ names) (None ∷ images) = maps_of all names images
maps_of all _ _ = []

abbrev pub map_text : MapSyntax → List ℕ
map_text m = m.source ++ codes "->" ++ m.target

-- maps after others, each after a comma
abbrev pub more_maps_text : List MapSyntax → List ℕ
more_maps_text [] = []
more_maps_text (m ∷ ms) = codes "," ++ map_text m ++ more_maps_text ms

abbrev pub maps_text : List MapSyntax → List ℕ
maps_text [] = codes "none"
maps_text (m ∷ ms) = map_text m ++ more_maps_text ms

-- a row of a table of these names
abbrev pub row_text : List (List ℕ) → TableRow → List ℕ
row_text names row = codes ";" ++ row.name ++ codes ":" ++ maps_text (maps_of names names row.images)

abbrev pub rows_text : List (List ℕ) → List TableRow → List ℕ
rows_text names [] = []
rows_text names (row ∷ rows) = row_text names row ++ rows_text names rows

abbrev pub table_text : TableSpec → List ℕ
table_text t = codes "table{" ++ values_text t.names t.ranks ++ rows_text t.names t.rows ++ codes "}"

abbrev pub expression_text : Expression → List ℕ
expression_text (add low high) = codes "add(" ++ decimal low ++ codes ".." ++ decimal high ++ codes ")"
expression_text (cap top low high) = ranged_text cap_head top low high
expression_text (worst top low high) = ranged_text worst_head top low high
expression_text (width top low high) = ranged_text width_head top low high
expression_text (pref top) = counted_text lp_head top
expression_text (orig top) = counted_text op_head top
expression_text (seq n) = counted_text seq_head n
expression_text (simseq n) = counted_text simseq_head n
expression_text (tags n) = counted_text tags_head n
expression_text (guard n) = counted_text guard_head n
expression_text gate = codes "gate"
expression_text (table t) = table_text t
expression_text (lex a b) = paired_text lex_head (expression_text a) (expression_text b)
expression_text (scoped a b) = paired_text scoped_head (expression_text a) (expression_text b)
expression_text (union a b) = paired_text union_head (expression_text a) (expression_text b)
expression_text (sum a b) = paired_text sum_head (expression_text a) (expression_text b)
expression_text (plus a b) = paired_text plus_head (expression_text a) (expression_text b)
expression_text (left a) = single_text left_head (expression_text a)
expression_text (right a) = single_text right_head (expression_text a)

-- the header of a text of this edition
abbrev pub header_text : Edition → List ℕ
header_text One = []
header_text Two = codes "raml 2;"

-- the whole text
abbrev pub alg_text : PureAlg → List ℕ
alg_text a = header_text a.edition ++ codes "main " ++ expression_text a.expression ++ codes ";\n"
