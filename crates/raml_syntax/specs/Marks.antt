-- The tokens of a tree of the grammar, each with the fault that stands at it. A text has these tokens
-- and none of these faults, or it is at fault at the first of them.
use Rattle.std.specs.Prelude.{ℕ, ◌+◌, List, [], ◌∷◌, ◌++◌, length, map, Bool, not, ◌&&◌, ◌||◌, ◌==◌, Option, Some, None, nat_le, if◌then◌else◌, codes}
use Rattle.raml_lex.specs.Tokens.{Tok, word, left_paren, right_paren, left_brace, right_brace, comma, semicolon, colon, dots, equals, less, arrow}
use Rattle.raml_lex.specs.Tokens as tok
use Rattle.alg_model.specs.Numbers.{max_tree_nodes, max_table_names}
use Rattle.alg_model.specs.Expressions.{Expression, add}
use Rattle.alg_model.specs.Carriers.{carrier_of}
use Rattle.alg_model.specs.Formation.{node_count}
use Rattle.raml_syntax.specs.declared.faults.ExprKind.{ExprKind}
use Rattle.raml_syntax.specs.declared.faults.ExprKind.TheVariants.{UnknownName, NameTwice, BadRange, CarriersDiffer, TooLarge, BadTable, UnknownProfile}
use Rattle.raml_syntax.specs.Syntax.{ranged_word, counted_word, Paired, lex_head, scoped_head, union_head, sum_head, plus_head, paired_word, single_word, is_among, is_expression_word, is_none}
use Rattle.raml_syntax.specs.Syntax.{ValueSyntax, MapSyntax, MapsSyntax, no_maps, maps, RowSyntax, TableSyntax, Syntax, named, add_syntax, ranged, counted, gate_syntax, table_syntax, paired, single, LetSyntax, FileSyntax}
use Rattle.raml_syntax.specs.Meaning.{Definition, lookup, ranged_meaning, counted_meaning, value_names, meaning, with_let}
use Rattle.raml_syntax.specs.Tests.{is_in_range, is_same_carrier}

-- a token, and the fault of meaning that stands at it
pub record Mark : Type 0 where
  pub tok : Tok
  pub fault : Option ExprKind

-- a token without a fault
abbrev pub plain : Tok → Mark
plain t = record { tok = t; fault = None }

-- a token with this fault, where the test fails
abbrev pub tested : Tok → ExprKind → Bool → Mark
tested t fault passes = record { tok = t; fault = if passes then None else Some fault }

abbrev pub plain_word : List ℕ → Mark
plain_word w = plain (word w)

-- the word with which the tree has so many nodes
abbrev pub counted_to : ℕ → List ℕ → Mark
counted_to nodes w = tested (word w) TooLarge (nat_le nodes max_tree_nodes)

-- a name that stands for this expression, if for any, after so many nodes
abbrev pub name_mark : ℕ → List ℕ → Option Expression → Mark
name_mark nodes w None = record { tok = word w; fault = Some UnknownName }
name_mark nodes w (Some a) = counted_to (nodes + node_count a) w

-- the last number of a base algebra
abbrev pub last_number : ℕ → Expression → Mark
last_number n a = tested (tok.number n) BadRange (is_in_range a)

-- a name of a value or a row after those names
abbrev pub own_name : List (List ℕ) → List ℕ → Mark
own_name before w = tested (word w) BadTable (not (is_none w) && not (is_among before w) && nat_le (length before + 1) max_table_names)

-- `=` or `<`
abbrev pub rank_tok : Bool → Tok
rank_tok is_tied = if is_tied then equals else less

-- the values after those names
abbrev pub values_marks : List (List ℕ) → List ValueSyntax → List Mark
values_marks before [] = []
values_marks before (v ∷ vs) = plain (rank_tok v.is_tied) ∷ own_name before v.name ∷ values_marks (before ++ v.name ∷ []) vs

-- a map of a row whose maps before it have those sources
abbrev pub map_marks : List (List ℕ) → List (List ℕ) → MapSyntax → List Mark
map_marks names before m =
    tested (word m.source) BadTable (is_among names m.source && not (is_among before m.source)) ∷ plain arrow ∷
    tested (word m.target) BadTable (is_none m.target || is_among names m.target) ∷ []

-- the maps after the first, each after a comma
abbrev pub more_map_marks : List (List ℕ) → List (List ℕ) → List MapSyntax → List Mark
more_map_marks names before [] = []
more_map_marks names before (m ∷ ms) = plain comma ∷ (map_marks names before m ++ more_map_marks names (before ++ m.source ∷ []) ms)

abbrev pub maps_marks : List (List ℕ) → MapsSyntax → List Mark
maps_marks names no_maps = plain_word (codes "none") ∷ []
maps_marks names (maps m ms) = map_marks names [] m ++ more_map_marks names (m.source ∷ []) ms

-- a row after those of these names
abbrev pub row_marks : List (List ℕ) → List (List ℕ) → RowSyntax → List Mark
row_marks names before row = plain semicolon ∷ own_name before row.name ∷ plain colon ∷ maps_marks names row.images

abbrev pub rows_marks : List (List ℕ) → List (List ℕ) → List RowSyntax → List Mark
rows_marks names before [] = []
rows_marks names before (row ∷ rows) = row_marks names before row ++ rows_marks names (before ++ row.name ∷ []) rows

abbrev pub table_marks : TableSyntax → List Mark
table_marks t =
    plain left_brace ∷ own_name [] t.first ∷ (values_marks (t.first ∷ []) t.others ++
    (rows_marks (value_names t) [] (t.row ∷ t.rows) ++ plain right_brace ∷ []))

-- the parenthesis that closes an expression of two parts
abbrev pub closing : Paired → Expression → Expression → Mark
closing plus_head a b = tested right_paren CarriersDiffer (is_same_carrier (carrier_of a) (carrier_of b))
closing lex_head a b = plain right_paren
closing scoped_head a b = plain right_paren
closing union_head a b = plain right_paren
closing sum_head a b = plain right_paren

-- a tree where these names are defined, after so many nodes
abbrev pub marks : List Definition → ℕ → Syntax → List Mark
marks ds nodes (named w) = name_mark nodes w (lookup ds w) ∷ []
marks ds nodes (add_syntax low high) =
    counted_to (nodes + 1) (codes "add") ∷ plain left_paren ∷ plain (tok.number low) ∷ plain dots ∷ last_number high (add low high) ∷ plain right_paren ∷ []
marks ds nodes (ranged k top low high) =
    counted_to (nodes + 1) (ranged_word k) ∷ plain left_paren ∷ plain (tok.number top) ∷ plain semicolon ∷ plain (tok.number low) ∷ plain dots ∷
    last_number high (ranged_meaning k top low high) ∷ plain right_paren ∷ []
marks ds nodes (counted k n) =
    counted_to (nodes + 1) (counted_word k) ∷ plain left_paren ∷ last_number n (counted_meaning k n) ∷ plain right_paren ∷ []
marks ds nodes gate_syntax = counted_to (nodes + 1) (codes "gate") ∷ []
marks ds nodes (table_syntax t) = counted_to (nodes + 1) (codes "table") ∷ table_marks t
marks ds nodes (paired k a b) =
    counted_to (nodes + 1) (paired_word k) ∷ plain left_paren ∷ (marks ds (nodes + 1) a ++ plain comma ∷
    (marks ds (nodes + 1 + node_count (meaning ds a)) b ++ closing k (meaning ds a) (meaning ds b) ∷ []))
marks ds nodes (single k a) =
    counted_to (nodes + 1) (single_word k) ∷ plain left_paren ∷ (marks ds (nodes + 1) a ++ plain right_paren ∷ [])

-- the name of a `let`: no word of the grammar, and named once
abbrev pub let_name : List Definition → List ℕ → Mark
let_name ds w =
    tested (word w) NameTwice (not (is_expression_word w) && not (is_among (codes "let" ∷ codes "main" ∷ []) w) && not (is_among (map (λ (d : Definition). d.name) ds) w))

-- `let name = body ;`
abbrev pub let_marks : List Definition → LetSyntax → List Mark
let_marks ds l = plain_word (codes "let") ∷ let_name ds l.name ∷ plain equals ∷ (marks ds 0 l.body ++ plain semicolon ∷ [])

-- the rest of a file where these names are defined
abbrev pub rest_marks : List Definition → List LetSyntax → Syntax → List Mark
rest_marks ds [] main = plain_word (codes "main") ∷ (marks ds 0 main ++ plain semicolon ∷ [])
rest_marks ds (l ∷ ls) main = let_marks ds l ++ rest_marks (with_let ds l) ls main

-- there is a profile of this number
abbrev pub is_profile : ℕ → Bool
is_profile n = n == 1 || n == 2

-- the number of a header
abbrev pub header_number : ℕ → Mark
header_number n = tested (tok.number n) UnknownProfile (is_profile n)

-- the header of a file, if it has one
abbrev pub header_marks : Option ℕ → List Mark
header_marks None = []
header_marks (Some n) = plain_word (codes "raml") ∷ header_number n ∷ plain semicolon ∷ []

abbrev pub file_marks : FileSyntax → List Mark
file_marks file = header_marks file.header ++ rest_marks [] file.lets file.main
