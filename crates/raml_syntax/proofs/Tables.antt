-- Tokens that begin with a table determine it.
use Rattle.std.proofs.Common.{◌≡◌, ◌⊎◌, inl, inr, ℕ, List, [], ◌∷◌, ◌++◌, Bool, true, false, codes, map, not, ◌&&◌, ◌||◌, refl, sym, ap, ap₂, ◌∙◌}
use Rattle.std.specs.List.{AllByRecursion}
use Rattle.raml_lex.specs.Tokens.{word, right_brace, comma, semicolon, arrow, colon}
use Rattle.raml_syntax.specs.declared.faults.ExprKind.TheVariants.{BadTable}
use Rattle.raml_syntax.specs.Syntax.{is_none, is_among, AreMaps, IsRow, ValueSyntax, MapSyntax, MapsSyntax, no_maps, maps, RowSyntax, TableSyntax}
use Rattle.raml_syntax.specs.Meaning.{value_names, table_meaning}
use Rattle.raml_syntax.specs.Marks.{Mark, plain, tested, rank_tok, own_name, values_marks, more_map_marks, maps_marks, rows_marks, table_marks}
use Rattle.raml_syntax.specs.Productions.{toks}
use Rattle.raml_syntax.specs.Sequences.{IsDetermined}
use Rattle.raml_syntax.specs.Trees.{Table}
use Rattle.raml_syntax.proofs.Compare.{Diverges, here, Compared, same, apart, diverging_differ, compared_map, compared_next, compared_one, compared_then, compared_joined, compared_whole, which_word, words_apart}

-- `=` and `<` are distinct
which_rank : (a b : Bool) → (a ≡ b) ⊎ (rank_tok a ≡ rank_tok b → ⊥)
which_rank true true = inl refl
which_rank true false = inr (λ h. cc)
which_rank false true = inr (λ h. cc)
which_rank false false = inl refl

-- a semicolon is neither
no_rank : (a : Bool) → semicolon ≡ rank_tok a → ⊥
no_rank true h = cc
no_rank false h = cc

-- two lists of values that a semicolon ends
pub compare_values : (before : List (List ℕ)) (vs us : List ValueSyntax) (xs ys : List Mark) → Compared (vs ≡ us) (values_marks before vs ++ plain semicolon ∷ xs) (values_marks before us ++ plain semicolon ∷ ys)
compare_values before [] [] xs ys = same refl
compare_values before [] (u ∷ us) xs ys = apart (here (no_rank u.is_tied))
compare_values before (v ∷ vs) [] xs ys = apart (here (λ h. no_rank v.is_tied (sym h)))
compare_values before (v ∷ vs) (u ∷ us) xs ys =
    compared_map (λ e. ap₂ (λ x l. x ∷ l) (ap₂ (λ b n. record { is_tied = b; name = n }) e.0 e.1.0) e.1.1)
    (compared_one (λ b. plain (rank_tok b)) (λ b. own_name before u.name ∷ (values_marks (before ++ u.name ∷ []) us ++ plain semicolon ∷ ys)) v.is_tied u.is_tied (which_rank v.is_tied u.is_tied)
    (compared_one (own_name before) (λ n. values_marks (before ++ n ∷ []) us ++ plain semicolon ∷ ys) v.name u.name (which_word v.name u.name)
    (compare_values (before ++ v.name ∷ []) vs us xs ys)))

-- what begins so goes on with no map
abbrev pub EndsMaps : List Mark → Type 0
EndsMaps [] = ⊥
EndsMaps (x ∷ xs) = x.tok ≡ comma → ⊥

-- so it diverges from a further map
ends_before : (xs ys : List Mark) → EndsMaps xs → Diverges xs (plain comma ∷ ys)
ends_before [] ys e = absurd e
ends_before (x ∷ xs) ys e = here e

ends_following : (xs ys : List Mark) → EndsMaps ys → Diverges (plain comma ∷ xs) ys
ends_following xs [] e = absurd e
ends_following xs (y ∷ ys) e = here (λ h. e (sym h))

-- the marks of a map's two names
abbrev source_mark : List (List ℕ) → List (List ℕ) → List ℕ → Mark
source_mark names before s = tested (word s) BadTable (is_among names s && not (is_among before s))

abbrev target_mark : List (List ℕ) → List ℕ → Mark
target_mark names t = tested (word t) BadTable (is_none t || is_among names t)

-- two lists of maps after a first
compare_more : (names before : List (List ℕ)) (ms qs : List MapSyntax) (xs ys : List Mark) → EndsMaps xs → EndsMaps ys → Compared (ms ≡ qs) (more_map_marks names before ms ++ xs) (more_map_marks names before qs ++ ys)
compare_more names before [] [] xs ys p r = same refl
compare_more names before [] (q ∷ qs) xs ys p r = apart (ends_before xs _ p)
compare_more names before (m ∷ ms) [] xs ys p r = apart (ends_following _ ys r)
compare_more names before (m ∷ ms) (q ∷ qs) xs ys p r =
    compared_map (λ e. ap₂ (λ x l. x ∷ l) (ap₂ (λ s t. record { source = s; target = t }) e.0 e.1.0) e.1.1)
    (compared_next
    (compared_one (source_mark names before) (λ s. plain arrow ∷ target_mark names q.target ∷ (more_map_marks names (before ++ s ∷ []) qs ++ ys)) m.source q.source (which_word m.source q.source)
    (compared_next
    (compared_one (target_mark names) (λ t. more_map_marks names (before ++ m.source ∷ []) qs ++ ys) m.target q.target (which_word m.target q.target)
    (compare_more names (before ++ m.source ∷ []) ms qs xs ys p r)))))

-- two rows' maps
compare_maps : (names : List (List ℕ)) (m q : MapsSyntax) (xs ys : List Mark) → AreMaps m → AreMaps q → EndsMaps xs → EndsMaps ys → Compared (m ≡ q) (maps_marks names m ++ xs) (maps_marks names q ++ ys)
compare_maps names no_maps no_maps xs ys i j p r = same refl
compare_maps names no_maps (maps q qs) xs ys i j p r = apart (here (λ h. words_apart q.source (codes "none") j (sym h)))
compare_maps names (maps m ms) no_maps xs ys i j p r = apart (here (words_apart m.source (codes "none") i))
compare_maps names (maps m ms) (maps q qs) xs ys i j p r =
    compared_map (λ e. ap₂ (λ x l. maps x l) (ap₂ (λ s t. record { source = s; target = t }) e.0 e.1.0) e.1.1)
    (compared_one (source_mark names []) (λ s. plain arrow ∷ target_mark names q.target ∷ (more_map_marks names (s ∷ []) qs ++ ys)) m.source q.source (which_word m.source q.source)
    (compared_next
    (compared_one (target_mark names) (λ t. more_map_marks names (m.source ∷ []) qs ++ ys) m.target q.target (which_word m.target q.target)
    (compare_more names (m.source ∷ []) ms qs xs ys p r))))

-- a row is ended by a semicolon or a brace
row_ends : (names before : List (List ℕ)) (rows : List RowSyntax) (xs : List Mark) → EndsMaps (rows_marks names before rows ++ plain right_brace ∷ xs)
row_ends names before [] xs = λ h. cc
row_ends names before (row ∷ rows) xs = λ h. cc

-- two lists of rows that a brace ends
compare_rows : (names before : List (List ℕ)) (rows qs : List RowSyntax) (xs ys : List Mark) → AllByRecursion IsRow rows → AllByRecursion IsRow qs
    → Compared (rows ≡ qs) (rows_marks names before rows ++ plain right_brace ∷ xs) (rows_marks names before qs ++ plain right_brace ∷ ys)
compare_rows names before [] [] xs ys i j = same refl
compare_rows names before [] (q ∷ qs) xs ys i j = apart (here (λ h. cc))
compare_rows names before (row ∷ rows) [] xs ys i j = apart (here (λ h. cc))
compare_rows names before (row ∷ rows) (q ∷ qs) xs ys i j =
    compared_map (λ e. ap₂ (λ x l. x ∷ l) (ap₂ (λ n m. record { name = n; images = m }) e.0 e.1.0) e.1.1)
    (compared_next
    (compared_one (own_name before) (λ n. plain colon ∷ ((maps_marks names q.images ++ rows_marks names (before ++ n ∷ []) qs) ++ plain right_brace ∷ ys)) row.name q.name (which_word row.name q.name)
    (compared_next
    (compared_then (maps_marks names) (λ m. rows_marks names (before ++ row.name ∷ []) qs) (rows_marks names (before ++ row.name ∷ []) rows) (plain right_brace ∷ xs) (plain right_brace ∷ ys) row.images q.images
    (compare_maps names row.images q.images _ _ i.0 j.0 (row_ends names (before ++ row.name ∷ []) rows xs) (row_ends names (before ++ row.name ∷ []) qs ys))
    (compare_rows names (before ++ row.name ∷ []) rows qs xs ys i.1 j.1)))))

-- the same rows, one by one
same_row : (r q : RowSyntax) (rs qs : List RowSyntax) → r ∷ rs ≡ q ∷ qs → r ≡ q
same_row r q rs qs h = cc

same_rows : (r q : RowSyntax) (rs qs : List RowSyntax) → r ∷ rs ≡ q ∷ qs → rs ≡ qs
same_rows r q rs qs h = cc

-- tables of the same parts are the same
same_table : (t u : TableSyntax) → t.first ≡ u.first → t.others ≡ u.others → t.row ∷ t.rows ≡ u.row ∷ u.rows → t ≡ u
same_table t u e f g = λ k. record { first = e k; others = f k; row = same_row t.row u.row t.rows u.rows g k; rows = same_rows t.row u.row t.rows u.rows g k }

-- two tables
pub compare_tables : (t u : TableSyntax) (xs ys : List Mark) → IsRow t.row → AllByRecursion IsRow t.rows → IsRow u.row → AllByRecursion IsRow u.rows → Compared (t ≡ u) (table_marks t ++ xs) (table_marks u ++ ys)
compare_tables t u xs ys i is j js =
    compared_map (λ e. same_table t u e.0 e.1.0 e.1.1)
    (compared_next
    (compared_one (own_name []) (λ n. (values_marks (n ∷ []) u.others ++ (rows_marks (n ∷ map (λ (v : ValueSyntax). v.name) u.others) [] (u.row ∷ u.rows) ++ plain right_brace ∷ [])) ++ ys) t.first u.first (which_word t.first u.first)
    (compared_then (values_marks (t.first ∷ [])) (λ os. rows_marks (t.first ∷ map (λ (v : ValueSyntax). v.name) os) [] (u.row ∷ u.rows) ++ plain right_brace ∷ [])
    (rows_marks (value_names t) [] (t.row ∷ t.rows) ++ plain right_brace ∷ []) xs ys t.others u.others
    (compare_values (t.first ∷ []) t.others u.others _ _)
    (compared_joined (rows_marks (value_names t) [] (t.row ∷ t.rows)) (plain right_brace ∷ []) xs (rows_marks (value_names t) [] (u.row ∷ u.rows)) (plain right_brace ∷ []) ys
    (compare_rows (value_names t) [] (t.row ∷ t.rows) (u.row ∷ u.rows) xs ys (i, is) (j, js))))))

-- tokens that begin with a table determine it
pub table_determined : IsDetermined Table
table_determined r s xs ys y z p q h = by (compared_whole (table_marks p.syntax) (table_marks q.syntax) (compare_tables p.syntax q.syntax [] [] p.first_row p.other_rows q.first_row q.other_rows))
  where
    by : Compared (p.syntax ≡ q.syntax) (table_marks p.syntax) (table_marks q.syntax) → (r ≡ s) × (xs ≡ ys)
    by (same e) = (p.means ∙ ap table_meaning e ∙ sym q.means, p.marks ∙ ap table_marks e ∙ sym q.marks)
    by (apart d) = absurd (diverging_differ d y z (ap (λ l. toks l ++ y) (sym p.marks) ∙ h ∙ ap (λ l. toks l ++ z) q.marks))
