-- The text of a table has the tokens of its tree, and none of them is at fault.
use Rattle.std.proofs.Common.{◌≡◌, ℕ, ◌+◌, ◌≤◌, ◌==◌, Bool, true, false, not, ◌&&◌, ◌||◌, cond, nat_lt, nat_le, List, [], ◌∷◌, ◌++◌, map, length, get_or, Option, Some, None, bytes_eq, codes, refl, ap, sym, subst, ◌∙◌, arith, append_assoc, append-nil, length-append}
use Rattle.std.specs.List.{list_all, AllByRecursion}
use Rattle.std.proofs.lemmas.Bool.{ltb-true, and_parts, and_from, or_right, not_from_false, cond-true, le-leb}
use Rattle.meta_base.specs.Bytes.{is_word}
use Rattle.raml_lex.specs.Tokens.{token, left_brace, right_brace, comma, semicolon, colon, arrow, step_of}
use Rattle.alg_model.specs.declared.alg.TheConstants.{MAX_TABLE_NAMES}
use Rattle.alg_model.specs.declared.tree.TableRow.{TableRow}
use Rattle.alg_model.specs.Formation.{is_place_or_none, is_row_over, is_table_name, row_name}
use Rattle.raml_syntax.specs.Differing.{differ}
use Rattle.raml_syntax.specs.declared.faults.ExprKind.TheVariants.{BadTable}
use Rattle.raml_syntax.specs.Syntax.{MapSyntax, is_among, is_none, AreMaps, IsRow}
use Rattle.raml_syntax.specs.Meaning.{value_names}
use Rattle.raml_syntax.specs.Marks.{Mark, plain, plain_word, own_name, rank_tok, values_marks, map_marks, more_map_marks, maps_marks, row_marks, rows_marks, table_marks}
use Rattle.raml_syntax.specs.Printed.{rank_text, more_values_text, values_text, maps_of, map_text, more_maps_text, maps_text, row_text, rows_text}
use Rattle.raml_syntax.proofs.PrintedNames.{Fresh, first_apart, fresh_first, fresh_less, fresh_more, at_among, at_all}
use Rattle.raml_syntax.proofs.PrintedTables.{values_of, maps_syntax, row_syntax, table_from, IsNamedTable, names_back}
use Rattle.raml_syntax.proofs.Printing.{off, stops, stops_append, IsPrinted, printed_none, mark_next, word_next, printed_then}

-- a name of a table is a word other than `none`
name_word : (w : List ℕ) → is_table_name w ≡ true → is_word w ≡ true
name_word w h = (and_parts (is_word w) (not (is_none w)) h).0

not_none : (w : List ℕ) → is_table_name w ≡ true → is_none w ≡ false
not_none w h = off (is_none w) (and_parts (is_word w) (not (is_none w)) h).1

own_clear : (before : List (List ℕ)) (w : List ℕ) → is_table_name w ≡ true → is_among before w ≡ false → length before + 1 ≤ MAX_TABLE_NAMES → (own_name before w).fault ≡ None
own_clear before w h fresh room =
    cond-true (not (is_none w) && not (is_among before w) && nat_le (length before + 1) MAX_TABLE_NAMES) None (Some BadTable)
    (and_from (not (is_none w) && not (is_among before w)) (nat_le (length before + 1) MAX_TABLE_NAMES)
    (and_from (not (is_none w)) (not (is_among before w)) (not_from_false (is_none w) (not_none w h)) (not_from_false (is_among before w) fresh))
    (le-leb (length before + 1) MAX_TABLE_NAMES room))

-- values
rank_step : (greatest : ℕ) (b : Bool) (z : List ℕ) → step_of greatest (cond b (codes "=") (codes "<") ++ z) ≡ token (rank_tok b) z
rank_step greatest true z = refl
rank_step greatest false z = refl

values_stop : (rank : ℕ) (ns : List (List ℕ)) (rs : List ℕ) → stops (more_values_text rank ns rs) ≡ true
values_stop rank [] rs = refl
values_stop rank (n ∷ ns) [] = refl
values_stop rank (n ∷ ns) (r ∷ rs) = by (r == rank)
  where
    by : (b : Bool) → stops (cond b (codes "=") (codes "<") ++ n ++ more_values_text r ns rs) ≡ true
    by true = refl
    by false = refl

printed_values : (greatest : ℕ) (before : List (List ℕ)) (rank : ℕ) (ns : List (List ℕ)) (rs : List ℕ) → Fresh before ns → differ ns ≡ true → list_all is_table_name ns ≡ true
    → length before + length ns ≤ MAX_TABLE_NAMES → IsPrinted greatest (values_marks before (values_of rank ns rs)) (more_values_text rank ns rs)
printed_values greatest before rank [] rs f d h room = printed_none
printed_values greatest before rank (n ∷ ns) [] f d h room = printed_none
printed_values greatest before rank (n ∷ ns) (r ∷ rs) f d h room =
    let apart = first_apart n ns d in
    let p = and_parts (is_table_name n) (list_all is_table_name ns) h in
    let more = length-append before (n ∷ []) in
    rw (append_assoc (rank_text rank r) n (more_values_text r ns rs))
    (mark_next (plain (rank_tok (r == rank))) (rank_text rank r) refl (rank_step greatest (r == rank))
    (word_next (own_name before n) n (own_clear before n p.0 (fresh_first before n ns f) (omega arith)) refl (name_word n p.0) (values_stop r ns rs)
    (printed_values greatest (before ++ n ∷ []) r ns rs (fresh_more before n ns apart.0 f) apart.1 p.1 (omega arith))))

-- maps
record IsMap (all before : List (List ℕ)) (m : MapSyntax) : Type 0 where
  pub source : is_table_name m.source ≡ true
  pub source_clear : (is_among all m.source && not (is_among before m.source)) ≡ true
  pub target : is_table_name m.target ≡ true
  pub target_clear : (is_none m.target || is_among all m.target) ≡ true

abbrev AreMapsOf : List (List ℕ) → List (List ℕ) → List MapSyntax → Type 0
AreMapsOf all before [] = Unit {0}
AreMapsOf all before (m ∷ ms) = IsMap all before m × AreMapsOf all (before ++ m.source ∷ []) ms

are_maps_of : (all before ns : List (List ℕ)) (images : List (Option ℕ)) → list_all is_table_name all ≡ true → ((w : List ℕ) → is_among ns w ≡ true → is_among all w ≡ true)
    → Fresh before ns → differ ns ≡ true → list_all is_table_name ns ≡ true → list_all (is_place_or_none (length all)) images ≡ true → AreMapsOf all before (maps_of all ns images)
are_maps_of all before [] images names within f d h places = tt
are_maps_of all before (n ∷ ns) [] names within f d h places = tt
are_maps_of all before (n ∷ ns) (Some k ∷ images) names within f d h places =
    let apart = first_apart n ns d in
    let p = and_parts (is_table_name n) (list_all is_table_name ns) h in
    let q = and_parts (nat_lt k (length all)) (list_all (is_place_or_none (length all)) images) places in
    let low = ltb-true k (length all) q.0 in
    let self : is_among (n ∷ ns) n ≡ true = at_among (n ∷ ns) 0 (omega arith) in (
      record {
        source = p.0;
        source_clear = and_from (is_among all n) (not (is_among before n)) (within n self) (not_from_false (is_among before n) (f n self));
        target = at_all is_table_name all k names low;
        target_clear = or_right (is_none (get_or all k [])) (is_among all (get_or all k [])) (at_among all k low);
      },
      are_maps_of all (before ++ n ∷ []) ns images names (λ w k. within w (or_right (bytes_eq n w) (is_among ns w) k)) (fresh_more before n ns apart.0 f) apart.1 p.1 q.1,
    )
are_maps_of all before (n ∷ ns) (None ∷ images) names within f d h places =
    let apart = first_apart n ns d in
    let p = and_parts (is_table_name n) (list_all is_table_name ns) h in
    are_maps_of all before ns images names (λ w k. within w (or_right (bytes_eq n w) (is_among ns w) k)) (fresh_less before n ns f) apart.1 p.1 places

printed_map : (greatest : ℕ) (all before : List (List ℕ)) (m : MapSyntax) → IsMap all before m → IsPrinted greatest (map_marks all before m) (map_text m)
printed_map greatest all before m i =
    rw (append_assoc m.source (codes "->") m.target)
    (subst (λ t. IsPrinted greatest (map_marks all before m) (m.source ++ (codes "->" ++ t))) (append-nil m.target)
    (word_next _ m.source (cond-true (is_among all m.source && not (is_among before m.source)) None (Some BadTable) i.source_clear) refl (name_word m.source i.source) refl
    (mark_next (plain arrow) (codes "->") refl (λ z. refl)
    (word_next _ m.target (cond-true (is_none m.target || is_among all m.target) None (Some BadTable) i.target_clear) refl (name_word m.target i.target) refl printed_none))))

maps_stop : (ms : List MapSyntax) → stops (more_maps_text ms) ≡ true
maps_stop [] = refl
maps_stop (m ∷ ms) = refl

printed_more_maps : (greatest : ℕ) (all before : List (List ℕ)) (ms : List MapSyntax) → AreMapsOf all before ms → IsPrinted greatest (more_map_marks all before ms) (more_maps_text ms)
printed_more_maps greatest all before [] i = printed_none
printed_more_maps greatest all before (m ∷ ms) i =
    mark_next (plain comma) (codes ",") refl (λ z. refl) (printed_then (printed_map greatest all before m i.0) (maps_stop ms) (printed_more_maps greatest all (before ++ m.source ∷ []) ms i.1))

printed_maps : (greatest : ℕ) (all : List (List ℕ)) (ms : List MapSyntax) → AreMapsOf all [] ms → IsPrinted greatest (maps_marks all (maps_syntax ms)) (maps_text ms)
printed_maps greatest all [] i = word_next (plain_word (codes "none")) (codes "none") refl refl refl refl printed_none
printed_maps greatest all (m ∷ ms) i = printed_then (printed_map greatest all [] m i.0) (maps_stop ms) (printed_more_maps greatest all (m.source ∷ []) ms i.1)

are_maps : (all : List (List ℕ)) (ms : List MapSyntax) → AreMapsOf all [] ms → AreMaps (maps_syntax ms)
are_maps all [] i = tt
are_maps all (m ∷ ms) i = let map = i.0 in not_none m.source map.source

-- rows
row_maps : (all : List (List ℕ)) (row : TableRow) → list_all is_table_name all ≡ true → differ all ≡ true → is_row_over (length all) row ≡ true → AreMapsOf all [] (maps_of all all row.images)
row_maps all row names d over =
    let p = and_parts (length row.images == length all) (list_all (is_place_or_none (length all)) row.images) over in
    are_maps_of all [] all row.images names (λ w h. h) (λ w h. refl) d names p.1

pub are_rows : (all : List (List ℕ)) (rows : List TableRow) → list_all is_table_name all ≡ true → differ all ≡ true → list_all (is_row_over (length all)) rows ≡ true
    → AllByRecursion IsRow (map (row_syntax all) rows)
are_rows all [] names d over = tt
are_rows all (row ∷ rows) names d over =
    let p = and_parts (is_row_over (length all) row) (list_all (is_row_over (length all)) rows) over in
    (are_maps all (maps_of all all row.images) (row_maps all row names d p.0), are_rows all rows names d p.1)

rows_stop : (all : List (List ℕ)) (rows : List TableRow) → stops (rows_text all rows) ≡ true
rows_stop all [] = refl
rows_stop all (row ∷ rows) = refl

printed_row : (greatest : ℕ) (all before : List (List ℕ)) (row : TableRow) → is_table_name row.name ≡ true → is_among before row.name ≡ false → length before + 1 ≤ MAX_TABLE_NAMES
    → AreMapsOf all [] (maps_of all all row.images) → IsPrinted greatest (row_marks all before (row_syntax all row)) (row_text all row)
printed_row greatest all before row h fresh room are_maps =
    subst (λ t. IsPrinted greatest (row_marks all before (row_syntax all row)) (codes ";" ++ t)) (sym (append_assoc row.name (codes ":") (maps_text (maps_of all all row.images))))
    (mark_next (plain semicolon) (codes ";") refl (λ z. refl)
    (word_next (own_name before row.name) row.name (own_clear before row.name h fresh room) refl (name_word row.name h) refl
    (mark_next (plain colon) (codes ":") refl (λ z. refl)
    (printed_maps greatest all (maps_of all all row.images) are_maps))))

printed_rows : (greatest : ℕ) (all before : List (List ℕ)) (rows : List TableRow) → list_all is_table_name all ≡ true → differ all ≡ true → list_all (is_row_over (length all)) rows ≡ true
    → Fresh before (map row_name rows) → differ (map row_name rows) ≡ true → list_all is_table_name (map row_name rows) ≡ true → length before + length rows ≤ MAX_TABLE_NAMES
    → IsPrinted greatest (rows_marks all before (map (row_syntax all) rows)) (rows_text all rows)
printed_rows greatest all before [] names d over f e h room = printed_none
printed_rows greatest all before (row ∷ rows) names d over f e h room =
    let apart = first_apart row.name (map row_name rows) e in
    let p = and_parts (is_table_name row.name) (list_all is_table_name (map row_name rows)) h in
    let q = and_parts (is_row_over (length all) row) (list_all (is_row_over (length all)) rows) over in
    let more = length-append before (row.name ∷ []) in
    printed_then
    (printed_row greatest all before row p.0 (fresh_first before row.name (map row_name rows) f) (omega arith) (row_maps all row names d q.0))
    (rows_stop all rows)
    (printed_rows greatest all (before ++ row.name ∷ []) rows names d q.1 (fresh_more before row.name (map row_name rows) apart.0 f) apart.1 p.1 (omega arith))

stops_rows : (all : List (List ℕ)) (rows : List TableRow) → stops (rows_text all rows ++ codes "}") ≡ true
stops_rows all [] = refl
stops_rows all (row ∷ rows) = refl

-- the whole table, from its brace on
pub printed_table : (greatest : ℕ) (names : List (List ℕ)) (ranks : List ℕ) (rows : List TableRow) → IsNamedTable names ranks rows
    → IsPrinted greatest (table_marks (table_from names ranks rows)) (codes "{" ++ values_text names ranks ++ rows_text names rows ++ codes "}")
printed_table greatest [] ranks rows f = let some = f.some in absurd (omega arith)
printed_table greatest (n ∷ ns) [] rows f = let as_many = f.as_many in absurd (omega arith)
printed_table greatest (n ∷ ns) (r ∷ rs) [] f = let some = f.some_rows in absurd (omega arith)
printed_table greatest (n ∷ ns) (r ∷ rs) (row ∷ rows) f =
    let as_many = f.as_many in
    let few = f.few in
    let few_rows = f.few_rows in
    let same : length rs ≡ length ns = omega arith in
    let apart = first_apart n ns f.names_differ in
    let p = and_parts (is_table_name n) (list_all is_table_name ns) f.are_names in
    let names : value_names (table_from (n ∷ ns) (r ∷ rs) (row ∷ rows)) ≡ n ∷ ns = ap (λ x. n ∷ x) (names_back r ns rs same) in
    let more = more_values_text r ns rs in
    let end = rows_text (n ∷ ns) (row ∷ rows) ++ codes "}" in
    let values = printed_values greatest (n ∷ []) r ns rs (fresh_more [] n ns apart.0 (λ w h. refl)) apart.1 p.1 (omega arith) in
    let all_rows = printed_rows greatest (n ∷ ns) [] (row ∷ rows) f.are_names f.names_differ f.over (λ w h. refl) f.rows_differ f.are_row_names (omega arith) in
    let after = printed_then all_rows refl (mark_next (plain right_brace) (codes "}") refl (λ z. refl) printed_none) in
    let rest = printed_then values (stops_rows (n ∷ ns) (row ∷ rows)) after in
    let whole = mark_next (plain left_brace) (codes "{") refl (λ z. refl)
    (word_next (own_name [] n) n (own_clear [] n p.0 refl (omega arith)) refl (name_word n p.0) (stops_values r ns rs row rows) rest) in
    let marks : List (List ℕ) → List Mark = λ all.
    plain left_brace ∷ own_name [] n ∷ (values_marks (n ∷ []) (values_of r ns rs) ++ (rows_marks all [] (map (row_syntax (n ∷ ns)) (row ∷ rows)) ++ plain right_brace ∷ [])) in
    subst (λ all. IsPrinted greatest (marks all) (codes "{" ++ values_text (n ∷ ns) (r ∷ rs) ++ rows_text (n ∷ ns) (row ∷ rows) ++ codes "}")) (sym names)
    (subst (λ t. IsPrinted greatest (marks (n ∷ ns)) (codes "{" ++ t)) (sym (append_assoc (n ++ more) (rows_text (n ∷ ns) (row ∷ rows)) (codes "}") ∙ append_assoc n more end)) whole)
  where
    stops_values : (r : ℕ) (ns : List (List ℕ)) (rs : List ℕ) (row : TableRow) (rows : List TableRow) → stops (more_values_text r ns rs ++ (rows_text (n ∷ ns) (row ∷ rows) ++ codes "}")) ≡ true
    stops_values r ns rs row rows = stops_append (more_values_text r ns rs) (rows_text (n ∷ ns) (row ∷ rows) ++ codes "}") (values_stop r ns rs) (stops_rows (n ∷ ns) (row ∷ rows))

-- its rows are those of the grammar
pub are_table_rows : (names : List (List ℕ)) (ranks : List ℕ) (rows : List TableRow) → IsNamedTable names ranks rows
    → IsRow (table_from names ranks rows).row × AllByRecursion IsRow (table_from names ranks rows).rows
are_table_rows [] ranks rows f = let some = f.some in absurd (omega arith)
are_table_rows (n ∷ ns) [] rows f = let as_many = f.as_many in absurd (omega arith)
are_table_rows (n ∷ ns) (r ∷ rs) [] f = let some = f.some_rows in absurd (omega arith)
are_table_rows (n ∷ ns) (r ∷ rs) (row ∷ rows) f = are_rows (n ∷ ns) (row ∷ rows) f.are_names f.names_differ f.over
