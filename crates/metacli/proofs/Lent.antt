-- Rows whose values are words: how they are found, and their lines.
use Rattle.std.proofs.Common.{◌≡◌, ℕ, zero, suc, ◌+◌, ◌-◌, ◌<◌, ◌≤◌, List, [], ◌∷◌, ◌++◌, Some, length, map, take, drop, get_or, slice_get, refl, sym, ap, ◌∙◌, arith, append_assoc}
use Rattle.std.proofs.Math.Seq.{take-append_seam, drop-append_seam}
use Rattle.std.proofs.lemmas.List.{at_drop_more}
use Rattle.std.proofs.lemmas.Option.{slice_get_within, get_or_from_slice_get}
use Rattle.std.specs.List.{AllByRecursion, range_with_len}
use Rattle.alg_model.specs.Expressions.{PureValue}
use Rattle.best_first.specs.Numbered.{PureFixed}
use Rattle.best_first.specs.Fixed.{AreFixedFrom}
use Rattle.net_graph.proofs.GroupLemmas.{all_at}
use Rattle.net_graph.specs.Nets.{PureNet}
use Rattle.net_graph.specs.RowTexts.{row_text}
use Rattle.net_graph.specs.Tables.{PureRow, BestFirst, OnTablesFrom, joined_rows}
use Rattle.report_text.specs.TableTexts.{stable_text, table_text}
use Rattle.word_tables.specs.Joined.{all_fixed_rows, AreAllFixed}
use Rattle.metacli.specs.Texts.{one_table_text, rows_text, tables_text}

-- ---- how they are found

module _ {S : Type 0} (value : S → PureValue) (is_sig : S → Type 0) (net : PureNet) where
  pub all_fixed_on : (k : ℕ) (found : List (PureFixed S)) → AreFixedFrom value is_sig net k found → AreAllFixed is_sig found
  all_fixed_on k [] h = tt
  all_fixed_on k (f ∷ fs) h = ((h.0.fixed, rw h.0.count h.0.few), all_fixed_on (k + 1) fs h.1)

  pub best_on : (k : ℕ) (found : List (PureFixed S)) → AreFixedFrom value is_sig net k found → OnTablesFrom (BestFirst net) k (all_fixed_rows value k found)
  best_on k [] h = tt
  best_on k (f ∷ fs) h = (h.0.best_first, best_on (k + 1) fs h.1)

pub length_fixed : {S : Type 0} (value : S → PureValue) (k : ℕ) (found : List (PureFixed S)) → length (all_fixed_rows value k found) ≡ length found
length_fixed value k [] = refl
length_fixed value k (f ∷ fs) = ap suc (length_fixed value (k + 1) fs)

-- each table that is made best first has a row for each node
pub nodes_on : (net : PureNet) (k : ℕ) (tables : List (List PureRow)) → OnTablesFrom (BestFirst net) k tables → AllByRecursion (λ t. length t ≡ length net.nodes) tables
nodes_on net k [] h = tt
nodes_on net k (t ∷ ts) h = (h.0.table_of.count, nodes_on net (k + 1) ts h.1)

-- ---- their lines

-- the lines from one row of a table on
pub word_line_at : (net : PureNet) (rows : List PureRow) (i : ℕ) (row : PureRow) → slice_get rows i ≡ Some row → rows_text net (drop i rows) ≡ row_text net row ++ rows_text net (drop (i + 1) rows)
word_line_at net rows i row e =
    at_drop_more (rows_text net) rows i row (slice_get_within rows i row e)
    ∙ ap (λ r. row_text net r ++ rows_text net (drop (i + 1) rows)) (get_or_from_slice_get rows i row row e)

-- what holds of all rows holds of one
pub word_row_at : (P : PureRow → Type 0) (rows : List PureRow) (i : ℕ) (row : PureRow) → slice_get rows i ≡ Some row → AllByRecursion P rows → P row
word_row_at P rows i row e all = all_at P rows i row all (slice_get_within rows i row e) (sym (get_or_from_slice_get rows i row row e))

text_append : (net : PureNet) (rows more : List PureRow) → rows_text net (rows ++ more) ≡ rows_text net rows ++ rows_text net more
text_append net [] more = refl
text_append net (row ∷ rows) more = ap (λ l. row_text net row ++ l) (text_append net rows more) ∙ sym (append_assoc (row_text net row) (rows_text net rows) (rows_text net more))

-- the lines from one table on
pub table_lines_at : {T : Type 0} (rows_of : T → List PureRow) (net : PureNet) (tables : List T) (i : ℕ) (table : T) → i < length tables → table ≡ get_or tables i table
    → rows_text net (joined_rows (map rows_of (drop i tables))) ≡ rows_text net (rows_of table) ++ rows_text net (joined_rows (map rows_of (drop (i + 1) tables)))
table_lines_at rows_of net tables i table h e =
    at_drop_more (λ ts. rows_text net (joined_rows (map rows_of ts))) tables i table h
    ∙ ap (λ t. rows_text net (rows_of t ++ joined_rows (map rows_of (drop (i + 1) tables)))) (sym e)
    ∙ text_append net (rows_of table) (joined_rows (map rows_of (drop (i + 1) tables)))

all_front : {X : Type 0} (P : X → Type 0) (xs ys : List X) → AllByRecursion P (xs ++ ys) → AllByRecursion P xs
all_front P [] ys h = tt
all_front P (x ∷ xs) ys h = (h.0, all_front P xs ys h.1)

all_back : {X : Type 0} (P : X → Type 0) (xs ys : List X) → AllByRecursion P (xs ++ ys) → AllByRecursion P ys
all_back P [] ys h = h
all_back P (x ∷ xs) ys h = all_back P xs ys h.1

-- what holds of the rows of all tables holds of those of one
pub table_at : {T : Type 0} (P : PureRow → Type 0) (rows_of : T → List PureRow) (tables : List T) (i : ℕ) (table : T) → i < length tables → table ≡ get_or tables i table
    → AllByRecursion P (joined_rows (map rows_of tables)) → AllByRecursion P (rows_of table)
table_at P rows_of [] i table h e all = absurd (omega arith)
table_at P rows_of (t ∷ ts) zero table h e all = let same : t ≡ table = sym e in rw (← same) (all_front P (rows_of t) (joined_rows (map rows_of ts)) all)
table_at P rows_of (t ∷ ts) (suc i) table h e all = table_at P rows_of ts i table (omega arith) e (all_back P (rows_of t) (joined_rows (map rows_of ts)) all)

reordered : (a b c d : List ℕ) → a ++ (b ++ (c ++ d)) ≡ (a ++ (b ++ c)) ++ d
reordered a b c d = ap (λ l. a ++ l) (sym (append_assoc b c d)) ∙ sym (append_assoc a (b ++ c) d)

-- the text of the stable tables of destinations, of which the first has a row for each node
tables_next : (net : PureNet) (dest : ℕ) (table others : List PureRow) → dest < length net.dests → length table ≡ length net.nodes
    → tables_text net (range_with_len dest (length net.dests - dest)) (table ++ others)
    ≡ one_table_text net dest table ++ tables_text net (range_with_len (dest + 1) (length net.dests - (dest + 1))) others
tables_next net dest table others l e =
    let left : length net.dests - dest ≡ suc (length net.dests - (dest + 1)) = omega arith in
    let rest = tables_text net (range_with_len (dest + 1) (length net.dests - (dest + 1))) in
    ap (λ n. tables_text net (range_with_len dest n) (table ++ others)) left
    ∙ ap (λ n. stable_text net dest 1 ++ (table_text 1 ++ (rows_text net (take n (table ++ others)) ++ rest (drop n (table ++ others))))) (sym e)
    ∙ ap (λ front. stable_text net dest 1 ++ (table_text 1 ++ (rows_text net front ++ rest (drop (length table) (table ++ others))))) (take-append_seam table others)
    ∙ ap (λ back. stable_text net dest 1 ++ (table_text 1 ++ (rows_text net table ++ rest back))) (drop-append_seam table others)
    ∙ reordered (stable_text net dest 1) (table_text 1) (rows_text net table) (rest others)

-- the text of stable tables from one on
pub stable_at : {T : Type 0} (rows_of : T → List PureRow) (net : PureNet) (tables : List T) (dest : ℕ) (table : T) → dest < length tables → table ≡ get_or tables dest table → length tables ≡ length net.dests
    → AllByRecursion (λ t. length t ≡ length net.nodes) (map rows_of tables)
    → tables_text net (range_with_len dest (length net.dests - dest)) (joined_rows (map rows_of (drop dest tables)))
    ≡ one_table_text net dest (rows_of table) ++ tables_text net (range_with_len (dest + 1) (length net.dests - (dest + 1))) (joined_rows (map rows_of (drop (dest + 1) tables)))
stable_at rows_of net tables dest table h e many nodes =
    at_drop_more (λ ts. tables_text net (range_with_len dest (length net.dests - dest)) (joined_rows (map rows_of ts))) tables dest table h
    ∙ ap (λ t. tables_text net (range_with_len dest (length net.dests - dest)) (rows_of t ++ joined_rows (map rows_of (drop (dest + 1) tables)))) (sym e)
    ∙ tables_next net dest (rows_of table) (joined_rows (map rows_of (drop (dest + 1) tables))) (omega (arith, many, h)) (nodes_at tables dest h e nodes)
  where
    nodes_at : (ts : List _) (i : ℕ) → i < length ts → table ≡ get_or ts i table → AllByRecursion (λ t. length t ≡ length net.nodes) (map rows_of ts) → length (rows_of table) ≡ length net.nodes
    nodes_at [] i l f all = absurd (omega arith)
    nodes_at (t ∷ ts) zero l f all = let same : t ≡ table = sym f in rw (← same) all.0
    nodes_at (t ∷ ts) (suc i) l f all = nodes_at ts i (omega arith) f all.1

-- no table is left
pub stable_end : {T : Type 0} (rows_of : T → List PureRow) (net : PureNet) (tables : List T) (dest : ℕ) → length net.dests ≤ dest
    → tables_text net (range_with_len dest (length net.dests - dest)) (joined_rows (map rows_of (drop dest tables))) ≡ []
stable_end rows_of net tables dest h =
    let none : length net.dests - dest ≡ 0 = omega arith in
    rw none refl
