-- Rows of a table of an algebra.
use Rattle.std.proofs.Common.{◌≡◌, refl, ap, ◌∙◌, ℕ, ◌<◌, ◌≤◌, ◌==◌, Bool, true, ◌&&◌, List, length, get_or, option_map, option_and_then, nat_le, arith}
use Rattle.std.specs.List.{list_all}
use Rattle.std.proofs.Math.Path.{fun_ext}
use Rattle.std.proofs.lemmas.Bool.{and_parts}
use Rattle.std.proofs.lemmas.Bool.Decides.{nat_tests}
use Rattle.std.proofs.lemmas.Option.{slice_get_read}
use Rattle.alg_model.specs.declared.tree.TableSpec.{TableSpec}
use Rattle.alg_model.specs.declared.tree.TableRow.{TableRow}
use Rattle.alg_model.specs.declared.tree.Tree.{Tree, Table}
use Rattle.alg_model.specs.declared.tree.Label.{Label, Row}
use Rattle.alg_model.specs.declared.alg.TheConstants.{MAX_TABLE_NAMES}
use Rattle.alg_model.specs.Expressions.{table, PureValue, name, row_label}
use Rattle.alg_model.specs.Views.{expression_of, pure_label}
use Rattle.alg_model.specs.Application.{IsLabel, App, image_of}
use Rattle.alg_model.specs.Formation.{is_table, is_table_count, are_ranks, is_row_over}
use Rattle.alg_model.specs.ImageLaws.{image_of_within}
use Rattle.table_classes.specs.Rows.{PureRow, IsRow, IsRowOf, image_at, row_action}

most : (count : ℕ) → is_table_count count ≡ true → count ≤ MAX_TABLE_NAMES
most count h = below count (and_parts (nat_le 1 count) (nat_le count MAX_TABLE_NAMES) h).1
  where
    below : (count : ℕ) → nat_le count MAX_TABLE_NAMES ≡ true → count ≤ MAX_TABLE_NAMES
    below count h = grind (arith, nat_tests)

-- the first two of five tests
first_two : (a b c d e : Bool) → (a && b && c && d && e) ≡ true → (a ≡ true) × (b ≡ true)
first_two a b c d e h =
    and_parts a b (and_parts (a && b) c (and_parts (a && b && c) d (and_parts (a && b && c && d) e h).0).0).0

counts : (t : TableSpec) → is_table t ≡ true → (is_table_count (length t.names) ≡ true) × (is_table_count (length t.rows) ≡ true)
counts t h = first_two (is_table_count (length t.names)) (is_table_count (length t.rows)) (length t.ranks == length t.names) (are_ranks t.ranks)
    (list_all (is_row_over (length t.names)) t.rows) h

-- each value of a table has a rank
all_ranked : (t : TableSpec) → is_table t ≡ true → length t.ranks ≡ length t.names
all_ranked t h = as_many (length t.ranks) (length t.names) (third (is_table_count (length t.names)) (is_table_count (length t.rows))
    (length t.ranks == length t.names) (are_ranks t.ranks) (list_all (is_row_over (length t.names)) t.rows) h)
  where
    third : (a b c d e : Bool) → (a && b && c && d && e) ≡ true → c ≡ true
    third a b c d e h = (and_parts (a && b) c (and_parts (a && b && c) d (and_parts (a && b && c && d) e h).0).0).1

    as_many : (m n : ℕ) → (m == n) ≡ true → m ≡ n
    as_many m n h = grind (arith, nat_tests)

-- a table has few rows
pub few_rows : (t : TableSpec) → is_table t ≡ true → length t.rows ≤ MAX_TABLE_NAMES
few_rows t h = most (length t.rows) (counts t h).1

abbrev pub row_in : TableSpec → TableRow → PureRow
row_in t row = record {
  names = t.names;
  ranks = t.ranks;
  images = row.images;
}

-- the image by the row at a place
image_same : (t : TableSpec) (r : ℕ) (row : TableRow) → r < length t.rows → row ≡ get_or t.rows r row → (k : ℕ)
    → image_of t r k ≡ image_at row.images k
image_same t r row h e k =
    ap (option_and_then (λ (row : TableRow). image_at row.images k)) (slice_get_read t.rows (length t.rows) r row refl h e)

pub row_is : (t : TableSpec) (r : ℕ) (row : TableRow) → is_table t ≡ true → r < length t.rows → row ≡ get_or t.rows r row → IsRow (row_in t row)
row_is t r row is h e = record {
  few = most (length t.names) (counts t is).0;
  ranked = all_ranked t is;
  within = λ k place f. image_of_within t r k place is (image_same t r row h e k ∙ f);
}

acts_alike : (t : TableSpec) (r : ℕ) (row : TableRow) → ((k : ℕ) → image_of t r k ≡ image_at row.images k)
    → (v : PureValue) → App (table t) (row_label r) v ≡ row_action (row_in t row) v
acts_alike t r row same (name k) = ap (option_map name) (same k)
acts_alike t r row same _ = refl

pub row_is_of : (t : TableSpec) (r : ℕ) (row : TableRow) → r < length t.rows → row ≡ get_or t.rows r row
    → IsRowOf (table t) (row_label r) (row_in t row)
row_is_of t r row h e = record {
  carrier = refl;
  action = fun_ext (acts_alike t r row (image_same t r row h e));
}

-- what the program finds at a label's place
pub within_rows : (tree : Tree) (label : Label) (t : TableSpec) (r : ℕ) → tree ≡ Table t → label ≡ Row r
    → IsLabel (expression_of tree) (pure_label label) → r < length t.rows
within_rows tree label t r e f h = rw (e, f) at h

pub found_row : (rows given : List TableRow) (r place : ℕ) (row : TableRow) → given ≡ rows → place ≡ r → row ≡ get_or given place row → row ≡ get_or rows r row
found_row rows given r place row e f h = rw (e, f) at h
