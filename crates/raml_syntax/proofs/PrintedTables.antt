-- The tree of a table's text, which means the table.
use Rattle.std.proofs.Common.{◌≡◌, ℕ, ◌+◌, ◌≤◌, ◌==◌, Bool, true, false, not, ◌&&◌, ◌||◌, cond, nat_lt, nat_le, List, [], ◌∷◌, map, length, get_or, Option, Some, None, option_and_then, bytes_eq, refl, ap, ap₂, sym, ◌∙◌, arith}
use Rattle.std.specs.List.{list_all, list_any}
use Rattle.std.proofs.lemmas.Bool.{ltb-true, and_parts, or_parts, cond-true, cond-false, eqb-true, leb-true}
use Rattle.alg_model.specs.declared.alg.TheConstants.{MAX_TABLE_NAMES}
use Rattle.alg_model.specs.declared.tree.TableSpec.{TableSpec}
use Rattle.alg_model.specs.declared.tree.TableRow.{TableRow}
use Rattle.alg_model.specs.Formation.{ranks_rise, are_ranks, is_place_or_none, is_row_over, is_table_count, is_table, is_table_name, are_distinct, are_named, row_name}
use Rattle.raml_syntax.specs.Differing.{differ}
use Rattle.raml_syntax.specs.Syntax.{ValueSyntax, MapSyntax, MapsSyntax, no_maps, maps, RowSyntax, TableSyntax, is_among}
use Rattle.alg_model.specs.Names.{place_of}
use Rattle.raml_syntax.specs.Meaning.{ranks_from, target_of, all_maps, image_place, row_meaning, table_meaning}
use Rattle.raml_syntax.specs.Printed.{maps_of}
use Rattle.raml_syntax.proofs.TestLaws.{bytes_self}
use Rattle.raml_syntax.proofs.PrintedNames.{bytes_differ, first_apart, place_at}

abbrev pub values_of : ℕ → List (List ℕ) → List ℕ → List ValueSyntax
values_of before (name ∷ names) (rank ∷ ranks) = record { is_tied = rank == before; name = name } ∷ values_of rank names ranks
values_of before _ _ = []

abbrev pub maps_syntax : List MapSyntax → MapsSyntax
maps_syntax [] = no_maps
maps_syntax (m ∷ ms) = maps m ms

abbrev pub row_syntax : List (List ℕ) → TableRow → RowSyntax
row_syntax names row = record { name = row.name; images = maps_syntax (maps_of names names row.images) }

abbrev pub table_from : List (List ℕ) → List ℕ → List TableRow → TableSyntax
table_from (n ∷ ns) (r ∷ rs) (row ∷ rows) = record { first = n; others = values_of r ns rs; row = row_syntax (n ∷ ns) row; rows = map (row_syntax (n ∷ ns)) rows }
table_from _ _ _ = record { first = []; others = []; row = record { name = []; images = no_maps }; rows = [] }

-- what the formation rules say of a table
pub record IsNamedTable (names : List (List ℕ)) (ranks : List ℕ) (rows : List TableRow) : Type 0 where
  pub some : 1 ≤ length names
  pub few : length names ≤ MAX_TABLE_NAMES
  pub some_rows : 1 ≤ length rows
  pub few_rows : length rows ≤ MAX_TABLE_NAMES
  pub as_many : length ranks ≡ length names
  pub rise : are_ranks ranks ≡ true
  pub over : list_all (is_row_over (length names)) rows ≡ true
  pub are_names : list_all is_table_name names ≡ true
  pub names_differ : differ names ≡ true
  pub are_row_names : list_all is_table_name (map row_name rows) ≡ true
  pub rows_differ : differ (map row_name rows) ≡ true

all_mapped : (p : List ℕ → Bool) (rows : List TableRow) → list_all (λ row. p (row_name row)) rows ≡ list_all p (map row_name rows)
all_mapped p [] = refl
all_mapped p (row ∷ rows) = ap (λ b. p (row_name row) && b) (all_mapped p rows)

any_mapped : (p : List ℕ → Bool) (rows : List TableRow) → list_any (λ row. p (row_name row)) rows ≡ list_any p (map row_name rows)
any_mapped p [] = refl
any_mapped p (row ∷ rows) = ap (λ b. p (row_name row) || b) (any_mapped p rows)

differ_mapped : (rows : List TableRow) → are_distinct row_name rows ≡ differ (map row_name rows)
differ_mapped [] = refl
differ_mapped (row ∷ rows) = ap₂ (λ x y. not x && y) (any_mapped (λ w. bytes_eq w (row_name row)) rows) (differ_mapped rows)

counts : (n : ℕ) → is_table_count n ≡ true → (1 ≤ n) × (n ≤ MAX_TABLE_NAMES)
counts n h = let p = and_parts (nat_le 1 n) (nat_le n MAX_TABLE_NAMES) h in (leb-true 1 n p.0, leb-true n MAX_TABLE_NAMES p.1)

pub named_table : (t : TableSpec) → is_table t ≡ true → (are_named (λ name. name) t.names && are_named row_name t.rows) ≡ true → IsNamedTable t.names t.ranks t.rows
named_table t h k =
    let d = and_parts _ (list_all (is_row_over (length t.names)) t.rows) h in
    let c = and_parts _ (are_ranks t.ranks) d.0 in
    let b = and_parts _ (length t.ranks == length t.names) c.0 in
    let a = and_parts (is_table_count (length t.names)) (is_table_count (length t.rows)) b.0 in
    let n = and_parts (are_named (λ name. name) t.names) (are_named row_name t.rows) k in
    let names = and_parts (list_all is_table_name t.names) (differ t.names) n.0 in
    let rows = and_parts (list_all (λ row. is_table_name (row_name row)) t.rows) (are_distinct row_name t.rows) n.1 in
    let count = counts (length t.names) a.0 in
    let row_count = counts (length t.rows) a.1 in
    record {
      some = count.0;
      few = count.1;
      some_rows = row_count.0;
      few_rows = row_count.1;
      as_many = eqb-true (length t.ranks) (length t.names) b.1;
      rise = c.1;
      over = d.1;
      are_names = names.0;
      names_differ = names.1;
      are_row_names = sym (all_mapped is_table_name t.rows) ∙ rows.0;
      rows_differ = sym (differ_mapped t.rows) ∙ rows.1;
    }

pub names_back : (rank : ℕ) (ns : List (List ℕ)) (rs : List ℕ) → length rs ≡ length ns → map (λ (v : ValueSyntax). v.name) (values_of rank ns rs) ≡ ns
names_back rank [] rs h = refl
names_back rank (n ∷ ns) [] h = absurd (omega arith)
names_back rank (n ∷ ns) (r ∷ rs) h = ap (λ x. n ∷ x) (names_back r ns rs (omega arith))

ranks_back : (rank : ℕ) (ns : List (List ℕ)) (rs : List ℕ) → length rs ≡ length ns → ranks_rise rank rs ≡ true → ranks_from rank (values_of rank ns rs) ≡ rs
ranks_back rank [] [] h e = refl
ranks_back rank [] (r ∷ rs) h e = absurd (omega arith)
ranks_back rank (n ∷ ns) [] h e = absurd (omega arith)
ranks_back rank (n ∷ ns) (r ∷ rs) h e =
    let p = and_parts (r == rank || r == rank + 1) (ranks_rise r rs) e in
    by (r == rank) refl p.0 (ranks_back r ns rs (omega arith) p.1)
  where
    next : (x : ℕ) → r ≡ x → ranks_from r (values_of r ns rs) ≡ rs → x ∷ ranks_from x (values_of r ns rs) ≡ r ∷ rs
    next x s k = ap (λ y. y ∷ ranks_from y (values_of r ns rs)) (sym s) ∙ ap (λ y. r ∷ y) k

    by : (b : Bool) → (r == rank) ≡ b → (b || r == rank + 1) ≡ true → ranks_from r (values_of r ns rs) ≡ rs
        → cond b (rank ∷ ranks_from rank (values_of r ns rs)) ((rank + 1) ∷ ranks_from (rank + 1) (values_of r ns rs)) ≡ r ∷ rs
    by true s q k = next rank (eqb-true r rank s) k
    by false s q k = next (rank + 1) (eqb-true r (rank + 1) q) k

-- maps of other values play no part
skipped : (all : List (List ℕ)) (n target : List ℕ) (ms : List MapSyntax) (ns : List (List ℕ)) → is_among ns n ≡ false
    → map (image_place all (record { source = n; target = target } ∷ ms)) ns ≡ map (image_place all ms) ns
skipped all n target ms [] h = refl
skipped all n target ms (x ∷ ns) h =
    let p = or_parts (bytes_eq x n) (is_among ns n) h in
    ap₂ (λ y ys. y ∷ ys)
    (ap (λ o. option_and_then (place_of all) o) (cond-false (bytes_eq n x) (Some target) (target_of ms x) (bytes_differ x n p.0)))
    (skipped all n target ms ns p.1)

not_mapped : (all : List (List ℕ)) (n : List ℕ) (ns : List (List ℕ)) (images : List (Option ℕ)) → is_among ns n ≡ false → target_of (maps_of all ns images) n ≡ None
not_mapped all n [] images h = refl
not_mapped all n (x ∷ ns) [] h = refl
not_mapped all n (x ∷ ns) (Some k ∷ images) h =
    let p = or_parts (bytes_eq x n) (is_among ns n) h in
    cond-false (bytes_eq x n) _ (target_of (maps_of all ns images) n) p.0 ∙ not_mapped all n ns images p.1
not_mapped all n (x ∷ ns) (None ∷ images) h =
    let p = or_parts (bytes_eq x n) (is_among ns n) h in
    not_mapped all n ns images p.1

images_back : (all ns : List (List ℕ)) (images : List (Option ℕ)) → length images ≡ length ns → list_all (is_place_or_none (length all)) images ≡ true → differ all ≡ true → differ ns ≡ true
    → map (image_place all (maps_of all ns images)) ns ≡ images
images_back all [] [] l places d e = refl
images_back all [] (i ∷ images) l places d e = absurd (omega arith)
images_back all (n ∷ ns) [] l places d e = absurd (omega arith)
images_back all (n ∷ ns) (Some k ∷ images) l places d e =
    let apart = first_apart n ns e in
    let p = and_parts (nat_lt k (length all)) (list_all (is_place_or_none (length all)) images) places in
    ap₂ (λ y ys. y ∷ ys)
    (ap (λ o. option_and_then (place_of all) o) (cond-true (bytes_eq n n) (Some (get_or all k [])) _ (bytes_self n)) ∙ place_at all k d (ltb-true k (length all) p.0))
    (skipped all n (get_or all k []) (maps_of all ns images) ns apart.0 ∙ images_back all ns images (omega arith) p.1 d apart.1)
images_back all (n ∷ ns) (None ∷ images) l places d e =
    let apart = first_apart n ns e in
    ap₂ (λ y ys. y ∷ ys)
    (ap (λ o. option_and_then (place_of all) o) (not_mapped all n ns images apart.0))
    (images_back all ns images (omega arith) places d apart.1)

all_maps_back : (ms : List MapSyntax) → all_maps (maps_syntax ms) ≡ ms
all_maps_back [] = refl
all_maps_back (m ∷ ms) = refl

rows_back : (all : List (List ℕ)) (rows : List TableRow) → list_all (is_row_over (length all)) rows ≡ true → differ all ≡ true → map (row_meaning all) (map (row_syntax all) rows) ≡ rows
rows_back all [] h d = refl
rows_back all (row ∷ rows) h d =
    let p = and_parts (is_row_over (length all) row) (list_all (is_row_over (length all)) rows) h in
    let q = and_parts (length row.images == length all) (list_all (is_place_or_none (length all)) row.images) p.0 in
    let images = ap (λ ms. map (image_place all ms) all) (all_maps_back (maps_of all all row.images))
    ∙ images_back all all row.images (eqb-true (length row.images) (length all) q.0) q.1 d d in
    ap₂ (λ x xs. x ∷ xs) (ap (λ x. record { name = row.name; images = x }) images) (rows_back all rows p.1 d)

abbrev record_of : List (List ℕ) → List ℕ → List TableRow → TableSpec
record_of names ranks rows = record { names = names; ranks = ranks; rows = rows }

same_spec : (ns ms : List (List ℕ)) (rs qs : List ℕ) (xs ys : List TableRow) → ns ≡ ms → rs ≡ qs → xs ≡ ys
    → record_of ns rs xs ≡ record_of ms qs ys
same_spec ns ms rs qs xs ys a b c = cc

-- the tree means the table
pub table_back : (names : List (List ℕ)) (ranks : List ℕ) (rows : List TableRow) → IsNamedTable names ranks rows → table_meaning (table_from names ranks rows) ≡ record { names = names; ranks = ranks; rows = rows }
table_back [] ranks rows f = let some = f.some in absurd (omega arith)
table_back (n ∷ ns) [] rows f = let as_many = f.as_many in absurd (omega arith)
table_back (n ∷ ns) (r ∷ rs) [] f = let some = f.some_rows in absurd (omega arith)
table_back (n ∷ ns) (r ∷ rs) (row ∷ rows) f =
    let as_many = f.as_many in
    let same : length rs ≡ length ns = omega arith in
    let rise = and_parts (r == 0) (ranks_rise r rs) f.rise in
    let zero_rank = eqb-true r 0 rise.0 in
    let names : n ∷ map (λ (v : ValueSyntax). v.name) (values_of r ns rs) ≡ n ∷ ns = ap (λ x. n ∷ x) (names_back r ns rs same) in
    let ranks : 0 ∷ ranks_from 0 (values_of r ns rs) ≡ r ∷ rs = ap (λ x. x ∷ ranks_from x (values_of r ns rs)) (sym zero_rank) ∙ ap (λ x. r ∷ x) (ranks_back r ns rs same rise.1) in
    same_spec _ _ _ _ _ _ names ranks
    (ap (λ x. map (row_meaning x) (map (row_syntax (n ∷ ns)) (row ∷ rows))) names ∙ rows_back (n ∷ ns) (row ∷ rows) f.over f.names_differ)
