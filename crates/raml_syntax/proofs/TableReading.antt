-- Reading a table.
use Rattle.std.proofs.Common.{◌≡◌, ℕ, List, [], ◌∷◌, ◌++◌, map, Result, Ok, Err, refl, sym, ap, ◌∙◌, append_assoc}
use Rattle.raml_lex.specs.Tokens.{number, left_brace, right_brace, semicolon, colon}
use Rattle.raml_lex.specs.Lexers.{Lexer}
use Rattle.alg_model.specs.declared.tree.TableRow.{TableRow}
use Rattle.alg_model.specs.declared.tree.TableSpec.{TableSpec}
use Rattle.raml_syntax.specs.declared.faults.AlgError.{AlgError}
use Rattle.raml_syntax.specs.declared.values.ValueList.{ValueList}
use Rattle.raml_syntax.specs.Syntax.{TableSyntax}
use Rattle.raml_syntax.specs.Meaning.{value_names, ranks_from, row_meaning, table_meaning}
use Rattle.raml_syntax.specs.Marks.{Mark, plain, own_name, values_marks, maps_marks, rows_marks}
use Rattle.raml_syntax.specs.Productions.{toks}
use Rattle.raml_syntax.specs.Trees.{Table}
use Rattle.raml_syntax.specs.Reading.{TakesOne}
use Rattle.raml_syntax.specs.Leaves.{Misses, IsRefusal, IsTok}
use Rattle.raml_syntax.specs.Sequences.{One, Then, Reads, IsDetermined, IsPossible, map_ok}
use Rattle.raml_syntax.specs.Values.{Values}
use Rattle.raml_syntax.specs.Rows.{MoreRows}
use Rattle.raml_syntax.proofs.Sequences.{reads_inside, reads_then, reads_not_first, one_determined, then_possible}
use Rattle.raml_syntax.proofs.Tested.{reads_at, reads_same, one_mark, one_no_mark}
use Rattle.raml_syntax.proofs.ValueReading.{values_determined, values_possible}
use Rattle.raml_syntax.proofs.RowReading.{rows_possible}

abbrev pub brace_mark : Unit {0} → Mark
brace_mark _ = plain left_brace

brace_determined : IsDetermined (One brace_mark)
brace_determined = one_determined brace_mark (λ r s e. refl)

-- the table of these values and rows
abbrev pub table_of : ValueList → List TableRow → TableSpec
table_of v rows = record { names = v.names; ranks = v.ranks; rows = rows }

-- what follows the values means the table
abbrev pub TableOf : ValueList → TableSpec → List Mark → Type 0
TableOf v t ms = (rows : List TableRow) × (t ≡ table_of v rows) × MoreRows v.names [] rows ms

abbrev pub FollowingBrace : TableSpec → List Mark → Type 0
FollowingBrace = Then Values TableOf

marks_of : (o : Mark) (values rows tail us vs xs ys ms bs : List Mark)
    → us ≡ o ∷ [] → vs ≡ values ++ plain semicolon ∷ [] → xs ≡ us ++ vs → plain semicolon ∷ bs ≡ rows ++ tail → ys ≡ xs ++ bs → ms ≡ plain left_brace ∷ ys
    → ms ≡ plain left_brace ∷ o ∷ (values ++ (rows ++ tail))
marks_of o values rows tail us vs xs ys ms bs p q e m f g =
    rw (g, f, e, p, q) (ap (λ l. plain left_brace ∷ o ∷ l) (append_assoc values (plain semicolon ∷ []) bs ∙ ap (λ l. values ++ l) m))

table_put : (t : TableSpec) (ms : List Mark) → Then (One brace_mark) (λ _. FollowingBrace) t ms → Table t ms
table_put t ms (u, xs, ys, p, (v, ws, bs, (first, us, vs, pf, (others, vm, vmarks), g), (rows, means, more), e), f) = by more
  where
    by : MoreRows v.names [] rows bs → Table t ms
    by ([], all, rm, marks) = absurd (let k : semicolon ∷ toks bs ≡ right_brace ∷ [] = ap toks marks in cc)
    by (row ∷ rest, all, rm, marks) =
        let syntax : TableSyntax = record { first = first; others = others; row = row; rows = rest } in
        let names : v.names ≡ value_names syntax = ap (λ (v : ValueList). v.names) vm in
        let rows_are : rows ≡ map (row_meaning (value_names syntax)) (row ∷ rest) = rm ∙ ap (λ l. map (row_meaning l) (row ∷ rest)) names in
        let is : t ≡ table_meaning syntax = means ∙ ap (λ v. table_of v rows) vm ∙ ap (λ r. table_of (record { names = value_names syntax; ranks = 0 ∷ ranks_from 0 others }) r) rows_are in
        record {
          syntax = syntax;
          first_row = all.0;
          other_rows = all.1;
          means = is;
          marks = marks_of (own_name [] first) (values_marks (first ∷ []) others) (rows_marks (value_names syntax) [] (row ∷ rest)) (plain right_brace ∷ []) us vs ws ys ms bs
              pf vmarks g (marks ∙ ap (λ l. rows_marks l [] (row ∷ rest) ++ plain right_brace ∷ []) names) e (f ∙ ap (λ l. l ++ ys) p);
        }

table_back : (t : TableSpec) (ms : List Mark) → Table t ms → Then (One brace_mark) (λ _. FollowingBrace) t ms
table_back t ms x =
    let s = x.syntax in
    let names = value_names s in
    let v : ValueList = record { names = names; ranks = 0 ∷ ranks_from 0 s.others } in
    let o = own_name [] s.first in
    let vs = values_marks (s.first ∷ []) s.others ++ plain semicolon ∷ [] in
    let bs = own_name [] s.row.name ∷ plain colon ∷ ((maps_marks names s.row.images ++ rows_marks names (s.row.name ∷ []) s.rows) ++ plain right_brace ∷ []) in (
      tt,
      plain left_brace ∷ [],
      o ∷ (vs ++ bs),
      refl,
      (
        v,
        o ∷ vs,
        bs,
        (s.first, o ∷ [], vs, refl, (s.others, refl, refl), refl),
        (map (row_meaning names) (s.row ∷ s.rows), x.means, (s.row ∷ s.rows, (x.first_row, x.other_rows), refl, refl)),
        refl,
      ),
      x.marks ∙ sym (marks_of o (values_marks (s.first ∷ []) s.others) (rows_marks names [] (s.row ∷ s.rows)) (plain right_brace ∷ []) (o ∷ []) vs (o ∷ vs) (o ∷ (vs ++ bs)) (plain left_brace ∷ o ∷ (vs ++ bs)) bs
          refl refl refl refl refl refl),
    )

of_possible : (v : ValueList) → IsPossible (TableOf v)
of_possible v = let p = rows_possible v.names [] in (table_of v p.0, p.1, (p.0, refl, p.2))

brace_possible : IsPossible FollowingBrace
brace_possible = then_possible Values TableOf values_possible of_possible

table_then : (old mid new : Lexer) (result : Result TableSpec AlgError) → TakesOne left_brace old mid → Reads FollowingBrace mid result new → Reads Table old result new
table_then old mid new result takes x =
    reads_same _ Table old new result table_put table_back
    (reads_then (One brace_mark) (λ _. FollowingBrace) old mid new tt result brace_determined (one_mark brace_mark left_brace old mid (λ u. refl) takes) x)

-- no brace stands first
pub table_no_brace : (old new : Lexer) (e : AlgError) → IsRefusal (Misses (IsTok left_brace)) old e → Reads Table old (Err e) new
table_no_brace old new e x =
    reads_same _ Table old new (Err e) table_put table_back
    (reads_not_first (One brace_mark) (λ _. FollowingBrace) old new e (λ _. brace_possible)
    (one_no_mark brace_mark left_brace e old new (λ u. refl) (λ n (k : left_brace ≡ number n). absurd (cc)) x))

-- the values can't be read
pub table_no_values : (old mid new : Lexer) (e : AlgError) → TakesOne left_brace old mid → Reads Values mid (Err e) new → Reads Table old (Err e) new
table_no_values old mid new e takes x = table_then old mid new (Err e) takes (reads_not_first Values TableOf mid new e of_possible x)

-- the values were read, and then the rows were or weren't
pub table_read : (old mid next new : Lexer) (v : ValueList) (names : List (List ℕ)) (result : Result (List TableRow) AlgError)
    → names ≡ v.names → TakesOne left_brace old mid → Reads Values mid (Ok v) next → Reads (MoreRows names []) next result new → Reads Table old (map_ok (table_of v) result) new
table_read old mid next new v names result same takes x y =
    table_then old mid new (map_ok (table_of v) result) takes
    (reads_then Values TableOf mid next new v (map_ok (table_of v) result) values_determined x
    (reads_inside (MoreRows v.names []) (TableOf v) (table_of v) [] next next new result refl (λ rows ms p. (rows, refl, p)) (λ t ms y z w e. (w.0, ms, w.2, refl))
    (reads_at (λ l. MoreRows l []) names v.names next new result same y)))
