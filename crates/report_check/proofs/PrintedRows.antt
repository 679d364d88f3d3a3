-- The printed rows of tables are a report that means them.
use Rattle.std.proofs.Common.{◌≡◌, ◌≢◌, ℕ, ◌+◌, ◌<◌, ◌≤◌, suc, List, [], ◌∷◌, ◌++◌, Option, Some, None, IfSome, Bool, true, false, ◌==◌, map, length, Ok, append-nil, append_assoc, length-append, refl, ap, ◌∙◌, subst, arith, lit≤, lit<}
use Rattle.std.specs.List.{list_all, AllByRecursion, concat}
use Rattle.std.proofs.lemmas.Bool.Decides.{nat_tests}
use Rattle.std.proofs.lemmas.List.{map-append}
use Rattle.alg_model.specs.declared.alg.TheConstants.{MAX_MARKS}
use Rattle.alg_model.specs.Bounds.{AtMost}
use Rattle.alg_model.specs.Carriers.{In, carrier_of}
use Rattle.alg_model.specs.CarrierLaws.{carriers_are}
use Rattle.alg_model.specs.Expressions.{Expression, PureValue}
use Rattle.alg_model.specs.Formation.{IsFormed}
use Rattle.alg_model.specs.Texts.{value_text}
use Rattle.net_graph.specs.Limits.{max_row_number}
use Rattle.net_graph.specs.Nets.{IsNet, PureNet}
use Rattle.net_graph.specs.Routes.{PureRoute}
use Rattle.net_graph.specs.RowTexts.{AreNodesOf, row_text}
use Rattle.net_graph.specs.Tables.{AreRowsFrom, IsRouteOf, OnTablesFrom, PureRow, TableOf, carrier, joined_rows, route_at}
use Rattle.sig_text.specs.declared.bytes.TheConstants.{MAX_LITERAL_NUMBER}
use Rattle.sig_text.specs.Literals.{ValueTextTo}
use Rattle.topology_file.specs.LineLaws.{first_line, is_plain, plain_is, all_pass}
use Rattle.topology_file.specs.Texts.{is_not, lines_of}
use Rattle.report_check.specs.ReportText.{HasPaths, Lead, PureProgress, ReportText, RowSpelling, is_next, no_rows}
use Rattle.report_check.specs.Said.{row_spelled}
use Rattle.report_check.proofs.Reading.{row_ends, row_goes_on}
use Rattle.report_check.proofs.Runs.{Spelled, is_row_spelling}
use Rattle.report_check.proofs.Solid.{value_solid}
use Rattle.report_check.proofs.PrintedLines.{IsPrintable, row_is_line, row_line, row_made, row_plain}

-- Rows in turn.

abbrev at : List (List PureRow) → List PureRow → PureProgress
at tables rows = record { tables = tables; rows = rows; is_over = false }

lead_append : (s : RowSpelling) (net : PureNet) (a b : List (List ℕ)) (p q r : PureProgress) → Lead s net p a q → Lead s net q b r → Lead s net p (a ++ b) r
lead_append s net [] b p q r h k = subst (λ (x : PureProgress). Lead s net x b r) h k
lead_append s net (line ∷ a) b p q r h k = (h.0, h.1, lead_append s net a b h.0 q r h.2 k)

next_is : (net : PureNet) (tables : List (List PureRow)) (rows : List PureRow) (i d : ℕ) → length tables < length net.dests → i ≡ length rows → d ≡ length tables → is_next net (at tables rows) i d ≡ true
next_is net tables rows i d l e f =
    let a : (length tables == length net.dests) ≡ false = grind (arith, nat_tests) in
    let b : (i == length rows) ≡ true = grind (arith, nat_tests) in
    let c : (d == length tables) ≡ true = grind (arith, nat_tests) in
    rw (a, b, c) refl

-- the rows of one table
lead_rows : (net : PureNet) → IsNet net → (tables : List (List PureRow)) (before : List PureRow) (row : PureRow) (rows : List PureRow) → length tables < length net.dests
    → AreRowsFrom net (length tables) (length before) (row ∷ rows) → AllByRecursion (λ (r : PureRow). IfSome r.route (IsPrintable net)) (row ∷ rows) → length before + length (row ∷ rows) ≡ length net.nodes
    → Lead (row_spelled net) net (at tables before) (map (row_line net) (row ∷ rows)) (at (tables ++ (before ++ row ∷ rows) ∷ []) [])
lead_rows net n tables before row [] l h p e =
    let made = row_made net n (at tables before) row refl (next_is net tables before row.node row.dest l h.0 h.1) (omega (arith, h.0)) (omega (arith, h.1)) p.0 in
    let full : (length (before ++ row ∷ []) == length net.nodes) ≡ true = let c = length-append before (row ∷ []) in let d : length (before ++ row ∷ []) ≡ length net.nodes = omega (arith, c, e) in grind (arith, nat_tests) in
    (at (tables ++ (before ++ row ∷ []) ∷ []) [], made ∙ ap Ok (row_ends net (at tables before) row full), refl)
lead_rows net n tables before row (x ∷ rows) l h p e =
    let made = row_made net n (at tables before) row refl (next_is net tables before row.node row.dest l h.0 h.1) (omega (arith, h.0, e)) (omega (arith, h.1)) p.0 in
    let c = length-append before (row ∷ []) in
    let more : length (before ++ row ∷ []) ≡ length before + 1 = omega (arith, c) in
    let short : (length (before ++ row ∷ []) == length net.nodes) ≡ false = let d : length (before ++ row ∷ []) < length net.nodes = omega (arith, c, e) in grind (arith, nat_tests) in
    let rest = lead_rows net n tables (before ++ row ∷ []) x rows l (rw more h.3) p.1 (omega (arith, more, e)) in
    let joins : (before ++ row ∷ []) ++ x ∷ rows ≡ before ++ row ∷ x ∷ rows = append_assoc before (row ∷ []) (x ∷ rows) in
    (at tables (before ++ row ∷ []), made ∙ ap Ok (row_goes_on net (at tables before) row short), rw joins at rest)

lead_table : (net : PureNet) → IsNet net → (tables : List (List PureRow)) (table : List PureRow) → 0 < length net.nodes → length tables < length net.dests → TableOf net (length tables) table → AllByRecursion (λ (r : PureRow). IfSome r.route (IsPrintable net)) table
    → Lead (row_spelled net) net (at tables []) (map (row_line net) table) (at (tables ++ table ∷ []) [])
lead_table net n tables [] some l t p = absurd (let c = t.count in omega arith)
lead_table net n tables (row ∷ rows) some l t p = lead_rows net n tables [] row rows l t.rows p (omega (arith, t.count))

-- all tables
lead_tables : (net : PureNet) → IsNet net → (before tables : List (List PureRow)) → 0 < length net.nodes → length before + length tables ≡ length net.dests → OnTablesFrom (TableOf net) (length before) tables
    → AllByRecursion (λ (t : List PureRow). AllByRecursion (λ (r : PureRow). IfSome r.route (IsPrintable net)) t) tables
    → Lead (row_spelled net) net (at before []) (map (row_line net) (joined_rows tables)) (at (before ++ tables) [])
lead_tables net n before [] some e h p = rw (append-nil before) refl
lead_tables net n before (table ∷ tables) some e h p =
    let one = lead_table net n before table some (omega (arith, e)) h.0 p.0 in
    let c = length-append before (table ∷ []) in
    let more : length (before ++ table ∷ []) ≡ length before + 1 = omega (arith, c) in
    let rest = lead_tables net n (before ++ table ∷ []) tables some (omega (arith, c, e)) (rw more h.1) p.1 in
    let joins : (before ++ table ∷ []) ++ tables ≡ before ++ table ∷ tables = append_assoc before (table ∷ []) tables in
    rw (map-append (row_line net) table (joined_rows tables))
    (lead_append (row_spelled net) net (map (row_line net) table) (map (row_line net) (joined_rows tables)) (at before []) (at (before ++ table ∷ []) []) (at (before ++ table ∷ tables) []) one (rw joins at rest))

-- The lines of the text.

-- a row of nodes and a destination of the network
abbrev IsRowIn : PureNet → PureRow → Type 0
IsRowIn net row = (row.node < length net.nodes) × (row.dest < length net.dests) × IfSome row.route (IsPrintable net)

lines_are : (net : PureNet) → IsNet net → (rows : List PureRow) → AllByRecursion (IsRowIn net) rows → lines_of (concat (map (row_text net) rows)) ≡ map (row_line net) rows
lines_are net n [] h = refl
lines_are net n (row ∷ rows) h =
    let plain = row_plain net n row h.0.0 h.0.1 h.0.2 in
    let ends : list_all (is_not 10) (row_line net row) ≡ true = all_pass is_plain (is_not 10) (row_line net row) (λ c k. (plain_is c k).0) plain in
    rw (row_is_line net row) (first_line (row_line net row) (concat (map (row_text net) rows)) ends ∙ ap (λ (ls : List (List ℕ)). row_line net row ∷ ls) (lines_are net n rows h.1))

rows_in : (net : PureNet) (dest i : ℕ) (rows : List PureRow) → dest < length net.dests → i + length rows ≤ length net.nodes → AreRowsFrom net dest i rows → AllByRecursion (λ (r : PureRow). IfSome r.route (IsPrintable net)) rows → AllByRecursion (IsRowIn net) rows
rows_in net dest i [] d l h p = tt
rows_in net dest i (row ∷ rows) d l h p = ((omega (arith, h.0, l), omega (arith, h.1, d), p.0), rows_in net dest (i + 1) rows d (omega (arith, l)) h.3 p.1)

all_append : (P : PureRow → Type 0) (xs ys : List PureRow) → AllByRecursion P xs → AllByRecursion P ys → AllByRecursion P (xs ++ ys)
all_append P [] ys h k = k
all_append P (x ∷ xs) ys h k = (h.0, all_append P xs ys h.1 k)

all_rows_in : (net : PureNet) (d : ℕ) (tables : List (List PureRow)) → d + length tables ≤ length net.dests → OnTablesFrom (TableOf net) d tables
    → AllByRecursion (λ (t : List PureRow). AllByRecursion (λ (r : PureRow). IfSome r.route (IsPrintable net)) t) tables → AllByRecursion (IsRowIn net) (joined_rows tables)
all_rows_in net d [] l h p = tt
all_rows_in net d (table ∷ tables) l h p =
    all_append (IsRowIn net) table (joined_rows tables) (rows_in net d 0 table (omega (arith, l)) (let c = h.0.count in omega arith) h.0.rows p.0) (all_rows_in net (d + 1) tables (omega (arith, l)) h.1 p.1)

-- What is printed of routes.

abbrev pub ValuesReadBack : Type 0
ValuesReadBack = (greatest : ℕ) (a : Expression) (v : PureValue) → MAX_MARKS ≤ greatest → greatest ≤ MAX_LITERAL_NUMBER → IsFormed a → In (carrier_of a) v → AtMost greatest v → ValueTextTo greatest a (value_text (carrier_of a) v) v

printable_route : Spelled → ValuesReadBack → (net : PureNet) → IsNet net → (r : PureRoute) → IsRouteOf net r → (r.path ≢ []) × AreNodesOf net r.path → IsPrintable net r
printable_route sp back net n r is p = record {
  word = value_solid max_row_number (carrier net) r.value (lit< tt) (carriers_are net.alg.expression n.is_alg.formed) is.value_in is.bound;
  spelled = (sp max_row_number net.alg.expression (value_text (carrier net) r.value)).spells r.value (back max_row_number net.alg.expression r.value (lit≤ tt) (lit≤ tt) n.is_alg.formed is.value_in is.bound);
  some = p.0;
  nodes = p.1;
}

printable_rows : Spelled → ValuesReadBack → (net : PureNet) → IsNet net → (dest i : ℕ) (rows : List PureRow) → AreRowsFrom net dest i rows → ((k : ℕ) (r : PureRoute) → route_at rows k ≡ Some r → (r.path ≢ []) × AreNodesOf net r.path)
    → AllByRecursion (λ (r : PureRow). IfSome r.route (IsPrintable net)) rows
printable_rows sp back net n dest i [] h p = tt
printable_rows sp back net n dest i (row ∷ rows) h p = (by row.route refl h.2, printable_rows sp back net n dest (i + 1) rows h.3 (λ k r e. p (suc k) r e))
  where
    by : (o : Option PureRoute) → row.route ≡ o → IfSome o (IsRouteOf net) → IfSome o (IsPrintable net)
    by None e is = tt
    by (Some r) e is = printable_route sp back net n r is (p 0 r e)

printable_tables : Spelled → ValuesReadBack → (net : PureNet) → IsNet net → (d : ℕ) (tables : List (List PureRow)) → OnTablesFrom (TableOf net) d tables → OnTablesFrom (λ dest table. HasPaths net table) d tables
    → AllByRecursion (λ (t : List PureRow). AllByRecursion (λ (r : PureRow). IfSome r.route (IsPrintable net)) t) tables
printable_tables sp back net n d [] h p = tt
printable_tables sp back net n d (table ∷ tables) h p = (printable_rows sp back net n d 0 table h.0.rows p.0, printable_tables sp back net n (d + 1) tables h.1 p.1)

-- a network without a node has tables without a row
empty_tables : (net : PureNet) (d : ℕ) (dests : List (List ℕ)) (tables : List (List PureRow)) → length net.nodes ≡ 0 → length tables ≡ length dests → OnTablesFrom (TableOf net) d tables → tables ≡ map (λ _. []) dests
empty_tables net d [] [] e l h = refl
empty_tables net d [] (table ∷ tables) e l h = absurd (omega arith)
empty_tables net d (name ∷ dests) [] e l h = absurd (omega arith)
empty_tables net d (name ∷ dests) ([] ∷ tables) e l h = ap (λ (ts : List (List PureRow)). [] ∷ ts) (empty_tables net (d + 1) dests tables e (omega arith) h.1)
empty_tables net d (name ∷ dests) ((row ∷ rows) ∷ tables) e l h = absurd (let c = h.0.count in omega arith)

no_joined_rows : (dests : List (List ℕ)) → joined_rows (map (λ (_ : List ℕ). []) dests) ≡ []
no_joined_rows [] = refl
no_joined_rows (name ∷ dests) = no_joined_rows dests

pub read_back : Spelled → ValuesReadBack → (net : PureNet) (tables : List (List PureRow)) → IsNet net → OnTablesFrom (TableOf net) 0 tables → OnTablesFrom (λ dest table. HasPaths net table) 0 tables → length tables ≡ length net.dests
    → ReportText net (concat (map (row_text net) (joined_rows tables))) tables
read_back sp back net tables n h p e = record {
  spelling = row_spelled net;
  is_spelling = is_row_spelling sp net;
  last = at tables [];
  lead = rw (lines_are net n (joined_rows tables) (all_rows_in net 0 tables (omega (arith, e)) h printable)) (by (length net.nodes == 0) refl);
  tables_are = refl;
  whole = let same : (length tables == length net.dests) ≡ true = grind (arith, nat_tests) in same;
}
  where
    printable : AllByRecursion (λ (t : List PureRow). AllByRecursion (λ (r : PureRow). IfSome r.route (IsPrintable net)) t) tables
    printable = printable_tables sp back net n 0 tables h p

    by : (b : Bool) → (length net.nodes == 0) ≡ b → Lead (row_spelled net) net (no_rows net) (map (row_line net) (joined_rows tables)) (at tables [])
    by true f =
        let none : length net.nodes ≡ 0 = grind (arith, nat_tests) in
        let empty = empty_tables net 0 net.dests tables none e h in
        rw (f, empty, no_joined_rows net.dests) refl
    by false f =
        let some : 0 < length net.nodes = grind (arith, nat_tests) in
        rw f (lead_tables net n [] tables some (omega (arith, e)) h printable)
