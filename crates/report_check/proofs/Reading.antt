-- What the lines of a report give, row by row.
use Rattle.std.proofs.Common.{◌≡◌, ℕ, ◌+◌, ◌≤◌, zero, suc, List, [], ◌∷◌, ◌++◌, IfSome, Bool, true, false, ◌==◌, ◌&&◌, not, if◌then◌else◌, map, replicate, length, Result, Ok, Err, append_assoc, append-nil, refl, ap, sym, ◌∙◌, arith}
use Rattle.std.specs.List.{onto_first}
use Rattle.std.proofs.lemmas.Bool.Decides.{nat_tests}
use Rattle.std.proofs.lemmas.List.{length-map, map-append}
use Rattle.net_graph.specs.Nets.{PureNet}
use Rattle.net_graph.specs.Tables.{PureRow, AreRowsFrom, IsRouteOf, OnTablesFrom, TableOf}
use Rattle.net_graph.specs.Views.{pure_row, rows_of}
use Rattle.net_graph.specs.declared.route.DestTable.{DestTable}
use Rattle.net_graph.specs.declared.route.RouteRow.{RouteRow}
use Rattle.topology_file.specs.Texts.{lines_of}
use Rattle.report_check.specs.declared.draft.LineError.{LineError}
use Rattle.report_check.specs.declared.draft.LineError.TheVariants.{Bad, NoMemory}
use Rattle.report_check.specs.declared.faults.ReportKind.{ReportKind}
use Rattle.report_check.specs.Faults.{IsReportRefusedBy}
use Rattle.report_check.specs.ReportText.{IsReportFault, PureProgress, and_then, is_next, is_whole, node_in, path_in, with_row}
use Rattle.report_check.specs.Said.{IsRefusedAs, error_at}
use Rattle.report_check.specs.Views.{AreOfDests}

-- a line is no longer than its text
pub line_length : (text line : List ℕ) (lines : List (List ℕ)) → lines_of text ≡ line ∷ lines → length line ≤ length text
line_length [] line lines e = absurd (cc)
line_length (c ∷ cs) line lines e = by (c == 10) (lines_of cs) (line_length cs) e
  where
    by : (b : Bool) (rest : List (List ℕ)) → ((l : List ℕ) (ls : List (List ℕ)) → rest ≡ l ∷ ls → length l ≤ length cs) → (if b then [] ∷ rest else onto_first c rest) ≡ line ∷ lines → length line ≤ length (c ∷ cs)
    by true rest f e =
        let same : line ≡ [] = cc in
        rw same (omega arith)
    by false [] f e =
        let same : line ≡ c ∷ [] = cc in
        rw same (omega arith)
    by false (l ∷ ls) f e =
        let same : line ≡ c ∷ l = cc in
        let less = f l ls refl in
        rw same (omega arith)

-- Paths.

-- what the words that are left make of a path that begins so
abbrev pub path_after : PureNet → List ℕ → List (List ℕ) → Result (List ℕ) ReportKind
path_after net path words = and_then (path_in net words) (λ (rest : List ℕ). Ok (path ++ rest))

pub path_step : (net : PureNet) (path : List ℕ) (name : List ℕ) (words : List (List ℕ)) (i : ℕ) → node_in net name ≡ Ok i → path_after net path (name ∷ words) ≡ path_after net (path ++ i ∷ []) words
path_step net path name words i e = rw e (by (path_in net words))
  where
    by : (r : Result (List ℕ) ReportKind) → and_then (and_then r (λ (rest : List ℕ). Ok (i ∷ rest))) (λ (rest : List ℕ). Ok (path ++ rest)) ≡ and_then r (λ (rest : List ℕ). Ok ((path ++ i ∷ []) ++ rest))
    by (Ok rest) = ap Ok (sym (append_assoc path (i ∷ []) rest))
    by (Err kind) = refl

pub path_bad : (net : PureNet) (path name : List ℕ) (words others all : List (List ℕ)) (e : LineError) → path_after net path words ≡ path_in net all → words ≡ name ∷ others → IsRefusedAs (node_in net name) e → IsRefusedAs (path_in net all) e
path_bad net path name words others all NoMemory h w r = tt
path_bad net path name words others all (Bad kind) h w r = sym h ∙ rw (w, r) refl

pub path_end : (net : PureNet) (path : List ℕ) (words all : List (List ℕ)) → path_after net path words ≡ path_in net all → words ≡ [] → path_in net all ≡ Ok path
path_end net path words all h w = sym h ∙ rw w (ap Ok (append-nil path))

-- Rows and tables.

pub rows_more : (net : PureNet) (dest i : ℕ) (rows : List PureRow) (row : PureRow) → AreRowsFrom net dest i rows → row.node ≡ i + length rows → row.dest ≡ dest → IfSome row.route (IsRouteOf net) → AreRowsFrom net dest i (rows ++ row ∷ [])
rows_more net dest i [] row h n d r = (omega (arith, n), d, r, tt)
rows_more net dest i (x ∷ rows) row h n d r = (h.0, h.1, h.2, rows_more net dest (i + 1) rows row h.3 (omega (arith, n)) d r)

pub tables_more : (Holds : ℕ → List PureRow → Type 0) (d : ℕ) (tables : List (List PureRow)) (table : List PureRow) → OnTablesFrom Holds d tables → Holds (d + length tables) table → OnTablesFrom Holds d (tables ++ table ∷ [])
tables_more Holds d [] table h t =
    let here : d + 0 ≡ d = omega arith in
    (rw here at t, tt)
tables_more Holds d (x ∷ tables) table h t =
    let there : d + length (x ∷ tables) ≡ (d + 1) + length tables = omega arith in
    (h.0, tables_more Holds (d + 1) tables table h.1 (rw there at t))

pub dests_more : (d : ℕ) (tables : List DestTable) (table : DestTable) → AreOfDests d tables → table.dest.0 ≡ d + length tables → AreOfDests d (tables ++ table ∷ [])
dests_more d [] table h e = (omega (arith, e), tt)
dests_more d (x ∷ tables) table h e = (h.0, dests_more (d + 1) tables table h.1 (omega (arith, e)))

-- the next row is that of the next node for the next destination
and_true : (a b : Bool) → (a && b) ≡ true → (a ≡ true) × (b ≡ true)
and_true true b e = (refl, e)
and_true false b e = absurd (cc)

same_numbers : (m n : ℕ) → (m == n) ≡ true → m ≡ n
same_numbers m n e = grind (arith, nat_tests)

pub next_row : (net : PureNet) (p : PureProgress) (node dest : ℕ) → is_next net p node dest ≡ true → (node ≡ length p.rows) × (dest ≡ length p.tables)
next_row net p node dest e = by (not (is_whole net p)) e
  where
    by : (b : Bool) → (b && (node == length p.rows) && (dest == length p.tables)) ≡ true → (node ≡ length p.rows) × (dest ≡ length p.tables)
    by true f =
        let h = and_true (node == length p.rows) (dest == length p.tables) f in
        (same_numbers node (length p.rows) h.0, same_numbers dest (length p.tables) h.1)
    by false f = absurd (cc)

pub row_ends : (net : PureNet) (p : PureProgress) (row : PureRow) → (length (p.rows ++ row ∷ []) == length net.nodes) ≡ true → with_row net p row ≡ record p { tables = p.tables ++ (p.rows ++ row ∷ []) ∷ []; rows = [] }
row_ends net p row e = rw e refl

pub row_goes_on : (net : PureNet) (p : PureProgress) (row : PureRow) → (length (p.rows ++ row ∷ []) == length net.nodes) ≡ false → with_row net p row ≡ record p { rows = p.rows ++ row ∷ [] }
row_goes_on net p row e = rw e refl

-- Drafts.

pub row_added : (net : PureNet) (d : ℕ) (rows : List RouteRow) (row : RouteRow) → AreRowsFrom net d 0 (map pure_row rows) → row.node.0 ≡ length (map pure_row rows) → row.dest.0 ≡ d → IfSome (pure_row row).route (IsRouteOf net)
    → AreRowsFrom net d 0 (map pure_row (rows ++ row ∷ []))
row_added net d rows row h n e r = rw (map-append pure_row rows (row ∷ [])) (rows_more net d 0 (map pure_row rows) (pure_row row) h (omega (arith, n)) e r)

pub table_added : (net : PureNet) (tables : List DestTable) (table : DestTable) → OnTablesFrom (TableOf net) 0 (map rows_of tables) → TableOf net (length tables) (rows_of table) → OnTablesFrom (TableOf net) 0 (map rows_of (tables ++ table ∷ []))
table_added net tables table h t =
    let place : length tables ≡ 0 + length (map rows_of tables) = omega (arith, length-map tables rows_of) in
    rw (map-append rows_of tables (table ∷ [])) (tables_more (TableOf net) 0 (map rows_of tables) (rows_of table) h (rw place at t))

pub dest_added : (tables : List DestTable) (table : DestTable) → AreOfDests 0 tables → table.dest.0 ≡ length tables → AreOfDests 0 (tables ++ table ∷ [])
dest_added tables table h e = dests_more 0 tables table h (omega (arith, e))

-- tables without rows

replicate_more : {X : Type 0} (n : ℕ) (x : X) → replicate (suc n) x ≡ replicate n x ++ x ∷ []
replicate_more zero x = refl
replicate_more (suc n) x = ap (λ xs. x ∷ xs) (replicate_more n x)

pub replicate_map : {X Y : Type 0} (xs : List X) (y : Y) → replicate (length xs) y ≡ map (λ (_ : X). y) xs
replicate_map [] y = refl
replicate_map (x ∷ xs) y = ap (λ ys. y ∷ ys) (replicate_map xs y)

pub empty_added : (tables : List DestTable) (table : DestTable) (n : ℕ) → map rows_of tables ≡ replicate n [] → table.rows ≡ [] → map rows_of (tables ++ table ∷ []) ≡ replicate (n + 1) []
empty_added tables table n h e =
    let more : n + 1 ≡ suc n = omega arith in
    let none : rows_of table ≡ [] = rw e refl in
    rw (map-append rows_of tables (table ∷ []), more, replicate_more {X = List PureRow} n [], h, none) refl

pub empty_table : (net : PureNet) (d : ℕ) (table : DestTable) → length net.nodes ≡ 0 → table.rows ≡ [] → TableOf net d (rows_of table)
empty_table net d table none e = rw e (record { rows = tt; count = sym none })

-- Errors.

pub fault_at : (net : PureNet) (text : List ℕ) (n : ℕ) (after : Result PureProgress ReportKind) (e : LineError) → ((kind : ReportKind) → after ≡ Err kind → IsReportFault net text (record { line = n; kind = kind })) → IsRefusedAs after e → IsReportRefusedBy net text (error_at n e)
fault_at net text n after (Bad kind) f h = f kind h
fault_at net text n after NoMemory f h = tt
