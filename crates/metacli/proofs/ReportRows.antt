-- The rows that a report means have paths of the network's nodes alone.
use Rattle.std.proofs.Common.{◌≡◌, ℕ, zero, suc, ◌+◌, ◌<◌, ◌==◌, Bool, true, false, if◌then◌else◌, List, [], ◌∷◌, ◌++◌, length, map, Option, Some, None, IfSome, Result, Ok, Err, refl, sym, ap, subst, arith}
use Rattle.std.specs.Option.{ok_or}
use Rattle.std.specs.List.{AllByRecursion}
use Rattle.alg_model.specs.Expressions.{PureValue}
use Rattle.net_graph.specs.ArcLaws.{of_some}
use Rattle.net_graph.specs.NetLaws.{number_within}
use Rattle.net_graph.specs.Nets.{PureNet, number_of}
use Rattle.net_graph.specs.Routes.{PureRoute}
use Rattle.net_graph.specs.RowTexts.{AreNodesOf}
use Rattle.net_graph.specs.Tables.{PureRow, OnTablesFrom, route_at}
use Rattle.report_check.specs.Judged.{table_at}
use Rattle.report_check.specs.ReportText.{PureProgress, PureSaid, silent, no_route, route, ending, bad, ReportText, RowSpelling, Lead, after_end, after_none, after_route, after_said, and_then, as_value, dest_in, in_turn, is_next, is_whole, no_rows, node_in, path_in, said_in, with_row}
use Rattle.report_check.specs.declared.faults.ReportKind.{ReportKind}
use Rattle.report_check.specs.declared.faults.ReportKind.TheVariants.{BadLine, UnknownName, WrongRow}

-- What a chain of results that is fine came through.

abbrev fine : {A : Type 0} → A → Result A ReportKind
fine a = Ok a

same_ok : {A : Type 0} (a b : A) → fine a ≡ fine b → a ≡ b
same_ok a b e = cc

record CameBy {A B : Type 0} (r : Result A ReportKind) (next : A → Result B ReportKind) (b : B) : Type 0 where
  first : A
  is : r ≡ Ok first
  on : next first ≡ Ok b

came_by : {A B : Type 0} (r : Result A ReportKind) (next : A → Result B ReportKind) (b : B) → and_then r next ≡ Ok b → CameBy r next b
came_by (Ok a) next b e = record { first = a; is = refl; on = e }
came_by (Err kind) next b e = absurd (cc)

unless : {B : Type 0} (c : Bool) (kind : ReportKind) (r : Result B ReportKind) (b : B) → (if c then r else Err kind) ≡ Ok b → r ≡ Ok b
unless true kind r b e = e
unless false kind r b e = absurd (cc)

not_over : {B : Type 0} (c : Bool) (kind : ReportKind) (r : Result B ReportKind) (b : B) → (if c then Err kind else r) ≡ Ok b → r ≡ Ok b
not_over true kind r b e = absurd (cc)
not_over false kind r b e = e

named_by : (o : Option ℕ) (kind : ReportKind) (i : ℕ) → ok_or o kind ≡ Ok i → o ≡ Some i
named_by (Some j) kind i e = ap Some (same_ok j i e)
named_by None kind i e = absurd (cc)

-- Paths.

path_nodes : (net : PureNet) (names : List (List ℕ)) (path : List ℕ) → path_in net names ≡ Ok path → AreNodesOf net path
path_nodes net [] path e = subst (AreNodesOf net) (same_ok [] path e) tt
path_nodes net (name ∷ names) path e =
    let first = came_by (node_in net name) (λ i. and_then (path_in net names) (λ p. Ok (i ∷ p))) path e in
    let rest = came_by (path_in net names) (λ p. Ok (first.first ∷ p)) path first.on in
    let i = first.first in
    let within : i < length net.nodes = number_within net.nodes name i (named_by (number_of net.nodes name) UnknownName i first.is) in
    subst (AreNodesOf net) (same_ok (i ∷ rest.first) path rest.on) (within, path_nodes net names rest.first rest.is)

-- the route of the row, if it has one, goes along nodes of the network
abbrev pub HasNodes : PureNet → PureRow → Type 0
HasNodes net row = IfSome row.route (λ (r : PureRoute). AreNodesOf net r.path)

abbrev AllHaveNodes : PureNet → List PureRow → Type 0
AllHaveNodes net rows = AllByRecursion (HasNodes net) rows

record HaveNodes (net : PureNet) (p : PureProgress) : Type 0 where
  tables : AllByRecursion (AllHaveNodes net) p.tables
  rows : AllHaveNodes net p.rows

all_more : {X : Type 0} (P : X → Type 0) (xs : List X) (x : X) → AllByRecursion P xs → P x → AllByRecursion P (xs ++ x ∷ [])
all_more P [] x h k = (k, tt)
all_more P (y ∷ xs) x h k = (h.0, all_more P xs x h.1 k)

no_tables : (net : PureNet) (dests : List (List ℕ)) → AllByRecursion (AllHaveNodes net) (map (λ (_ : List ℕ). []) dests)
no_tables net [] = tt
no_tables net (d ∷ dests) = (tt, no_tables net dests)

begin : (net : PureNet) → HaveNodes net (no_rows net)
begin net = record { tables = by (length net.nodes == 0); rows = tt }
  where
    by : (b : Bool) → AllByRecursion (AllHaveNodes net) (if b then map (λ (_ : List ℕ). []) net.dests else [])
    by true = no_tables net net.dests
    by false = tt

with_one : (net : PureNet) (p : PureProgress) (row : PureRow) → HaveNodes net p → HasNodes net row → HaveNodes net (with_row net p row)
with_one net p row h k = by (length (p.rows ++ row ∷ []) == length net.nodes)
  where
    rows : List PureRow
    rows = p.rows ++ row ∷ []

    all : AllHaveNodes net rows
    all = all_more (HasNodes net) p.rows row h.rows k

    by : (b : Bool) → HaveNodes net (if b then record p { tables = p.tables ++ rows ∷ []; rows = [] } else record p { rows = rows })
    by true = record { tables = all_more (AllHaveNodes net) p.tables rows h.tables all; rows = tt }
    by false = record { tables = h.tables; rows = all }

one_turn : (net : PureNet) (p next : PureProgress) (i d : ℕ) (row : Result PureRow ReportKind) → HaveNodes net p → ((r : PureRow) → row ≡ Ok r → HasNodes net r)
    → in_turn net p i d row ≡ Ok next → HaveNodes net next
one_turn net p next i d row h k e =
    let made = came_by row (λ r. Ok (with_row net p r)) next (unless (is_next net p i d) WrongRow (and_then row (λ r. Ok (with_row net p r))) next e) in
    subst (HaveNodes net) (same_ok (with_row net p made.first) next made.on) (with_one net p made.first h (k made.first made.is))

-- Lines.

none_turn : (net : PureNet) (p next : PureProgress) (node dest : List ℕ) → HaveNodes net p → after_none net p node dest ≡ Ok next → HaveNodes net next
none_turn net p next node dest h e =
    let row : ℕ → ℕ → PureRow = λ i d. record { node = i; dest = d; route = None } in
    let at = came_by (node_in net node) (λ i. and_then (dest_in net dest) (λ d. in_turn net p i d (Ok (row i d)))) next e in
    let to = came_by (dest_in net dest) (λ d. in_turn net p at.first d (Ok (row at.first d))) next at.on in
    one_turn net p next at.first to.first (Ok (row at.first to.first)) h (λ r f. subst (HasNodes net) (same_ok (row at.first to.first) r f) tt) to.on

route_turn : (s : RowSpelling) (net : PureNet) (p next : PureProgress) (node dest value : List ℕ) (names : List (List ℕ)) → HaveNodes net p
    → after_route s net p node dest value names ≡ Ok next → HaveNodes net next
route_turn s net p next node dest value names h e =
    let row : ℕ → ℕ → List ℕ → PureValue → PureRow = λ i d path v. record { node = i; dest = d; route = Some (record { value = v; path = path }) } in
    let made : ℕ → ℕ → List ℕ → Result PureRow ReportKind = λ i d path. and_then (as_value (s value)) (λ v. Ok (row i d path v)) in
    let at = came_by (node_in net node) (λ i. and_then (dest_in net dest) (λ d. and_then (path_in net names) (λ path. in_turn net p i d (made i d path)))) next e in
    let i = at.first in
    let to = came_by (dest_in net dest) (λ d. and_then (path_in net names) (λ path. in_turn net p i d (made i d path))) next at.on in
    let d = to.first in
    let along = came_by (path_in net names) (λ path. in_turn net p i d (made i d path)) next to.on in
    let nodes = path_nodes net names along.first along.is in
    one_turn net p next i d (made i d along.first) h
    (λ r f.
    let v = came_by (as_value (s value)) (λ v. Ok (row i d along.first v)) r f in
    subst (HasNodes net) (same_ok (row i d along.first v.first) r v.on) nodes)
    along.on

end_turn : (net : PureNet) (p next : PureProgress) → HaveNodes net p → after_end net p ≡ Ok next → HaveNodes net next
end_turn net p next h e =
    let over : PureProgress = record p { is_over = true } in
    let is : Ok over ≡ Ok next = unless (is_whole net p) BadLine (Ok over) next e in
    subst (HaveNodes net) (same_ok over next is) (record { tables = h.tables; rows = h.rows })

line_turn : (s : RowSpelling) (net : PureNet) (p next : PureProgress) (said : PureSaid) → HaveNodes net p → after_said s net p said ≡ Ok next → HaveNodes net next
line_turn s net p next silent h e = subst (HaveNodes net) (same_ok p next e) h
line_turn s net p next (no_route node dest) h e = none_turn net p next node dest h (not_over p.is_over BadLine (after_none net p node dest) next e)
line_turn s net p next (route node dest value names) h e =
    route_turn s net p next node dest value names h (not_over p.is_over BadLine (after_route s net p node dest value names) next e)
line_turn s net p next ending h e = end_turn net p next h (not_over p.is_over BadLine (after_end net p) next e)
line_turn s net p next bad h e = absurd (cc)

lines_turn : (s : RowSpelling) (net : PureNet) (p last : PureProgress) (lines : List (List ℕ)) → HaveNodes net p → Lead s net p lines last → HaveNodes net last
lines_turn s net p last [] h e = subst (HaveNodes net) (sym e) h
lines_turn s net p last (line ∷ lines) h e = lines_turn s net e.0 last lines (line_turn s net p e.0 (said_in line) h e.1) e.2

-- the path of each row of each table that a report means
pub reported_nodes : (net : PureNet) (text : List ℕ) (tables : List (List PureRow)) → ReportText net text tables → AllByRecursion (AllHaveNodes net) tables
reported_nodes net text tables r = subst (AllByRecursion (AllHaveNodes net)) r.tables_are (lines_turn r.spelling net (no_rows net) r.last _ (begin net) r.lead).tables

-- Tables.

route_nodes : (net : PureNet) (rows : List PureRow) (k : ℕ) (r : PureRoute) → AllHaveNodes net rows → route_at rows k ≡ Some r → AreNodesOf net r.path
route_nodes net [] k r h e = absurd (cc)
route_nodes net (row ∷ rows) zero r h e = of_some (λ (s : PureRoute). AreNodesOf net s.path) row.route r h.0 e
route_nodes net (row ∷ rows) (suc k) r h e = route_nodes net rows k r h.1 e

table_nodes : (net : PureNet) (tables : List (List PureRow)) (dest : ℕ) → AllByRecursion (AllHaveNodes net) tables → AllHaveNodes net (table_at tables dest)
table_nodes net [] dest h = tt
table_nodes net (t ∷ tables) zero h = h.0
table_nodes net (t ∷ tables) (suc dest) h = table_nodes net tables dest h.1

pub path_there : (net : PureNet) (tables : List (List PureRow)) (dest k : ℕ) (r : PureRoute) → AllByRecursion (AllHaveNodes net) tables → route_at (table_at tables dest) k ≡ Some r → AreNodesOf net r.path
path_there net tables dest k r h e = route_nodes net (table_at tables dest) k r (table_nodes net tables dest h) e

-- what holds of the table of each destination holds of one
on_table : (Holds : ℕ → List PureRow → Type 0) (d : ℕ) (tables : List (List PureRow)) (k : ℕ) → OnTablesFrom Holds d tables → k < length tables → Holds (d + k) (table_at tables k)
on_table Holds d [] k h l = absurd (omega arith)
on_table Holds d (t ∷ tables) zero h l =
    let here : d + 0 ≡ d = omega arith in
    rw here h.0
on_table Holds d (t ∷ tables) (suc k) h l =
    let there : (d + 1) + k ≡ d + suc k = omega arith in
    rw there at (on_table Holds (d + 1) tables k h.1 (omega arith))

pub table_there : (Holds : ℕ → List PureRow → Type 0) (tables : List (List PureRow)) (k : ℕ) → OnTablesFrom Holds 0 tables → k < length tables → Holds k (table_at tables k)
table_there Holds tables k h l =
    let here : 0 + k ≡ k = omega arith in
    rw here at (on_table Holds 0 tables k h l)
