-- The next hops of tables, one table after another, and their lines.
use Rattle.std.proofs.Common.{◌≡◌, ℕ, zero, suc, ◌+◌, ◌<◌, ◌≤◌, ◌==◌, List, [], ◌∷◌, ◌++◌, length, map, drop, filter, get_or, Ok, append-nil, append_assoc, sym, ap, ◌∙◌, subst, arith}
use Rattle.std.proofs.lemmas.List.{at_drop_all, at_drop_more, length-map, map-append}
use Rattle.std.specs.List.{AllByRecursion}
use Rattle.link_state.specs.Tables.{AreTablesFrom, AreTablesOf, IsTableOf}
use Rattle.net_graph.specs.Changes.{PureChange, after_all, changed}
use Rattle.net_graph.specs.NetLaws.{all_passed, all_weaker}
use Rattle.net_graph.specs.Nets.{PureArc, PureNet, IsArcOf, IsNet, arcs_from}
use Rattle.net_graph.specs.RouteLaws.{table_value_in}
use Rattle.net_graph.specs.RowTexts.{AreNodesOf}
use Rattle.net_graph.specs.Tables.{PureRow, BestFirst, Optimal, TableOf}
use Rattle.net_graph.specs.Views.{rows_of}
use Rattle.net_graph.specs.declared.route.DestTable.{DestTable}
use Rattle.report_check.specs.Hops.{PureHops, heads_at, hops_from, hops_of, is_hop}
use Rattle.report_check.specs.Views.{pure_hops}
use Rattle.report_check.specs.declared.hops.ManyHops.{ManyHops}
use Rattle.report_text.specs.JudgedTexts.{CanPrintHops, IsRowName, hops_text}
use Rattle.metacli.specs.Found.{AreFoundHops}
use Rattle.metacli.specs.Outcome.{AreHopsOn, IsFit, all_hops}
use Rattle.metacli.specs.Texts.{many_text}
use Rattle.metacli.specs.declared.routing.Solution.TheVariants.{Unbeaten}
use Rattle.metacli.proofs.Found.{all_append, tables_from}

-- One table after another.

table_from : (net : PureNet) (d : ℕ) (tables : List DestTable) (k : ℕ) (table : DestTable) → AreTablesFrom net d tables → k < length tables → table ≡ get_or tables k table → IsTableOf net (d + k) table
table_from net d [] k table h l e = absurd (omega arith)
table_from net d (t ∷ tables) zero table h l e =
    let here : d + 0 ≡ d = omega arith in
    let same : t ≡ table = sym e in
    rw (here, ← same) h.0
table_from net d (t ∷ tables) (suc k) table h l e =
    let there : (d + 1) + k ≡ d + suc k = omega arith in
    rw there at (table_from net (d + 1) tables k table h.1 (omega arith) e)

pub table_in : (net : PureNet) (tables : List DestTable) (k : ℕ) (table : DestTable) → AreTablesOf net tables → k < length tables → table ≡ get_or tables k table → IsTableOf net k table
table_in net tables k table h l e =
    let here : 0 + k ≡ k = omega arith in
    rw here at (table_from net 0 tables k table h.tables_from l e)

pub dest_in : (net : PureNet) (tables : List DestTable) (k : ℕ) (table : DestTable) → AreTablesOf net tables → k < length tables → table ≡ get_or tables k table → table.dest.0 < length net.dests
dest_in net tables k table h l e = omega (arith, (table_in net tables k table h l e).dest, h.count, l)

pub table_of : (net : PureNet) (tables : List DestTable) (k : ℕ) (table : DestTable) → AreTablesOf net tables → k < length tables → table ≡ get_or tables k table → TableOf net table.dest.0 (rows_of table)
table_of net tables k table h l e =
    let is = table_in net tables k table h l e in
    subst (λ d. TableOf net d (rows_of table)) (sym is.dest) is.best_first.table_of

-- the next hops of the tables from that place on
abbrev pub hops_after : PureNet → List DestTable → ℕ → List PureHops
hops_after net tables k = all_hops net k (map rows_of (drop k tables))

hops_there : (net : PureNet) (tables : List DestTable) (k : ℕ) (table : DestTable) → k < length tables → table ≡ get_or tables k table → hops_after net tables k ≡ hops_of net k (rows_of table) ++ hops_after net tables (k + 1)
hops_there net tables k table l e =
    at_drop_more (λ (ts : List DestTable). all_hops net k (map rows_of ts)) tables k table l
    ∙ ap (λ (t : DestTable). hops_of net k (rows_of t) ++ hops_after net tables (k + 1)) (sym e)

-- those of the tables so far, and then those of one more
pub hops_more : (net : PureNet) (tables : List DestTable) (k : ℕ) (table : DestTable) (many more new : List ManyHops) (all : List PureHops) → AreTablesOf net tables → k < length tables
    → table ≡ get_or tables k table → new ≡ many ++ more → map pure_hops more ≡ hops_of net table.dest.0 (rows_of table) → map pure_hops many ++ hops_after net tables k ≡ all
    → map pure_hops new ++ hops_after net tables (k + 1) ≡ all
hops_more net tables k table many more new all of l e grown made so_far =
    let others = hops_after net tables (k + 1) in
    let here : map pure_hops more ≡ hops_of net k (rows_of table) = made ∙ ap (λ d. hops_of net d (rows_of table)) (table_in net tables k table of l e).dest in
    ap (λ hs. map pure_hops hs ++ others) grown
    ∙ ap (λ hs. hs ++ others) (map-append pure_hops many more)
    ∙ append_assoc (map pure_hops many) (map pure_hops more) others
    ∙ ap (λ hs. map pure_hops many ++ (hs ++ others)) here
    ∙ ap (λ hs. map pure_hops many ++ hs) (sym (hops_there net tables k table l e))
    ∙ so_far

pub hops_end : (net : PureNet) (tables : List DestTable) (k : ℕ) (many : List ManyHops) (all : List PureHops) → length tables ≤ k → map pure_hops many ++ hops_after net tables k ≡ all → map pure_hops many ≡ all
hops_end net tables k many all l so_far =
    sym (append-nil (map pure_hops many))
    ∙ ap (λ hs. map pure_hops many ++ hs) (sym (at_drop_all (λ (ts : List DestTable). all_hops net k (map rows_of ts)) tables k l))
    ∙ so_far

-- Printed names.

heads_are : (n : ℕ) (arcs : List PureArc) → AllByRecursion (λ (a : PureArc). a.head < n) arcs → AllByRecursion (λ i. i < n) (map (λ (a : PureArc). a.head) arcs)
heads_are n [] h = tt
heads_are n (a ∷ arcs) h = (h.0, heads_are n arcs h.1)

heads_printed : (net : PureNet) → IsNet net → (t : List PureRow) (i : ℕ) → AreNodesOf net (heads_at net t i)
heads_printed net n t i =
    let IsIn : PureArc → Type 0 = λ a. a.head < length net.nodes in
    let arcs = all_weaker (IsArcOf net.alg (length net.nodes)) IsIn net.arcs (λ a h. h.head_in) n.arcs_in in
    heads_are (length net.nodes) (filter (is_hop net t) (arcs_from net i))
    (all_passed IsIn (is_hop net t) (arcs_from net i) (all_passed IsIn (λ (a : PureArc). a.tail == i) net.arcs arcs))

rows_printed : (net : PureNet) → IsNet net → (dest : ℕ) (t : List PureRow) → TableOf net dest t → dest < length net.dests → (i : ℕ) (rows : List PureRow) → i + length rows ≤ length net.nodes
    → AllByRecursion (CanPrintHops net) (hops_from net dest t i rows)
rows_printed net n dest t of l i [] m = tt
rows_printed net n dest t of l i (row ∷ rows) m =
    let name : IsRowName net i dest = record { node_in = omega (arith, m); dest_in = l } in
    (record { row = name; value_in = table_value_in net dest t of i; heads_in = heads_printed net n t i }, rows_printed net n dest t of l (i + 1) rows (omega (arith, m)))

tables_printed : (net : PureNet) → IsNet net → (d : ℕ) (tables : List DestTable) → d + length tables ≤ length net.dests → AreTablesFrom net d tables → AllByRecursion (CanPrintHops net) (all_hops net d (map rows_of tables))
tables_printed net n d [] m h = tt
tables_printed net n d (t ∷ tables) m h =
    let of = h.0.best_first.table_of in
    all_append (CanPrintHops net) (hops_of net d (rows_of t)) (all_hops net (d + 1) (map rows_of tables))
    (rows_printed net n d (rows_of t) of (omega (arith, m)) 0 (rows_of t) (omega (arith, of.count)))
    (tables_printed net n (d + 1) tables (omega (arith, m)) h.1)

-- the next hops of tables that are made best first, where no walk beats these
pub hops_found : (net : PureNet) → IsNet net → IsFit Unbeaten net → ((dest : ℕ) (t : List PureRow) → BestFirst net dest t → Optimal net dest t) → (tables : List DestTable) → AreTablesOf net tables
    → (many : List ManyHops) → map pure_hops many ≡ all_hops net 0 (map rows_of tables) → AreFoundHops net (Ok many)
hops_found net n fit optimal tables of many e =
    let on : AreHopsOn net (map pure_hops many) = record {
      tables = map rows_of tables;
      hold = tables_from net (λ dest t. BestFirst net dest t × Optimal net dest t) (λ dest t best. (best, optimal dest t best)) 0 tables of.tables_from;
      count = length-map tables rows_of ∙ of.count;
      hops = e;
    } in
    (fit, on, subst (AllByRecursion (CanPrintHops net)) (sym e) (tables_printed net n 0 tables (omega (arith, of.count)) of.tables_from))

-- a change leaves the names and the algebra of a network as they are, so what can be printed on one can on the other
printed_after : (net : PureNet) (c : PureChange) (many : List PureHops) → AllByRecursion (CanPrintHops (changed net c)) many → AllByRecursion (CanPrintHops net) many
printed_after net c [] h = tt
printed_after net c (x ∷ many) h =
    (record { row = record { node_in = h.0.row.node_in; dest_in = h.0.row.dest_in }; value_in = h.0.value_in; heads_in = h.0.heads_in }, printed_after net c many h.1)

pub printed_after_all : (net : PureNet) (changes : List PureChange) (many : List PureHops) → AllByRecursion (CanPrintHops (after_all net changes)) many → AllByRecursion (CanPrintHops net) many
printed_after_all net [] many h = h
printed_after_all net (c ∷ changes) many h = printed_after net c many (printed_after_all (changed net c) changes many h)

-- Lines.

-- the lines from one row on
pub many_lines_at : (net : PureNet) (many : List ManyHops) (i : ℕ) (hops : ManyHops) → i < length many → hops ≡ get_or many i hops
    → many_text net (map pure_hops (drop i many)) ≡ hops_text net (pure_hops hops) ++ many_text net (map pure_hops (drop (i + 1) many))
many_lines_at net many i hops l e =
    at_drop_more (λ (hs : List ManyHops). many_text net (map pure_hops hs)) many i hops l
    ∙ ap (λ (h : ManyHops). hops_text net (pure_hops h) ++ many_text net (map pure_hops (drop (i + 1) many))) (sym e)

-- what holds of all rows holds of one
pub many_at : (net : PureNet) (many : List ManyHops) (i : ℕ) (hops : ManyHops) → i < length many → hops ≡ get_or many i hops → AllByRecursion (CanPrintHops net) (map pure_hops many) → CanPrintHops net (pure_hops hops)
many_at net [] i hops l e all = absurd (omega arith)
many_at net (x ∷ xs) zero hops l e all = let same : x ≡ hops = sym e in subst (λ (h : ManyHops). CanPrintHops net (pure_hops h)) same all.0
many_at net (x ∷ xs) (suc i) hops l e all = many_at net xs i hops (omega arith) e all.1
