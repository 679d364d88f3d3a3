-- The rows of tables, one table after another.
use Rattle.std.proofs.Common.{◌≡◌, ℕ, ◌+◌, ◌<◌, ◌≤◌, List, [], ◌∷◌, ◌++◌, length, map, refl, arith}
use Rattle.std.specs.List.{AllByRecursion}
use Rattle.link_state.specs.Tables as link
use Rattle.net_graph.specs.declared.route.DestTable.{DestTable}
use Rattle.net_graph.specs.Nets.{PureNet}
use Rattle.alg_model.specs.Properties.{monotone, isotone, strict}
use Rattle.net_graph.specs.Tables.{PureRow, NetHas, BestFirst, Optimal, Stable, OnTablesFrom, AreRowsOfTables, AreSettledRows, AreStableRows, joined_rows}
use Rattle.net_graph.specs.RowTexts.{IsRowOf}
use Rattle.net_graph.specs.Views.{rows_of}
use Rattle.metacli.specs.Outcome.{AreRoutesOn, IsFit}
use Rattle.metacli.specs.declared.routing.Solution.{Solution}
use Rattle.metacli.specs.declared.routing.Solution.TheVariants.{Unbeaten, Settled, AllStable}

-- what is made best first is beaten by no walk, or stable, by the labels, which are monotone where they are strict;
-- stable rows are settled; and rows can be printed
pub record Laws (net : PureNet) : Type 0 where
  pub optimal : NetHas monotone net → NetHas isotone net → (dest : ℕ) (t : List PureRow) → BestFirst net dest t → Optimal net dest t
  pub stable : NetHas monotone net → (dest : ℕ) (t : List PureRow) → BestFirst net dest t → Stable net dest t
  pub monotone : NetHas strict net → NetHas monotone net
  pub settled : (rows : List PureRow) → AreStableRows net rows → AreSettledRows net rows
  pub rows : (dest : ℕ) (t : List PureRow) → dest < length net.dests → BestFirst net dest t → AllByRecursion (IsRowOf net) t

-- what holds of each table that is made best first holds of these
pub tables_from : (net : PureNet) (Holds : ℕ → List PureRow → Type 0) → ((dest : ℕ) (t : List PureRow) → BestFirst net dest t → Holds dest t) → (dest : ℕ) (tables : List DestTable) → link.AreTablesFrom net dest tables
    → OnTablesFrom Holds dest (map rows_of tables)
tables_from net Holds each dest [] h = tt
tables_from net Holds each dest (t ∷ ts) h = (each dest (rows_of t) h.0.best_first, tables_from net Holds each (dest + 1) ts h.1)

-- and where each of these tables is made best first
on_each : (net : PureNet) (Holds : ℕ → List PureRow → Type 0) → ((dest : ℕ) (t : List PureRow) → BestFirst net dest t → Holds dest t) → (dest : ℕ) (tables : List (List PureRow)) → OnTablesFrom (BestFirst net) dest tables
    → OnTablesFrom Holds dest tables
on_each net Holds each dest [] h = tt
on_each net Holds each dest (t ∷ ts) h = (each dest t h.0, on_each net Holds each (dest + 1) ts h.1)

module _ (net : PureNet) (laws : Laws net) (tables : List (List PureRow)) (best : OnTablesFrom (BestFirst net) 0 tables) (count : length tables ≡ length net.dests) where
  rows_are : (Holds : ℕ → List PureRow → Type 0) → ((dest : ℕ) (t : List PureRow) → BestFirst net dest t → Holds dest t) → AreRowsOfTables net Holds (joined_rows tables)
  rows_are Holds each = record { tables = tables; hold = on_each net Holds each 0 tables best; count = count; joined = refl }

  settled_on : NetHas monotone net → AreSettledRows net (joined_rows tables)
  settled_on all = laws.settled (joined_rows tables) (rows_are (Stable net) (laws.stable all))

  pub routes_on : (solution : Solution) → IsFit solution net → AreRoutesOn solution net (joined_rows tables)
  routes_on Unbeaten fit = (
    rows_are (λ dest t. BestFirst net dest t × Optimal net dest t) (λ dest t best. (best, laws.optimal fit.0 fit.1.0 dest t best)),
    settled_on fit.0,
  )
  routes_on Settled fit = (rows_are (BestFirst net) (λ dest t best. best), settled_on (laws.monotone fit.0))
  routes_on AllStable fit = (rows_are (BestFirst net) (λ dest t best. best), settled_on fit.0)

pub all_append : {X : Type 0} (P : X → Type 0) (xs ys : List X) → AllByRecursion P xs → AllByRecursion P ys → AllByRecursion P (xs ++ ys)
all_append P [] ys h k = k
all_append P (x ∷ xs) ys h k = (h.0, all_append P xs ys h.1 k)

rows_from : (net : PureNet) → Laws net → (dest : ℕ) (tables : List (List PureRow)) → dest + length tables ≤ length net.dests → OnTablesFrom (BestFirst net) dest tables
    → AllByRecursion (IsRowOf net) (joined_rows tables)
rows_from net laws dest [] within h = tt
rows_from net laws dest (t ∷ ts) within h =
    all_append (IsRowOf net) t (joined_rows ts) (laws.rows dest t (omega arith) h.0)
    (rows_from net laws (dest + 1) ts (omega arith) h.1)

pub rows_on : (net : PureNet) → Laws net → (tables : List (List PureRow)) → OnTablesFrom (BestFirst net) 0 tables → length tables ≡ length net.dests → AllByRecursion (IsRowOf net) (joined_rows tables)
rows_on net laws tables best count = rows_from net laws 0 tables (omega (arith, count)) best
