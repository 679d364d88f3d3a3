-- What is found of tables, row by row and table by table.
use Rattle.std.proofs.Common.{◌≡◌, ℕ, ◌+◌, ◌<◌, zero, suc, List, [], ◌∷◌, Option, Some, None, IfSome, Bool, true, false, inl, inr, map, get_or, option_map, length, refl, sym, ap, ◌∙◌, below_more, arith}
use Rattle.std.specs.Bool.{Decides}
use Rattle.std.specs.Option.{MatchOption}
use Rattle.std.proofs.lemmas.Bool.{cases_lt}
use Rattle.meta_base.specs.NodePaths.{numbers}
use Rattle.meta_base.specs.declared.ids.NodeId.{NodeId}
use Rattle.net_graph.specs.Nets.{PureNet}
use Rattle.net_graph.specs.Routes.{PureRoute}
use Rattle.net_graph.specs.Tables.{PureRow, HasWalks, IsChoice, Offers, OnTablesFrom, Relaxed, Reported, Stable, TableOf, carrier, route_at, value_at}
use Rattle.net_graph.specs.Unbeaten.{none_last}
use Rattle.net_graph.specs.Walks.{Walk, Weight}
use Rattle.net_graph.specs.ArcLaws.{along_none}
use Rattle.net_graph.specs.RouteLaws.{no_route_past}
use Rattle.net_graph.specs.Views.{pure_route, rows_of}
use Rattle.net_graph.specs.declared.route.DestTable.{DestTable}
use Rattle.net_graph.specs.declared.route.Route.{Route}
use Rattle.stable_check.specs.Checks.{ImprovedBy, IsMade, IsOutdone, IsRelaxedAt, IsWalkOf}
use Rattle.stable_check.specs.Offering.{choice_by, outdone_no_choice}
use Rattle.stable_check.specs.WalkRows.{all_relaxed}
use Rattle.report_check.specs.Judged.{PureOptimal, unbeaten, no_walk, beaten, unsettled, PureStable, stable, not_offered, better}
use Rattle.report_check.specs.Judged.{IsFirst, IsBeaten, IsBeatenBy, IsBetterOffer, IsNoChoice, HasNoWalk, IsUnrelaxed, IsUnstable, JudgedOptimal, JudgedStable, table_at}
use Rattle.report_check.specs.Findings.{HasWalksBefore, OptimalUpTo, StableUpTo, OptimalBefore, StableBefore, beaten_or_not, first_optimal, first_stable, is_stable, is_unbeaten, unstable_or_not}
use Rattle.report_check.specs.Views.{AreOfDests}

-- One row more.

-- the row of the next node beats nothing and its walk is weighed, or nothing else is asked of the table
pub optimal_more : (net : PureNet) (dest : ℕ) (rows : List PureRow) (m n : ℕ) (x : PureOptimal) (beating : Option (List NodeId)) → n < length net.nodes
    → OptimalUpTo net dest rows m n x → (is_unbeaten x ≡ true → MatchOption beating (¬ IsBeaten net dest rows n) (λ walk. IsBeatenBy net dest rows n (numbers walk)))
    → OptimalUpTo net dest rows m (n + 1) (first_optimal x (beaten_or_not n dest (option_map numbers beating)))
optimal_more net dest rows m n unbeaten None within h f = (h.0, below_more (λ k. ¬ IsBeaten net dest rows k) n h.1 (f refl))
optimal_more net dest rows m n unbeaten (Some walk) within h f =
    let beats = f refl in
    (refl, within, h.0, record { holds = (numbers walk, beats); before = h.1 }, beats)
optimal_more net dest rows m n (no_walk i d) beating within h f = h
optimal_more net dest rows m n (beaten i d walk) beating within h f = h
optimal_more net dest rows m n (unsettled arc x) beating within h f = absurd h

-- what is settled stays so
pub optimal_on : (net : PureNet) (dest : ℕ) (rows : List PureRow) (m n k : ℕ) (x : PureOptimal) → is_unbeaten x ≡ false → OptimalUpTo net dest rows m n x → OptimalUpTo net dest rows m k x
optimal_on net dest rows m n k unbeaten e h = absurd (cc)
optimal_on net dest rows m n k (no_walk i d) e h = h
optimal_on net dest rows m n k (beaten i d walk) e h = h
optimal_on net dest rows m n k (unsettled arc x) e h = absurd h

made_choice : (net : PureNet) (dest : ℕ) (reported : Reported) (i : ℕ) → IsChoice net dest reported i (reported i) → IsMade net dest reported i
made_choice net dest reported i h = by (reported i) h
  where
    by : (o : Option PureRoute) → IsChoice net dest reported i o → IfSome o (Offers net dest reported i)
    by None h = tt
    by (Some r) h = h.0

unchosen : (net : PureNet) (dest : ℕ) (rows : List PureRow) (n : ℕ) → n < length net.nodes → ((k : ℕ) → k < n → IsChoice net dest (route_at rows) k (route_at rows k))
    → ¬ IsChoice net dest (route_at rows) n (route_at rows n) → IsFirst (IsNoChoice net dest rows) n
unchosen net dest rows n within h f = record { holds = (within, f); before = λ k l x. x.1 (h k l) }

pub stable_more : (net : PureNet) (dest : ℕ) (rows : List PureRow) (n : ℕ) (x : PureStable) (is_made : Bool) (offer : Option Route) → n < length net.nodes
    → StableUpTo net dest rows n x → (is_stable x ≡ true → Decides is_made (IsMade net dest (route_at rows) n))
    → (is_stable x ≡ true → MatchOption offer (¬ IsOutdone net dest (route_at rows) n) (λ s. IsBetterOffer net dest rows n (pure_route s)))
    → StableUpTo net dest rows (n + 1) (first_stable x (unstable_or_not n dest is_made (option_map pure_route offer)))
stable_more net dest rows n stable false offer within h made f =
    let none : ¬ IsMade net dest (route_at rows) n = λ m. let e = (made refl).1 m in absurd (cc) in
    (refl, unchosen net dest rows n within h (λ c. none (made_choice net dest (route_at rows) n c)), none)
stable_more net dest rows n stable true None within h made f =
    below_more (λ k. IsChoice net dest (route_at rows) k (route_at rows k)) n h ((choice_by net dest (route_at rows) n true (f refl) (made refl)).0 refl)
stable_more net dest rows n stable true (Some s) within h made f =
    let b = f refl in
    (refl, unchosen net dest rows n within h (outdone_no_choice net dest (route_at rows) n (pure_route s, b.offers, b.outdoes)), (made refl).0 refl, b)
stable_more net dest rows n (not_offered i d) is_made offer within h made f = h
stable_more net dest rows n (better i d s) is_made offer within h made f = h

pub stable_on : (net : PureNet) (dest : ℕ) (rows : List PureRow) (n k : ℕ) (x : PureStable) → is_stable x ≡ false → StableUpTo net dest rows n x → StableUpTo net dest rows k x
stable_on net dest rows n k stable e h = absurd (cc)
stable_on net dest rows n k (not_offered i d) e h = h
stable_on net dest rows n k (better i d s) e h = h

-- One table more.

pub walk_there : (net : PureNet) (dest : ℕ) (rows : List PureRow) → HasWalks net dest rows → (i : ℕ) → IfSome (route_at rows i) (IsWalkOf net dest i)
walk_there net dest rows h i = by (route_at rows i) (h i)
  where
    by : (o : Option PureRoute) → ((r : PureRoute) → o ≡ Some r → Walk net dest r.path × (Weight net dest r.path ≡ Some r.value) × ((p : List ℕ) × (r.path ≡ i ∷ p))) → IfSome o (IsWalkOf net dest i)
    by None f = tt
    by (Some r) f = let w = f r refl in record { walk = w.0; weight = w.1; begins = w.2 }

-- a table with a path that is no walk isn't relaxed
no_walk_unrelaxed : (net : PureNet) (dest : ℕ) (rows : List PureRow) (i : ℕ) → HasNoWalk net dest rows i → ¬ Relaxed net dest rows
no_walk_unrelaxed net dest rows i h r = h (walk_there net dest rows r.walks i)

-- and neither is one with a row that is beaten
beaten_unrelaxed : (net : PureNet) (dest : ℕ) (rows : List PureRow) (i : ℕ) → i < length net.nodes → IsBeaten net dest rows i → ¬ Relaxed net dest rows
beaten_unrelaxed net dest rows i within b r = by b.0 b.1
  where
    by : (walk : List ℕ) → IsBeatenBy net dest rows i walk → ⊥
    by walk (inl o) = r.origins i within o.1
    by walk (inr (j, s, e, f, m)) = r.arcs i j within m

-- a row that no walk beats is neither worse than the origin nor improved by an arc
unbeaten_relaxed : (net : PureNet) (dest : ℕ) (rows : List PureRow) (i : ℕ) → IfSome (route_at rows i) (IsWalkOf net dest i) → ¬ IsBeaten net dest rows i → IsRelaxedAt net dest rows i
unbeaten_relaxed net dest rows i walk f = record {
  walk = walk;
  origin = λ h. f (i ∷ [], inl (refl, h));
  arcs = λ h. by h.0 (route_at rows h.0) refl h.1;
}
  where
    by : (j : ℕ) (o : Option PureRoute) → route_at rows j ≡ o → ImprovedBy net rows i j → ⊥
    by j None e m = none_last (carrier net) (value_at rows i) (rw (e, along_none net i j) at m)
    by j (Some r) e m = f (i ∷ r.path, inr (j, r, e, refl, m))

-- past the nodes there is no route, and so none without a walk
walks_everywhere : (net : PureNet) (dest : ℕ) (rows : List PureRow) → TableOf net dest rows → HasWalksBefore net dest rows (length net.nodes) → (k : ℕ) → ¬ HasNoWalk net dest rows k
walks_everywhere net dest rows t h k f = elim (cases_lt k (length net.nodes)) [
  | inl within ↦ f (h k within)
  | inr past ↦ f (let n = no_route_past net dest rows t k past in rw n tt)
]

pub optimal_table : (net : PureNet) (tables : List (List PureRow)) (dest : ℕ) (rows : List PureRow) (x y : PureOptimal) → dest < length net.dests → TableOf net dest rows → table_at tables dest ≡ rows
    → OptimalBefore net tables dest x → (is_unbeaten x ≡ true → OptimalUpTo net dest rows (length net.nodes) (length net.nodes) y) → OptimalBefore net tables (dest + 1) (first_optimal x y)
optimal_table net tables dest rows unbeaten y within t at before found = by y (found refl)
  where
    first : ¬ Relaxed net dest rows → IsFirst (IsUnrelaxed net tables) dest
    first f = record { holds = (within, rw at f); before = λ d l h. h.1 (before d l) }

    by : (y : PureOptimal) → OptimalUpTo net dest rows (length net.nodes) (length net.nodes) y → OptimalBefore net tables (dest + 1) y
    by unbeaten h =
        let relaxed = all_relaxed net dest (length net.nodes) rows t refl (λ k l. unbeaten_relaxed net dest rows k (h.0 k l) (h.1 k l)) in
        below_more (λ d. Relaxed net d (table_at tables d)) dest before (rw at relaxed)
    by (no_walk i d) h =
        rw (h.0, at) (first (no_walk_unrelaxed net dest rows i h.1.holds), h.1)
    by (beaten i d walk) h =
        rw (h.0, at) (first (beaten_unrelaxed net dest rows i h.1 h.3.holds), walks_everywhere net dest rows t h.2, h.3, h.4)
    by (unsettled arc x) h = absurd h
optimal_table net tables dest rows (no_walk i d) y within t at before found = before
optimal_table net tables dest rows (beaten i d walk) y within t at before found = before
optimal_table net tables dest rows (unsettled arc x) y within t at before found = absurd before

pub stable_table : (net : PureNet) (tables : List (List PureRow)) (dest : ℕ) (rows : List PureRow) (x y : PureStable) → dest < length net.dests → TableOf net dest rows → table_at tables dest ≡ rows
    → StableBefore net tables dest x → (is_stable x ≡ true → StableUpTo net dest rows (length net.nodes) y) → StableBefore net tables (dest + 1) (first_stable x y)
stable_table net tables dest rows stable y within t at before found = by y (found refl)
  where
    first : (i : ℕ) → IsNoChoice net dest rows i → IsFirst (IsUnstable net tables) dest
    first i f = record { holds = (within, rw at (λ (s : Stable net dest rows). f.1 (s.choices i f.0))); before = λ d l h. h.1 (before d l) }

    by : (y : PureStable) → StableUpTo net dest rows (length net.nodes) y → StableBefore net tables (dest + 1) y
    by stable h =
        let chosen : Stable net dest rows = record { table_of = t; choices = h } in
        below_more (λ d. Stable net d (table_at tables d)) dest before (rw at chosen)
    by (not_offered i d) h = rw (h.0, at) (first i h.1.holds, h.1, h.2)
    by (better i d s) h = rw (h.0, at) (first i h.1.holds, h.1, h.2, h.3)
stable_table net tables dest rows (not_offered i d) y within t at before found = before
stable_table net tables dest rows (better i d s) y within t at before found = before

pub optimal_stays : (net : PureNet) (tables : List (List PureRow)) (m n : ℕ) (x : PureOptimal) → is_unbeaten x ≡ false → OptimalBefore net tables m x → OptimalBefore net tables n x
optimal_stays net tables m n unbeaten e h = absurd (cc)
optimal_stays net tables m n (no_walk i d) e h = h
optimal_stays net tables m n (beaten i d walk) e h = h
optimal_stays net tables m n (unsettled arc x) e h = absurd h

pub stable_stays : (net : PureNet) (tables : List (List PureRow)) (m n : ℕ) (x : PureStable) → is_stable x ≡ false → StableBefore net tables m x → StableBefore net tables n x
stable_stays net tables m n stable e h = absurd (cc)
stable_stays net tables m n (not_offered i d) e h = h
stable_stays net tables m n (better i d s) e h = h

-- All tables.

on_tables : (Holds : ℕ → List PureRow → Type 0) (d : ℕ) (tables : List (List PureRow)) → ((k : ℕ) → k < length tables → Holds (d + k) (table_at tables k)) → OnTablesFrom Holds d tables
on_tables Holds d [] h = tt
on_tables Holds d (t ∷ tables) h =
    let here : d + 0 ≡ d = omega arith in
    (rw here at (h 0 (omega arith)), on_tables Holds (d + 1) tables (λ k l. let there : (d + 1) + k ≡ d + suc k = omega arith in rw there (h (suc k) (omega arith))))

all_tables : (Holds : ℕ → List PureRow → Type 0) (tables : List (List PureRow)) → ((k : ℕ) → k < length tables → Holds k (table_at tables k)) → OnTablesFrom Holds 0 tables
all_tables Holds tables h = on_tables Holds 0 tables (λ k l. let here : 0 + k ≡ k = omega arith in rw here (h k l))

pub all_relaxed_tables : (net : PureNet) (tables : List (List PureRow)) (x : PureOptimal) → is_unbeaten x ≡ true → OptimalBefore net tables (length tables) x → OnTablesFrom (Relaxed net) 0 tables
all_relaxed_tables net tables unbeaten e h = all_tables (Relaxed net) tables h
all_relaxed_tables net tables (no_walk i d) e h = absurd (cc)
all_relaxed_tables net tables (beaten i d walk) e h = absurd (cc)
all_relaxed_tables net tables (unsettled arc x) e h = absurd h

pub settled_no : (net : PureNet) (tables : List (List PureRow)) (n : ℕ) (x : PureOptimal) → is_unbeaten x ≡ false → OptimalBefore net tables n x → JudgedOptimal net tables x
settled_no net tables n unbeaten e h = absurd (cc)
settled_no net tables n (no_walk i d) e h = h
settled_no net tables n (beaten i d walk) e h = h
settled_no net tables n (unsettled arc x) e h = absurd h

pub settled_stable : (net : PureNet) (tables : List (List PureRow)) (x : PureStable) → StableBefore net tables (length tables) x → JudgedStable net tables x
settled_stable net tables stable h = all_tables (Stable net) tables h
settled_stable net tables (not_offered i d) h = h
settled_stable net tables (better i d s) h = h

-- each table stands in its place
pub table_there : (tables : List DestTable) (k : ℕ) (table : DestTable) → k < length tables → table ≡ get_or tables k table → table_at (map rows_of tables) k ≡ rows_of table
table_there [] k table l e = absurd (omega arith)
table_there (t ∷ tables) zero table l e = ap rows_of (sym e)
table_there (t ∷ tables) (suc k) table l e = table_there tables k table (omega arith) e

dest_at : (d : ℕ) (tables : List DestTable) (k : ℕ) (table : DestTable) → AreOfDests d tables → k < length tables → table ≡ get_or tables k table → table.dest.0 ≡ d + k
dest_at d [] k table h l e = absurd (omega arith)
dest_at d (t ∷ tables) zero table h l e =
    let here : t.dest.0 ≡ d + 0 = omega (arith, h.0) in
    ap (λ (x : DestTable). x.dest.0) e ∙ here
dest_at d (t ∷ tables) (suc k) table h l e =
    let there = dest_at (d + 1) tables k table h.1 (omega arith) e in
    omega (arith, there)

pub dest_there : (tables : List DestTable) (k : ℕ) (table : DestTable) → AreOfDests 0 tables → k < length tables → table ≡ get_or tables k table → table.dest.0 ≡ k
dest_there tables k table h l e = let d = dest_at 0 tables k table h l e in omega (arith, d)

holds_at : (Holds : ℕ → List PureRow → Type 0) (d : ℕ) (tables : List DestTable) (k : ℕ) (table : DestTable) → OnTablesFrom Holds d (map rows_of tables) → k < length tables → table ≡ get_or tables k table → Holds (d + k) (rows_of table)
holds_at Holds d [] k table h l e = absurd (omega arith)
holds_at Holds d (t ∷ tables) zero table h l e =
    let here : d + 0 ≡ d = omega arith in
    let same : t ≡ table = sym e in
    rw (here, ← same) h.0
holds_at Holds d (t ∷ tables) (suc k) table h l e =
    let there : (d + 1) + k ≡ d + suc k = omega arith in
    rw there at (holds_at Holds (d + 1) tables k table h.1 (omega arith) e)

pub holds_there : (Holds : ℕ → List PureRow → Type 0) (tables : List DestTable) (k : ℕ) (table : DestTable) → AreOfDests 0 tables → OnTablesFrom Holds 0 (map rows_of tables) → k < length tables → table ≡ get_or tables k table
    → Holds table.dest.0 (rows_of table)
holds_there Holds tables k table a h l e =
    let d : 0 + k ≡ table.dest.0 = omega (arith, dest_there tables k table a l e) in
    rw d at (holds_at Holds 0 tables k table h l e)
