-- What is found of tables that anybody made: whether no walk beats their routes, and whether they are stable
-- (Griffin and Sobrinho 2005; Sobrinho 2005).
use Rattle.std.specs.Prelude.{◌≡◌, ℕ, ◌<◌, ◌⊎◌, List, [], ◌∷◌, Some, IfSome, length, slice_index_or}
use Rattle.alg_model.specs.Carriers.{IsPreferred}
use Rattle.alg_model.specs.Properties.{isotone}
use Rattle.alg_model.specs.Verdicts.{PureInstance}
use Rattle.net_facts.specs.Misses.{IsFirstMissing}
use Rattle.net_graph.specs.Nets.{PureNet, origin_value}
use Rattle.net_graph.specs.Routes.{PureRoute}
use Rattle.net_graph.specs.Tables.{PureRow, NetHas, IsChoice, Offers, OnTablesFrom, Relaxed, Stable, carrier, route_at, value_at}
use Rattle.stable_check.specs.Checks.{ImprovedBy, IsMade, IsWalkOf, Outdoes}

-- what is found of how good the routes are
pub data PureOptimal : Type 0 where
  -- no walk beats a row
  unbeaten : PureOptimal
  -- the path of the row of a node for a destination isn't a walk of its value
  no_walk : ℕ → ℕ → PureOptimal
  -- this walk of the node beats its row
  beaten : ℕ → ℕ → List ℕ → PureOptimal
  -- no origin and no arc improves a row, but a label isn't isotone: the arc, and an instance
  unsettled : ℕ → PureInstance → PureOptimal

-- what is found of whether each row is its node's choice
pub data PureStable : Type 0 where
  stable : PureStable
  -- nothing offers the route of the row of a node for a destination
  not_offered : ℕ → ℕ → PureStable
  -- this offer is better than the row
  better : ℕ → ℕ → PureRoute → PureStable

pub record PureJudgement : Type 0 where
  pub optimal : PureOptimal
  pub stable : PureStable

-- the number is the first of which this holds
pub record IsFirst (P : ℕ → Type 0) (n : ℕ) : Type 0 where
  pub holds : P n
  pub before : (m : ℕ) → m < n → ¬ P m

-- the table of a destination
abbrev pub table_at : List (List PureRow) → ℕ → List PureRow
table_at tables dest = slice_index_or tables dest []

-- the table of the destination isn't relaxed, and isn't stable
abbrev pub IsUnrelaxed : PureNet → List (List PureRow) → ℕ → Type 0
IsUnrelaxed net tables dest = (dest < length net.dests) × ¬ Relaxed net dest (table_at tables dest)

abbrev pub IsUnstable : PureNet → List (List PureRow) → ℕ → Type 0
IsUnstable net tables dest = (dest < length net.dests) × ¬ Stable net dest (table_at tables dest)

-- the path of the node's route isn't a walk from the node that weighs the route's value
abbrev pub HasNoWalk : PureNet → ℕ → List PureRow → ℕ → Type 0
HasNoWalk net dest table i = ¬ IfSome (route_at table i) (IsWalkOf net dest i)

-- a walk whose value is preferred to that of the node's row: the node alone, by its own origin; or the node and the
-- path of the row of a node that it has an arc to, by that arc
abbrev pub IsBeatenBy : PureNet → ℕ → List PureRow → ℕ → List ℕ → Type 0
IsBeatenBy net dest table i walk =
    ((walk ≡ i ∷ []) × IsPreferred (carrier net) (origin_value net dest i) (value_at table i))
    ⊎ ((j : ℕ) × (r : PureRoute) × (route_at table j ≡ Some r) × (walk ≡ i ∷ r.path) × ImprovedBy net table i j)

abbrev pub IsBeaten : PureNet → ℕ → List PureRow → ℕ → Type 0
IsBeaten net dest table i = (walk : List ℕ) × IsBeatenBy net dest table i walk

-- the node's row isn't its choice from what the table says
abbrev pub IsNoChoice : PureNet → ℕ → List PureRow → ℕ → Type 0
IsNoChoice net dest table i = (i < length net.nodes) × ¬ IsChoice net dest (route_at table) i (route_at table i)

-- the first table that isn't relaxed is named, and in it the first node whose path is no walk of its value; only where
-- there is none, the first node that is beaten
abbrev pub JudgedOptimal : PureNet → List (List PureRow) → PureOptimal → Type 0
JudgedOptimal net tables unbeaten = OnTablesFrom (Relaxed net) 0 tables × NetHas isotone net
JudgedOptimal net tables (no_walk i dest) = IsFirst (IsUnrelaxed net tables) dest × IsFirst (HasNoWalk net dest (table_at tables dest)) i
JudgedOptimal net tables (beaten i dest walk) =
    IsFirst (IsUnrelaxed net tables) dest × ((k : ℕ) → ¬ HasNoWalk net dest (table_at tables dest) k)
    × IsFirst (IsBeaten net dest (table_at tables dest)) i × IsBeatenBy net dest (table_at tables dest) i walk
JudgedOptimal net tables (unsettled arc x) = OnTablesFrom (Relaxed net) 0 tables × IsFirstMissing (isotone ∷ []) net arc x

-- an offer to the node that is better than its row
pub record IsBetterOffer (net : PureNet) (dest : ℕ) (table : List PureRow) (i : ℕ) (s : PureRoute) : Type 0 where
  pub offers : Offers net dest (route_at table) i s
  pub outdoes : Outdoes (carrier net) (Some s) (route_at table i)

-- the first table that isn't stable is named, and in it the first node whose row isn't its choice: its route isn't
-- offered, or, only where that is offered, another offer is better
abbrev pub JudgedStable : PureNet → List (List PureRow) → PureStable → Type 0
JudgedStable net tables stable = OnTablesFrom (Stable net) 0 tables
JudgedStable net tables (not_offered i dest) =
    IsFirst (IsUnstable net tables) dest × IsFirst (IsNoChoice net dest (table_at tables dest)) i
    × ¬ IsMade net dest (route_at (table_at tables dest)) i
JudgedStable net tables (better i dest s) =
    IsFirst (IsUnstable net tables) dest × IsFirst (IsNoChoice net dest (table_at tables dest)) i
    × IsMade net dest (route_at (table_at tables dest)) i × IsBetterOffer net dest (table_at tables dest) i s

-- what the tables of all destinations are judged to be
pub record Judged (net : PureNet) (tables : List (List PureRow)) (x : PureJudgement) : Type 0 where
  pub optimal : JudgedOptimal net tables x.optimal
  pub stable : JudgedStable net tables x.stable
