-- What is found of tables in part: of the rows up to one node, and of the tables up to one destination.
use Rattle.std.specs.Prelude.{◌≡◌, ℕ, ◌<◌, ◌⊎◌, List, Bool, true, false, if◌then◌else◌, Option, Some, None, IfSome, length}
use Rattle.net_graph.specs.Nets.{PureNet}
use Rattle.net_graph.specs.Routes.{PureRoute}
use Rattle.net_graph.specs.Tables.{PureRow, IsChoice, Relaxed, Reported, Stable, route_at}
use Rattle.stable_check.specs.Checks.{own_offer, IsMade, IsWalkOf, Makes}
use Rattle.report_check.specs.Judged.{PureOptimal, unbeaten, no_walk, beaten, unsettled, PureStable, stable, not_offered, better}
use Rattle.report_check.specs.Judged.{IsFirst, IsBeaten, IsBeatenBy, IsBetterOffer, IsNoChoice, HasNoWalk, JudgedOptimal, JudgedStable, table_at}

-- the node's row has no route, or it is the offer of the own origin
abbrev pub IsMadeAlone : PureNet → ℕ → Reported → ℕ → Type 0
IsMadeAlone net dest reported i = (reported i ≡ None) ⊎ Makes (own_offer net dest i) (reported i)

-- the paths of the rows of the first n nodes are walks of their values
abbrev pub HasWalksBefore : PureNet → ℕ → List PureRow → ℕ → Type 0
HasWalksBefore net dest table n = (k : ℕ) → k < n → IfSome (route_at table k) (IsWalkOf net dest k)

-- so much is found of a table once the walks of the first m nodes are weighed, and the first n rows are looked at for
-- what beats them
abbrev pub OptimalUpTo : PureNet → ℕ → List PureRow → ℕ → ℕ → PureOptimal → Type 0
OptimalUpTo net dest table m n unbeaten = HasWalksBefore net dest table m × ((k : ℕ) → k < n → ¬ IsBeaten net dest table k)
OptimalUpTo net dest table m n (no_walk i d) = (d ≡ dest) × IsFirst (HasNoWalk net dest table) i
OptimalUpTo net dest table m n (beaten i d walk) =
    (d ≡ dest) × (i < length net.nodes) × HasWalksBefore net dest table m × IsFirst (IsBeaten net dest table) i
    × IsBeatenBy net dest table i walk
OptimalUpTo net dest table m n (unsettled arc x) = ⊥

-- and once the first n rows are looked at for whether they are choices
abbrev pub StableUpTo : PureNet → ℕ → List PureRow → ℕ → PureStable → Type 0
StableUpTo net dest table n stable = (k : ℕ) → k < n → IsChoice net dest (route_at table) k (route_at table k)
StableUpTo net dest table n (not_offered i d) = (d ≡ dest) × IsFirst (IsNoChoice net dest table) i × ¬ IsMade net dest (route_at table) i
StableUpTo net dest table n (better i d s) =
    (d ≡ dest) × IsFirst (IsNoChoice net dest table) i × IsMade net dest (route_at table) i × IsBetterOffer net dest table i s

-- so much is found of the tables of the first n destinations
abbrev pub OptimalBefore : PureNet → List (List PureRow) → ℕ → PureOptimal → Type 0
OptimalBefore net tables n unbeaten = (d : ℕ) → d < n → Relaxed net d (table_at tables d)
OptimalBefore net tables n (no_walk i d) = JudgedOptimal net tables (no_walk i d)
OptimalBefore net tables n (beaten i d walk) = JudgedOptimal net tables (beaten i d walk)
OptimalBefore net tables n (unsettled arc x) = ⊥

abbrev pub StableBefore : PureNet → List (List PureRow) → ℕ → PureStable → Type 0
StableBefore net tables n stable = (d : ℕ) → d < n → Stable net d (table_at tables d)
StableBefore net tables n (not_offered i d) = JudgedStable net tables (not_offered i d)
StableBefore net tables n (better i d s) = JudgedStable net tables (better i d s)

-- whether nothing was found, and whether a path was found that is no walk of its value
abbrev pub is_unbeaten : PureOptimal → Bool
is_unbeaten unbeaten = true
is_unbeaten (no_walk i d) = false
is_unbeaten (beaten i d walk) = false
is_unbeaten (unsettled arc x) = false

abbrev pub is_no_walk : PureOptimal → Bool
is_no_walk unbeaten = false
is_no_walk (no_walk i d) = true
is_no_walk (beaten i d walk) = false
is_no_walk (unsettled arc x) = false

abbrev pub is_stable : PureStable → Bool
is_stable stable = true
is_stable (not_offered i d) = false
is_stable (better i d s) = false

-- what was found first, if anything was
abbrev pub first_optimal : PureOptimal → PureOptimal → PureOptimal
first_optimal unbeaten other = other
first_optimal (no_walk i d) other = no_walk i d
first_optimal (beaten i d walk) other = beaten i d walk
first_optimal (unsettled arc x) other = unsettled arc x

abbrev pub first_stable : PureStable → PureStable → PureStable
first_stable stable other = other
first_stable (not_offered i d) other = not_offered i d
first_stable (better i d s) other = better i d s

-- what a walk makes of a table that beats the row of node i
abbrev pub beaten_or_not : ℕ → ℕ → Option (List ℕ) → PureOptimal
beaten_or_not i d None = unbeaten
beaten_or_not i d (Some walk) = beaten i d walk

-- what makes of it whether the row is made, and an offer that is better than the row
abbrev pub better_or_not : ℕ → ℕ → Option PureRoute → PureStable
better_or_not i d None = stable
better_or_not i d (Some s) = better i d s

abbrev pub unstable_or_not : ℕ → ℕ → Bool → Option PureRoute → PureStable
unstable_or_not i d is_made offer = if is_made then better_or_not i d offer else not_offered i d
