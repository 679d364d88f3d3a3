-- What holds of every run. Lemmas, so that proofs of other crates may cite them.
use Rattle.std.proofs.Common.{◌≡◌, ℕ, zero, suc, ◌+◌, ◌-◌, ◌*◌, ◌<◌, ◌≤◌, ◌&&◌, Bool, true, false, Option, Some, None, List, [], ◌∷◌, ◌++◌, length, map, refl, sym, ap, subst, ◌∙◌, arith}
use Rattle.std.specs.Prelude.{nat_lt, IfSome}
use Rattle.std.specs.List.{AllByRecursion, list_all, range_with_len}
use Rattle.std.proofs.lemmas.Bool.Decides.{nat_tests}
use Rattle.meta_base.specs.declared.ids.Delivery.{Delivery}
use Rattle.std.proofs.lemmas.List.FromFn.{length-range_with_len}
use Rattle.std.proofs.lemmas.List.{length-append, length-map}
use Rattle.std.proofs.lemmas.Nat.{mul-le}
use Rattle.alg_model.specs.Bounds.{AtMost, greatest_number}
use Rattle.alg_model.specs.Laws.{at_most_more}
use Rattle.net_graph.specs.Nets.{PureNet, IsNet}
use Rattle.net_graph.specs.Tables.{PureRow, Stable, AreRowsOfTables, AreSettledRows, AreStableRows, OnTablesFrom, joined_rows}
use Rattle.net_graph.specs.Routes.{PureRoute}
use Rattle.net_graph.specs.RowTexts.{IsRouteIn, IsRowOf}
use Rattle.node_core.specs.Kinds.{listener}
use Rattle.node_core.specs.Machine.{Machine, Start, deliver_at, replay_from, taken_by}
use Rattle.node_core.specs.MachineLaws.{all_join, delivered_at, listens_within, option_then}
use Rattle.path_vector.specs.Choosing.{may_be_parts}
use Rattle.path_vector.specs.Coherent.{AreNodesOf, IsCoherent, MayBegin}
use Rattle.path_vector.specs.Delivering.{node_is}
use Rattle.path_vector.specs.Quiet.{short_path}
use Rattle.path_vector.specs.Laws.{carried_nodes_may_begin, new_nodes_may_begin, quiet_runs_are_stable, runs_are_coherent}
use Rattle.path_vector.specs.Node.{PvState, PureUpdate, carried, dest_rows, may_be_of, node_rows, path_vector, rows_for}
use Rattle.settled_laws.specs.Rows.{stable_rows_are_settled}
use Rattle.vector_runs.specs.Runs.{PurePhase, IsPhaseOf, RunsFrom, IsRun, IsSmallIn, AreLater, AreStable, IsOfNetwork, AreOfNetworks}

-- the rows of all destinations from one on are those of their tables
abbrev tables_from : (states : List PvState) (dests : List ℕ) → List (List PureRow)
tables_from states [] = []
tables_from states (dest ∷ dests) = dest_rows states dest ∷ tables_from states dests

joined : (states : List PvState) (dests : List ℕ) → rows_for states dests ≡ joined_rows (tables_from states dests)
joined states [] = refl
joined states (dest ∷ dests) = ap (λ z. dest_rows states dest ++ z) (joined states dests)

count : (states : List PvState) (dests : List ℕ) → length (tables_from states dests) ≡ length dests
count states [] = refl
count states (dest ∷ dests) = ap (λ z. suc z) (count states dests)

each : (Holds : ℕ → List PureRow → Type 0) (states : List PvState) (a n : ℕ) → ((dest : ℕ) → dest < a + n → Holds dest (dest_rows states dest)) → OnTablesFrom Holds a (tables_from states (range_with_len a n))
each Holds states a zero h = tt
each Holds states a (suc n) h = (h a (omega arith), each Holds states (a + 1) n (λ dest l. h dest (omega arith)))

-- what holds of each destination's rows holds of the tables of all
pub node_tables : (net : PureNet) (Holds : ℕ → List PureRow → Type 0) (states : List PvState) → ((dest : ℕ) → dest < length net.dests → Holds dest (dest_rows states dest)) → AreRowsOfTables net Holds (node_rows net states)
node_tables net Holds states h =
    let dests = range_with_len 0 (length net.dests) in
    record {
      tables = tables_from states dests;
      hold = each Holds states 0 (length net.dests) (λ dest l. h dest (omega arith));
      count = count states dests ∙ length-range_with_len 0 (length net.dests);
      joined = joined states dests;
    }

-- the rows of a quiet phase are stable, and no others are where all labels are monotone
pub quiet_phase_is_stable : (net : PureNet) (nodes : List PvState) (turns : ℕ) (p : PurePhase) (states : List PvState) → IsNet net → MayBegin net nodes → IsPhaseOf net nodes turns p true states
    → AreSettledRows net p.rows
quiet_phase_is_stable net nodes turns p states n may is =
    stable_rows_are_settled net p.rows (subst (AreStableRows net) (sym is.rows_are)
    (node_tables net (Stable net) states (λ dest l.
    quiet_runs_are_stable net nodes states p.journal is.end dest n may is.phase.replayed (is.phase.drained refl) is.states_are is.count l)))

runs_are_stable : (nodes : List PvState) (net : PureNet) (nets : List PureNet) (turns : ℕ) (past : List PurePhase) (last : PurePhase) (quiet : Bool) → IsNet net → AllByRecursion IsNet nets → AreLater net nets → MayBegin net nodes
    → RunsFrom nodes net nets turns past last quiet → AreStable net nets past last quiet
runs_are_stable nodes net nets turns [] last quiet n ns later may runs =
    λ e. quiet_phase_is_stable net nodes turns last runs.0 n may (subst (λ q. IsPhaseOf net nodes turns last q runs.0) e runs.1)
runs_are_stable nodes net [] turns (p ∷ past) last quiet n ns later may runs = absurd runs
runs_are_stable nodes net (m ∷ nets) turns (p ∷ past) last quiet n ns later may runs =
    let states = runs.0 in
    let is = runs.1 in
    let coherent = runs_are_coherent net nodes p.journal is.end n may is.phase.replayed in
    let next = carried_nodes_may_begin net m is.end states n later.0 coherent (is.phase.drained refl) is.states_are is.count in (
      quiet_phase_is_stable net nodes turns p states n may is,
      runs_are_stable (map (carried m) states) m nets (turns - length p.journal) past last quiet ns.0 ns.1 later.1 next runs.2,
    )

-- the quiet phases of a run have stable rows
pub quiet_phases_are_stable : (net : PureNet) (nets : List PureNet) (turns : ℕ) (past : List PurePhase) (last : PurePhase) (quiet : Bool) → IsNet net → AllByRecursion IsNet nets → AreLater net nets
    → IsRun net nets turns past last quiet → AreStable net nets past last quiet
quiet_phases_are_stable net nets turns past last quiet n ns later runs = runs_are_stable _ net nets turns past last quiet n ns later (new_nodes_may_begin net) runs

-- ---- the phases of a run are of its networks

path_within : (n : ℕ) (path : List ℕ) → list_all (λ i. nat_lt i n) path ≡ true → AllByRecursion (λ i. i < n) path
path_within n [] e = tt
path_within n (i ∷ path) e = by (nat_lt i n) refl e (path_within n path)
  where
    by : (b : Bool) → nat_lt i n ≡ b → (b && list_all (λ i. nat_lt i n) path) ≡ true → (list_all (λ i. nat_lt i n) path ≡ true → AllByRecursion (λ i. i < n) path) → AllByRecursion (λ i. i < n) (i ∷ path)
    by true f g more = (grind (arith, nat_tests), more g)
    by false f g more = absurd (cc)

route_within : (net : PureNet) (i : ℕ) (o : Option PureRoute) → ((r : PureRoute) → o ≡ Some r → may_be_of net i r ≡ true) → IfSome o (IsRouteIn net)
route_within net i None h = tt
route_within net i (Some r) h =
    let parts = may_be_parts net i r (h r refl) in
    record { value_in = parts.value_in; path_in = path_within (length net.nodes) r.path parts.inside }

-- and its values are small
route_small : (net : PureNet) (i : ℕ) (o : Option PureRoute) → ((r : PureRoute) → o ≡ Some r → may_be_of net i r ≡ true) → IfSome o (λ (r : PureRoute). AtMost (length net.nodes * (greatest_number net.alg.edition + 1)) r.value)
route_small net i None h = tt
route_small net i (Some r) h =
    let parts = may_be_parts net i r (h r refl) in
    let g = greatest_number net.alg.edition + 1 in
    let short = short_path net i r parts in
    at_most_more (length r.path * g) (length net.nodes * g) r.value (mul-le (length r.path) g (length net.nodes) g short (omega arith)) parts.bound

abbrev row_of : ℕ → PvState → PureRow
row_of dest s = record { node = s.number; dest = dest; route = s.rows dest }

row_within : (net : PureNet) (c : Machine PvState PureUpdate) → IsCoherent net c → (dest : ℕ) → dest < length net.dests → (i : ℕ) (s : PvState) → c.node i ≡ Some s → IsRowOf net (row_of dest s)
row_within net c k dest l i s at =
    let inside = k.inside i s at in
    let number : s.number ≡ i = (node_is net c k i s at).1 in
    record {
      node_in = subst (λ z. z < length net.nodes) (sym number) inside;
      dest_in = l;
      route_in = route_within net i (s.rows dest) (λ r e. (k.routes i dest s r at e).1);
    }

row_small : (net : PureNet) (c : Machine PvState PureUpdate) → IsCoherent net c → (dest i : ℕ) (s : PvState) → c.node i ≡ Some s → IsSmallIn net (row_of dest s)
row_small net c k dest i s at = route_small net i (s.rows dest) (λ r e. (k.routes i dest s r at e).1)

-- what holds of each node's rows holds of those of all
dest_rows_hold : (P : PureRow → Type 0) (c : Machine PvState PureUpdate) (dest : ℕ) → ((i : ℕ) (s : PvState) → c.node i ≡ Some s → P (row_of dest s)) → (i : ℕ) (states : List PvState) → AreNodesOf c i states
    → AllByRecursion P (dest_rows states dest)
dest_rows_hold P c dest each i [] are = tt
dest_rows_hold P c dest each i (s ∷ states) are = (each i s are.0, dest_rows_hold P c dest each (i + 1) states are.1)

rows_hold : (P : PureRow → Type 0) (c : Machine PvState PureUpdate) (bound : ℕ) → ((dest : ℕ) → dest < bound → (i : ℕ) (s : PvState) → c.node i ≡ Some s → P (row_of dest s)) → (states : List PvState) → AreNodesOf c 0 states
    → (a n : ℕ) → a + n ≤ bound → AllByRecursion P (rows_for states (range_with_len a n))
rows_hold P c bound each states are a zero l = tt
rows_hold P c bound each states are a (suc n) l =
    all_join P (dest_rows states a) (rows_for states (range_with_len (a + 1) n))
    (dest_rows_hold P c a (each a (omega arith)) 0 states are) (rows_hold P c bound each states are (a + 1) n (omega arith))

no_rows : (n : ℕ) → 0 ≡ 0 * n
no_rows n = grind arith

more_rows : (a b k n : ℕ) → a ≡ n → b ≡ k * n → a + b ≡ suc k * n
more_rows a b k n e f = grind arith

-- one row for each destination and node
rows_count : (states : List PvState) (dests : List ℕ) → length (rows_for states dests) ≡ length dests * length states
rows_count states [] = no_rows (length states)
rows_count states (dest ∷ dests) =
    length-append (dest_rows states dest) (rows_for states dests)
    ∙ more_rows (length (dest_rows states dest)) (length (rows_for states dests)) (length dests) (length states) (length-map states (row_of dest)) (rows_count states dests)

journal_within : (net : PureNet) (journal : List Delivery) (c d : Machine PvState PureUpdate) → replay_from path_vector net c journal ≡ Some d → AllByRecursion (λ (e : Delivery). e.arc.0 < length net.arcs) journal
journal_within net [] c d r = tt
journal_within net (e ∷ journal) c d r =
    let next = option_then (λ m. replay_from path_vector net m journal) (deliver_at path_vector net c e) d r in
    let made = (delivered_at path_vector net c next.0 e next.1).1 in
    let listens = option_then (λ i. taken_by path_vector c e.arc.0 i (c.link e.arc.0)) (listener net e.arc.0) next.0 made in
    (listens_within net e.arc.0 listens.0 listens.1, journal_within net journal next.0 d next.2)

phase_is_of : (net : PureNet) (nodes : List PvState) (turns : ℕ) (p : PurePhase) (quiet : Bool) (states : List PvState) → IsNet net → MayBegin net nodes → IsPhaseOf net nodes turns p quiet states → IsOfNetwork net p
phase_is_of net nodes turns p quiet states n may is =
    let coherent = runs_are_coherent net nodes p.journal is.end n may is.phase.replayed in
    record {
      rows_in = subst (AllByRecursion (IsRowOf net)) (sym is.rows_are)
          (rows_hold (IsRowOf net) is.end (length net.dests) (row_within net is.end coherent) states is.states_are 0 (length net.dests) (omega arith));
      small = subst (AllByRecursion (IsSmallIn net)) (sym is.rows_are)
          (rows_hold (IsSmallIn net) is.end (length net.dests) (λ dest l. row_small net is.end coherent dest) states is.states_are 0 (length net.dests) (omega arith));
      count = ap length is.rows_are
          ∙ (rows_count states (range_with_len 0 (length net.dests)) ∙ (ap (λ n. n * length states) (length-range_with_len 0 (length net.dests)) ∙ ap (λ n. length net.dests * n) is.count));
      arcs_in = journal_within net p.journal (Start path_vector nodes) is.end is.phase.replayed;
    }

runs_are_of : (nodes : List PvState) (net : PureNet) (nets : List PureNet) (turns : ℕ) (past : List PurePhase) (last : PurePhase) (quiet : Bool) → IsNet net → AllByRecursion IsNet nets → AreLater net nets → MayBegin net nodes
    → RunsFrom nodes net nets turns past last quiet → AreOfNetworks net nets past last
runs_are_of nodes net nets turns [] last quiet n ns later may runs = phase_is_of net nodes turns last quiet runs.0 n may runs.1
runs_are_of nodes net [] turns (p ∷ past) last quiet n ns later may runs = absurd runs
runs_are_of nodes net (m ∷ nets) turns (p ∷ past) last quiet n ns later may runs =
    let states = runs.0 in
    let is = runs.1 in
    let coherent = runs_are_coherent net nodes p.journal is.end n may is.phase.replayed in
    let next = carried_nodes_may_begin net m is.end states n later.0 coherent (is.phase.drained refl) is.states_are is.count in
    (phase_is_of net nodes turns p true states n may is, runs_are_of (map (carried m) states) m nets (turns - length p.journal) past last quiet ns.0 ns.1 later.1 next runs.2)

-- the rows and the deliveries of a run's phases are of their networks
pub phases_are_of_networks : (net : PureNet) (nets : List PureNet) (turns : ℕ) (past : List PurePhase) (last : PurePhase) (quiet : Bool) → IsNet net → AllByRecursion IsNet nets → AreLater net nets
    → IsRun net nets turns past last quiet → AreOfNetworks net nets past last
phases_are_of_networks net nets turns past last quiet n ns later runs = runs_are_of _ net nets turns past last quiet n ns later (new_nodes_may_begin net) runs
