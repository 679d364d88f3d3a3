-- What holds of every run of distance-vector nodes. Lemmas, so that proofs of other crates may cite them.
use Rattle.std.proofs.Common.{◌≡◌, ℕ, zero, suc, ◌+◌, ◌<◌, ◌≤◌, inl, inr, List, [], ◌∷◌, ◌++◌, Bool, true, false, ◌==◌, length, slice_get, Option, Some, None, IfSome, subst, refl, sym, ap, ◌∙◌, arith}
use Rattle.std.specs.Prelude.{find, option_map, option_and_then}
use Rattle.std.specs.List.{AllByRecursion, range_with_len}
use Rattle.std.specs.Option.{option_or}
use Rattle.std.proofs.Math.Path.{fun_ext}
use Rattle.std.proofs.lemmas.Bool.{eqb-true}
use Rattle.std.proofs.lemmas.Bool.Decides.{nat_tests}
use Rattle.std.proofs.lemmas.List.Folds.{find-append}
use Rattle.meta_base.specs.declared.ids.Delivery.{Delivery}
use Rattle.alg_model.specs.Expressions.{PureCarrier, PureValue}
use Rattle.alg_model.specs.Properties.{strict, isotone}
use Rattle.net_graph.specs.Nets.{PureNet, IsNet}
use Rattle.net_graph.specs.Routes.{PureRoute}
use Rattle.net_graph.specs.Tables.{PureRow, NetHas, BestFirst, AreRowsFrom, AreRowsOfTables, OnTablesFrom, carrier, joined_rows, value_at}
use Rattle.node_core.specs.Machine.{Machine}
use Rattle.node_core.specs.MachineLaws.{all_join, option_then, same_test}
use Rattle.node_runs.specs.Runs.{AreBegun}
use Rattle.distance_node.specs.Choosing.{best_is}
use Rattle.distance_node.specs.Coherent.{IsCoherent}
use Rattle.distance_node.specs.Delivering.{runs_are_coherent}
use Rattle.distance_node.specs.Following.{next_hops_lead, none_weighs, unbeaten}
use Rattle.distance_node.specs.Node.{Hop, DvState, PureVector, choice, distance, offers, value_of}
use Rattle.distance_node.specs.Offers.{arc_from, choice_may, offer_is}
use Rattle.distance_node.specs.Quiet.{drained_rows_are_chosen}
use Rattle.distance_node.specs.Rows.{PureHopRow, IsHopRowOf, HopRows, dest_rows, hop_row, rows_for}
use Rattle.distance_node.specs.Starting.{inside_of}
use Rattle.distance_node.specs.Tables.{AreAsGood, HopTable, IsChosen, table_of}
use Rattle.distance_runs.specs.Runs.{AreAsGoodRows, AreBestHops, IsDistanceRun, hop_of, is_for, table_in}

-- ---- the row of a node for a destination is found

-- no row for another destination is
other_dest : (states : List DvState) (d dest i : ℕ) → (d == dest) ≡ false → find (is_for dest i) (dest_rows states d) ≡ None
other_dest [] d dest i e = refl
other_dest (s ∷ states) d dest i e = rw e (other_dest states d dest i e)

passed : (states : List DvState) (a n dest i : ℕ) → dest < a → find (is_for dest i) (rows_for states (range_with_len a n)) ≡ None
passed states a zero dest i l = refl
passed states a (suc n) dest i l =
    let apart : (a == dest) ≡ false = grind (arith, nat_tests) in
    find-append (is_for dest i) (dest_rows states a) (rows_for states (range_with_len (a + 1) n))
    ∙ (ap (λ o. option_or o (find (is_for dest i) (rows_for states (range_with_len (a + 1) n)))) (other_dest states a dest i apart) ∙ passed states (a + 1) n dest i (omega (arith, l)))

in_dest : (states : List DvState) (a n dest i : ℕ) → a ≤ dest → dest < a + n → find (is_for dest i) (rows_for states (range_with_len a n)) ≡ find (is_for dest i) (dest_rows states dest)
in_dest states a zero dest i l m = absurd (omega (arith, l, m))
in_dest states a (suc n) dest i l m =
    find-append (is_for dest i) (dest_rows states a) (rows_for states (range_with_len (a + 1) n))
    ∙ by (λ next. in_dest states (a + 1) n dest i next (omega (arith, m))) (a == dest) refl
  where
    rest : Option PureHopRow
    rest = find (is_for dest i) (rows_for states (range_with_len (a + 1) n))

    or_none : (o : Option PureHopRow) → option_or o None ≡ o
    or_none None = refl
    or_none (Some row) = refl

    by : (a + 1 ≤ dest → rest ≡ find (is_for dest i) (dest_rows states dest)) → (b : Bool) → (a == dest) ≡ b → option_or (find (is_for dest i) (dest_rows states a)) rest ≡ find (is_for dest i) (dest_rows states dest)
    by later true e =
        let same : a ≡ dest = eqb-true a dest e in
        ap (option_or (find (is_for dest i) (dest_rows states a))) (passed states (a + 1) n dest i (omega (arith, same)))
        ∙ (or_none (find (is_for dest i) (dest_rows states a)) ∙ ap (λ d. find (is_for dest i) (dest_rows states d)) same)
    by later false e =
        let next : a + 1 ≤ dest = grind (arith, nat_tests) in
        ap (λ o. option_or o rest) (other_dest states a dest i e) ∙ later next

-- the row that a state has
abbrev row_of : ℕ → ℕ → DvState → PureHopRow
row_of dest i s = hop_row i dest (s.rows dest)

at_node : (net : PureNet) (states : List DvState) (dest k i : ℕ) → AreBegun distance net k states → find (is_for dest (k + i)) (dest_rows states dest) ≡ option_map (row_of dest (k + i)) (slice_get states i)
at_node net [] dest k i are = refl
at_node net (s ∷ states) dest k zero are =
    let e : s.number ≡ k = are.1 in
    let here : s.number ≡ k + 0 = omega (arith, e) in
    let found : (s.number == k + 0) ≡ true = ap (λ z. z == k + 0) here ∙ same_test (k + 0) in
    rw (same_test dest, found) (ap (λ z. Some (row_of dest z s)) here)
at_node net (s ∷ states) dest k (suc i) are =
    let e : s.number ≡ k = are.1 in
    let other : (s.number == k + suc i) ≡ false = grind (arith, nat_tests) in
    let next : k + suc i ≡ k + 1 + i = omega arith in
    rw (same_test dest, other) (ap (λ z. find (is_for dest z) (dest_rows states dest)) next ∙ (at_node net states dest (k + 1) i are.3 ∙ ap (λ z. option_map (row_of dest z) (slice_get states i)) (sym next)))

hop_is : (i dest : ℕ) (row : Option Hop) → hop_of (hop_row i dest row) ≡ row
hop_is i dest None = refl
hop_is i dest (Some h) = refl

table_is : (net : PureNet) (states : List DvState) → AreBegun distance net 0 states → (dest i : ℕ) → dest < length net.dests → table_in (HopRows net states) dest i ≡ option_and_then (λ (s : DvState). s.rows dest) (slice_get states i)
table_is net states are dest i within =
    let place : 0 + i ≡ i = omega arith in
    ap (option_and_then hop_of) (in_dest states 0 (length net.dests) dest i (omega arith) (omega (arith, within)) ∙ subst (λ z. find (is_for dest z) (dest_rows states dest) ≡ option_map (row_of dest z) (slice_get states i)) place (at_node net states dest 0 i are))
    ∙ by (slice_get states i)
  where
    by : (o : Option DvState) → option_and_then hop_of (option_map (row_of dest i) o) ≡ option_and_then (λ (s : DvState). s.rows dest) o
    by None = refl
    by (Some s) = hop_is i dest (s.rows dest)

-- ---- quiet runs

module _ (net : PureNet) (n : IsNet net) (turns : ℕ) (hops : List PureHopRow) (journal : List Delivery) where
  -- the table of a run's rows is that of its machine
  same_table : (quiet : Bool) → (is : IsDistanceRun net turns hops journal quiet) → (dest : ℕ) → dest < length net.dests → table_of is.phase.end dest ≡ table_in hops dest
  same_table quiet is dest within =
      fun_ext (λ i. ap (option_and_then (λ (s : DvState). s.rows dest)) (is.phase.states_are i)
      ∙ (sym (table_is net is.states is.phase.begun dest i within) ∙ ap (λ z. table_in z dest i) (sym is.hops_are)))

  module _ (is : IsDistanceRun net turns hops journal true) where
    abbrev end : Machine DvState PureVector
    end = is.phase.end

    coherent : IsCoherent net end
    coherent = runs_are_coherent net journal end n is.phase.phase.replayed

    chosen : (dest : ℕ) → dest < length net.dests → IsChosen net dest (table_in hops dest)
    chosen dest within = subst (IsChosen net dest) (same_table true is dest within) (drained_rows_are_chosen net journal end dest n is.phase.phase.replayed (is.phase.phase.drained refl))

    inside : (dest i : ℕ) (h : Hop) → dest < length net.dests → table_in hops dest i ≡ Some h → i < length net.nodes
    inside dest i h within e =
        let from = option_then (λ (s : DvState). s.rows dest) (end.node i) h (ap (λ (t : HopTable). t i) (same_table true is dest within) ∙ e) in
        inside_of net end coherent.running i from.0 from.1

    pub are_best_hops : NetHas strict net → NetHas isotone net → AreBestHops net hops
    are_best_hops st iso = record {
      leads = λ dest i h within e. next_hops_lead net n dest (table_in hops dest) (chosen dest within) st i h (inside dest i h within e) e;
      unbeaten = λ dest i p within walk. unbeaten net n dest (table_in hops dest) (chosen dest within) iso i p walk;
      none = λ dest i p within e walk. none_weighs net n dest (table_in hops dest) (chosen dest within) iso i p e walk;
    }

-- ---- values that are as good as those of tables

-- what the row's route weighs
abbrev weight_of : PureRow → Option PureValue
weight_of row = option_map (λ (r : PureRoute). r.value) row.route

module _ (net : PureNet) (c : PureCarrier) (dest : ℕ) (hops : List PureHopRow) (rows : List PureRow) (rest : AreAsGoodRows c hops rows) where
  rows_agree : (k : ℕ) (states : List DvState) (t : List PureRow) → AreBegun distance net k states → AreRowsFrom net dest k t → length t ≡ length states
      → ((i : ℕ) (s : DvState) (row : PureRow) → slice_get states i ≡ Some s → slice_get t i ≡ Some row → AreAsGood c (value_of (s.rows dest)) (weight_of row))
      → AreAsGoodRows c (dest_rows states dest ++ hops) (t ++ rows)
  rows_agree k [] [] are from count good = rest
  rows_agree k [] (row ∷ t) are from count good = absurd (omega (arith, count))
  rows_agree k (s ∷ states) [] are from count good = absurd (omega (arith, count))
  rows_agree k (s ∷ states) (row ∷ t) are from count good = (
    are.1 ∙ sym from.0,
    sym from.1,
    good 0 s row refl refl,
    rows_agree (k + 1) states t are.3 from.3 (omega (arith, count)) (λ i. good (suc i)),
  )

module _ (net : PureNet) (states : List DvState) (are : AreBegun distance net 0 states) (count : length states ≡ length net.nodes)
    (good : (dest i : ℕ) (t : List PureRow) (s : DvState) (row : PureRow) → BestFirst net dest t → slice_get states i ≡ Some s → slice_get t i ≡ Some row → AreAsGood (carrier net) (value_of (s.rows dest)) (weight_of row))
  where
    tables_agree : (a n : ℕ) (tables : List (List PureRow)) → OnTablesFrom (BestFirst net) a tables → length tables ≡ n → AreAsGoodRows (carrier net) (rows_for states (range_with_len a n)) (joined_rows tables)
    tables_agree a zero [] hold e = tt
    tables_agree a zero (t ∷ tables) hold e = absurd (omega (arith, e))
    tables_agree a (suc n) [] hold e = absurd (omega (arith, e))
    tables_agree a (suc n) (t ∷ tables) hold e =
        let table = hold.0.table_of in
        let rows = table.count in
        rows_agree net (carrier net) a (rows_for states (range_with_len (a + 1) n)) (joined_rows tables) (tables_agree (a + 1) n tables hold.1 (omega (arith, e)))
        0 states t are table.rows (omega (arith, rows, count)) (λ i s row. good a i t s row hold.0)

-- Where each value is as good as that of each table that is made best first, so are all of a run's.
pub values_agree : (net : PureNet) (turns : ℕ) (hops : List PureHopRow) (routed : List PureRow) (journal : List Delivery) → IsNet net → (is : IsDistanceRun net turns hops journal true)
    → ((dest i : ℕ) (best : List PureRow) → BestFirst net dest best → i < length net.nodes → AreAsGood (carrier net) (value_of (table_of is.phase.end dest i)) (value_at best i))
    → AreRowsOfTables net (BestFirst net) routed → AreAsGoodRows (carrier net) hops routed
values_agree net turns hops routed journal n is agree tables =
    subst (λ z. AreAsGoodRows (carrier net) z routed) (sym is.hops_are)
    (subst (AreAsGoodRows (carrier net) (HopRows net is.states)) (sym tables.joined)
    (tables_agree net is.states is.phase.begun is.phase.count good 0 (length net.dests) tables.tables tables.hold tables.count))
  where
    good : (dest i : ℕ) (t : List PureRow) (s : DvState) (row : PureRow) → BestFirst net dest t → slice_get is.states i ≡ Some s → slice_get t i ≡ Some row → AreAsGood (carrier net) (value_of (s.rows dest)) (weight_of row)
    good dest i t s row best e f =
        let node : is.phase.end.node i ≡ Some s = is.phase.states_are i ∙ e in
        let within = inside_of net is.phase.end (runs_are_coherent net journal is.phase.end n is.phase.phase.replayed).running i s node in
        let hop : table_of is.phase.end dest i ≡ s.rows dest = ap (option_and_then (λ (q : DvState). q.rows dest)) node in
        let value : value_at t i ≡ weight_of row = ap (λ o. option_map (λ (r : PureRoute). r.value) (option_and_then (λ (q : PureRow). q.route) o)) f in
        subst (λ z. AreAsGood (carrier net) (value_of z) (weight_of row)) hop (subst (AreAsGood (carrier net) (value_of (table_of is.phase.end dest i))) value (agree dest i t best within))

-- ---- the rows of nodes are the network's

-- a choice's next hop is one of the nodes
next_in : (net : PureNet) → IsNet net → (dest i : ℕ) (heard : ℕ → Option PureValue) (h : Hop) → choice net dest i heard ≡ Some h → IfSome h.next (λ j. j < length net.nodes)
next_in net n dest i heard h e =
    let best = best_is (carrier net) (offers net dest i heard) h e in
    elim (offer_is net dest i heard best.place h best.there) [
      | inl own ↦ rw own.next tt
      | inr arc ↦ rw arc.next (arc_from net n i arc.place arc.arc arc.there).is_arc.head_in
    ]

module _ (net : PureNet) (n : IsNet net) (c : Machine DvState PureVector) (k : IsCoherent net c) (dest : ℕ) (dest_in : dest < length net.dests) where
  coherent_row : (i : ℕ) (s : DvState) → c.node i ≡ Some s → s.number ≡ i → IsHopRowOf net (hop_row s.number dest (s.rows dest))
  coherent_row i s e number = by (s.rows dest) (sym (k.chosen i dest s e))
    where
      node_in : s.number < length net.nodes
      node_in = subst (λ z. z < length net.nodes) (sym number) (inside_of net c k.running i s e)

      by : (o : Option Hop) → choice net dest i (λ a. s.heard a dest) ≡ o → IsHopRowOf net (hop_row s.number dest o)
      by None f = record { node_in = node_in; dest_in = dest_in; value_in = tt; next_in = tt }
      by (Some h) f = record {
        node_in = node_in;
        dest_in = dest_in;
        value_in = (choice_may net n dest i (c.clock i) (λ a. s.heard a dest) (λ q x v at g. k.known i x.id dest s v e g) h f).value_in;
        next_in = next_in net n dest i (λ a. s.heard a dest) h f;
      }

  dest_rows_in : (i : ℕ) (some : List DvState) → ((j : ℕ) → c.node (i + j) ≡ slice_get some j) → AreBegun distance net i some → AllByRecursion (IsHopRowOf net) (dest_rows some dest)
  dest_rows_in i [] at are = tt
  dest_rows_in i (s ∷ some) at are =
      let place : i ≡ i + 0 = omega arith in (
        coherent_row i s (ap c.node place ∙ at 0) are.1,
        dest_rows_in (i + 1) some (λ j. let next : i + 1 + j ≡ i + suc j = omega arith in ap c.node next ∙ at (suc j)) are.3,
      )

module _ (net : PureNet) (n : IsNet net) (c : Machine DvState PureVector) (k : IsCoherent net c) (states : List DvState) (at : (j : ℕ) → c.node j ≡ slice_get states j) (are : AreBegun distance net 0 states) where
  rows_in : (a count : ℕ) → a + count ≤ length net.dests → AllByRecursion (IsHopRowOf net) (rows_for states (range_with_len a count))
  rows_in a zero l = tt
  rows_in a (suc count) l =
      all_join (IsHopRowOf net) (dest_rows states a) (rows_for states (range_with_len (a + 1) count))
      (dest_rows_in net n c k a (omega (arith, l)) 0 states (λ j. let place : 0 + j ≡ j = omega arith in ap c.node place ∙ at j) are) (rows_in (a + 1) count (omega (arith, l)))

pub rows_are_the_networks : (net : PureNet) (turns : ℕ) (hops : List PureHopRow) (journal : List Delivery) (quiet : Bool) → IsNet net → IsDistanceRun net turns hops journal quiet → AllByRecursion (IsHopRowOf net) hops
rows_are_the_networks net turns hops journal quiet n is =
    subst (AllByRecursion (IsHopRowOf net)) (sym is.hops_are)
    (rows_in net n is.phase.end (runs_are_coherent net journal is.phase.end n is.phase.phase.replayed) is.states is.phase.states_are is.phase.begun 0 (length net.dests) (omega arith))
