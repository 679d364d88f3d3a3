-- The rows that flooding nodes compute once nothing is on its way are those of the whole network. Lemmas, so that proofs
-- of other crates may cite them.
use Rattle.std.proofs.Common.{◌≡◌, ℕ, zero, suc, ◌+◌, ◌<◌, ◌≤◌, List, [], ◌∷◌, ◌++◌, true, length, slice_get, Option, Some, None, refl, sym, ap, ◌∙◌, subst, arith}
use Rattle.std.proofs.lemmas.Option.{same_Some}
use Rattle.net_graph.specs.Nets.{PureNet, IsNet, has_arc}
use Rattle.net_graph.specs.Tables.{PureRow, BestFirst, OnTablesFrom, AreRowsOfTables, joined_rows}
use Rattle.node_core.specs.Machine.{Machine, Drained}
use Rattle.flood_node.specs.Cards.{PureFlooded}
use Rattle.flood_node.specs.Node.{FloodState, holds}
use Rattle.flood_node.specs.Reach.{IsChain}
use Rattle.flood_node.specs.Knowing.{IsFlood}
use Rattle.flood_node.specs.Partial.{IsClosed, rows_known}
use Rattle.flood_node.specs.Parts.{row_known}
use Rattle.flood_node.specs.Reported.{Reported, IsReportedRow, AreReportedRows, AreFloodRows}
use Rattle.flood_node.specs.ReportedLaws.{reported_is_net, reported_table}
use Rattle.flood_node.specs.Totals.{held_reached}
use Rattle.flood_node.specs.Truth.{drained_holds}

-- at most one table is made best first, as best_first proves
abbrev pub IsUnique : Type 0
IsUnique = (net : PureNet) (dest : ℕ) (t u : List PureRow) → IsNet net → dest < length net.dests → BestFirst net dest t → BestFirst net dest u → t ≡ u

chain_push : (net : PureNet) (nodes : List ℕ) (i j k : ℕ) → IsChain net i nodes j → has_arc net j k ≡ true → IsChain net i (nodes ++ k ∷ []) k
chain_push net [] i j k chain e = (subst (λ z. has_arc net z k ≡ true) (sym chain) e, refl)
chain_push net (h ∷ nodes) i j k chain e = (chain.0, chain_push net nodes h j k chain.1 e)

same_places : {X : Type 0} (xs ys : List X) → ((k : ℕ) → slice_get xs k ≡ slice_get ys k) → xs ≡ ys
same_places [] [] e = refl
same_places [] (y ∷ ys) e = absurd (let clash = e 0 in cc)
same_places (x ∷ xs) [] e = absurd (let clash = e 0 in cc)
same_places (x ∷ xs) (y ∷ ys) e =
    let first : x ≡ y = same_Some _ _ (e 0) in
    let rest = same_places xs ys (λ k. e (suc k)) in
    cc

module _ (net : PureNet) (n : IsNet net) (c : Machine FloodState PureFlooded) (f : IsFlood net c) (drained : Drained c) (unique : IsUnique) where
  -- no arc leaves what a node holds
  holds_closed : (i : ℕ) (s : FloodState) → c.node i ≡ Some s → IsClosed net (holds s)
  holds_closed i s e j k h arc =
      let r = (held_reached net i s.cards (f.held i s e) j h).1 in
      drained_holds net n c f drained (r.0 ++ k ∷ []) i k s e (chain_push net r.0 i j k r.1 arc)

  -- so its row is the whole network's
  quiet_row : (dest i : ℕ) (table : List PureRow) (s : FloodState) (row : PureRow) → dest < length net.dests → BestFirst net dest table → c.node i ≡ Some s → IsReportedRow net dest s row → slice_get table i ≡ Some row
  quiet_row dest i table s row l best e reported =
      let number : s.number ≡ i = (f.running.each i s e).number_is in
      let same : reported.table ≡ rows_known (holds s) 0 table =
      unique (Reported net (holds s)) dest reported.table (rows_known (holds s) 0 table) (reported_is_net net (holds s) n) l reported.best_first (reported_table net (holds s) n (holds_closed i s e) dest table best) in
      let there : slice_get reported.table i ≡ Some row = subst (λ z. slice_get reported.table z ≡ Some row) number reported.is_row in
      sym (row_known (holds s) table i (f.own i s e)) ∙ (ap (λ t. slice_get t i) (sym same) ∙ there)

  -- the nodes from one on
  quiet_from : (dest from : ℕ) (table : List PureRow) (states : List FloodState) (rows : List PureRow) → dest < length net.dests → BestFirst net dest table
      → ((k : ℕ) (s : FloodState) → slice_get states k ≡ Some s → c.node (from + k) ≡ Some s) → AreReportedRows net states dest rows → (k : ℕ) (row : PureRow) → slice_get rows k ≡ Some row → slice_get table (from + k) ≡ Some row
  quiet_from dest from table [] [] l best at reported k row e = absurd (cc)
  quiet_from dest from table [] (r ∷ rows) l best at reported k row e = absurd reported
  quiet_from dest from table (s ∷ states) [] l best at reported k row e = absurd reported
  quiet_from dest from table (s ∷ states) (r ∷ rows) l best at reported zero row e =
      quiet_row dest (from + 0) table s row l best (at 0 s refl) (subst (λ z. IsReportedRow net dest s z) (same_Some _ _ e) reported.0)
  quiet_from dest from table (s ∷ states) (r ∷ rows) l best at reported (suc k) row e =
      let place : from + 1 + k ≡ from + suc k = omega arith in
      subst (λ z. slice_get table z ≡ Some row) place
      (quiet_from dest (from + 1) table states rows l best (λ m x h. let next : from + suc m ≡ from + 1 + m = omega arith in subst (λ z. c.node z ≡ Some x) next (at (suc m) x h)) reported.1 k row e)

  reported_count : (dest : ℕ) (states : List FloodState) (rows : List PureRow) → AreReportedRows net states dest rows → length rows ≡ length states
  reported_count dest [] [] reported = refl
  reported_count dest [] (r ∷ rows) reported = absurd reported
  reported_count dest (s ∷ states) [] reported = absurd reported
  reported_count dest (s ∷ states) (r ∷ rows) reported = let rest = reported_count dest states rows reported.1 in omega (arith, rest)

  there_or_past : (rows : List PureRow) (k : ℕ) → slice_get rows k ≡ None → length rows ≤ k
  there_or_past [] k e = omega arith
  there_or_past (r ∷ rows) zero e = absurd (cc)
  there_or_past (r ∷ rows) (suc k) e = let rest = there_or_past rows k e in omega (arith, rest)

  past : (rows : List PureRow) (k : ℕ) → length rows ≤ k → slice_get rows k ≡ None
  past [] k l = refl
  past (r ∷ rows) zero l = absurd (omega (arith, l))
  past (r ∷ rows) (suc k) l = past rows k (omega (arith, l))

  module _ (states : List FloodState) (are : (k : ℕ) → c.node k ≡ slice_get states k) (count : length states ≡ length net.nodes) where
    quiet_table : (dest : ℕ) (table rows : List PureRow) → dest < length net.dests → BestFirst net dest table → AreReportedRows net states dest rows → rows ≡ table
    quiet_table dest table rows l best reported = same_places rows table (λ k. at k (slice_get rows k) refl)
      where
        at : (k : ℕ) (o : Option PureRow) → slice_get rows k ≡ o → slice_get rows k ≡ slice_get table k
        at k (Some row) e =
            let place : 0 + k ≡ k = omega arith in
            e ∙ sym (subst (λ z. slice_get table z ≡ Some row) place
            (quiet_from dest 0 table states rows l best (λ m s h. let same : 0 + m ≡ m = omega arith in subst (λ z. c.node z ≡ Some s) (sym same) (are m ∙ h)) reported k row e))
        at k None e =
            let few = there_or_past rows k e in
            let rows_are = reported_count dest states rows reported in
            let table_is = best.table_of.count in
            e ∙ sym (past table k (omega (arith, few, rows_are, table_is, count)))

    quiet_tables : (dest : ℕ) (tables others : List (List PureRow)) → OnTablesFrom (AreReportedRows net states) dest tables → OnTablesFrom (BestFirst net) dest others → dest + length tables ≡ length net.dests → length tables ≡ length others → tables ≡ others
    quiet_tables dest [] [] t o l m = refl
    quiet_tables dest [] (x ∷ others) t o l m = absurd (omega (arith, m))
    quiet_tables dest (y ∷ tables) [] t o l m = absurd (omega (arith, m))
    quiet_tables dest (y ∷ tables) (x ∷ others) t o l m =
        let first : y ≡ x = quiet_table dest x y (omega (arith, l)) o.0 t.0 in
        let rest : tables ≡ others = quiet_tables (dest + 1) tables others t.1 o.1 (omega (arith, l)) (omega (arith, m)) in
        cc

    -- the rows of all destinations are those that link state finds on the whole network
    pub quiet_rows : (rows routed : List PureRow) → AreFloodRows net states rows → AreRowsOfTables net (BestFirst net) routed → rows ≡ routed
    quiet_rows rows routed r o =
        let reported = r.count in
        let whole = o.count in
        let same : r.tables ≡ o.tables = quiet_tables 0 r.tables o.tables r.hold o.hold (omega (arith, reported)) (omega (arith, reported, whole)) in
        r.joined ∙ (ap joined_rows same ∙ sym o.joined)
