-- The rows of a coherent machine in which nothing is on its way are stable. Lemmas, so that proofs of other crates
-- may cite them.
use Rattle.std.proofs.Common.{◌≡◌, ℕ, zero, suc, ◌+◌, ◌*◌, ◌<◌, ◌≤◌, List, [], ◌∷◌, Bool, true, false, not, ◌||◌, ◌==◌, eqb, length, slice_get, Option, Some, None, IfSome, subst, refl, sym, ap, ◌∙◌, arith}
use Rattle.std.specs.Prelude.{nat_lt, option_and_then}
use Rattle.std.specs.List.{AllByRecursion, IsDistinct, find, list_any, list_all}
use Rattle.std.proofs.lemmas.Bool.{and_parts, eqb-true}
use Rattle.std.proofs.lemmas.Bool.Decides.{nat_tests}
use Rattle.std.proofs.lemmas.Nat.{mul-le}
use Rattle.std.proofs.lemmas.List.{length-map}
use Rattle.std.proofs.lemmas.Map.Steps.{length-le_from_distinct_below}
use Rattle.alg_model.specs.Numbers.{max_label_number}
use Rattle.alg_model.specs.Bounds.{greatest_number}
use Rattle.alg_model.specs.Carriers.{distinct}
use Rattle.alg_model.specs.Laws.{at_most_more, greatest_is_bounded}
use Rattle.net_graph.specs.Limits.{most_nodes, max_row_number}
use Rattle.net_graph.specs.Nets.{PureArc, PureNet, IsNet, is_arc_between}
use Rattle.net_graph.specs.NetLaws.{few_nodes, either_false}
use Rattle.net_graph.specs.Routes.{PureRoute}
use Rattle.net_graph.specs.Tables.{PureRow, IsRouteOf, AreRowsFrom, IsChoice, Stable, route_at}
use Rattle.node_core.specs.Machine.{Machine, Drained}
use Rattle.path_vector.specs.Node.{PvState, PureUpdate, may_be_of, greatest_on, dest_rows}
use Rattle.path_vector.specs.Coherent.{heard_of, last_said, IsCoherent, AreRowsOf, AreNodesOf}
use Rattle.path_vector.specs.Items.{from_not}
use Rattle.path_vector.specs.Choosing.{arc_is_in, found_there, MayBeOf, may_be_parts}
use Rattle.path_vector.specs.Words.{heard_of_is, choice_moves}
use Rattle.path_vector.specs.Delivering.{node_is}

-- ---- routes that may be a node's are small

misses : (n : ℕ) (ns : List ℕ) → list_any (λ m. m == n) ns ≡ false → AllByRecursion (λ m. eqb n m ≡ false) ns
misses n [] e = tt
misses n (k ∷ ns) e =
    let both = either_false (k == n) (list_any (λ m. m == n) ns) e in
    let other : (k == n) ≡ false = both.0 in
    (grind (arith, nat_tests), misses n ns both.1)

apart : (ns : List ℕ) → distinct ns ≡ true → IsDistinct eqb ns
unfolding IsDistinct
apart [] e = tt
apart (n ∷ ns) e =
    let both = and_parts (not (list_any (λ m. m == n) ns)) (distinct ns) e in
    (misses n ns (from_not (list_any (λ m. m == n) ns) both.0), apart ns both.1)

below : (k : ℕ) (ns : List ℕ) → list_all (λ n. nat_lt n k) ns ≡ true → (q : ℕ) → list_any (eqb q) ns ≡ true → q < k
below k [] e q f = absurd (cc)
below k (n ∷ ns) e q f = by (λ g h. below k ns g q h) (eqb q n) refl f
  where
    both : (nat_lt n k ≡ true) × (list_all (λ n. nat_lt n k) ns ≡ true)
    both = and_parts (nat_lt n k) (list_all (λ n. nat_lt n k) ns) e

    by : (list_all (λ n. nat_lt n k) ns ≡ true → list_any (eqb q) ns ≡ true → q < k) → (b : Bool) → eqb q n ≡ b → (b || list_any (eqb q) ns) ≡ true → q < k
    by rest true g h =
        let same : q ≡ n = eqb-true q n g in
        let test : nat_lt n k ≡ true = both.0 in
        grind (arith, nat_tests)
    by rest false g h = rest both.1 h

-- a path of different nodes of the network is no longer than their number
pub short_path : (net : PureNet) (j : ℕ) (r : PureRoute) → MayBeOf net j r → length r.path ≤ length net.nodes
short_path net j r h = length-le_from_distinct_below r.path (length net.nodes) (apart r.path h.apart) (below (length net.nodes) r.path h.inside)

up_to : (a b c : ℕ) → a ≤ b → b ≤ c → a ≤ c
up_to a b c l m = omega arith

row_room : most_nodes * (max_label_number + 1) ≤ max_row_number
row_room = omega arith

-- a route that may be a node's is one of the network's
pub is_route : (net : PureNet) (j : ℕ) (r : PureRoute) → IsNet net → may_be_of net j r ≡ true → IsRouteOf net r
is_route net j r n e =
    let h = may_be_parts net j r e in
    let short = short_path net j r h in
    let room = n.node_room in
    let few = few_nodes net.alg.edition in
    let path : length r.path ≤ most_nodes = omega arith in
    let small = greatest_is_bounded net.alg.edition in
    let step : greatest_number net.alg.edition + 1 ≤ max_label_number + 1 = omega arith in
    let bound : greatest_on net r.path ≤ max_row_number = up_to (length r.path * (greatest_number net.alg.edition + 1)) (most_nodes * (max_label_number + 1)) max_row_number (mul-le (length r.path) (greatest_number net.alg.edition + 1) most_nodes (max_label_number + 1) path step) row_room in
    record { value_in = h.value_in; bound = at_most_more (greatest_on net r.path) max_row_number r.value bound h.bound; path = omega (arith, path) }

module _ (net : PureNet) (n : IsNet net) (c : Machine PvState PureUpdate) (k : IsCoherent net c) (dest : ℕ) where
  rows_from : (i : ℕ) (table : List PureRow) → AreRowsOf c dest i table → AreRowsFrom net dest i table
  rows_from i [] are = tt
  rows_from i (row ∷ table) are = (are.0.2, are.0.3, subst (λ o. IfSome o (IsRouteOf net)) (sym are.0.4) (by (are.0.0.rows dest) refl), rows_from (i + 1) table are.1)
    where
      by : (o : Option PureRoute) → are.0.0.rows dest ≡ o → IfSome o (IsRouteOf net)
      by None e = tt
      by (Some r) e = is_route net i r n (k.routes i dest are.0.0 r are.0.1 e).1

  row_there : (i j : ℕ) (table : List PureRow) (s : PvState) → AreRowsOf c dest i table → j < length table → c.node (i + j) ≡ Some s → route_at table j ≡ s.rows dest
  row_there i j [] s are l e = absurd (omega arith)
  row_there i zero (row ∷ table) s are l e =
      let place : i + 0 ≡ i = omega arith in
      let here : c.node i ≡ Some s = subst (λ z. c.node z ≡ Some s) place e in
      let there = are.0.1 in
      let same : are.0.0 ≡ s = cc in
      are.0.4 ∙ ap (λ (z : PvState). z.rows dest) same
  row_there i (suc j) (row ∷ table) s are l e =
      let place : i + suc j ≡ i + 1 + j = omega arith in
      row_there (i + 1) j table s are.1 (omega arith) (subst (λ z. c.node z ≡ Some s) place e)

  module _ (drained : Drained c) where
    -- what was heard on an arc is the speaker's row
    pub heard_is_row : (a : PureArc) (s t : PvState) → slice_get net.arcs a.id ≡ Some a → c.node a.tail ≡ Some s → c.node a.head ≡ Some t → s.heard a.id dest ≡ t.rows dest
    heard_is_row a s t stands e f = ap (last_said dest (s.heard a.id dest)) (sym (drained a.id)) ∙ k.reported a s t dest stands e f

    -- a table of the rows is stable
    pub quiet_is_stable : dest < length net.dests → (table : List PureRow) → AreRowsOf c dest 0 table → length table ≡ length net.nodes → Stable net dest table
    quiet_is_stable within table are count = record {
      table_of = record { rows = rows_from 0 table are; count = count };
      choices = choices;
    }
      where
        at : (i : ℕ) (s : PvState) → i < length net.nodes → c.node i ≡ Some s → route_at table i ≡ s.rows dest
        at i s l e =
            let place : i ≡ 0 + i = omega arith in
            row_there 0 i table s are (omega (arith, count)) (subst (λ z. c.node z ≡ Some s) place e)

        alike : (i : ℕ) (s : PvState) → c.node i ≡ Some s → (j : ℕ) (a : PureArc) → find (is_arc_between i j) net.arcs ≡ Some a → heard_of s dest j ≡ route_at table j
        alike i s e j a f =
            let there = found_there net i j a n f in
            let is = arc_is_in net a n there.item in
            let is_s = node_is net c k i s e in
            let below : j < length net.nodes = let h = there.head in let l = is.head_in in omega arith in
            let t = k.nodes j below in
            let tail : c.node a.tail ≡ Some s = subst (λ z. c.node z ≡ Some s) (sym there.tail) e in
            let head : c.node a.head ≡ Some t.0 = subst (λ z. c.node z ≡ Some t.0) (sym there.head) t.1.0 in
            let heard : heard_of s dest j ≡ s.heard a.id dest = heard_of_is net s i dest j is_s.0 is_s.1 ∙ ap (option_and_then (λ (b : PureArc). s.heard b.id dest)) f in
            heard ∙ (heard_is_row a s t.0 there.stands tail head ∙ sym (at j t.0 below t.1.0))

        choices : (i : ℕ) → i < length net.nodes → IsChoice net dest (route_at table) i (route_at table i)
        choices i l =
            let s = k.nodes i l in
            subst (λ o. IsChoice net dest (route_at table) i o) (sym (at i s.0 l s.1.0))
            (choice_moves net dest i (heard_of s.0 dest) (route_at table) (alike i s.0 s.1.0) (s.0.rows dest) (k.chosen i dest s.0 s.1.0 within))

  -- the rows that are read from the nodes in order are such a table
  pub dest_rows_are : (i : ℕ) (states : List PvState) → AreNodesOf c i states → AreRowsOf c dest i (dest_rows states dest)
  dest_rows_are i [] are = tt
  dest_rows_are i (s ∷ states) are = ((s, are.0, (node_is net c k i s are.0).1, refl, refl), dest_rows_are (i + 1) states are.1)

-- and so they are stable
pub quiet_rows_are_stable : (net : PureNet) (c : Machine PvState PureUpdate) (dest : ℕ) (states : List PvState) → IsNet net → IsCoherent net c → Drained c → dest < length net.dests
    → AreNodesOf c 0 states → length states ≡ length net.nodes → Stable net dest (dest_rows states dest)
quiet_rows_are_stable net c dest states n k drained within are count =
    quiet_is_stable net n c k dest drained within (dest_rows states dest) (dest_rows_are net n c k dest 0 states are) (length-map states (λ (s : PvState). record { node = s.number; dest = dest; route = s.rows dest }) ∙ count)
