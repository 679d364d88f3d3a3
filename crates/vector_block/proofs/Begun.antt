-- Nodes that have begun: what the block keeps of them is the machine at the start.
use Rattle.std.proofs.Common.{◌≡◌, ℕ, ◌+◌, ◌<◌, ◌≤◌, ◌==◌, ◌&&◌, ◌||◌, zero, suc, Bool, true, false, List, [], ◌∷◌, ◌++◌, Option, Some, None, length, map, cond, get_or, replicate, slice_get, inl, inr, refl, sym, ap, ◌∙◌, subst, append_assoc, arith}
use Rattle.std.specs.Prelude.{filter, find, is_some, option_map, option_and_then}
use Rattle.std.specs.List.{AllByRecursion, filter_map, list_any, range_with_len}
use Rattle.std.proofs.lemmas.Bool.{and_parts, cases_order, eqb-true}
use Rattle.std.proofs.lemmas.Bool.Decides.{nat_tests}
use Rattle.std.proofs.lemmas.List.{append-nil}
use Rattle.std.proofs.lemmas.Option.{slice_get_past}
use mathlib.Core.Path.{fun_ext}
use Rattle.alg_model.specs.Expressions.{PureValue}
use Rattle.alg_model.specs.Carriers.{In}
use Rattle.net_graph.specs.Nets.{AreDistinct, PureArc, PureNet, PureOrigin, IsNet, arcs_from, arcs_to, is_origin_at, origin_value, origins_of, stands_same}
use Rattle.net_graph.specs.RouteOrder.{better_asymmetric}
use Rattle.net_graph.specs.Routes.{PureRoute, is_better}
use Rattle.net_graph.specs.Tables.{carrier}
use Rattle.node_core.specs.Kinds.{on_arc}
use Rattle.node_core.specs.Machine.{AreUnbegun, Start, begun_messages}
use Rattle.node_core.specs.MachineLaws.{on_arc_join, start_runs}
use Rattle.path_vector.specs.Beginning.{new_nodes_may_begin}
use Rattle.path_vector.specs.Choosing.{arc_is_in, arc_stands, less, own_origin}
use Rattle.path_vector.specs.Coherent.{IsCoherent}
use Rattle.path_vector.specs.Items.{IsItem, found_item, item_at, item_passed, item_there, unfiltered}
use Rattle.path_vector.specs.Lawful.{path_vector_is_lawful}
use Rattle.path_vector.specs.Node.{Begin, PureUpdate, PvState, best_of, choice, new_node, offer_by, own_offers, path_vector, reported_on}
use Rattle.path_vector.specs.Reporting.{id_is_place, reported_once}
use Rattle.path_vector.specs.Starting.{link_is, news_on, start_is_coherent}
use Rattle.path_vector.proofs.PathTests.{and_true}
use Rattle.vector_block.specs.Blocks.{block_machine, for_all, state_in, waiting}
use Rattle.vector_block.specs.Hearings.{heard_at, listens}
use Rattle.vector_block.specs.Starts.{begun_store, empty_store, own_report, with_dests, with_origins}
use Rattle.vector_block.specs.Stores.{PureStore, with_report}
use Rattle.vector_block.proofs.Delivering.{same_machine}

-- ---- what was heard

origins_heard : (os : List PureOrigin) (s : PureStore) → (with_origins s os).heard ≡ s.heard
origins_heard [] s = refl
origins_heard (o ∷ os) s = origins_heard os (with_report s o.node (own_report o))

dests_heard : (net : PureNet) (ds : List ℕ) (s : PureStore) → (with_dests net s ds).heard ≡ s.heard
dests_heard net [] s = refl
dests_heard net (d ∷ ds) s = dests_heard net ds (with_origins s (origins_of net d)) ∙ origins_heard (origins_of net d) s

pub nothing_heard : (net : PureNet) (ds : List ℕ) (i : ℕ) → heard_at net (begun_store net ds) i ≡ (λ a d. None)
nothing_heard net ds i = fun_ext (λ a. fun_ext (λ d. ap (λ f. cond (listens net i a) (f a d) None) (dests_heard net ds empty_store) ∙ none (listens net i a)))
  where
    none : (b : Bool) → cond {A = Option PureRoute} b None None ≡ None
    none true = refl
    none false = refl

-- ---- rows

abbrev own_row : PureNet → ℕ → ℕ → Option PureRoute
own_row net i d = option_map (λ v. record { value = v; path = i ∷ [] }) (origin_value net d i)

abbrev or_else : Option PureRoute → Option PureRoute → Option PureRoute
or_else None x = x
or_else (Some r) x = Some r

-- the row that the last of these origins makes, if one is at the node
abbrev said_last : List PureOrigin → ℕ → ℕ → Option PureRoute → Option PureRoute
said_last [] i d x = x
said_last (o ∷ os) i d x = said_last os i d (cond (i == o.node && d == o.dest) (own_report o).route x)

origins_rows : (os : List PureOrigin) (s : PureStore) (i d : ℕ) → (with_origins s os).rows i d ≡ said_last os i d (s.rows i d)
origins_rows [] s i d = refl
origins_rows (o ∷ os) s i d = origins_rows os (with_report s o.node (own_report o)) i d

and_no : (b c : Bool) → c ≡ false → (b && c) ≡ false
and_no true c e = e
and_no false c e = refl

-- origins of another destination say nothing
said_elsewhere : (os : List PureOrigin) (e i d : ℕ) (x : Option PureRoute) → (e == d) ≡ false → said_last (filter (λ (o : PureOrigin). o.dest == e) os) i d x ≡ x
said_elsewhere [] e i d x apart = refl
said_elsewhere (o ∷ os) e i d x apart = by (said_elsewhere os e i d x apart) (o.dest == e) refl
  where
    by : said_last (filter (λ (o : PureOrigin). o.dest == e) os) i d x ≡ x → (b : Bool) → (o.dest == e) ≡ b → said_last (cond b (o ∷ filter (λ (o : PureOrigin). o.dest == e) os) (filter (λ (o : PureOrigin). o.dest == e) os)) i d x ≡ x
    by rest true f =
        let same : o.dest ≡ e = eqb-true o.dest e f in
        let other : (d == o.dest) ≡ false = grind (arith, nat_tests) in
        ap (λ t. said_last (filter (λ (o : PureOrigin). o.dest == e) os) i d (cond t (own_report o).route x)) (and_no (i == o.node) (d == o.dest) other) ∙ rest
    by rest false f = rest

-- no other origin of the destination is at the node of one
said_once : (o : PureOrigin) (os : List PureOrigin) (x : Option PureRoute) → AllByRecursion (λ q. stands_same o q ≡ false) os → said_last (filter (λ (q : PureOrigin). q.dest == o.dest) os) o.node o.dest x ≡ x
said_once o [] x apart = refl
said_once o (q ∷ os) x apart = by (said_once o os x apart.1) (q.dest == o.dest) refl
  where
    by : said_last (filter (λ (q : PureOrigin). q.dest == o.dest) os) o.node o.dest x ≡ x → (b : Bool) → (q.dest == o.dest) ≡ b → said_last (cond b (q ∷ filter (λ (q : PureOrigin). q.dest == o.dest) os) (filter (λ (q : PureOrigin). q.dest == o.dest) os)) o.node o.dest x ≡ x
    by rest true f =
        let one : o.dest ≡ q.dest = sym (eqb-true q.dest o.dest f) in
        let dest : (o.dest == q.dest) ≡ true = grind (arith, nat_tests) in
        let node : (o.node == q.node) ≡ false = sym (ap (λ b. b && o.node == q.node) dest) ∙ apart.0 in
        ap (λ t. said_last (filter (λ (q : PureOrigin). q.dest == o.dest) os) o.node o.dest (cond (t && o.dest == q.dest) (own_report q).route x)) node ∙ rest
    by rest false f = rest

-- the origins of the destination say the node's own row
said_own : (os : List PureOrigin) (i d : ℕ) (x : Option PureRoute) → AreDistinct stands_same os
    → said_last (filter (λ (o : PureOrigin). o.dest == d) os) i d x ≡ or_else (option_map (λ (o : PureOrigin). record { value = o.value; path = i ∷ [] }) (find (is_origin_at d i) os)) x
said_own [] i d x apart = refl
said_own (o ∷ os) i d x apart = by (said_own os i d x apart.1) (o.dest == d) refl (o.node == i) refl
  where
    own : Option PureOrigin → Option PureRoute
    own f = option_map (λ (o : PureOrigin). record { value = o.value; path = i ∷ [] }) f

    by : said_last (filter (λ (o : PureOrigin). o.dest == d) os) i d x ≡ or_else (own (find (is_origin_at d i) os)) x → (b : Bool) → (o.dest == d) ≡ b → (c : Bool) → (o.node == i) ≡ c
        → said_last (cond b (o ∷ filter (λ (o : PureOrigin). o.dest == d) os) (filter (λ (o : PureOrigin). o.dest == d) os)) i d x ≡ or_else (own (cond (b && c) (Some o) (find (is_origin_at d i) os))) x
    by rest true f true e =
        let dest : o.dest ≡ d = eqb-true o.dest d f in
        let node : o.node ≡ i = eqb-true o.node i e in
        let here : (i == o.node && d == o.dest) ≡ true = rw (sym dest, sym node, self_same o.node, self_same o.dest) refl in
        ap (λ t. said_last (filter (λ (o : PureOrigin). o.dest == d) os) i d (cond t (own_report o).route x)) here
        ∙ (subst (λ k. said_last (filter (λ (q : PureOrigin). q.dest == k) os) i k (own_report o).route ≡ (own_report o).route) dest
        (subst (λ k. said_last (filter (λ (q : PureOrigin). q.dest == o.dest) os) k o.dest (own_report o).route ≡ (own_report o).route) node (said_once o os (own_report o).route apart.0))
        ∙ ap (λ k. Some (record { value = o.value; path = k ∷ [] })) node)
      where
        self_same : (k : ℕ) → (k == k) ≡ true
        self_same k = grind (arith, nat_tests)
    by rest true f false e =
        let other : (i == o.node) ≡ false = grind (arith, nat_tests) in
        ap (λ t. said_last (filter (λ (o : PureOrigin). o.dest == d) os) i d (cond (t && d == o.dest) (own_report o).route x)) other ∙ rest
    by rest false f c e = rest

in_range : (a n d : ℕ) → a ≤ d → d < a + n → list_any (λ e. e == d) (range_with_len a n) ≡ true
in_range a zero d l m = absurd (omega (arith, l, m))
in_range a (suc n) d l m = by (λ k. in_range (a + 1) n d k (omega (arith, m))) (a == d) refl
  where
    by : (a + 1 ≤ d → list_any (λ e. e == d) (range_with_len (a + 1) n) ≡ true) → (b : Bool) → (a == d) ≡ b → (b || list_any (λ e. e == d) (range_with_len (a + 1) n)) ≡ true
    by rest true e = refl
    by rest false e = rest (let k : a + 1 ≤ d = grind (arith, nat_tests) in k)

module _ (net : PureNet) (n : IsNet net) where
  dests_rows : (ds : List ℕ) (s : PureStore) (i d : ℕ) → (with_dests net s ds).rows i d ≡ cond (list_any (λ e. e == d) ds) (or_else (own_row net i d) (s.rows i d)) (s.rows i d)
  dests_rows [] s i d = refl
  dests_rows (e ∷ ds) s i d = dests_rows ds (with_origins s (origins_of net e)) i d ∙ by (e == d) refl
    where
      own_is : (f : Option PureOrigin) → option_map {U = PureRoute} (λ (o : PureOrigin). record { value = o.value; path = i ∷ [] }) f ≡ option_map {U = PureRoute} (λ (v : PureValue). record { value = v; path = i ∷ [] }) (option_map (λ (o : PureOrigin). o.value) f)
      own_is None = refl
      own_is (Some o) = refl

      twice : (o x : Option PureRoute) (b : Bool) → cond b (or_else o (or_else o x)) (or_else o x) ≡ or_else o x
      twice None x true = refl
      twice None x false = refl
      twice (Some r) x true = refl
      twice (Some r) x false = refl

      by : (b : Bool) → (e == d) ≡ b → cond (list_any (λ e. e == d) ds) (or_else (own_row net i d) ((with_origins s (origins_of net e)).rows i d)) ((with_origins s (origins_of net e)).rows i d)
          ≡ cond (b || list_any (λ e. e == d) ds) (or_else (own_row net i d) (s.rows i d)) (s.rows i d)
      by true f =
          let same : e ≡ d = eqb-true e d f in
          let one : (with_origins s (origins_of net e)).rows i d ≡ or_else (own_row net i d) (s.rows i d) =
          origins_rows (origins_of net e) s i d ∙ (ap (λ k. said_last (origins_of net k) i d (s.rows i d)) same ∙ (said_own net.origins i d (s.rows i d) n.origin_apart ∙ ap (λ o. or_else o (s.rows i d)) (own_is (find (is_origin_at d i) net.origins)))) in
          ap (λ r. cond (list_any (λ e. e == d) ds) (or_else (own_row net i d) r) r) one ∙ twice (own_row net i d) (s.rows i d) (list_any (λ e. e == d) ds)
      by false f =
          let none : (with_origins s (origins_of net e)).rows i d ≡ s.rows i d = origins_rows (origins_of net e) s i d ∙ said_elsewhere net.origins e i d (s.rows i d) f in
          ap (λ r. cond (list_any (λ e. e == d) ds) (or_else (own_row net i d) r) r) none

  abbrev all : List ℕ
  all = range_with_len 0 (length net.dests)

  abbrev pub begun : PureStore
  begun = begun_store net all

  rows_are_own : (i d : ℕ) → begun.rows i d ≡ own_row net i d
  rows_are_own i d = dests_rows all empty_store i d ∙ by (origin_value net d i) refl
    where
      by : (o : Option PureValue) → origin_value net d i ≡ o → cond (list_any (λ e. e == d) all) (or_else (own_row net i d) None) None ≡ own_row net i d
      by None e = rw e (none (list_any (λ e. e == d) all))
        where
          none : (b : Bool) → cond {A = Option PureRoute} b None None ≡ None
          none true = refl
          none false = refl
      by (Some v) e =
          let there = in_range 0 (length net.dests) d (omega arith) (let l = (own_origin net d i v n e).0 in omega (arith, l)) in
          rw (e, there) refl

  nothing_offered : (arcs : List PureArc) → filter_map (λ (a : PureArc). option_and_then (offer_by net a) None) arcs ≡ []
  nothing_offered [] = refl
  nothing_offered (a ∷ arcs) = nothing_offered arcs

  choice_is_own : (i d : ℕ) → choice net d i (λ a d. None) ≡ own_row net i d
  choice_is_own i d = ap (λ l. best_of (carrier net) (own_offers net d i ++ l)) (nothing_offered (arcs_from net i)) ∙ by (origin_value net d i) refl
    where
      by : (o : Option PureValue) → origin_value net d i ≡ o → best_of (carrier net) (own_offers net d i ++ []) ≡ own_row net i d
      by None e = rw e refl
      by (Some v) e =
          let r : PureRoute = record { value = v; path = i ∷ [] } in
          let in_carrier : In (carrier net) v = (own_origin net d i v n e).2 in
          let not_better : is_better (carrier net) r r ≡ false = no (is_better (carrier net) r r) (λ t. better_asymmetric (carrier net) r r in_carrier in_carrier (less _ t) (less _ t)) in
          rw (e, not_better) refl
        where
          no : (b : Bool) → (b ≡ true → ⊥) → b ≡ false
          no true f = absurd (f refl)
          no false f = refl

  -- each node's row is its choice
  pub begun_chosen : (i d : ℕ) → begun.rows i d ≡ choice net d i (heard_at net begun i)
  begun_chosen i d = rows_are_own i d ∙ (sym (choice_is_own i d) ∙ ap (choice net d i) (sym (nothing_heard net all i)))

  -- ---- nodes

  pub begun_state : (i : ℕ) → state_in net begun i 0 ≡ (Begin (new_node net i)).0
  begun_state i =
      ap (λ f. with f (begun.rows i)) (nothing_heard net all i) ∙ ap (with (λ a d. None)) (fun_ext (λ d. rows_are_own i d ∙ sym (choice_is_own i d)))
    where
      with : (ℕ → ℕ → Option PureRoute) → (ℕ → Option PureRoute) → PvState
      with heard rows = record { net = net; before = None; number = i; is_begun = true; heard = heard; rows = rows; last = 0 }

  -- ---- what waits

  -- what the node reported, in order
  abbrev by_node : ℕ → List (ℕ × PureUpdate) → List PureUpdate
  by_node j [] = []
  by_node j (p ∷ ps) = cond (j == p.0) (p.1 ∷ []) [] ++ by_node j ps

  by_node_join : (j : ℕ) (ps qs : List (ℕ × PureUpdate)) → by_node j (ps ++ qs) ≡ by_node j ps ++ by_node j qs
  by_node_join j [] qs = refl
  by_node_join j (p ∷ ps) qs = ap (λ l. cond (j == p.0) (p.1 ∷ []) [] ++ l) (by_node_join j ps qs) ∙ sym (append_assoc (cond (j == p.0) (p.1 ∷ []) []) (by_node j ps) (by_node j qs))

  -- an arc carries what its speaker reported
  for_all_on : (a : PureArc) → slice_get net.arcs a.id ≡ Some a → (ps : List (ℕ × PureUpdate)) → on_arc a.id (for_all net ps) ≡ by_node a.head ps
  for_all_on a stands [] = refl
  for_all_on a stands (p ∷ ps) =
      on_arc_join a.id (reported_on (arcs_to net p.0) p.1) (for_all net ps)
      ∙ (ap (λ l. l ++ on_arc a.id (for_all net ps)) one ∙ ap (λ l. cond (a.head == p.0) (p.1 ∷ []) [] ++ l) (for_all_on a stands ps))
    where
      one : on_arc a.id (reported_on (arcs_to net p.0) p.1) ≡ cond (a.head == p.0) (p.1 ∷ []) []
      one = rw (unfiltered (arcs_to net p.0), and_true (a.head == p.0)) at (reported_once net p.0 (λ _. true) p.1 a n stands)

  abbrev own_reports : List PureOrigin → List (ℕ × PureUpdate)
  own_reports os = map (λ (o : PureOrigin). (o.node, own_report o)) os

  origins_reports : (os : List PureOrigin) (s : PureStore) → (with_origins s os).reports ≡ s.reports ++ own_reports os
  origins_reports [] s = sym (append-nil s.reports)
  origins_reports (o ∷ os) s = origins_reports os (with_report s o.node (own_report o)) ∙ append_assoc s.reports ((o.node, own_report o) ∷ []) (own_reports os)

  abbrev one_report : Option PureOrigin → List PureUpdate
  one_report None = []
  one_report (Some o) = own_report o ∷ []

  -- no other origin of the destination is at the node of one
  none_more : (o : PureOrigin) (os : List PureOrigin) → AllByRecursion (λ q. stands_same o q ≡ false) os → by_node o.node (own_reports (filter (λ (q : PureOrigin). q.dest == o.dest) os)) ≡ []
  none_more o [] apart = refl
  none_more o (q ∷ os) apart = by (none_more o os apart.1) (q.dest == o.dest) refl
    where
      by : by_node o.node (own_reports (filter (λ (q : PureOrigin). q.dest == o.dest) os)) ≡ [] → (b : Bool) → (q.dest == o.dest) ≡ b
          → by_node o.node (own_reports (cond b (q ∷ filter (λ (q : PureOrigin). q.dest == o.dest) os) (filter (λ (q : PureOrigin). q.dest == o.dest) os))) ≡ []
      by rest true f =
          let one : o.dest ≡ q.dest = sym (eqb-true q.dest o.dest f) in
          let dest : (o.dest == q.dest) ≡ true = grind (arith, nat_tests) in
          let node : (o.node == q.node) ≡ false = sym (ap (λ b. b && o.node == q.node) dest) ∙ apart.0 in
          ap (λ t. cond t (own_report q ∷ []) [] ++ by_node o.node (own_reports (filter (λ (q : PureOrigin). q.dest == o.dest) os))) node ∙ rest
      by rest false f = rest

  one_each : (os : List PureOrigin) (j d : ℕ) → AreDistinct stands_same os → by_node j (own_reports (filter (λ (o : PureOrigin). o.dest == d) os)) ≡ one_report (find (is_origin_at d j) os)
  one_each [] j d apart = refl
  one_each (o ∷ os) j d apart = by (one_each os j d apart.1) (o.dest == d) refl (o.node == j) refl
    where
      by : by_node j (own_reports (filter (λ (o : PureOrigin). o.dest == d) os)) ≡ one_report (find (is_origin_at d j) os) → (b : Bool) → (o.dest == d) ≡ b → (c : Bool) → (o.node == j) ≡ c
          → by_node j (own_reports (cond b (o ∷ filter (λ (o : PureOrigin). o.dest == d) os) (filter (λ (o : PureOrigin). o.dest == d) os))) ≡ one_report (cond (b && c) (Some o) (find (is_origin_at d j) os))
      by rest true f true e =
          let dest : o.dest ≡ d = eqb-true o.dest d f in
          let node : o.node ≡ j = eqb-true o.node j e in
          let here : (j == o.node) ≡ true = grind (arith, nat_tests) in
          ap (λ t. cond t (own_report o ∷ []) [] ++ by_node j (own_reports (filter (λ (o : PureOrigin). o.dest == d) os))) here
          ∙ ap (λ l. own_report o ∷ l) (subst (λ k. by_node j (own_reports (filter (λ (q : PureOrigin). q.dest == k) os)) ≡ []) dest (subst (λ k. by_node k (own_reports (filter (λ (q : PureOrigin). q.dest == o.dest) os)) ≡ []) node (none_more o os apart.0)))
      by rest true f false e =
          let other : (j == o.node) ≡ false = grind (arith, nat_tests) in
          ap (λ t. cond t (own_report o ∷ []) [] ++ by_node j (own_reports (filter (λ (o : PureOrigin). o.dest == d) os))) other ∙ rest
      by rest false f c e = rest

  -- what a new node says of a destination is its own origin's report
  own_news : (a : PureArc) (d : ℕ) → one_report (find (is_origin_at d a.head) net.origins) ≡ news_on (new_node net a.head) a (d ∷ [])
  own_news a d = by (find (is_origin_at d a.head) net.origins) refl ∙ ap (λ r. news r) (sym (choice_is_own a.head d)) ∙ sym (append-nil (news (choice net d a.head (λ b e. None))))
    where
      news : Option PureRoute → List PureUpdate
      news r = cond (is_some r) (record { dest = d; route = r; stamp = 0 } ∷ []) []

      by : (f : Option PureOrigin) → find (is_origin_at d a.head) net.origins ≡ f → one_report f ≡ news (own_row net a.head d)
      by None e = rw e refl
      by (Some o) e =
          let both = (found_item (is_origin_at d a.head) net.origins o e).1 in
          let parts = and_parts (o.dest == d) (o.node == a.head) both in
          let dest : o.dest ≡ d = eqb-true o.dest d parts.0 in
          let node : o.node ≡ a.head = eqb-true o.node a.head parts.1 in
          rw e (ap (λ k. record { dest = k; route = Some (record { value = o.value; path = o.node ∷ [] }); stamp = 0 } ∷ []) dest
          ∙ ap (λ k. record { dest = d; route = Some (record { value = o.value; path = k ∷ [] }); stamp = 0 } ∷ []) node)

  reports_said : (a : PureArc) (ds : List ℕ) (s : PureStore) → by_node a.head (with_dests net s ds).reports ≡ by_node a.head s.reports ++ news_on (new_node net a.head) a ds
  reports_said a [] s = sym (append-nil (by_node a.head s.reports))
  reports_said a (d ∷ ds) s =
      reports_said a ds (with_origins s (origins_of net d))
      ∙ (ap (λ l. by_node a.head l ++ news_on (new_node net a.head) a ds) (origins_reports (origins_of net d) s)
      ∙ (ap (λ l. l ++ news_on (new_node net a.head) a ds) (by_node_join a.head s.reports (own_reports (origins_of net d)))
      ∙ (ap (λ l. (by_node a.head s.reports ++ l) ++ news_on (new_node net a.head) a ds) (one_each net.origins a.head d n.origin_apart ∙ (own_news a d ∙ append-nil first))
      ∙ append_assoc (by_node a.head s.reports) first (news_on (new_node net a.head) a ds))))
    where
      first : List PureUpdate
      first = cond (is_some (choice net d a.head (λ b e. None))) (record { dest = d; route = choice net d a.head (λ b e. None); stamp = 0 } ∷ []) []

  -- ---- the machine

  abbrev pub new_nodes : List PvState
  new_nodes = map (new_node net) (range_with_len 0 (length net.nodes))

  new_node_at : (i k : ℕ) (from : ℕ) → i < k → slice_get (map (new_node net) (range_with_len from k)) i ≡ Some (new_node net (from + i))
  new_node_at i zero from l = absurd (omega (arith, l))
  new_node_at zero (suc k) from l = let place : from ≡ from + 0 = omega arith in ap (λ z. Some (new_node net z)) place
  new_node_at (suc i) (suc k) from l =
      let place : from + 1 + i ≡ from + suc i = omega arith in
      new_node_at i k (from + 1) (omega (arith, l)) ∙ ap (λ z. Some (new_node net z)) place

  new_node_is : (i : ℕ) → i < length net.nodes → slice_get new_nodes i ≡ Some (new_node net i)
  new_node_is i l = let place : 0 + i ≡ i = omega arith in new_node_at i (length net.nodes) 0 l ∙ ap (λ z. Some (new_node net z)) place

  unbegun_from : (i k : ℕ) → length net.nodes ≡ i + k → AreUnbegun path_vector net i (map (new_node net) (range_with_len i k))
  unbegun_from i zero e = omega (arith, e)
  unbegun_from i (suc k) e = (refl, refl, refl, unbegun_from (i + 1) k (omega (arith, e)))

  pub new_unbegun : AreUnbegun path_vector net 0 new_nodes
  new_unbegun = unbegun_from 0 (length net.nodes) (omega arith)

  waits_at_start : (a : ℕ) → on_arc a (waiting net 0 begun.reports) ≡ on_arc a (begun_messages path_vector new_nodes)
  waits_at_start a = ap (on_arc a) (whole begun.reports) ∙ by (slice_get net.arcs a) refl
    where
      whole : (ps : List (ℕ × PureUpdate)) → waiting net 0 ps ≡ for_all net ps
      whole [] = refl
      whole (p ∷ ps) = refl

      by : (o : Option PureArc) → slice_get net.arcs a ≡ o → on_arc a (for_all net begun.reports) ≡ on_arc a (begun_messages path_vector new_nodes)
      by None e = none_for_all begun.reports ∙ sym ((start_runs path_vector path_vector_is_lawful net n new_nodes new_unbegun).on_arcs a past)
        where
          none_there : (arcs : List PureArc) (u : PureUpdate) → ((b : PureArc) → IsItem b arcs → (b.id == a) ≡ false) → on_arc a (reported_on arcs u) ≡ []
          none_there [] u h = refl
          none_there (b ∷ arcs) u h = ap (λ t. cond t (u ∷ on_arc a (reported_on arcs u)) (on_arc a (reported_on arcs u))) (h b (inl refl)) ∙ none_there arcs u (λ c i. h c (inr i))

          apart : (b : PureArc) → slice_get net.arcs b.id ≡ Some b → (b.id == a) ≡ false
          apart b stands = no (b.id == a) refl
            where
              no : (t : Bool) → (b.id == a) ≡ t → t ≡ false
              no true f = absurd (let same : Some b ≡ None = sym stands ∙ (ap (slice_get net.arcs) (eqb-true b.id a f) ∙ e) in cc)
              no false f = refl

          none_for_all : (ps : List (ℕ × PureUpdate)) → on_arc a (for_all net ps) ≡ []
          none_for_all [] = refl
          none_for_all (p ∷ ps) =
              on_arc_join a (reported_on (arcs_to net p.0) p.1) (for_all net ps)
              ∙ (ap (λ l. l ++ on_arc a (for_all net ps)) (none_there (arcs_to net p.0) p.1 (λ b i. apart b (arc_stands net b n (item_passed (λ (c : PureArc). c.head == p.0) net.arcs b i).0))) ∙ none_for_all ps)

          past : length net.arcs ≤ a
          past = elim (cases_order a (length net.arcs)) [
            | inl same ↦ omega (arith, same)
            | inr (inl below) ↦ absurd (let there = (item_there net.arcs a below).1 in let clash : Some (item_there net.arcs a below).0 ≡ None = sym there ∙ e in cc)
            | inr (inr more) ↦ omega (arith, more)
          ]
      by (Some arc) e =
          let number : arc.id ≡ a = let place = id_is_place 0 a net.arcs arc n.arc_ids e in omega (arith, place) in
          let stands : slice_get net.arcs arc.id ≡ Some arc = ap (slice_get net.arcs) number ∙ e in
          let head = (arc_is_in net arc n (item_at net.arcs a arc e)).head_in in
          let news = link_is net n new_nodes (new_nodes_may_begin net) arc (new_node net arc.head) stands (new_node_is arc.head head) in
          subst (λ k. on_arc k (for_all net begun.reports) ≡ on_arc k (begun_messages path_vector new_nodes)) number
          (for_all_on arc stands begun.reports ∙ (reports_said arc all empty_store ∙ sym news))

  pub begun_machine : (clocks : List ℕ) → clocks ≡ replicate (length net.nodes) 0 → block_machine net begun clocks 0 0 ≡ Start path_vector new_nodes
  begun_machine clocks are = ap (λ cs. block_machine net begun cs 0 0) are ∙ same_machine (Start path_vector new_nodes) (block_machine net begun (replicate (length net.nodes) 0) 0 0) node clock waits_at_start
    where
      zeros_at : (k i : ℕ) → i < k → slice_get {X = ℕ} (replicate k 0) i ≡ Some 0
      zeros_at zero i l = absurd (omega (arith, l))
      zeros_at (suc k) zero l = refl
      zeros_at (suc k) (suc i) l = zeros_at k i (omega (arith, l))

      zeros_count : (k : ℕ) → length {A = ℕ} (replicate k 0) ≡ k
      zeros_count zero = refl
      zeros_count (suc k) = ap suc (zeros_count k)

      none_past : (i : ℕ) → length net.nodes ≤ i → slice_get new_nodes i ≡ None
      none_past i l = (let up = (start_runs path_vector path_vector_is_lawful net n new_nodes new_unbegun).past i l in by (slice_get new_nodes i) up)
        where
          by : (o : Option PvState) → option_map (λ s. (Begin s).0) o ≡ None → o ≡ None
          by None e = refl
          by (Some s) e = absurd (cc)

      node : (i : ℕ) → option_map (state_in net begun i) (slice_get {X = ℕ} (replicate (length net.nodes) 0) i) ≡ option_map (λ s. (Begin s).0) (slice_get new_nodes i)
      node i = elim (cases_order i (length net.nodes)) [
        | inl same ↦ out (omega (arith, same))
        | inr (inl below) ↦ ap (option_map (state_in net begun i)) (zeros_at (length net.nodes) i below) ∙ (ap (λ s. Some s) (begun_state i) ∙ ap (option_map (λ s. (Begin s).0)) (sym (new_node_is i below)))
        | inr (inr more) ↦ out (omega (arith, more))
      ]
        where
          out : length net.nodes ≤ i → option_map (state_in net begun i) (slice_get {X = ℕ} (replicate (length net.nodes) 0) i) ≡ option_map (λ s. (Begin s).0) (slice_get new_nodes i)
          out l = ap (option_map (state_in net begun i)) (slice_get_past {X = ℕ} (replicate (length net.nodes) 0) i (let many = zeros_count (length net.nodes) in omega (arith, many, l))) ∙ ap (option_map (λ s. (Begin s).0)) (sym (none_past i l))

      clock : (i : ℕ) → get_or {A = ℕ} (replicate (length net.nodes) 0) i 0 ≡ 0
      clock i = zeros (length net.nodes) i
        where
          zeros : (k i : ℕ) → get_or {A = ℕ} (replicate k 0) i 0 ≡ 0
          zeros zero i = refl
          zeros (suc k) zero = refl
          zeros (suc k) (suc i) = zeros k i

  pub begun_coherent : (clocks : List ℕ) → clocks ≡ replicate (length net.nodes) 0 → IsCoherent net (block_machine net begun clocks 0 0)
  begun_coherent clocks are = subst (IsCoherent net) (sym (begun_machine clocks are)) (start_is_coherent net n new_nodes (new_nodes_may_begin net))
