-- The block, as contracts see it.
use Rattle.std.proofs.Common.{◌≡◌, ℕ, ◌+◌, ◌<◌, ◌≤◌, ◌==◌, zero, suc, Bool, true, false, List, [], ◌∷◌, ◌++◌, Option, Some, None, length, map, max, drop, get_or, cond, slice_get, refl, sym, ap, ◌∙◌, subst, arith}
use Rattle.std.specs.Prelude.{option_and_then}
use Rattle.std.proofs.lemmas.Bool.{eqb-true}
use Rattle.std.proofs.lemmas.Bool.Decides.{nat_tests}
use Rattle.std.proofs.lemmas.List.{append-nil, map-append}
use Rattle.std.specs.List.{AllByRecursion}
use Rattle.journal_merge.specs.declared.entry.NodeDelivery.{NodeDelivery}
use Rattle.journal_merge.specs.Timing.{tagged_of}
use Rattle.node_core.specs.MachineLaws.{all_join}
use Rattle.journal_merge.specs.Merging.{entries_of}
use Rattle.journal_merge.specs.MergeLaws.{entries_join}
use Rattle.std.proofs.Math.ListN.{set}
use mathlib.Core.Path.{fun_ext}
use Rattle.meta_base.specs.declared.ids.Delivery.{Delivery}
use Rattle.alg_model.specs.Expressions.{PureValue}
use Rattle.net_graph.specs.Nets.{PureNet}
use Rattle.net_graph.specs.Routes.{PureRoute}
use Rattle.node_core.specs.Machine.{Machine, changed_at, front_clock}
use Rattle.node_core.specs.declared.node.TheConstants.{MAX_CLOCK}
use Rattle.path_vector.specs.Known.{entry_of}
use Rattle.path_vector.specs.Node.{PureUpdate, PvState, path_vector}
use Rattle.woven_laws.specs.Delivered.{HasDelivered}
use Rattle.vector_block.specs.Blocks.{IsBlock, PureBlock, at_place, block_machine, log_of, machine_of, store_of, waiting}
use Rattle.vector_block.specs.Stores.{pure_store, said_by, update_of}
use Rattle.vector_block.specs.declared.report.Column.{Column}
use Rattle.vector_block.specs.declared.report.Report.{Report}
use Rattle.vector_block.specs.declared.report.ReportId.{ReportId}
use Rattle.vector_block.specs.declared.store.Store.{Store}
use Rattle.alg_model.specs.Expressions.{Expression, PureLabel}
use Rattle.arc_labels.specs.declared.neighbours.Neighbour.{Neighbour}
use Rattle.net_graph.specs.Nets.{PureArc}
use Rattle.vector_block.specs.declared.look.Hearing.{Hearing}
use Rattle.vector_block.proofs.Delivering.{CanDeliver, IsRechosen, clock_is, has_delivered, out, same_waits}

module _ (said : Option ReportId → Option PureRoute) (nothing : said None ≡ None) where
  entry_said : (entries : List (Option ReportId)) (k : ℕ) → entry_of (map said entries) k ≡ said (entry_of entries k)
  entry_said [] k = sym nothing
  entry_said (x ∷ entries) zero = refl
  entry_said (x ∷ entries) (suc k) = entry_said entries k

  at_place_said : (entries : Column → List (Option ReportId)) (columns : List Column) (k dest : ℕ) → at_place (map (λ c. map said (entries c)) columns) k dest ≡ option_and_then (λ c. said (entry_of (entries c) k)) (slice_get columns dest)
  at_place_said entries [] k dest = refl
  at_place_said entries (c ∷ columns) k zero = entry_said (entries c) k
  at_place_said entries (c ∷ columns) k (suc dest) = at_place_said entries columns k dest

module _ {S : Type 0} (value : S → PureValue) (net : PureNet) (s : Store S) (clocks : List ℕ) (log : List (ℕ × Delivery)) (front passed : ℕ) where
  -- the block of these, as contracts see it
  abbrev pub pure_block : PureBlock
  pure_block = record {
    net = net;
    reports = map (λ (r : Report S). (r.node.0, update_of value s.paths r)) s.reports.items;
    heard = map (λ (c : Column). map (said_by value s.paths s.reports.items) c.heard.items) s.columns.items;
    rows = map (λ (c : Column). map (said_by value s.paths s.reports.items) c.rows.items) s.columns.items;
    clocks = clocks;
    log = log;
    front = front;
    passed = passed;
  }

  pub store_view : store_of pure_block ≡ pure_store value s
  store_view =
      let said = said_by value s.paths s.reports.items in
      let heard : at_place pure_block.heard ≡ (pure_store value s).heard = fun_ext (λ k. fun_ext (λ d. at_place_said said refl (λ (c : Column). c.heard.items) s.columns.items k d)) in
      let rows : at_place pure_block.rows ≡ (pure_store value s).rows = fun_ext (λ k. fun_ext (λ d. at_place_said said refl (λ (c : Column). c.rows.items) s.columns.items k d)) in
      λ x. record { reports = pure_block.reports; heard = heard x; rows = rows x }

  pub machine_view : machine_of pure_block ≡ block_machine net (pure_store value s) clocks front passed
  machine_view = ap (λ t. block_machine net t clocks front passed) store_view

  -- no clock that the next delivery gives is above the greatest
  pub early_view : (v : PureBlock) → pure_block ≡ v → ((a t : ℕ) → front_clock path_vector v.net (machine_of v) a ≡ Some t → t ≤ MAX_CLOCK)
      → (a t : ℕ) → front_clock path_vector net (block_machine net (pure_store value s) clocks front passed) a ≡ Some t → t ≤ MAX_CLOCK
  early_view v is early =
      subst (λ (m : Machine PvState PureUpdate). (a t : ℕ) → front_clock path_vector net m a ≡ Some t → t ≤ MAX_CLOCK) machine_view
      (subst (λ (z : PureBlock). (a t : ℕ) → front_clock path_vector z.net (machine_of z) a ≡ Some t → t ≤ MAX_CLOCK) (sym is) early)

-- the node that took a delivery logged it
pub logged : (log : List (ℕ × Delivery)) (i : ℕ) (e : Delivery) (j : ℕ) → entries_of j (log ++ (i, e) ∷ []) ≡ changed_at (λ k. entries_of k log) i (entries_of i log ++ e ∷ []) j
logged log i e j = entries_join j log ((i, e) ∷ []) ∙ by (i == j) refl
  where
    by : (b : Bool) → (i == j) ≡ b → entries_of j log ++ map (λ (t : ℕ × Delivery). t.1) (cond b ((i, e) ∷ []) []) ≡ cond (j == i) (entries_of i log ++ e ∷ []) (entries_of j log)
    by true is =
        let yes : (j == i) ≡ true = grind (arith, nat_tests) in
        rw yes (ap (λ k. entries_of k log ++ e ∷ []) (sym (eqb-true i j is)))
    by false is =
        let no : (j == i) ≡ false = grind (arith, nat_tests) in
        rw no (append-nil (entries_of j log))

-- one delivery more
pub log_more : (log later : List NodeDelivery) (e : NodeDelivery) → later ≡ log ++ e ∷ [] → map tagged_of later ≡ map tagged_of log ++ tagged_of e ∷ []
log_more log later e is = ap (map tagged_of) is ∙ map-append tagged_of log (e ∷ [])

pub logged_one : (log later : List NodeDelivery) (e : NodeDelivery) (n : ℕ) → later ≡ log ++ e ∷ [] → (tagged_of e).0 < n → AllByRecursion (λ (t : ℕ × Delivery). t.0 < n) (map tagged_of log)
    → AllByRecursion (λ (t : ℕ × Delivery). t.0 < n) (map tagged_of later)
logged_one log later e n is low all =
    subst (AllByRecursion (λ (t : ℕ × Delivery). t.0 < n)) (sym (log_more log later e is))
    (all_join (λ (t : ℕ × Delivery). t.0 < n) (map tagged_of log) (tagged_of e ∷ []) all (low, tt))

-- the clock that the delivery gives isn't above the greatest
pub is_early : {L S : Type 0} {stands_for : L → PureLabel → Type 0} {is_sig : S → Type 0} (value : S → PureValue) {expression : Expression} {net : PureNet} {listeners speakers : List (List (Neighbour L))} {store : Store S}
    {clocks : List ℕ} {log : List (ℕ × Delivery)} {front passed : ℕ} → IsBlock stands_for is_sig value expression net listeners speakers store clocks log front passed
    → (v : PureBlock) → pure_block value net store clocks log front passed ≡ v → ((a t : ℕ) → front_clock path_vector v.net (machine_of v) a ≡ Some t → t ≤ MAX_CLOCK)
    → (later more : ℕ) → waiting net more (drop later (pure_store value store).reports) ≡ waiting net passed (drop front (pure_store value store).reports)
    → {a : PureArc} {h : Hearing} (d : CanDeliver net (pure_store value store) clocks later more a h) → max (get_or clocks a.tail 0) d.is_next.update.stamp + 1 ≤ MAX_CLOCK
is_early value {net} {store} {clocks} {log} {front} {passed} b v is early later more same {a} d =
    let there = early_view value net store clocks log front passed v is early in
    let moved = subst (λ (m : Machine PvState PureUpdate). (a t : ℕ) → front_clock path_vector net m a ≡ Some t → t ≤ MAX_CLOCK) (sym (same_waits net (pure_store value store) clocks front passed later more same)) there in
    moved a.id (max (get_or clocks a.tail 0) d.is_next.update.stamp + 1) (clock_is d)

-- the delivery, by the blocks before and after it
pub delivery_view : {S : Type 0} (value : S → PureValue) (net : PureNet) (old new : Store S) (clocks : List ℕ) (log later_log : List (ℕ × Delivery)) (front passed later more : ℕ) {a : PureArc} {h : Hearing}
    (d : CanDeliver net (pure_store value old) clocks later more a h) → waiting net more (drop later (pure_store value old).reports) ≡ waiting net passed (drop front (pure_store value old).reports)
    → max (get_or clocks a.tail 0) d.is_next.update.stamp + 1 ≤ MAX_CLOCK → IsRechosen d (pure_store value new) → (sent : ℕ) → length (out d) ≡ sent
    → later_log ≡ log ++ (h.node.0, record { clock = h.clock; arc = h.arc }) ∷ []
    → let before = pure_block value net old clocks log front passed in
    let after = pure_block value net new (set clocks h.node.0 h.clock) later_log later (more + 1) in
    HasDelivered path_vector net (machine_of before) (log_of before) sent (machine_of after) (log_of after)
delivery_view value net old new clocks log later_log front passed later more {a} {h} d same early rechosen sent many pushed =
    subst (λ m. HasDelivered path_vector net m (log_of before) sent (machine_of after) (log_of after)) (sym from)
    (subst (λ m. HasDelivered path_vector net (block_machine net (pure_store value old) clocks later more) (log_of before) sent m (log_of after)) (sym to)
    (has_delivered d early (pure_store value new) rechosen (log_of before) (log_of after) sent many each))
  where
    before : PureBlock
    before = pure_block value net old clocks log front passed

    after : PureBlock
    after = pure_block value net new (set clocks h.node.0 h.clock) later_log later (more + 1)

    from : machine_of before ≡ block_machine net (pure_store value old) clocks later more
    from = machine_view value net old clocks log front passed ∙ sym (same_waits net (pure_store value old) clocks front passed later more same)

    to : machine_of after ≡ block_machine net (pure_store value new) (set clocks a.tail h.clock) later (more + 1)
    to = machine_view value net new (set clocks h.node.0 h.clock) later_log later (more + 1) ∙ ap (λ k. block_machine net (pure_store value new) (set clocks k h.clock) later (more + 1)) d.is_next.node

    each : (j : ℕ) → log_of after j ≡ changed_at (log_of before) a.tail (log_of before a.tail ++ record { clock = h.clock; arc = h.arc } ∷ []) j
    each j = ap (entries_of j) pushed ∙ logged log h.node.0 (record { clock = h.clock; arc = h.arc }) j ∙ ap (λ k. changed_at (log_of before) k (log_of before k ++ record { clock = h.clock; arc = h.arc } ∷ []) j) d.is_next.node
