-- A run of all nodes in one store, from its start to its end.
use Rattle.std.proofs.Common.{ltb, ◌≡◌, ℕ, zero, suc, ◌+◌, ◌*◌, ◌<◌, ◌≤◌, ◌^◌, Bool, true, false, List, [], ◌∷◌, Option, Some, None, length, slice_get, subst, refl, sym, ap, ◌∙◌, arith}
use Rattle.std.specs.Prelude.{◌==◌}
use Rattle.std.proofs.lemmas.Bool.{ltb-true, ltb-false}
use Rattle.std.proofs.lemmas.List.Sorted.{IsPermutation-trans}
use Rattle.std.specs.List.{AllByRecursion, filter_map, range_with_len}
use Rattle.meta_base.specs.declared.ids.Delivery.{Delivery}
use Rattle.journal_merge.specs.declared.log.NodeLog.{NodeLog}
use Rattle.journal_merge.specs.Merging.{ClocksAscend, IsJournalOf, IsMerged, NodesAscend, tagged_entries}
use Rattle.net_graph.specs.Nets.{PureNet, IsNet}
use Rattle.net_graph.specs.Tables.{PureRow}
use Rattle.node_core.specs.Machine.{Machine, Start}
use Rattle.node_core.specs.MachineLaws.{start_runs}
use Rattle.node_core.specs.OrderLaws.{start_up_to}
use Rattle.node_core.specs.Running.{AreUpTo, IsRunning}
use Rattle.path_vector.specs.Lawful.{path_vector_is_lawful}
use Rattle.path_vector.specs.Node.{PvState, PureUpdate, node_rows, path_vector}
use Rattle.quiet_ledger.specs.declared.totals.Totals.{Totals}
use Rattle.vector_block.specs.Blocks.{PureBlock, log_of, machine_of, states_of}
use Rattle.weave.specs.Going.{HasEnded, HasGone, IsOver, logs_by}
use Rattle.weave.specs.Phases.{IsPhaseEnd}
use Rattle.weave.proofs.Going.{gone_first, phase_ends}
use Rattle.weave.proofs.Round.{begun_link_few}
use Rattle.woven_laws.specs.Counts.{total, waiting_on}
use Rattle.woven_laws.proofs.Counting.{journal_count, woven_count}
use Rattle.woven_laws.proofs.Replays.{replay_woven}
use Rattle.woven_laws.specs.MergedLogs.{timed_ascends}
use Rattle.vector_runs.proofs.Grouped.{grouped}
use Rattle.vector_runs.specs.NodeLaws.{states_are}
use Rattle.vector_runs.specs.Runs.{IsRun, new_nodes}
use Rattle.vector_runs.proofs.Phases.{new_are_unbegun}

-- ---- what is there all along a range is found there, in order

filtered_count : {S : Type 0} (node : ℕ → Option S) (from n : ℕ) → ((i : ℕ) → from ≤ i → i < from + n → (s : S) × (node i ≡ Some s)) → length (filter_map node (range_with_len from n)) ≡ n
filtered_count node from zero there = refl
filtered_count node from (suc n) there =
    let here = there from (omega arith) (omega arith) in
    let rest = filtered_count node (from + 1) n (λ i low high. there i (omega (arith, low)) (omega (arith, high))) in
    rw here.1 (omega (arith, rest))

filtered_at : {S : Type 0} (node : ℕ → Option S) (from n : ℕ) → ((i : ℕ) → from ≤ i → i < from + n → (s : S) × (node i ≡ Some s)) → (k : ℕ) → k < n → slice_get (filter_map node (range_with_len from n)) k ≡ node (from + k)
filtered_at node from zero there k within = absurd (omega (arith, within))
filtered_at node from (suc n) there zero within =
    let here = there from (omega arith) (omega arith) in
    let place : from + 0 ≡ from = omega arith in
    rw here.1 (sym here.1 ∙ sym (ap node place))
filtered_at node from (suc n) there (suc k) within =
    let here = there from (omega arith) (omega arith) in
    let place : (from + 1) + k ≡ from + suc k = omega arith in
    rw here.1 (filtered_at node (from + 1) n (λ i low high. there i (omega (arith, low)) (omega (arith, high))) k (omega (arith, within)) ∙ ap node place)

past_end : {X : Type 0} (xs : List X) (i : ℕ) → length xs ≤ i → slice_get xs i ≡ None
past_end [] i far = refl
past_end (x ∷ xs) zero far = absurd (omega (arith, far))
past_end (x ∷ xs) (suc i) far = past_end xs i (omega (arith, far))

-- ---- the start

most : (n : ℕ) (f : ℕ → ℕ) → ((i : ℕ) → f i ≤ 64) → total n f ≤ n * 64
most zero f h = omega arith
most (suc n) f h = let r = most n f h in let s = h n in omega (arith, r, s)

abbrev pub first_machine : PureNet → Machine PvState PureUpdate
first_machine net = Start path_vector (new_nodes net)

module _ (net : PureNet) (is_net : IsNet net) where
  pub first_runs : IsRunning path_vector net (first_machine net)
  first_runs = start_runs path_vector path_vector_is_lawful net is_net (new_nodes net) (new_are_unbegun net)

  pub first_few : waiting_on net (first_machine net) ≤ 2 ^ 20
  first_few =
      let sum = most (length net.arcs) (λ a. length ((first_machine net).link a)) (λ a. begun_link_few path_vector net path_vector_is_lawful is_net (new_nodes net) (new_are_unbegun net) a) in
      let room = is_net.arc_room in
      omega (arith, sum, room)

pub first_early : (net : PureNet) → AreUpTo path_vector (first_machine net) 0
first_early net = start_up_to path_vector path_vector_is_lawful (new_nodes net)

module _ (net : PureNet) (is_net : IsNet net) (turns : ℕ) where
  -- before any delivery
  pub has_begun : (b : PureBlock) (totals : Totals) → b.net ≡ net → machine_of b ≡ first_machine net → ((i : ℕ) → log_of b i ≡ []) → totals.sent ≡ waiting_on b.net (machine_of b) → totals.taken ≡ 0
      → HasGone path_vector net turns (first_machine net) (machine_of b) (log_of b) totals
  has_begun b totals same machine none sent taken =
      let sent_is : totals.sent ≡ waiting_on net (first_machine net) = sent ∙ (ap (λ n. waiting_on n (machine_of b)) same ∙ ap (waiting_on net) machine) in
      gone_first path_vector net turns (first_machine net) (machine_of b) (log_of b) totals machine (first_runs net is_net) none sent_is taken

  -- ---- the end

  module _ (b : PureBlock) (same : b.net ≡ net) (totals : Totals) (gone : HasGone path_vector net turns (first_machine net) (machine_of b) (log_of b) totals) (over : IsOver turns totals) where
    there : (i : ℕ) → 0 ≤ i → i < 0 + length b.net.nodes → (s : PvState) × ((machine_of b).node i ≡ Some s)
    there i low high = let nodes = ap (λ (n : PureNet). length n.nodes) same in gone.running.there i (omega (arith, high, nodes))

    states_count : length (states_of b) ≡ length net.nodes
    states_count = filtered_count (machine_of b).node 0 (length b.net.nodes) there ∙ ap (λ (n : PureNet). length n.nodes) same

    nodes_are : (i : ℕ) → (machine_of b).node i ≡ slice_get (states_of b) i
    nodes_are i = by (ltb i (length b.net.nodes)) refl
      where
        by : (t : Bool) → ltb i (length b.net.nodes) ≡ t → (machine_of b).node i ≡ slice_get (states_of b) i
        by true t = let within : i < length b.net.nodes = ltb-true i (length b.net.nodes) t in
            sym (filtered_at (machine_of b).node 0 (length b.net.nodes) there i within ∙ ap (machine_of b).node (omega arith))
        by false t =
            let far : length b.net.nodes ≤ i = ltb-false i (length b.net.nodes) t in
            let count = states_count in
            let nodes = ap (λ (n : PureNet). length n.nodes) same in
            gone.running.past i (omega (arith, far, nodes)) ∙ sym (past_end (states_of b) i (omega (arith, far, count, nodes)))

    abbrev logs : List NodeLog
    logs = logs_by (log_of b) (length b.net.nodes)

    has_ended : HasEnded path_vector net turns (first_machine net) (states_of b) logs totals
    has_ended = record {
      end = machine_of b;
      log = log_of b;
      gone = gone;
      nodes_are = nodes_are;
      logs_are = ap (λ (n : PureNet). logs_by (log_of b) (length n.nodes)) same;
      over = over;
    }

    -- its log can be made a journal
    pub nodes_ascend : NodesAscend b.log
    nodes_ascend i = subst ClocksAscend (sym (gone.log_is i)) (timed_ascends path_vector ((first_machine net).clock i) (gone.history i) (gone.woven.timed i)).0

    module _ (within : AllByRecursion (λ (t : ℕ × Delivery). t.0 < length b.net.nodes) b.log) (journal : List Delivery) (is : IsJournalOf b.log journal) where
      merged : IsMerged logs journal
      merged = record {
        tagged = is.tagged;
        journal_is = is.journal_is;
        ascends = is.ascends;
        permuted = IsPermutation-trans (tagged_entries logs) b.log is.tagged (grouped b.log (length b.net.nodes) within) is.permuted;
      }

      phase_end : IsPhaseEnd path_vector net (new_nodes net) turns journal (states_of b) totals (totals.sent == totals.taken)
      phase_end =
          phase_ends path_vector net turns (new_nodes net) (first_runs net is_net) (states_of b) logs totals has_ended
          (λ c d history j w merge ordered. replay_woven path_vector net path_vector_is_lawful j c d history w merge ordered)
          (λ j d e. journal_count path_vector net is_net path_vector_is_lawful (new_nodes net) j d (new_are_unbegun net) e)
          (λ d history w. woven_count path_vector net is_net (first_machine net) d history w)
          journal merged (totals.sent == totals.taken) refl

      -- and with its rows it is a run of one phase
      pub is_run : (rows : List PureRow) → rows ≡ node_rows b.net (states_of b) → IsRun net [] turns [] (record { rows = rows; journal = journal }) (totals.sent == totals.taken)
      is_run rows rows_are =
          let e = phase_end in (
            states_of b,
            record {
              end = e.end;
              phase = e.phase;
              states_are = states_are e.end (states_of b) e.nodes_are;
              count = states_count;
              rows_are = rows_are ∙ ap (λ n. node_rows n (states_of b)) same;
            },
            λ q. refl,
          )
