-- A journal that merges the logs of all nodes is a merge of their histories, and in order. Lemmas, so that proofs of
-- other crates may cite them.
use Rattle.std.proofs.Common.{◌≡◌, ◌≢◌, ℕ, zero, suc, ◌+◌, ◌<◌, ◌≤◌, Bool, true, false, cond, List, [], ◌∷◌, Some, inl, inr, ltb, length, map, slice_get, subst, refl, sym, ◌∙◌, ap, ap₂, arith}
use Rattle.std.proofs.lemmas.Bool.{ltb-true, ltb-false}
use Rattle.std.proofs.lemmas.Option.{same_Some}
use Rattle.std.proofs.lemmas.List.{length-append, length-map}
use Rattle.std.proofs.lemmas.List.Elements.{All-from_recursion, recursion_from_All}
use Rattle.std.proofs.lemmas.List.Sorted.{length_permutation, All-permutation}
use Rattle.std.specs.Prelude.{◌==◌, filter}
use Rattle.std.specs.Option.{option_map_or}
use Rattle.std.specs.List.{AllByRecursion, range_with_len}
use Rattle.meta_base.specs.declared.ids.Delivery.{Delivery}
use Rattle.net_graph.specs.Nets.{PureNet}
use Rattle.node_core.specs.Kinds.{Kind, listener}
use Rattle.node_core.specs.Machine.{ComesBefore, Ordered}
use Rattle.node_core.specs.MachineLaws.{all_join, all_mapped, listens_within}
use Rattle.journal_merge.specs.declared.log.NodeLog.{NodeLog}
use Rattle.journal_merge.specs.Merging.{tagged_with, tagged_entries, entries_of, ComesFirst, Ascends, ClocksAscend, AreOfDifferentNodes, IsMerged}
use Rattle.journal_merge.specs.MergeLaws.{each_log, no_log}
use Rattle.woven_laws.specs.Histories.{Taken, entry_of, IsTimed}
use Rattle.woven_laws.specs.Woven.{hears, IsMergeOf}
use Rattle.woven_laws.specs.Counts.{total}
use Rattle.woven_laws.specs.CountLaws.{total_same}

-- the entry's arc is one that its node listens on
abbrev Listens : PureNet → ℕ × Delivery → Type 0
Listens net t = listener net t.1.arc.0 ≡ Some t.0

abbrev entry : ℕ × Delivery → Delivery
entry t = t.1

module _ {M : Type 0} where
  -- the log of node i
  abbrev pub log_of : (ℕ → List (Taken M)) → ℕ → NodeLog
  log_of history i = record { node = record { 0 = i }; entries = map entry_of (history i) }

  -- the logs of the first n nodes, in order
  abbrev pub logs_of : (ℕ → List (Taken M)) → ℕ → List NodeLog
  logs_of history n = map (log_of history) (range_with_len 0 n)

module _ {S M : Type 0} (k : Kind S M) where
  -- the clocks of a history ascend, and are above the one that it begins at
  pub timed_ascends : (t : ℕ) (history : List (Taken M)) → IsTimed k t history → ClocksAscend (map entry_of history) × AllByRecursion (λ (e : Delivery). t < e.clock) (map entry_of history)
  timed_ascends t [] timed = (tt, tt)
  timed_ascends t (h ∷ history) timed =
      let rest = timed_ascends h.clock history timed.1 in
      let is = timed.0 in
      let above : t < h.clock = omega (arith, is) in
      ((rest.1, rest.0), (above, all_mapped (λ (e : Delivery). h.clock < e.clock) (λ (e : Delivery). t < e.clock) (λ e low. omega (arith, above, low)) (map entry_of history) rest.1))

-- a sum begins with its first part
total_front : (n : ℕ) (f : ℕ → ℕ) → total (suc n) f ≡ f 0 + total n (λ i. f (i + 1))
total_front zero f = omega arith
total_front (suc n) f =
    let r = total_front n f in
    let last : f (suc n) ≡ f (n + 1) = ap f (omega arith) in
    omega (arith, r, last)

module _ {M : Type 0} (history : ℕ → List (Taken M)) where
  later_nodes : (a b n : ℕ) → a < b → AllByRecursion (λ (other : NodeLog). other.node.0 ≢ a) (map (log_of history) (range_with_len b n))
  later_nodes a b zero low = tt
  later_nodes a b (suc n) low = ((λ same. absurd (omega (arith, low, same))), later_nodes a (b + 1) n (omega (arith, low)))

  -- such logs are of different nodes, and their clocks ascend where those of the histories do
  different_from : (a n : ℕ) → AreOfDifferentNodes (map (log_of history) (range_with_len a n))
  different_from a zero = tt
  different_from a (suc n) = (later_nodes a (a + 1) n (omega arith), different_from (a + 1) n)

  pub logs_differ : (n : ℕ) → AreOfDifferentNodes (logs_of history n)
  logs_differ n = different_from 0 n

  module _ (clocks : (i : ℕ) → ClocksAscend (map entry_of (history i))) where
    clocks_from : (a n : ℕ) → AllByRecursion (λ (log : NodeLog). ClocksAscend log.entries) (map (log_of history) (range_with_len a n))
    clocks_from a zero = tt
    clocks_from a (suc n) = (clocks a, clocks_from (a + 1) n)

    pub logs_clocks : (n : ℕ) → AllByRecursion (λ (log : NodeLog). ClocksAscend log.entries) (logs_of history n)
    logs_clocks n = clocks_from 0 n

  past_nodes : (i a n : ℕ) → a + n ≤ i → AllByRecursion (λ (log : NodeLog). log.node.0 ≢ i) (map (log_of history) (range_with_len a n))
  past_nodes i a zero past = tt
  past_nodes i a (suc n) past = ((λ same. absurd (omega (arith, past, same))), past_nodes i (a + 1) n (omega (arith, past)))

  log_there : (a n i : ℕ) → i < n → slice_get (map (log_of history) (range_with_len a n)) i ≡ Some (log_of history (a + i))
  log_there a zero i within = absurd (omega (arith, within))
  log_there a (suc n) zero within = ap (λ j. Some (log_of history j)) (omega arith)
  log_there a (suc n) (suc i) within =
      let moved : (a + 1) + i ≡ a + suc i = omega arith in
      log_there (a + 1) n i (omega (arith, within)) ∙ ap (λ j. Some (log_of history j)) moved

  -- how many entries there are
  entry_count : (a n : ℕ) → length (tagged_entries (map (log_of history) (range_with_len a n))) ≡ total n (λ i. length (history (a + i)))
  entry_count a zero = refl
  entry_count a (suc n) =
      let es = map entry_of (history a) in
      let rest = tagged_entries (map (log_of history) (range_with_len (a + 1) n)) in
      let joined = length-append (tagged_with a es) rest in
      let tags = length-map {B = ℕ × Delivery} es (λ (e : Delivery). (a, e)) in
      let entries = length-map (history a) entry_of in
      let after = entry_count (a + 1) n in
      let front = total_front n (λ i. length (history (a + i))) in
      let here : length (history (a + 0)) ≡ length (history a) = ap (λ j. length (history j)) (omega arith) in
      let same = total_same n (λ i. length (history ((a + 1) + i))) (λ i. length (history (a + (i + 1)))) (λ i _. ap (λ j. length (history j)) (omega arith)) in
      omega (arith, joined, tags, entries, after, front, here, same)

module _ (net : PureNet) where
  -- among entries whose nodes listen on their arcs, those of a node are what it hears
  heard_are : (i : ℕ) (ts : List (ℕ × Delivery)) → AllByRecursion (Listens net) ts → filter (hears net i) (map entry ts) ≡ entries_of i ts
  heard_are i [] all = refl
  heard_are i (t ∷ ts) all =
      let is : hears net i t.1 ≡ (t.0 == i) = ap (λ o. option_map_or (λ j. j == i) o false) all.0 in
      rw is (by (t.0 == i) (heard_are i ts all.1))
    where
      by : (b : Bool) → filter (hears net i) (map entry ts) ≡ entries_of i ts → cond b (t.1 ∷ filter (hears net i) (map entry ts)) (filter (hears net i) (map entry ts)) ≡ map entry (cond b (t ∷ filter (λ (u : ℕ × Delivery). u.0 == i) ts) (filter (λ (u : ℕ × Delivery). u.0 == i) ts))
      by true r = ap (λ l. t.1 ∷ l) r
      by false r = r

  within_arcs : (ts : List (ℕ × Delivery)) → AllByRecursion (Listens net) ts → AllByRecursion (λ (e : Delivery). e.arc.0 < length net.arcs) (map entry ts)
  within_arcs [] all = tt
  within_arcs (t ∷ ts) all = (listens_within net t.1.arc.0 t.0 all.0, within_arcs ts all.1)

  comes_before : (t u : ℕ × Delivery) → Listens net t → Listens net u → ComesFirst t u → ComesBefore net t.1 u.1
  comes_before t u first second (inl low) = inl low
  comes_before t u first second (inr tie) = inr (tie.0, (t.0, u.0, first, second, tie.1))

  in_order : (ts : List (ℕ × Delivery)) → AllByRecursion (Listens net) ts → Ascends ts → Ordered net (map entry ts)
  in_order [] all up = tt
  in_order (t ∷ ts) all up = (after ts all.1 up.0, in_order ts all.1 up.1)
    where
      after : (us : List (ℕ × Delivery)) → AllByRecursion (Listens net) us → AllByRecursion (ComesFirst t) us → AllByRecursion (ComesBefore net t.1) (map entry us)
      after [] each low = tt
      after (u ∷ us) each low = (comes_before t u all.0 each.0 low.0, after us each.1 low.1)

  module _ {M : Type 0} (history : ℕ → List (Taken M)) (heard : (i : ℕ) → AllByRecursion (λ (h : Taken M). listener net h.arc ≡ Some i) (history i)) where
    log_listens : (i : ℕ) (taken : List (Taken M)) → AllByRecursion (λ (h : Taken M). listener net h.arc ≡ Some i) taken → AllByRecursion (Listens net) (tagged_with i (map entry_of taken))
    log_listens i [] all = tt
    log_listens i (h ∷ taken) all = (all.0, log_listens i taken all.1)

    logs_listen : (a n : ℕ) → AllByRecursion (Listens net) (tagged_entries (map (log_of history) (range_with_len a n)))
    logs_listen a zero = tt
    logs_listen a (suc n) = all_join (Listens net) (tagged_with a (map entry_of (history a))) (tagged_entries (map (log_of history) (range_with_len (a + 1) n))) (log_listens a (history a) (heard a)) (logs_listen (a + 1) n)

    module _ (n : ℕ) (journal : List Delivery) (merged : IsMerged (logs_of history n) journal) where
      tagged_listen : AllByRecursion (Listens net) merged.tagged
      tagged_listen =
          let logs = tagged_entries (logs_of history n) in
          recursion_from_All (Listens net) merged.tagged (All-permutation (Listens net) logs merged.tagged merged.permuted (All-from_recursion (Listens net) logs (logs_listen 0 n)))

      -- the journal is in order
      ordered_from : Ordered net journal
      ordered_from = subst (Ordered net) merged.journal_is (in_order merged.tagged tagged_listen merged.ascends)

      -- and it merges what they took
      merges_from : ((i : ℕ) → n ≤ i → history i ≡ []) → ((i : ℕ) → ClocksAscend (map entry_of (history i))) → IsMergeOf net history journal
      merges_from past clocks =
          record {
            on_arcs = subst (AllByRecursion (λ (e : Delivery). e.arc.0 < length net.arcs)) merged.journal_is (within_arcs merged.tagged tagged_listen);
            each = λ i. subst (λ (l : List Delivery). filter (hears net i) l ≡ map entry_of (history i)) merged.journal_is (heard_are i merged.tagged tagged_listen ∙ by i (ltb i n) refl);
          }
        where
          by : (i : ℕ) (b : Bool) → ltb i n ≡ b → entries_of i merged.tagged ≡ map entry_of (history i)
          by i true within =
              let there : slice_get (logs_of history n) i ≡ Some (log_of history i) = log_there history 0 n i (ltb-true i n within) ∙ ap (λ j. Some (log_of history j)) (omega arith) in
              each_log (logs_of history n) (logs_differ history n) (logs_clocks history clocks n) journal merged i (log_of history i) there
          by i false beyond =
              let far : n ≤ i = ltb-false i n beyond in
              no_log (logs_of history n) journal merged i (past_nodes history i 0 n (omega (arith, far))) ∙ ap (map entry_of) (sym (past i far))

from_places : {X : Type 0} (f : ℕ → X) (a n : ℕ) (xs : List X) → length xs ≡ n → ((i : ℕ) → i < n → slice_get xs i ≡ Some (f (a + i))) → xs ≡ map f (range_with_len a n)
from_places f a zero [] long each = refl
from_places f a zero (x ∷ xs) long each = absurd (omega (arith, long))
from_places f a (suc n) [] long each = absurd (omega (arith, long))
from_places f a (suc n) (x ∷ xs) long each =
    let first : x ≡ f a = same_Some _ _ (each 0 (omega arith)) ∙ ap f (omega arith) in
    let rest : xs ≡ map f (range_with_len (a + 1) n) = from_places f (a + 1) n xs (omega (arith, long)) (λ i within. each (suc i) (omega (arith, within)) ∙ ap (λ j. Some (f j)) (omega arith)) in
    ap₂ (λ h t. h ∷ t) first rest

module _ {M : Type 0} (history : ℕ → List (Taken M)) (n : ℕ) (logs : List NodeLog) where
  -- logs that stand at the numbers of their nodes
  pub logs_from : length logs ≡ n → ((i : ℕ) → i < n → slice_get logs i ≡ Some (log_of history i)) → logs ≡ logs_of history n
  logs_from long each = from_places (log_of history) 0 n logs long (λ i within. each i within ∙ ap (λ j. Some (log_of history j)) (omega arith))

  -- they can be merged
  pub logs_mergeable : logs ≡ logs_of history n → ((i : ℕ) → ClocksAscend (map entry_of (history i))) → AreOfDifferentNodes logs × AllByRecursion (λ (log : NodeLog). ClocksAscend log.entries) logs
  logs_mergeable are clocks = (subst AreOfDifferentNodes (sym are) (logs_differ history n), subst (AllByRecursion (λ (log : NodeLog). ClocksAscend log.entries)) (sym are) (logs_clocks history clocks n))

module _ {M : Type 0} (net : PureNet) (history : ℕ → List (Taken M)) (n : ℕ) (logs : List NodeLog) (journal : List Delivery) (are : logs ≡ logs_of history n) where
  -- what merges the logs of all nodes that took anything merges their histories, and is in order
  pub merged_is : ((i : ℕ) → n ≤ i → history i ≡ []) → ((i : ℕ) → AllByRecursion (λ (h : Taken M). listener net h.arc ≡ Some i) (history i)) → ((i : ℕ) → ClocksAscend (map entry_of (history i))) → IsMerged logs journal → IsMergeOf net history journal × Ordered net journal
  merged_is past heard clocks merged =
      let m = subst (λ (l : List NodeLog). IsMerged l journal) are merged in
      (merges_from net history heard n journal m past clocks, ordered_from net history heard n journal m)

  -- it has as many entries as the nodes took messages
  pub merged_count : IsMerged logs journal → length journal ≡ total n (λ i. length (history i))
  merged_count merged =
      let m = subst (λ (l : List NodeLog). IsMerged l journal) are merged in
      let mapped = length-map m.tagged entry in
      let is = ap length m.journal_is in
      let moved = length_permutation (tagged_entries (logs_of history n)) m.tagged m.permuted in
      let counted = entry_count history 0 n in
      let same = total_same n (λ i. length (history (0 + i))) (λ i. length (history i)) (λ i _. ap (λ j. length (history j)) (omega arith)) in
      omega (arith, mapped, is, moved, counted, same)
