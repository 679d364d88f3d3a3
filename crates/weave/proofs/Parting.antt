-- Nodes and logs that are taken out of their blocks, one by one.
use Rattle.std.proofs.Common.{◌≡◌, ◌≢◌, ℕ, ◌+◌, ◌<◌, ◌≤◌, Bool, true, false, List, [], ◌∷◌, ◌++◌, length, length-append, map, Some, slice_get, refl, sym, ap, ap₂, subst, ◌∙◌, arith}
use Rattle.std.specs.Prelude.{◌==◌}
use Rattle.std.proofs.lemmas.Bool.{eqb-true, eqb-false, false_from_ne_true}
use Rattle.std.proofs.lemmas.List.{map-append, length-map}
use Rattle.std.proofs.lemmas.List.FromFn.{map-range_with_len_more}
use Rattle.meta_base.specs.declared.ids.Delivery.{Delivery}
use Rattle.journal_merge.specs.declared.log.NodeLog.{NodeLog}
use Rattle.weave.specs.Views.{View}
use Rattle.weave.specs.Apart.{AreNodesOf, logs_across}
use Rattle.weave.specs.Gathered.{block_of}
use Rattle.weave.proofs.Deals.{got_before, got_last}

-- a number that is not below another isn't that one
pub above_test : (n i : ℕ) → n + 1 ≤ i → (i == n) ≡ false
above_test n i le = false_from_ne_true (i == n) (λ e. let same : i ≡ n = eqb-true i n e in absurd (omega arith))

module _ {N S M : Type 0} (state : N → S) (count : ℕ) (views : ℕ → View S M) where
  pub nodes_more : (n : ℕ) (nodes more : List N) (node : N) → more ≡ nodes ++ node ∷ [] → AreNodesOf state count views n nodes → (views (block_of count n)).node n ≡ Some (state node) → AreNodesOf state count views (n + 1) more
  nodes_more n nodes more node pushed before here =
      record {
        count_is = ap length pushed ∙ (length-append nodes (node ∷ []) ∙ ap (λ k. k + 1) before.count_is);
        node_is = λ i lt. at i lt (i == n) refl;
      }
    where
      mapped : map state more ≡ map state nodes ++ state node ∷ []
      mapped = ap (map state) pushed ∙ map-append state nodes (node ∷ [])

      long : length (map state nodes) ≡ n
      long = length-map nodes state ∙ before.count_is

      at : (i : ℕ) → i < n + 1 → (t : Bool) → (i == n) ≡ t → slice_get (map state more) i ≡ (views (block_of count i)).node i
      at i lt true t =
          let same : i ≡ n = eqb-true i n t in
          rw (same, mapped, here) (subst (λ k. slice_get (map state nodes ++ state node ∷ []) k ≡ Some (state node)) long (got_last (map state nodes) (state node)))
      at i lt false t =
          let ne : i ≢ n = eqb-false i n t in
          rw (mapped, got_before (map state nodes) (state node) i (λ e. ne (e ∙ long))) (before.node_is i (omega arith))

  pub logs_more : (n : ℕ) (logs more : List NodeLog) (log : List Delivery) → more ≡ logs ++ record { node = record { 0 = n }; entries = log } ∷ [] → logs ≡ logs_across count views n → (views (block_of count n)).log n ≡ log
      → more ≡ logs_across count views (n + 1)
  logs_more n logs more log pushed before here =
      pushed ∙ (ap₂ (λ l k. l ++ record { node = record { 0 = n }; entries = k } ∷ []) before (sym here) ∙ sym (map-range_with_len_more (λ i. record { node = record { 0 = i }; entries = (views (block_of count i)).log i }) 0 n n (omega arith)))
