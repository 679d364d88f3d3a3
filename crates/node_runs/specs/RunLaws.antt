-- The nodes of a machine that runs. Lemmas, so that proofs of other crates may cite them.
use Rattle.std.proofs.Common.{◌≡◌, ℕ, suc, ◌+◌, ◌<◌, ◌≤◌, ◌⊎◌, inl, inr, List, [], ◌∷◌, Bool, true, false, length, Some, None, refl, sym, ap, ◌∙◌, arith}
use Rattle.std.specs.Prelude.{nat_lt, slice_get, get_or}
use Rattle.std.proofs.lemmas.Bool.Decides.{nat_tests}
use Rattle.std.proofs.lemmas.Option.{slice_get_cases, slice_get_past}
use Rattle.meta_base.specs.declared.ids.Delivery.{Delivery}
use Rattle.net_graph.specs.Nets.{PureNet}
use Rattle.node_core.specs.Kinds.{Kind}
use Rattle.node_core.specs.Machine.{Machine}
use Rattle.node_core.specs.Running.{IsRunning}
use Rattle.quiet_ledger.specs.declared.totals.Totals.{Totals}
use Rattle.weave.specs.Phases.{IsPhaseEnd}
use Rattle.node_runs.specs.Runs.{AreBegun, IsPhaseOf}

none_past : {X : Type 0} (xs : List X) (i : ℕ) → slice_get xs i ≡ None → length xs ≤ i
none_past {X} xs i none = by (slice_get_cases xs i).1
  where
    by : ((x : X) × (i < length xs) × (slice_get xs i ≡ Some x) × (get_or xs i x ≡ x)) ⊎ ((length xs ≤ i) × (slice_get xs i ≡ None)) → length xs ≤ i
    by (inl w) = absurd (let there : Some w.0 ≡ None = sym w.2 ∙ none in cc)
    by (inr w) = w.0

module _ {S M : Type 0} (k : Kind S M) (net : PureNet) (c : Machine S M) (states : List S) (running : IsRunning k net c) (at : (i : ℕ) → c.node i ≡ slice_get states i) where
  -- there is one for each of the network
  pub states_count : length states ≡ length net.nodes
  states_count = by (nat_lt (length states) (length net.nodes)) refl
    where
      few : length states ≤ length net.nodes
      few = none_past states (length net.nodes) (sym (at (length net.nodes)) ∙ running.past (length net.nodes) (omega arith))

      by : (b : Bool) → nat_lt (length states) (length net.nodes) ≡ b → length states ≡ length net.nodes
      by true e =
          let l : length states < length net.nodes = grind (arith, nat_tests) in
          let there = running.there (length states) l in
          let past = slice_get_past states (length states) (omega arith) in
          absurd (let none : Some there.0 ≡ None = sym there.1 ∙ at (length states) ∙ past in cc)
      by false e = let f = few in grind (arith, nat_tests)

  begun_from : (i : ℕ) (some : List S) → ((j : ℕ) → slice_get some j ≡ slice_get states (i + j)) → length net.nodes ≡ i + length some → AreBegun k net i some
  begun_from i [] same count = let e = count in omega arith
  begun_from i (s ∷ some) same count =
      let place : i + 0 ≡ i = omega arith in
      let is = running.each i s (at i ∙ sym (same 0 ∙ ap (slice_get states) place)) in
      let more : length net.nodes ≡ i + 1 + length some = (let e = count in omega arith) in (
        is.net_is,
        is.number_is,
        is.begun,
        begun_from (i + 1) some (λ j. let next : i + suc j ≡ i + 1 + j = omega arith in same (suc j) ∙ ap (slice_get states) next) more,
      )

  -- and they are begun
  pub states_begun : AreBegun k net 0 states
  states_begun = begun_from 0 states (λ j. let place : 0 + j ≡ j = omega arith in ap (slice_get states) (sym place)) (let e = states_count in omega arith)

-- so a phase of the workers is one that has these nodes in the end
pub ended_phase : {S M : Type 0} (k : Kind S M) (net : PureNet) (nodes : List S) (turns : ℕ) (journal : List Delivery) (ended : List S) (totals : Totals) (quiet : Bool)
    → (is : IsPhaseEnd k net nodes turns journal ended totals quiet) → IsRunning k net is.end → IsPhaseOf k net nodes turns journal quiet ended
ended_phase k net nodes turns journal ended totals quiet is running =
    record {
      end = is.end;
      phase = is.phase;
      states_are = is.nodes_are;
      count = states_count k net is.end ended running is.nodes_are;
      begun = states_begun k net is.end ended running is.nodes_are;
    }
