-- What waits on the arcs of a generated network at the start: one message on each arc of the first two nodes.
use Rattle.std.proofs.Common.{◌≡◌, ℕ, zero, suc, ◌+◌, ◌<◌, ◌≤◌, Bool, true, false, ◌==◌, cond, List, [], ◌∷◌, ◌++◌, Some, None, length, map, length-append, refl, sym, ap, ◌∙◌, arith}
use Rattle.std.specs.Prelude.{filter, option_and_then}
use Rattle.std.specs.List.{filter_map, range_with_len}
use Rattle.std.proofs.lemmas.Bool.{eqb-true, eqb-false}
use Rattle.std.proofs.lemmas.Bool.Decides.{nat_tests}
use Rattle.std.proofs.lemmas.List.{append-nil}
use Rattle.std.proofs.lemmas.Option.{same_Some}
use Rattle.net_graph.specs.Nets.{PureArc, PureNet, IsNet, arcs_from, arcs_to, origin_value}
use Rattle.node_core.specs.Kinds.{on_arc, speaker}
use Rattle.node_core.specs.Machine.{begun_messages}
use Rattle.node_core.specs.MachineLaws.{on_arc_join, on_arc_none}
use Rattle.path_vector.specs.Node.{PvState, Begin, all_begun_updates, begun_updates, choice, is_news, new_node, offer_by, path_vector}
use Rattle.path_vector.specs.Lawful.{path_vector_is_lawful}
use Rattle.path_vector.specs.Reporting.{reported_at_most_once}
use Rattle.net_gen.specs.Networks.{generated_net}

-- ---- what a new node puts out

-- what was not heard is no offer
no_offers : (net : PureNet) (arcs : List PureArc) → filter_map (λ (a : PureArc). option_and_then (offer_by net a) None) arcs ≡ []
no_offers net [] = refl
no_offers net (a ∷ arcs) = no_offers net arcs

none_pass : (arcs : List PureArc) → filter (λ (a : PureArc). false) arcs ≡ []
none_pass [] = refl
none_pass (a ∷ arcs) = none_pass arcs

no_choice : (net : PureNet) (i dest : ℕ) → origin_value net dest i ≡ None → choice net dest i (λ a d. None) ≡ None
no_choice net i dest e = rw (e, no_offers net (arcs_from net i)) refl

-- nothing of a destination of which it has no origin
says_nothing : (net : PureNet) (i dest : ℕ) → origin_value net dest i ≡ None → begun_updates (new_node net i) dest ≡ []
says_nothing net i dest e = rw (no_choice net i dest e, none_pass (arcs_to net i)) refl

-- and one message of another on an arc
says_once : (net : PureNet) (i dest b : ℕ) → IsNet net → length (on_arc b (begun_updates (new_node net i) dest)) ≤ 1
says_once net i dest b n =
    let row = choice net dest i (λ a d. None) in
    reported_at_most_once net i b (is_news (new_node net i) row dest) (record { dest = dest; route = row; stamp = 0 }) n

says_most : (net : PureNet) (i dest b : ℕ) (t : Bool) → IsNet net → (t ≡ false → origin_value net dest i ≡ None) → length (on_arc b (begun_updates (new_node net i) dest)) ≤ cond t 1 0
says_most net i dest b true n f = says_once net i dest b n
says_most net i dest b false n f = rw (says_nothing net i dest (f refl)) (omega arith)

-- ---- of a generated network

-- how many messages node j puts on an arc: those of its own origins
abbrev pub waits_of : ℕ → ℕ
waits_of j = cond (0 == j) 1 0 + cond (1 == j) 1 0

module _ (seed n : ℕ) (is_net : IsNet (generated_net seed n)) where
  abbrev net : PureNet
  net = generated_net seed n

  first_dest : (j : ℕ) → (0 == j) ≡ false → origin_value net 0 j ≡ None
  first_dest j e = rw e refl

  second_dest : (j : ℕ) → (1 == j) ≡ false → origin_value net 1 j ≡ None
  second_dest j e = rw e refl

  node_says : (j b : ℕ) → length (on_arc b (Begin (new_node net j)).1) ≤ waits_of j
  node_says j b =
      let s = new_node net j in
      let first = says_most net j 0 b (0 == j) is_net (first_dest j) in
      let second = says_most net j 1 b (1 == j) is_net (second_dest j) in
      let split : on_arc b (all_begun_updates s (0 ∷ 1 ∷ [])) ≡ on_arc b (begun_updates s 0) ++ on_arc b (begun_updates s 1) =
      on_arc_join b (begun_updates s 0) (begun_updates s 1 ++ []) ∙ ap (λ l. on_arc b (begun_updates s 0) ++ on_arc b l) (append-nil (begun_updates s 1)) in
      let count = length-append (on_arc b (begun_updates s 0)) (on_arc b (begun_updates s 1)) in
      let all : length (on_arc b (all_begun_updates s (0 ∷ 1 ∷ []))) ≡ length (on_arc b (begun_updates s 0)) + length (on_arc b (begun_updates s 1)) = ap length split ∙ count in
      omega (arith, first, second, all)

  abbrev new_from : ℕ → ℕ → List PvState
  new_from i count = map (new_node net) (range_with_len i count)

  module _ (b j : ℕ) (speaks : speaker net b ≡ Some j) where
    -- a node that doesn't speak on the arc puts nothing there
    silent : (i : ℕ) → (j == i) ≡ false → on_arc b (Begin (new_node net i)).1 ≡ []
    silent i other =
        on_arc_none (λ x. speaker net x ≡ Some i) b
        (λ e. let same : j ≡ i = same_Some _ _ (sym speaks ∙ e) in eqb-false j i other same)
        (Begin (new_node net i)).1 ((path_vector_is_lawful.begun_sends (new_node net i)).spoken is_net)

    all_silent : (i count : ℕ) → j < i → on_arc b (begun_messages path_vector (new_from i count)) ≡ []
    all_silent i zero past = refl
    all_silent i (suc count) past =
        let here = silent i (let other : (j == i) ≡ false = grind (arith, nat_tests) in other) in
        on_arc_join b (Begin (new_node net i)).1 (begun_messages path_vector (new_from (i + 1) count)) ∙ rw (here, all_silent (i + 1) count (omega arith)) refl

    pub begun_few : (i count : ℕ) → length (on_arc b (begun_messages path_vector (new_from i count))) ≤ waits_of j
    begun_few i zero = omega arith
    begun_few i (suc count) = by (j == i) refl (begun_few (i + 1) count)
      where
        split : on_arc b (begun_messages path_vector (new_from i (suc count))) ≡ on_arc b (Begin (new_node net i)).1 ++ on_arc b (begun_messages path_vector (new_from (i + 1) count))
        split = on_arc_join b (Begin (new_node net i)).1 (begun_messages path_vector (new_from (i + 1) count))

        by : (t : Bool) → (j == i) ≡ t → length (on_arc b (begun_messages path_vector (new_from (i + 1) count))) ≤ waits_of j → length (on_arc b (begun_messages path_vector (new_from i (suc count)))) ≤ waits_of j
        by true e rest =
            let same : j ≡ i = eqb-true j i e in
            let none = all_silent (i + 1) count (omega (arith, same)) in
            let here : length (on_arc b (Begin (new_node net i)).1) ≤ waits_of j = rw (← same) (node_says j b) in
            rw (split, none, append-nil (on_arc b (Begin (new_node net i)).1)) here
        by false e rest = rw (split, silent i e) rest
