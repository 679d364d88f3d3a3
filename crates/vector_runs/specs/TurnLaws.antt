-- Where all labels are monotone, the phases of a run make no more deliveries than are left at their starts. Lemmas, so
-- that proofs of other crates may cite them.
use Rattle.std.proofs.Common.{◌≡◌, ℕ, ◌+◌, ◌-◌, ◌≤◌, Bool, true, false, List, [], ◌∷◌, length, map, refl, sym, ap, subst, arith}
use Rattle.std.specs.List.{AllByRecursion, filter_map, range_with_len}
use Rattle.alg_model.specs.Properties.{monotone}
use Rattle.net_graph.specs.Nets.{PureNet, IsNet}
use Rattle.net_graph.specs.Tables.{NetHas}
use Rattle.node_core.specs.Machine.{Machine}
use Rattle.path_vector.specs.Coherent.{AreNodesOf, MayBegin}
use Rattle.path_vector.specs.Laws.{runs_are_coherent, carried_nodes_may_begin, new_nodes_may_begin}
use Rattle.path_vector.specs.Node.{PvState, PureUpdate, carried}
use Rattle.vector_rest.specs.Left.{left_at_start}
use Rattle.vector_rest.specs.EndLaws.{begun_runs_end}
use Rattle.vector_rest.specs.DrainLaws.{enough_deliveries_drain}
use Rattle.vector_runs.specs.Runs.{PurePhase, IsPhaseOf, RunsFrom, IsRun, AreLater, new_nodes}
use Rattle.vector_runs.specs.Turns.{AreMonotone, deliveries_made, nodes_after, left_in, deliveries_left}

nodes_are : (c : Machine PvState PureUpdate) (i : ℕ) (states : List PvState) → AreNodesOf c i states → filter_map c.node (range_with_len i (length states)) ≡ states
nodes_are c i [] are = refl
nodes_are c i (s ∷ states) are = rw are.0 (ap (λ l. s ∷ l) (nodes_are c (i + 1) states are.1))

-- the journal of a phase leaves the nodes that it ended with
after_phase : (net : PureNet) (nodes : List PvState) (turns : ℕ) (p : PurePhase) (quiet : Bool) (states : List PvState) → IsPhaseOf net nodes turns p quiet states → nodes_after net nodes p.journal ≡ states
after_phase net nodes turns p quiet states is =
    rw is.phase.replayed (subst (λ n. filter_map is.end.node (range_with_len 0 n) ≡ states) is.count (nodes_are is.end 0 states is.states_are))

-- a phase makes no more deliveries than are left at its start
phase_is_short : (net : PureNet) (nodes : List PvState) (turns : ℕ) (p : PurePhase) (quiet : Bool) (states : List PvState) → IsNet net → NetHas monotone net → MayBegin net nodes
    → IsPhaseOf net nodes turns p quiet states → length p.journal ≤ left_at_start net nodes
phase_is_short net nodes turns p quiet states n mono may is =
    let all = begun_runs_end net nodes p.journal is.end n mono may is.phase.replayed in
    omega (arith, all)

-- and with turns for them it is quiet
phase_is_quiet : (net : PureNet) (nodes : List PvState) (turns : ℕ) (p : PurePhase) (quiet : Bool) (states : List PvState) → IsNet net → NetHas monotone net → MayBegin net nodes
    → IsPhaseOf net nodes turns p quiet states → left_at_start net nodes ≤ turns → quiet ≡ true
phase_is_quiet net nodes turns p true states n mono may is enough = refl
phase_is_quiet net nodes turns p false states n mono may is enough =
    let spent = is.phase.spent refl in
    let used = spent.1 in
    absurd (spent.0 (enough_deliveries_drain net nodes p.journal is.end n mono may is.phase.replayed (omega (arith, used, enough))))

-- the nodes of a quiet phase may begin on the next network
next_may_begin : (net m : PureNet) (nodes : List PvState) (turns : ℕ) (p : PurePhase) (states : List PvState) → IsNet net → m ≡ record net { arcs = m.arcs } → MayBegin net nodes
    → IsPhaseOf net nodes turns p true states → MayBegin m (map (carried m) states)
next_may_begin net m nodes turns p states n later may is =
    let coherent = runs_are_coherent net nodes p.journal is.end n may is.phase.replayed in
    carried_nodes_may_begin net m is.end states n later coherent (is.phase.drained refl) is.states_are is.count

-- all phases from unbegun nodes on
short_from : (nodes : List PvState) (net : PureNet) (nets : List PureNet) (turns : ℕ) (past : List PurePhase) (last : PurePhase) (quiet : Bool) → IsNet net → AllByRecursion IsNet nets → AreLater net nets
    → NetHas monotone net → AllByRecursion (NetHas monotone) nets → MayBegin net nodes → RunsFrom nodes net nets turns past last quiet → deliveries_made past last ≤ left_in nodes net nets past
short_from nodes net nets turns [] last quiet n ns later mono monos may runs = phase_is_short net nodes turns last quiet runs.0 n mono may runs.1
short_from nodes net [] turns (p ∷ past) last quiet n ns later mono monos may runs = absurd runs
short_from nodes net (m ∷ nets) turns (p ∷ past) last quiet n ns later mono monos may runs =
    let states = runs.0 in
    let is = runs.1 in
    let here = phase_is_short net nodes turns p true states n mono may is in
    let rest = short_from (map (carried m) states) m nets (turns - length p.journal) past last quiet ns.0 ns.1 later.1 monos.0 monos.1 (next_may_begin net m nodes turns p states n later.0 may is) runs.2 in
    subst (λ l. length p.journal + deliveries_made past last ≤ left_at_start net nodes + left_in (map (carried m) l) m nets past) (sym (after_phase net nodes turns p true states is)) (omega (arith, here, rest))

quiet_from : (nodes : List PvState) (net : PureNet) (nets : List PureNet) (turns : ℕ) (past : List PurePhase) (last : PurePhase) (quiet : Bool) → IsNet net → AllByRecursion IsNet nets → AreLater net nets
    → NetHas monotone net → AllByRecursion (NetHas monotone) nets → MayBegin net nodes → RunsFrom nodes net nets turns past last quiet → left_in nodes net nets past ≤ turns → quiet ≡ true
quiet_from nodes net nets turns [] last quiet n ns later mono monos may runs enough = phase_is_quiet net nodes turns last quiet runs.0 n mono may runs.1 enough
quiet_from nodes net [] turns (p ∷ past) last quiet n ns later mono monos may runs enough = absurd runs
quiet_from nodes net (m ∷ nets) turns (p ∷ past) last quiet n ns later mono monos may runs enough =
    let states = runs.0 in
    let is = runs.1 in
    let few = phase_is_short net nodes turns p true states n mono may is in
    let all : left_at_start net nodes + left_in (map (carried m) states) m nets past ≤ turns =
    subst (λ l. left_at_start net nodes + left_in (map (carried m) l) m nets past ≤ turns) (after_phase net nodes turns p true states is) enough in
    quiet_from (map (carried m) states) m nets (turns - length p.journal) past last quiet ns.0 ns.1 later.1 monos.0 monos.1 (next_may_begin net m nodes turns p states n later.0 may is) runs.2
    (omega (arith, few, all))

-- a run makes no more deliveries than are left at the starts of its phases
pub runs_are_short : (net : PureNet) (nets : List PureNet) (turns : ℕ) (past : List PurePhase) (last : PurePhase) (quiet : Bool) → IsNet net → AllByRecursion IsNet nets → AreLater net nets
    → AreMonotone net nets → IsRun net nets turns past last quiet → deliveries_made past last ≤ deliveries_left net nets past
runs_are_short net nets turns past last quiet n ns later mono runs = short_from (new_nodes net) net nets turns past last quiet n ns later mono.0 mono.1 (new_nodes_may_begin net) runs

-- and with turns for them its last phase is quiet
pub enough_turns_are_quiet : (net : PureNet) (nets : List PureNet) (turns : ℕ) (past : List PurePhase) (last : PurePhase) (quiet : Bool) → IsNet net → AllByRecursion IsNet nets → AreLater net nets
    → AreMonotone net nets → IsRun net nets turns past last quiet → deliveries_left net nets past ≤ turns → quiet ≡ true
enough_turns_are_quiet net nets turns past last quiet n ns later mono runs enough = quiet_from (new_nodes net) net nets turns past last quiet n ns later mono.0 mono.1 (new_nodes_may_begin net) runs enough
