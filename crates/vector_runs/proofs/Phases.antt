-- The nodes of a phase, before and after it.
use Rattle.std.proofs.Common.{◌≡◌, ℕ, zero, suc, ◌+◌, ◌-◌, ◌≤◌, List, [], ◌∷◌, ◌++◌, Bool, true, length, map, drop, Some, refl, sym, ap, subst, ◌∙◌, arith}
use Rattle.std.specs.Prelude.{slice_get}
use Rattle.std.specs.List.{AllByRecursion, range_with_len}
use Rattle.std.proofs.lemmas.List.{append_assoc, append-nil, map-append}
use Rattle.meta_base.specs.declared.ids.Delivery.{Delivery}
use Rattle.net_graph.specs.Nets.{PureNet}
use Rattle.net_graph.specs.Tables.{PureRow}
use Rattle.node_core.specs.Machine.{AreUnbegun}
use Rattle.node_runs.specs.Runs as runs
use Rattle.path_vector.specs.Node.{PvState, carried, new_node, node_rows, path_vector}
use Rattle.path_vector.specs.Nodes.{PureNode, state_of}
use Rattle.vector_runs.specs.NodeLaws.{states_are}
use Rattle.vector_runs.specs.Runs.{AreBegun, AreLater, IsPhaseOf, IsRun, PurePhase, RunsFrom, new_nodes}

-- nodes that are begun on a network have it
pub begun_nets : (net : PureNet) (i : ℕ) (nodes : List PureNode) → AreBegun net i (map state_of nodes) → AllByRecursion (λ (n : PureNode). n.net ≡ net) nodes
begun_nets net i [] are = tt
begun_nets net i (n ∷ nodes) are = (are.0, begun_nets net (i + 1) nodes are.3)

-- ---- what ran is a phase of a run, with its rows

abbrev pub ran : List PureRow → List Delivery → PurePhase
ran rows journal = record { rows = rows; journal = journal }

pub ran_phase : (net : PureNet) (nodes : List PvState) (turns : ℕ) (journal : List Delivery) (quiet : Bool) (states : List PvState) (rows : List PureRow) → runs.IsPhaseOf path_vector net nodes turns journal quiet states
    → rows ≡ node_rows net states → IsPhaseOf net nodes turns (ran rows journal) quiet states
ran_phase net nodes turns journal quiet states rows is are =
    record { end = is.end; phase = is.phase; states_are = states_are is.end states is.states_are; count = is.count; rows_are = are }

-- ---- new nodes aren't begun

unbegun_from : (net : PureNet) (i n : ℕ) → length net.nodes ≡ i + n → AreUnbegun path_vector net i (map (new_node net) (range_with_len i n))
unbegun_from net i zero e = omega arith
unbegun_from net i (suc n) e =
    let more : length net.nodes ≡ i + 1 + n = omega arith in
    (refl, refl, refl, unbegun_from net (i + 1) n more)

pub new_are_unbegun : (net : PureNet) → AreUnbegun path_vector net 0 (new_nodes net)
new_are_unbegun net = unbegun_from net 0 (length net.nodes) (omega arith)

-- ---- lists

pub pushed_node : {N S : Type 0} (state : N → S) (nodes items : List N) (n : N) (s : S) (rest all : List S) → items ≡ nodes ++ n ∷ [] → state n ≡ s → map state nodes ++ (s ∷ rest) ≡ all → map state items ++ rest ≡ all
pushed_node state nodes items n s rest all e f h =
    ap (λ z. map state z ++ rest) e ∙ (ap (λ z. z ++ rest) (map-append state nodes (n ∷ [])) ∙ (append_assoc (map state nodes) (state n ∷ []) rest ∙ (ap (λ z. map state nodes ++ (z ∷ rest)) f ∙ h)))

pub nothing_left : {X : Type 0} (xs : List X) → length xs ≡ 0 → xs ≡ []
nothing_left [] e = refl
nothing_left (x ∷ xs) e = absurd (omega arith)

pub drop_next : {X : Type 0} (xs : List X) (k : ℕ) (x : X) → slice_get xs k ≡ Some x → drop k xs ≡ x ∷ drop (k + 1) xs
drop_next [] k x e = absurd (cc)
drop_next (y ∷ xs) zero x e = let same : y ≡ x = cc in ap (λ z. z ∷ xs) same
drop_next (y ∷ xs) (suc k) x e =
    let next : suc (k + 1) ≡ suc k + 1 = omega arith in
    drop_next xs k x e ∙ ap (λ z. x ∷ drop z (y ∷ xs)) next

pub drop_all : {X : Type 0} (xs : List X) (k : ℕ) → length xs ≤ k → drop k xs ≡ []
drop_all [] zero l = refl
drop_all [] (suc k) l = refl
drop_all (x ∷ xs) zero l = absurd (omega arith)
drop_all (x ∷ xs) (suc k) l = drop_all xs k (omega arith)

-- ---- a run so far

-- its last phase is one of its network, the networks that follow differ from that in their arcs alone, and what runs
-- on from the phase's nodes makes the whole run
pub record IsSoFar (first : PureNet) (nets : List PureNet) (turns : ℕ) (past : List PurePhase) (rest : List PureNet) (left : ℕ) (p : PurePhase) (quiet : Bool) (states : List PvState) : Type 0 where
  pub net : PureNet
  pub nodes : List PvState
  pub phase : IsPhaseOf net nodes left p quiet states
  pub begun : AreBegun net 0 states
  pub later : AreLater net rest
  pub makes : (more : List PurePhase) (last : PurePhase) (q : Bool) → RunsFrom nodes net rest left more last q → IsRun first nets turns (past ++ more) last q

-- the first phase
pub first_so_far : (first : PureNet) (nets : List PureNet) (turns : ℕ) (nodes : List PvState) (p : PurePhase) (quiet : Bool) (states : List PvState) → nodes ≡ new_nodes first → AreLater first nets
    → IsPhaseOf first nodes turns p quiet states → AreBegun first 0 states → IsSoFar first nets turns [] nets turns p quiet states
first_so_far first nets turns nodes p quiet states new later is begun = record {
  net = first;
  nodes = nodes;
  phase = is;
  begun = begun;
  later = later;
  makes = λ more last q runs. subst (λ z. RunsFrom z first nets turns more last q) new runs;
}

-- one phase more, of the nodes that are carried from a quiet one
pub next_so_far : (first : PureNet) (nets : List PureNet) (turns : ℕ) (past : List PurePhase) (m : PureNet) (rest : List PureNet) (left : ℕ) (p : PurePhase) (states : List PvState)
    → (is : IsSoFar first nets turns past (m ∷ rest) left p true states) → (nodes : List PvState) → nodes ≡ map (carried m) states → (next : PurePhase) (quiet : Bool) (new : List PvState)
    → IsPhaseOf m nodes (left - length p.journal) next quiet new → AreBegun m 0 new → IsSoFar first nets turns (past ++ p ∷ []) rest (left - length p.journal) next quiet new
next_so_far first nets turns past m rest left p states is nodes carries next quiet new phase begun = record {
  net = m;
  nodes = nodes;
  phase = phase;
  begun = begun;
  later = is.later.1;
  makes = λ more last q runs.
      subst (λ z. IsRun first nets turns z last q) (sym (append_assoc past (p ∷ []) more))
      (is.makes (p ∷ more) last q (states, is.phase, subst (λ z. RunsFrom z m rest (left - length p.journal) more last q) carries runs));
}

-- and the run that ends here
pub so_far_is_run : (first : PureNet) (nets : List PureNet) (turns : ℕ) (past : List PurePhase) (rest : List PureNet) (left : ℕ) (p : PurePhase) (quiet : Bool) (states : List PvState)
    → IsSoFar first nets turns past rest left p quiet states → (quiet ≡ true → rest ≡ []) → IsRun first nets turns past p quiet
so_far_is_run first nets turns past rest left p quiet states is none =
    subst (λ z. IsRun first nets turns z p quiet) (append-nil past) (is.makes [] p quiet (states, is.phase, none))
