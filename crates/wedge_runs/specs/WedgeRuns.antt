-- The runs of path-vector nodes on the wedge. Lemmas, so that proofs of other crates may cite them.
use Rattle.std.proofs.Common.{◌≡◌, ℕ, ◌-◌, ◌≤◌, List, [], ◌∷◌, Bool, true, false, Some, None, cond, length, map, option_map, refl, subst, ap, ◌∙◌, arith}
use Rattle.std.specs.Prelude.{take}
use Rattle.alg_model.specs.Expressions.{PureAlg, PureLabel, PureValue}
use Rattle.alg_model.specs.Formation.{IsAlg}
use Rattle.net_graph.specs.Nets.{PureArc, PureNet, is_arc_between}
use Rattle.net_graph.specs.Tables.{PureRow}
use Rattle.path_vector.specs.Node.{PvState, carried, node_rows}
use Rattle.settled_laws.specs.Pair.{Fits, Improves, table_by_q, table_by_p}
use Rattle.settled_laws.specs.Wedge.{wedge_net}
use Rattle.vector_runs.specs.Runs.{PurePhase, IsPhaseOf, IsRun, RunsFrom, new_nodes}
use Rattle.wedge_runs.specs.WedgePhases.{EachDrainsAlone, HaveSameArcs, one_delivery, one_on, wedge_two, wedge_three, wedge_four, wedge_journals, wedge_later, wedge_past, wedge_last}
use Rattle.wedge_runs.specs.WedgeStates.{one_takes, two_takes, three_takes, four_takes, one_end_rows, two_end_rows, three_end_rows, four_end_rows}
use Rattle.wedge_runs.specs.WedgeStates.{p_new, q_new, p_one, q_one, p_to_two, q_to_two, p_two, q_two, p_to_three, q_to_three, p_three, q_three, p_to_four, q_to_four, p_four, q_four}
use Rattle.pair_runs.specs.ImprovedValues.{AreTested, are_tested}
use Rattle.wedge_runs.specs.TwoNodes.{TakesOne, drains_alone, one_phase_is, no_other_phase}

module _ (net : PureNet) (p q : PvState) (a : ℕ) (p' q' : PvState) (t : TakesOne net p q a p' q') (rows : List PureRow) (e : node_rows net (p' ∷ q' ∷ []) ≡ rows) where
  -- the phase is one with these rows
  phase_is : (turns : ℕ) → 1 ≤ turns → IsPhaseOf net (p ∷ q ∷ []) turns (one_delivery rows a) true (p' ∷ q' ∷ [])
  phase_is turns few = subst (λ z. IsPhaseOf net (p ∷ q ∷ []) turns (one_delivery z a) true (p' ∷ q' ∷ [])) e (one_phase_is net p q a p' q' t turns few)

  phase_only : (turns : ℕ) (f : PurePhase) (states : List PvState) → IsPhaseOf net (p ∷ q ∷ []) turns f true states → (f ≡ one_delivery rows a) × (states ≡ p' ∷ q' ∷ [])
  phase_only turns f states is =
      let no_other = no_other_phase net p q a p' q' t turns f states is in
      (no_other.0 ∙ ap (λ z. one_delivery z a) e, no_other.1)

  -- a run goes on from it
  goes_on : (m : PureNet) (nets : List PureNet) (turns : ℕ) (f : PurePhase) (past : List PurePhase) (last : PurePhase) (quiet : Bool) → RunsFrom (p ∷ q ∷ []) net (m ∷ nets) turns (f ∷ past) last quiet
      → (f ≡ one_delivery rows a) × RunsFrom (carried m p' ∷ carried m q' ∷ []) m nets (turns - length f.journal) past last quiet
  goes_on m nets turns f past last quiet (states, is, more) =
      let only = phase_only turns f states is in
      (only.0, subst (λ z. RunsFrom (map (carried m) z) m nets (turns - length f.journal) past last quiet) only.1 more)

module _ (alg : PureAlg) (l : PureLabel) (v w : PureValue) (t : AreTested alg l v w) where
  abbrev first_net : PureNet
  first_net = wedge_net alg l v

  abbrev second_net : PureNet
  second_net = wedge_two alg l v

  abbrev third_net : PureNet
  third_net = wedge_three alg l v

  abbrev fourth_net : PureNet
  fourth_net = wedge_four alg l v

  first_goes_on : (turns : ℕ) (f : PurePhase) (past : List PurePhase) (last : PurePhase) (quiet : Bool) → IsRun first_net (second_net ∷ third_net ∷ fourth_net ∷ []) turns (f ∷ past) last quiet
      → (f ≡ one_delivery (table_by_q v w) 0) × RunsFrom (p_to_two alg l v w ∷ q_to_two alg l v w ∷ []) second_net (third_net ∷ fourth_net ∷ []) (turns - length f.journal) past last quiet
  first_goes_on = goes_on first_net (p_new alg l v w) (q_new alg l v w) 0 (p_one alg l v w) (q_one alg l v w) (one_takes alg l v w t) (table_by_q v w) (one_end_rows alg l v w t) second_net (third_net ∷ fourth_net ∷ [])

  second_goes_on : (turns : ℕ) (f : PurePhase) (past : List PurePhase) (last : PurePhase) (quiet : Bool) → RunsFrom (p_to_two alg l v w ∷ q_to_two alg l v w ∷ []) second_net (third_net ∷ fourth_net ∷ []) turns (f ∷ past) last quiet
      → (f ≡ one_delivery (table_by_q v w) 1) × RunsFrom (p_to_three alg l v w ∷ q_to_three alg l v w ∷ []) third_net (fourth_net ∷ []) (turns - length f.journal) past last quiet
  second_goes_on = goes_on second_net (p_to_two alg l v w) (q_to_two alg l v w) 1 (p_two alg l v w) (q_two alg l v w) (two_takes alg l v w t) (table_by_q v w) (two_end_rows alg l v w t) third_net (fourth_net ∷ [])

  third_goes_on : (turns : ℕ) (f : PurePhase) (past : List PurePhase) (last : PurePhase) (quiet : Bool) → RunsFrom (p_to_three alg l v w ∷ q_to_three alg l v w ∷ []) third_net (fourth_net ∷ []) turns (f ∷ past) last quiet
      → (f ≡ one_delivery (table_by_p v w) 0) × RunsFrom (p_to_four alg l v w ∷ q_to_four alg l v w ∷ []) fourth_net [] (turns - length f.journal) past last quiet
  third_goes_on = goes_on third_net (p_to_three alg l v w) (q_to_three alg l v w) 0 (p_three alg l v w) (q_three alg l v w) (three_takes alg l v w t) (table_by_p v w) (three_end_rows alg l v w t) fourth_net []

  last_is : (turns : ℕ) (last : PurePhase) → RunsFrom (p_to_four alg l v w ∷ q_to_four alg l v w ∷ []) fourth_net [] turns [] last true → last ≡ wedge_last v w
  last_is turns last (states, is, no_more) =
      (phase_only fourth_net (p_to_four alg l v w) (q_to_four alg l v w) 1 (p_four alg l v w) (q_four alg l v w) (four_takes alg l v w t) (table_by_p v w) (four_end_rows alg l v w t) turns last states is).0

  -- each phase has one replay that drains its machine
  replays_are : EachDrainsAlone (new_nodes first_net) first_net (second_net ∷ third_net ∷ fourth_net ∷ []) wedge_journals
  replays_are =
      let first = drains_alone first_net (p_new alg l v w) (q_new alg l v w) 0 (p_one alg l v w) (q_one alg l v w) (one_takes alg l v w t) in
      let second = drains_alone second_net (p_to_two alg l v w) (q_to_two alg l v w) 1 (p_two alg l v w) (q_two alg l v w) (two_takes alg l v w t) in
      let third = drains_alone third_net (p_to_three alg l v w) (q_to_three alg l v w) 0 (p_three alg l v w) (q_three alg l v w) (three_takes alg l v w t) in
      let fourth = drains_alone fourth_net (p_to_four alg l v w) (q_to_four alg l v w) 1 (p_four alg l v w) (q_four alg l v w) (four_takes alg l v w t) in
      let last : EachDrainsAlone (p_to_four alg l v w ∷ q_to_four alg l v w ∷ []) fourth_net [] (one_on 1 ∷ []) = (fourth.0, refl) in
      let from_third : EachDrainsAlone (p_to_three alg l v w ∷ q_to_three alg l v w ∷ []) third_net (fourth_net ∷ []) (one_on 0 ∷ one_on 1 ∷ []) =
      (third.0, p_three alg l v w ∷ q_three alg l v w ∷ [], third.1, refl, last)
      in
      let from_second : EachDrainsAlone (p_to_two alg l v w ∷ q_to_two alg l v w ∷ []) second_net (third_net ∷ fourth_net ∷ []) (one_on 1 ∷ one_on 0 ∷ one_on 1 ∷ []) =
      (second.0, p_two alg l v w ∷ q_two alg l v w ∷ [], second.1, refl, from_third)
      in
      (first.0, p_one alg l v w ∷ q_one alg l v w ∷ [], first.1, refl, from_second)

  -- every run has the wedge's phases as far as it goes
  phases_are : (turns : ℕ) (past : List PurePhase) (last : PurePhase) (quiet : Bool) → IsRun first_net (second_net ∷ third_net ∷ fourth_net ∷ []) turns past last quiet → past ≡ take (length past) (wedge_past v w)
  phases_are turns [] last quiet runs = refl
  phases_are turns (f ∷ []) last quiet runs =
      let first = first_goes_on turns f [] last quiet runs in
      rw (first.0) refl
  phases_are turns (f ∷ g ∷ []) last quiet runs =
      let first = first_goes_on turns f (g ∷ []) last quiet runs in
      let second = second_goes_on (turns - length f.journal) g [] last quiet first.1 in
      rw (first.0, second.0) refl
  phases_are turns (f ∷ g ∷ h ∷ []) last quiet runs =
      let first = first_goes_on turns f (g ∷ h ∷ []) last quiet runs in
      let second = second_goes_on (turns - length f.journal) g (h ∷ []) last quiet first.1 in
      let third = third_goes_on (turns - length f.journal - length g.journal) h [] last quiet second.1 in
      rw (first.0, second.0, third.0) refl
  phases_are turns (f ∷ g ∷ h ∷ i ∷ past) last quiet runs = absurd (
      let first = first_goes_on turns f (g ∷ h ∷ i ∷ past) last quiet runs in
      let second = second_goes_on (turns - length f.journal) g (h ∷ i ∷ past) last quiet first.1 in
      (third_goes_on (turns - length f.journal - length g.journal) h (i ∷ past) last quiet second.1).1)

  -- and is the wedge's run where it is quiet in the end
  run_is : (turns : ℕ) (past : List PurePhase) (last : PurePhase) → IsRun first_net (second_net ∷ third_net ∷ fourth_net ∷ []) turns past last true → (past ≡ wedge_past v w) × (last ≡ wedge_last v w)
  run_is turns [] last (states, is, no_more) = absurd (let none = no_more refl in cc)
  run_is turns (f ∷ []) last runs = absurd (
      let first = first_goes_on turns f [] last true runs in
      let none = first.1.2 refl in
      cc)
  run_is turns (f ∷ g ∷ []) last runs = absurd (
      let first = first_goes_on turns f (g ∷ []) last true runs in
      let second = second_goes_on (turns - length f.journal) g [] last true first.1 in
      let none = second.1.2 refl in
      cc)
  run_is turns (f ∷ g ∷ h ∷ []) last runs =
      let first = first_goes_on turns f (g ∷ h ∷ []) last true runs in
      let second = second_goes_on (turns - length f.journal) g (h ∷ []) last true first.1 in
      let third = third_goes_on (turns - length f.journal - length g.journal) h [] last true second.1 in
      (rw (first.0, second.0, third.0) refl, last_is (turns - length f.journal - length g.journal - length h.journal) last third.1)
  run_is turns (f ∷ g ∷ h ∷ i ∷ past) last runs = absurd (
      let first = first_goes_on turns f (g ∷ h ∷ i ∷ past) last true runs in
      let second = second_goes_on (turns - length f.journal) g (h ∷ i ∷ past) last true first.1 in
      (third_goes_on (turns - length f.journal - length g.journal) h (i ∷ past) last true second.1).1)

  -- four turns are enough for it
  run_there : (turns : ℕ) → 4 ≤ turns → IsRun first_net (second_net ∷ third_net ∷ fourth_net ∷ []) turns (wedge_past v w) (wedge_last v w) true
  run_there turns few = (
    p_one alg l v w ∷ q_one alg l v w ∷ [],
    phase_is first_net (p_new alg l v w) (q_new alg l v w) 0 (p_one alg l v w) (q_one alg l v w) (one_takes alg l v w t) (table_by_q v w) (one_end_rows alg l v w t) turns (omega arith),
    (
      p_two alg l v w ∷ q_two alg l v w ∷ [],
      phase_is second_net (p_to_two alg l v w) (q_to_two alg l v w) 1 (p_two alg l v w) (q_two alg l v w) (two_takes alg l v w t) (table_by_q v w) (two_end_rows alg l v w t) (turns - 1) (omega arith),
      (
        p_three alg l v w ∷ q_three alg l v w ∷ [],
        phase_is third_net (p_to_three alg l v w) (q_to_three alg l v w) 0 (p_three alg l v w) (q_three alg l v w) (three_takes alg l v w t) (table_by_p v w) (three_end_rows alg l v w t) (turns - 1 - 1) (omega arith),
        (
          p_four alg l v w ∷ q_four alg l v w ∷ [],
          phase_is fourth_net (p_to_four alg l v w) (q_to_four alg l v w) 1 (p_four alg l v w) (q_four alg l v w) (four_takes alg l v w t) (table_by_p v w) (four_end_rows alg l v w t) (turns - 1 - 1 - 1) (omega arith),
          λ e. refl,
        ),
      ),
    ),
  )

pub replays_of_the_wedge : (alg : PureAlg) (l : PureLabel) (v w : PureValue) → IsAlg alg → Fits alg l v → Improves alg l v w
    → EachDrainsAlone (new_nodes (wedge_net alg l v)) (wedge_net alg l v) (wedge_later alg l v) wedge_journals
replays_of_the_wedge alg l v w a f g = replays_are alg l v w (are_tested alg l v w a f g)

pub phases_of_the_wedge : (alg : PureAlg) (l : PureLabel) (v w : PureValue) → IsAlg alg → Fits alg l v → Improves alg l v w → (turns : ℕ) (past : List PurePhase) (last : PurePhase) (quiet : Bool)
    → IsRun (wedge_net alg l v) (wedge_later alg l v) turns past last quiet → past ≡ take (length past) (wedge_past v w)
phases_of_the_wedge alg l v w a f g = phases_are alg l v w (are_tested alg l v w a f g)

pub run_of_the_wedge : (alg : PureAlg) (l : PureLabel) (v w : PureValue) → IsAlg alg → Fits alg l v → Improves alg l v w → (turns : ℕ) (past : List PurePhase) (last : PurePhase)
    → IsRun (wedge_net alg l v) (wedge_later alg l v) turns past last true → (past ≡ wedge_past v w) × (last ≡ wedge_last v w)
run_of_the_wedge alg l v w a f g = run_is alg l v w (are_tested alg l v w a f g)

pub wedge_has_a_run : (alg : PureAlg) (l : PureLabel) (v w : PureValue) → IsAlg alg → Fits alg l v → Improves alg l v w → (turns : ℕ) → 4 ≤ turns
    → IsRun (wedge_net alg l v) (wedge_later alg l v) turns (wedge_past v w) (wedge_last v w) true
wedge_has_a_run alg l v w a f g = run_there alg l v w (are_tested alg l v w a f g)

-- the second network and the last have the same arcs
pub same_arcs : (alg : PureAlg) (l : PureLabel) (v : PureValue) → HaveSameArcs (wedge_two alg l v) (wedge_four alg l v)
same_arcs alg l v = record {
  elsewhere = refl;
  count = refl;
  labels = λ tail head. by (is_arc_between tail head (record { id = 0; tail = 0; head = 1; label = l })) (is_arc_between tail head (record { id = 0; tail = 1; head = 0; label = l }));
}
  where
    by : (b d : Bool) → option_map (λ (a : PureArc). a.label) (cond d (Some (record { id = 0; tail = 1; head = 0; label = l })) (cond b (Some (record { id = 1; tail = 0; head = 1; label = l })) None))
        ≡ option_map (λ (a : PureArc). a.label) (cond b (Some (record { id = 0; tail = 0; head = 1; label = l })) (cond d (Some (record { id = 1; tail = 1; head = 0; label = l })) None))
    by true true = refl
    by true false = refl
    by false true = refl
    by false false = refl
