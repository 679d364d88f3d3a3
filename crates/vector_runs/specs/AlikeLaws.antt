-- Two quiet runs through the same networks have the same rows where labels are monotone. Lemmas, so that proofs of other
-- crates may cite them.
use Rattle.std.proofs.Common.{◌≡◌, ℕ, ◌-◌, true, List, [], ◌∷◌, length, map, refl}
use Rattle.std.specs.List.{AllByRecursion}
use Rattle.alg_model.specs.Properties.{monotone}
use Rattle.net_graph.specs.Nets.{PureNet, IsNet}
use Rattle.net_graph.specs.Tables.{PureRow, NetHas, AreSettledRows}
use Rattle.path_vector.specs.Node.{PvState, carried}
use Rattle.vector_runs.specs.Alike.{last_net, rows_of_each}
use Rattle.vector_runs.specs.Laws.{quiet_phases_are_stable}
use Rattle.vector_runs.specs.Runs.{PurePhase, RunsFrom, IsRun, AreLater, AreStable, new_nodes}
use Rattle.vector_runs.specs.Turns.{AreMonotone}

-- settled rows of one network are the same where its labels are monotone
one_rows : (net : PureNet) (rows others : List PureRow) → NetHas monotone net → AreSettledRows net rows → AreSettledRows net others → rows ≡ others
one_rows net rows others mono settled same = same.only mono rows settled.stable

-- a quiet run has a phase for each network, so two have as many
last_alike : (nodes mates : List PvState) (net : PureNet) (nets : List PureNet) (left rest : ℕ) (past others : List PurePhase) (last end : PurePhase) → NetHas monotone (last_net net nets)
    → RunsFrom nodes net nets left past last true → RunsFrom mates net nets rest others end true → AreStable net nets past last true → AreStable net nets others end true → last.rows ≡ end.rows
last_alike nodes mates net [] left rest [] [] last end mono runs more stable same = one_rows net last.rows end.rows mono (stable refl) (same refl)
last_alike nodes mates net [] left rest [] (q ∷ others) last end mono runs more stable same = absurd more
last_alike nodes mates net [] left rest (p ∷ past) others last end mono runs more stable same = absurd runs
last_alike nodes mates net (m ∷ nets) left rest [] others last end mono runs more stable same = absurd (let none = runs.2 refl in cc)
last_alike nodes mates net (m ∷ nets) left rest (p ∷ past) [] last end mono runs more stable same = absurd (let none = more.2 refl in cc)
last_alike nodes mates net (m ∷ nets) left rest (p ∷ past) (q ∷ others) last end mono runs more stable same =
    last_alike (map (carried m) runs.0) (map (carried m) more.0) m nets (left - length p.journal) (rest - length q.journal) past others last end mono runs.2 more.2 stable.1 same.1

past_alike : (nodes mates : List PvState) (net : PureNet) (nets : List PureNet) (left rest : ℕ) (past others : List PurePhase) (last end : PurePhase) → NetHas monotone net → AllByRecursion (NetHas monotone) nets
    → RunsFrom nodes net nets left past last true → RunsFrom mates net nets rest others end true → AreStable net nets past last true → AreStable net nets others end true → rows_of_each past ≡ rows_of_each others
past_alike nodes mates net nets left rest [] [] last end mono monos runs more stable same = refl
past_alike nodes mates net [] left rest [] (q ∷ others) last end mono monos runs more stable same = absurd more
past_alike nodes mates net [] left rest (p ∷ past) others last end mono monos runs more stable same = absurd runs
past_alike nodes mates net (m ∷ nets) left rest [] (q ∷ others) last end mono monos runs more stable same = absurd (let none = runs.2 refl in cc)
past_alike nodes mates net (m ∷ nets) left rest (p ∷ past) [] last end mono monos runs more stable same = absurd (let none = more.2 refl in cc)
past_alike nodes mates net (m ∷ nets) left rest (p ∷ past) (q ∷ others) last end mono monos runs more stable same =
    let here : p.rows ≡ q.rows = one_rows net p.rows q.rows mono stable.0 same.0 in
    let later : rows_of_each past ≡ rows_of_each others =
    past_alike (map (carried m) runs.0) (map (carried m) more.0) m nets (left - length p.journal) (rest - length q.journal) past others last end monos.0 monos.1 runs.2 more.2 stable.1 same.1 in
    cc

module _ (turns budget : ℕ) (net : PureNet) (nets : List PureNet) (past others : List PurePhase) (last end : PurePhase) (n : IsNet net) (ns : AllByRecursion IsNet nets) (later : AreLater net nets)
    (runs : IsRun net nets turns past last true) (more : IsRun net nets budget others end true) where
  stable : AreStable net nets past last true
  stable = quiet_phases_are_stable net nets turns past last true n ns later runs

  same : AreStable net nets others end true
  same = quiet_phases_are_stable net nets budget others end true n ns later more

  pub last_rows_are_alike : NetHas monotone (last_net net nets) → last.rows ≡ end.rows
  last_rows_are_alike mono = last_alike (new_nodes net) (new_nodes net) net nets turns budget past others last end mono runs more stable same

  pub past_rows_are_alike : AreMonotone net nets → rows_of_each past ≡ rows_of_each others
  past_rows_are_alike mono = past_alike (new_nodes net) (new_nodes net) net nets turns budget past others last end mono.0 mono.1 runs more stable same
