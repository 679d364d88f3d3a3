-- A phase of two path-vector nodes and one destination in which one update is put out, which the node that takes it
-- answers by none. Lemmas, so that proofs of other crates may cite them.
use Rattle.std.proofs.Common.{◌≡◌, ℕ, ◌≤◌, List, [], ◌∷◌, ◌++◌, Bool, true, false, not, Some, is_some, cond, length, filter, refl, sym, subst, ap, ◌∙◌, arith}
use Rattle.std.specs.List.{range_with_len}
use Rattle.std.proofs.lemmas.Option.{same_Some}
use Rattle.net_graph.specs.Nets.{PureNet, arcs_to}
use Rattle.net_graph.specs.Routes.{PureRoute}
use Rattle.node_core.specs.Kinds.{listener}
use Rattle.node_core.specs.Machine.{Machine, begun_messages}
use Rattle.path_vector.specs.Coherent.{AreNodesOf}
use Rattle.path_vector.specs.Node.{PvState, PureUpdate, Begin, Step, all_begun_updates, choice, fits, heard_with, node_rows, path_vector, same_route, same_row, spoke_on, taken, reported_on}
use Rattle.vector_runs.specs.Runs.{PurePhase, IsPhaseOf}
use Rattle.wedge_runs.specs.WedgePhases.{DrainsAlone, one_delivery, one_on}
use Rattle.wedge_runs.specs.OneDelivery.{HasOneMessage, taken_one, one_drains, one_replays, only_one}

-- the first of the two nodes takes the only update, or the second does; then they are p' and q'
pub record TakesOne (net : PureNet) (p q : PvState) (a : ℕ) (p' q' : PvState) : Type 0 where
  pub taker : ℕ
  pub state : PvState
  pub update : PureUpdate
  pub one : HasOneMessage path_vector net (p ∷ q ∷ []) a taker state update
  pub count : length net.nodes ≡ 2
  pub first : (taken_one path_vector (p ∷ q ∷ []) a taker state update).node 0 ≡ Some p'
  pub second : (taken_one path_vector (p ∷ q ∷ []) a taker state update).node 1 ≡ Some q'

module _ (net : PureNet) (p q : PvState) (a : ℕ) (p' q' : PvState) (t : TakesOne net p q a p' q') where
  -- the phase that comes of it
  abbrev pub one_phase : PurePhase
  one_phase = one_delivery (node_rows net (p' ∷ q' ∷ [])) a

  -- nodes of a machine where the two are p' and q' are these
  states_two : (c : Machine PvState PureUpdate) (states : List PvState) → AreNodesOf c 0 states → length states ≡ 2 → c.node 0 ≡ Some p' → c.node 1 ≡ Some q' → states ≡ p' ∷ q' ∷ []
  states_two c [] are count e f = absurd (omega arith)
  states_two c (s ∷ []) are count e f = absurd (omega arith)
  states_two c (s ∷ r ∷ []) are count e f =
      let first : s ≡ p' = same_Some _ _ (sym are.0 ∙ e) in
      let second : r ≡ q' = same_Some _ _ (sym are.1.0 ∙ f) in
      rw (first, second) refl
  states_two c (s ∷ r ∷ x ∷ states) are count e f = absurd (omega arith)

  -- its journal alone drains the machine, and leads to them
  pub drains_alone : (d : DrainsAlone net (p ∷ q ∷ []) (one_on a)) × AreNodesOf d.end 0 (p' ∷ q' ∷ [])
  drains_alone = (
    record {
      end = taken_one path_vector (p ∷ q ∷ []) a t.taker t.state t.update;
      replayed = one_replays path_vector net (p ∷ q ∷ []) a t.taker t.state t.update t.one;
      drained = one_drains path_vector net (p ∷ q ∷ []) a t.taker t.state t.update t.one;
      only = λ other c e drained. (only_one path_vector net (p ∷ q ∷ []) a t.taker t.state t.update t.one other c e drained).0;
    },
    (t.first, (t.second, tt)),
  )

  -- so it is a phase, where a turn is left, and every phase that is quiet is it
  pub one_phase_is : (turns : ℕ) → 1 ≤ turns → IsPhaseOf net (p ∷ q ∷ []) turns one_phase true (p' ∷ q' ∷ [])
  one_phase_is turns few = record {
    end = taken_one path_vector (p ∷ q ∷ []) a t.taker t.state t.update;
    phase = record {
      ordered = (tt, tt);
      replayed = one_replays path_vector net (p ∷ q ∷ []) a t.taker t.state t.update t.one;
      few = few;
      drained = λ e. one_drains path_vector net (p ∷ q ∷ []) a t.taker t.state t.update t.one;
      spent = λ e. absurd (cc);
    };
    states_are = (t.first, (t.second, tt));
    count = sym t.count;
    rows_are = refl;
  }

  pub no_other_phase : (turns : ℕ) (f : PurePhase) (states : List PvState) → IsPhaseOf net (p ∷ q ∷ []) turns f true states → (f ≡ one_phase) × (states ≡ p' ∷ q' ∷ [])
  no_other_phase turns f states is = (rw (← journal, ← rows) refl, same)
    where
      only : (f.journal ≡ one_on a) × (is.end ≡ taken_one path_vector (p ∷ q ∷ []) a t.taker t.state t.update)
      only = only_one path_vector net (p ∷ q ∷ []) a t.taker t.state t.update t.one f.journal is.end is.phase.replayed (is.phase.drained refl)

      same : states ≡ p' ∷ q' ∷ []
      same = states_two (taken_one path_vector (p ∷ q ∷ []) a t.taker t.state t.update) states (subst (λ c. AreNodesOf c 0 states) only.1 is.states_are) (is.count ∙ t.count) t.first t.second

      journal : f.journal ≡ one_on a
      journal = only.0

      rows : f.rows ≡ node_rows net (p' ∷ q' ∷ [])
      rows = is.rows_are ∙ ap (node_rows net) same

-- what a node puts out when it begins with a row, the same as before or not
abbrev pub updates_by : PvState → PureRoute → Bool → List (ℕ × PureUpdate)
updates_by s row same = reported_on (filter (λ a. cond (spoke_on s a) (not same) true) (arcs_to s.net s.number)) (record { dest = 0; route = Some row; stamp = 0 })

-- a node that begins with that row
pub record Begins (s : PvState) (row : PureRoute) (same : Bool) : Type 0 where
  pub count : length s.net.dests ≡ 1
  pub chosen : choice s.net 0 s.number s.heard ≡ Some row
  pub known : same_row (Some row) (s.rows 0) ≡ same

puts_out : (s : PvState) (row : PureRoute) (same : Bool) → Begins s row same → (Begin s).1 ≡ updates_by s row same ++ []
puts_out s row same b =
    ap (λ n. all_begun_updates s (range_with_len 0 n)) b.count
    ∙ (ap (λ r. reported_on (filter (λ a. cond (spoke_on s a) (not (same_row r (s.rows 0))) (is_some r)) (arcs_to s.net s.number)) (record { dest = 0; route = r; stamp = 0 }) ++ []) b.chosen
    ∙ ap (λ x. updates_by s row x ++ []) b.known)

-- the two put out nothing else
pub both_put_out : (p q : PvState) (r s : PureRoute) (x y : Bool) → Begins p r x → Begins q s y
    → begun_messages path_vector (p ∷ q ∷ []) ≡ (updates_by p r x ++ []) ++ ((updates_by q s y ++ []) ++ [])
both_put_out p q r s x y b d =
    ap (λ z. z ++ ((Begin q).1 ++ [])) (puts_out p r x b) ∙ ap (λ z. (updates_by p r x ++ []) ++ (z ++ [])) (puts_out q s y d)

-- an update of a route, and what becomes of a node that takes it at clock 1
abbrev pub update_of : PureRoute → PureUpdate
update_of r = record { dest = 0; route = Some r; stamp = 0 }

abbrev pub after_taking : PvState → ℕ → PureRoute → PvState
after_taking s a r = (taken (Begin s).0 a (update_of r) 1).0

-- the node takes the update of that route and puts out nothing
pub record Takes (s : PvState) (a : ℕ) (r : PureRoute) : Type 0 where
  pub fit : fits (Begin s).0 a (update_of r) ≡ true
  pub silent : (taken (Begin s).0 a (update_of r) 1).1 ≡ []

stepped_is : (s : PvState) (a : ℕ) (r : PureRoute) → Takes s a r → Step (Begin s).0 a (update_of r) 1 ≡ taken (Begin s).0 a (update_of r) 1
stepped_is s a r t = rw (t.fit) refl

-- it is silent where its choice stays as it was
pub stays_silent : (s : PvState) (a : ℕ) (r row : PureRoute) → choice s.net 0 s.number s.heard ≡ Some row → choice s.net 0 s.number (heard_with s.heard a (update_of r)) ≡ Some row → same_route row row ≡ true
    → (taken (Begin s).0 a (update_of r) 1).1 ≡ []
stays_silent s a r row before after same =
    ap (λ z. cond (same_row z (choice s.net 0 s.number s.heard)) [] (reported_on (arcs_to s.net s.number) (record { dest = 0; route = z; stamp = 1 }))) after
    ∙ (ap (λ z. cond (same_row (Some row) z) [] (reported_on (arcs_to s.net s.number) (record { dest = 0; route = Some row; stamp = 1 }))) before
    ∙ ap (λ z. cond z [] (reported_on (arcs_to s.net s.number) (record { dest = 0; route = Some row; stamp = 1 }))) same)

-- and where it speaks on no arc
pub unheard_silent : (s : PvState) (a : ℕ) (r : PureRoute) → arcs_to s.net s.number ≡ [] → (taken (Begin s).0 a (update_of r) 1).1 ≡ []
unheard_silent s a r none =
    let row = choice s.net 0 s.number (heard_with s.heard a (update_of r)) in
    ap (λ z. cond (same_row row (choice s.net 0 s.number s.heard)) [] (reported_on z (record { dest = 0; route = row; stamp = 1 }))) none
    ∙ nothing (same_row row (choice s.net 0 s.number s.heard))
  where
    nothing : (b : Bool) → cond {A = List (ℕ × PureUpdate)} b [] [] ≡ []
    nothing true = refl
    nothing false = refl

-- where the first node takes the one update, or the second does
pub first_takes : (net : PureNet) (p q : PvState) (a : ℕ) (r : PureRoute) → begun_messages path_vector (p ∷ q ∷ []) ≡ (a, update_of r) ∷ [] → listener net a ≡ Some 0 → length net.nodes ≡ 2 → Takes p a r
    → TakesOne net p q a (after_taking p a r) (Begin q).0
first_takes net p q a r begun listens count t = record {
  taker = 0;
  state = p;
  update = update_of r;
  one = record { begun = begun; listens = listens; there = refl; stamp = refl; silent = ap (λ z. z.1) (stepped_is p a r t) ∙ t.silent };
  count = count;
  first = ap (λ z. Some z.0) (stepped_is p a r t);
  second = refl;
}

pub second_takes : (net : PureNet) (p q : PvState) (a : ℕ) (r : PureRoute) → begun_messages path_vector (p ∷ q ∷ []) ≡ (a, update_of r) ∷ [] → listener net a ≡ Some 1 → length net.nodes ≡ 2 → Takes q a r
    → TakesOne net p q a (Begin p).0 (after_taking q a r)
second_takes net p q a r begun listens count t = record {
  taker = 1;
  state = q;
  update = update_of r;
  one = record { begun = begun; listens = listens; there = refl; stamp = refl; silent = ap (λ z. z.1) (stepped_is q a r t) ∙ t.silent };
  count = count;
  first = refl;
  second = ap (λ z. Some z.0) (stepped_is q a r t);
}

-- the rows of the two nodes
pub two_rows : (net : PureNet) (p q : PvState) (r s : PureRoute) → length net.dests ≡ 1 → p.number ≡ 0 → q.number ≡ 1 → p.rows 0 ≡ Some r → q.rows 0 ≡ Some s
    → node_rows net (p ∷ q ∷ []) ≡ record { node = 0; dest = 0; route = Some r } ∷ record { node = 1; dest = 0; route = Some s } ∷ []
two_rows net p q r s count e f g h = rw (count, e, f, g, h) refl
