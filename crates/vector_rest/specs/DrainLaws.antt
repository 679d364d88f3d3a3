-- Where nothing is left, nothing waits. Lemmas, so that proofs of other crates may cite them.
use Rattle.std.proofs.Common.{◌≡◌, ℕ, zero, suc, ◌<◌, ◌≤◌, Bool, true, false, List, [], ◌∷◌, Some, length, subst, refl, sym, arith}
use Rattle.std.specs.Prelude.{◌==◌, nat_lt}
use Rattle.std.proofs.lemmas.Bool.{eqb-true, eqb-false}
use Rattle.std.proofs.lemmas.Bool.Decides.{nat_tests}
use Rattle.meta_base.specs.declared.ids.Delivery.{Delivery}
use Rattle.alg_model.specs.Properties.{monotone}
use Rattle.net_graph.specs.Nets.{PureNet, IsNet}
use Rattle.net_graph.specs.Tables.{NetHas}
use Rattle.node_core.specs.Kinds.{Kind}
use Rattle.node_core.specs.Machine.{Machine, Drained, Start, Replay}
use Rattle.node_core.specs.Running.{IsRunning}
use Rattle.node_core.specs.MachineLaws.{start_runs, replay_runs}
use Rattle.rest_laws.specs.Ways.{total, ways_on, left}
use Rattle.rest_laws.specs.WayLaws.{ways_some}
use Rattle.rest_laws.specs.Budgets.{read_budgets, known_budgets}
use Rattle.path_vector.specs.Node.{PvState, PureUpdate, path_vector}
use Rattle.path_vector.specs.Coherent.{MayBegin}
use Rattle.path_vector.specs.Lawful.{path_vector_is_lawful}
use Rattle.vector_rest.specs.Levels.{learn, known_on, budget_from}
use Rattle.vector_rest.specs.Left.{left_at_start, left_from}
use Rattle.vector_rest.specs.EndLaws.{may_begin_unbegun, begun_runs_end}

-- where a sum is 0, so is each of what is added
total_none : (n : ℕ) (f : ℕ → ℕ) → total n f ≡ 0 → (i : ℕ) → i < n → f i ≡ 0
total_none zero f e i h = absurd (omega (arith, h))
total_none (suc n) f e i h = by (i == n) refl (λ below. total_none n f (omega (arith, e)) i below)
  where
    by : (b : Bool) → (i == n) ≡ b → (i < n → f i ≡ 0) → f i ≡ 0
    by true t rest =
        let here : f n ≡ 0 = omega (arith, e) in
        subst (λ j. f j ≡ 0) (sym (eqb-true i n t)) here
    by false t rest =
        let ne = eqb-false i n t in
        rest (omega (arith, h, ne))

-- and where no ways are left on an arc, nothing waits there
no_ways : (net : PureNet) (a : ℕ) (rs : List ℕ) → ways_on net a rs ≡ 0 → rs ≡ []
no_ways net a [] e = refl
no_ways net a (r ∷ rs) e = let some = ways_some net a r in absurd (omega (arith, e, some))

module _ {S M T : Type 0} (k : Kind S M) (net : PureNet) (budget : T → M → ℕ) (learn : T → M → T) (known : Machine S M → ℕ → T) where
  none_read : (t : T) (ms : List M) → read_budgets budget learn t ms ≡ [] → ms ≡ []
  none_read t [] e = refl
  none_read t (m ∷ ms) e = absurd (cc)

  pub none_left : (c : Machine S M) → IsRunning k net c → left net (known_budgets k net budget learn known c) ≡ 0 → Drained c
  none_left c run e a = by (nat_lt a (length net.arcs)) refl
    where
      by : (b : Bool) → nat_lt a (length net.arcs) ≡ b → c.link a ≡ []
      by true t =
          let within : a < length net.arcs = grind (arith, nat_tests) in
          none_read (known c a) (c.link a) (no_ways net a (known_budgets k net budget learn known c a) (total_none (length net.arcs) (λ b. ways_on net b (known_budgets k net budget learn known c b)) e a within))
      by false t = run.on_arcs a (let past : length net.arcs ≤ a = grind (arith, nat_tests) in past)

-- once as many deliveries were made as were left at the start, nothing is on its way
pub enough_deliveries_drain : (net : PureNet) (nodes : List PvState) (journal : List Delivery) (c : Machine PvState PureUpdate) → IsNet net → NetHas monotone net → MayBegin net nodes
    → Replay path_vector net nodes journal ≡ Some c → left_at_start net nodes ≤ length journal → Drained c
enough_deliveries_drain net nodes journal c n mono m e enough =
    let all = begun_runs_end net nodes journal c n mono m e in
    let running = start_runs path_vector path_vector_is_lawful net n nodes (may_begin_unbegun net nodes m) in
    let now = replay_runs path_vector path_vector_is_lawful net n journal (Start path_vector nodes) c running e in
    drained now (omega (arith, all, enough))
  where
    drained : IsRunning path_vector net c → left_from net (Start path_vector nodes) c ≡ 0 → Drained c
    drained run none = none_left path_vector net (budget_from net (Start path_vector nodes)) learn (known_on net) c run none
