-- The step from one state to the next, as the code makes it.
use Rattle.std.proofs.Common.{◌≡◌, ℕ, ◌<◌, List, [], Option, Some, None, Bool, true, false, ◌==◌, if◌then◌else◌, option_map, length, replicate, refl, ap, ◌∙◌, arith}
use Rattle.std.proofs.Math.Path.{fun_ext}
use Rattle.std.proofs.lemmas.List.{length-map, length-replicate}
use Rattle.std.proofs.lemmas.Bool.Decides.{nat_tests}
use Rattle.meta_base.specs.declared.ids.NodeId.{NodeId}
use Rattle.alg_model.specs.Expressions.{PureValue}
use Rattle.net_graph.specs.Nets.{PureNet, IsNet}
use Rattle.net_graph.specs.Routes.{PureRoute}
use Rattle.net_graph.specs.Tables.{Reported, carrier}
use Rattle.best_first.specs.Numbered.{PureFixedRoute}
use Rattle.best_first.specs.declared.route.OpenRoute.{OpenRoute}
use Rattle.best_first.specs.Found.{found-map, found_at, arc_offer, own_offer}
use Rattle.best_first.specs.Keys.{key_of, best_of, routes_of}
use Rattle.best_first.specs.Fixed.{fixed_route, fixed_routes, reported_by, open_routes, AreFixedBy, FixesNext}
use Rattle.best_first.specs.Queue.{no_route}
use Rattle.best_first.specs.State.{IsState, CanSpeak, relaxed, spoken}
use Rattle.best_first.proofs.Places.{found-none, found_within, none_count-map, none_count-none, all-none}
use Rattle.best_first.proofs.Steps.{first_state, next_state, can_speak, no_loop}

-- without rows nothing is reported
pub reported-none : {S : Type 0} (value : S → PureValue) (paths : List (List NodeId)) (n : ℕ) → reported_by value paths (replicate n None) ≡ no_route
reported-none value paths n = fun_ext (λ k. found-map (fixed_route value paths) (replicate n None) k ∙ ap (option_map (fixed_route value paths)) (found-none n k))

-- before the first node
module _ {S : Type 0} (value : S → PureValue) (is_sig : S → Type 0) (net : PureNet) (dest : ℕ) (rows : List (Option (PureFixedRoute S))) (paths : List (List NodeId)) (best : List (Option (OpenRoute S)))
    (is_net : IsNet net) (rows_is : rows ≡ replicate (length net.nodes) None) (count : length best ≡ length net.nodes)
  where
    pub reported_before : reported_by value paths rows ≡ no_route
    reported_before = rw rows_is (reported-none value paths (length net.nodes))

    pub fixed_before : paths ≡ [] → AreFixedBy is_sig rows paths
    fixed_before e = record {
      sigs = all-none (λ f. is_sig f.sig) rows none;
      ids = all-none (λ f. f.path.0 < length paths) rows none;
      room = rw (e, rows_is) (
          let count = none_count-none (PureFixedRoute S) (length net.nodes) in
          let all = length-replicate {A = Option (PureFixedRoute S)} (length net.nodes) None in
          omega arith);
    }
      where
        none : (k : ℕ) → found_at rows k ≡ None
        none k = rw rows_is (found-none (length net.nodes) k)

    pub state_before : ((k : ℕ) → found_at (routes_of no_route (best_of value best)) k ≡ own_offer net dest k) → IsState net dest (fixed_routes value paths rows) (open_routes value paths rows best)
    state_before own =
        first_state net dest (fixed_routes value paths rows) (open_routes value paths rows best) is_net
        (length-map rows (option_map (fixed_route value paths)) ∙ rw rows_is (length-replicate (length net.nodes) None))
        (length-map (best_of value best) (option_map _) ∙ (length-map best (option_map (key_of value)) ∙ count))
        (λ k. ap (λ (t : Reported). t k) reported_before)
        (none_count-map (fixed_route value paths) rows ∙ rw rows_is (none_count-none (PureFixedRoute S) (length net.nodes)))
        (λ k l. ap (λ (t : Reported). found_at (routes_of t (best_of value best)) k) reported_before ∙ own k)

-- one node more
module _ {S : Type 0} (value : S → PureValue) (net : PureNet) (dest : ℕ) (rows new_rows : List (Option (PureFixedRoute S))) (paths new_paths : List (List NodeId)) (best taken : List (Option (OpenRoute S))) (i : ℕ)
    (is_net : IsNet net) (st : IsState net dest (fixed_routes value paths rows) (open_routes value paths rows best)) (fixes : FixesNext value (carrier net) rows paths best new_rows new_paths taken i)
  where
    itself : (i == i) ≡ true
    itself = grind (arith, nat_tests)

    pub reported_next : reported_by value new_paths new_rows i ≡ Some fixes.best_of_all.0
    reported_next = fixes.rows_at i ∙ rw (itself, fixes.best_of_all.1) refl

    pub node_in : i < length net.nodes
    node_in =
        let l = found_within (open_routes value paths rows best) i fixes.best_of_all.0 fixes.best_of_all.1 in
        let e = st.open_count in
        omega arith

    pub speaks : CanSpeak net i fixes.best_of_all.0
    speaks = can_speak net dest (fixed_routes value paths rows) (open_routes value paths rows best) i fixes.best_of_all.0 is_net st fixes.best_of_all.1

    pub state_next : (next_best : List (Option (OpenRoute S))) → length new_rows ≡ length net.nodes → length next_best ≡ length net.nodes
        → ((k : ℕ) → found_at (open_routes value new_paths new_rows next_best) k
        ≡ relaxed (carrier net) (reported_by value new_paths new_rows k) (found_at (open_routes value new_paths new_rows taken) k) (spoken net k i (reported_by value new_paths new_rows i)))
        → IsState net dest (fixed_routes value new_paths new_rows) (open_routes value new_paths new_rows next_best)
    state_next next_best rows_count best_count found =
        next_state net dest (fixed_routes value paths rows) (open_routes value paths rows best) (open_routes value new_paths new_rows taken) (fixed_routes value new_paths new_rows) (open_routes value new_paths new_rows next_best)
        i fixes.best_of_all.0 is_net st fixes.best_of_all.1 fixes.best_of_all.2 fixes.open_at open_at
        (λ k. fixes.rows_at k ∙ ap (λ o. if k == i then o else reported_by value paths rows k) fixes.best_of_all.1)
        (length-map new_rows (option_map (fixed_route value new_paths)) ∙ rows_count)
        (length-map (best_of value next_best) (option_map _) ∙ (length-map next_best (option_map (key_of value)) ∙ best_count))
        (rw (none_count-map (fixed_route value new_paths) new_rows, none_count-map (fixed_route value paths) rows) fixes.fewer)
      where
        either : (o : Option PureRoute) → None ≡ relaxed (carrier net) o None None
        either None = refl
        either (Some r) = refl

        open_at : (k : ℕ) → found_at (open_routes value new_paths new_rows next_best) k
            ≡ relaxed (carrier net) (reported_by value paths rows k) (found_at (open_routes value new_paths new_rows taken) k) (arc_offer net k i fixes.best_of_all.0)
        open_at k = found k ∙ by (k == i) refl
          where
            by : (b : Bool) → (k == i) ≡ b
                → relaxed (carrier net) (reported_by value new_paths new_rows k) (found_at (open_routes value new_paths new_rows taken) k) (spoken net k i (reported_by value new_paths new_rows i))
                ≡ relaxed (carrier net) (reported_by value paths rows k) (found_at (open_routes value new_paths new_rows taken) k) (arc_offer net k i fixes.best_of_all.0)
            by true e =
                let same : k ≡ i = grind (arith, nat_tests) in
                let none : found_at (open_routes value new_paths new_rows taken) i ≡ None = fixes.open_at i ∙ rw itself refl in
                rw (same, reported_next, none, no_loop net is_net i fixes.best_of_all.0) (either (reported_by value paths rows i))
            by false e =
                let kept : reported_by value new_paths new_rows k ≡ reported_by value paths rows k = fixes.rows_at k ∙ rw e refl in
                rw (kept, reported_next) refl
