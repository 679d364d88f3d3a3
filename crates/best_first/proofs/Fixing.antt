-- The step that fixes the next node, as the code makes it.
use Rattle.std.proofs.Common.{◌≡◌, ℕ, ◌+◌, ◌^◌, ◌<◌, zero, suc, List, [], ◌∷◌, ◌++◌, Option, Some, None, IfSome, Bool, true, false, ◌==◌, if◌then◌else◌, option_map, length, refl, sym, ap, ◌∙◌, inl, inr, arith}
use Rattle.std.proofs.Math.ListN.{set}
use Rattle.std.proofs.Math.Path.{fun_ext}
use Rattle.std.proofs.Math.Seq.{get_or-append_seam}
use Rattle.std.proofs.lemmas.List.{length-map, length-set, length-append, map-set, get_or_append_left}
use Rattle.std.proofs.lemmas.Bool.Decides.{nat_tests}
use Rattle.meta_base.specs.declared.ids.NodeId.{NodeId}
use Rattle.meta_base.specs.NodePaths.{numbers}
use Rattle.path_store.specs.PathOf.{path_of}
use Rattle.frontier.specs.Tournaments.{PureTournament}
use Rattle.alg_model.specs.Expressions.{PureCarrier, PureValue}
use Rattle.net_graph.specs.Nets.{CanBeNumbered}
use Rattle.net_graph.specs.Routes.{PureRoute}
use Rattle.net_graph.specs.Tables.{Reported}
use Rattle.best_first.specs.Numbered.{PureFixedRoute}
use Rattle.best_first.specs.declared.route.OpenRoute.{OpenRoute}
use Rattle.best_first.specs.Found.{found-map, found_at, AllFound, none_count}
use Rattle.best_first.specs.Keys.{RouteKey, key_of, best_of, route_of, routes_of, path_or_none, IsShaped}
use Rattle.best_first.specs.Fixed.{fixed_route, reported_by, open_routes, path_after, AreFixedBy, FixesNext}
use Rattle.best_first.specs.Queue.{IsBestAt, IsOpen, IsNext, with_reported}
use Rattle.best_first.proofs.Places.{found-set, all-set, found_within, from_none, from_some, none_count-set}
use Rattle.best_first.proofs.Queues.{open-found}

-- the path of a row is that of the store
reported-path : {S : Type 0} (value : S → PureValue) (paths : List (List NodeId)) (o : Option (PureFixedRoute S)) → path_or_none (option_map (fixed_route value paths) o) ≡ numbers (path_after paths o)
reported-path value paths None = refl
reported-path value paths (Some f) = refl

-- with a path more in the store the rows tell the same
reported-more : {S : Type 0} (value : S → PureValue) (paths : List (List NodeId)) (path : List NodeId) (o : Option (PureFixedRoute S)) → IfSome o (λ f. f.path.0 < length paths)
    → option_map (fixed_route value (paths ++ path ∷ [])) o ≡ option_map (fixed_route value paths) o
reported-more value paths path None h = refl
reported-more value paths path (Some f) h = rw (get_or_append_left paths (path ∷ []) [] f.path.0 h) refl

-- a node without a row
one_none : {X : Type 0} (xs : List (Option X)) (i : ℕ) → i < length xs → found_at xs i ≡ None → 0 < none_count xs
one_none [] i l e = absurd (omega arith)
one_none (None ∷ xs) i l e = omega arith
one_none (Some x ∷ xs) zero l e = absurd (cc)
one_none (Some x ∷ xs) (suc i) l e = one_none xs i (omega arith) e

all-weaker : {X : Type 0} (P Q : X → Type 0) → ((x : X) → P x → Q x) → (xs : List (Option X)) → AllFound P xs → AllFound Q xs
all-weaker {X = X} P Q f xs h k = by (found_at xs k) (h k)
  where
    by : (o : Option X) → IfSome o P → IfSome o Q
    by None p = tt
    by (Some x) p = f x p

some_none : {X Y : Type 0} (o : Option X) (x : X) → o ≡ None → o ≡ Some x → Y
some_none o x e f = absurd (cc)

module _ {S : Type 0} (value : S → PureValue) (is_sig : S → Type 0) (c : PureCarrier) (rows : List (Option (PureFixedRoute S))) (paths : List (List NodeId)) (best : List (Option (OpenRoute S)))
    (old_standing standing : PureTournament) (i : ℕ) (count : length rows ≡ length best) (fixed : AreFixedBy is_sig rows paths)
    (opened : IsOpen value is_sig c (reported_by value paths rows) best old_standing) (next : IsNext c (reported_by value paths rows) (best_of value best) standing i)
  where
    reported : Reported
    reported = reported_by value paths rows

    -- what is open at node i
    at_i : (r : PureRoute) × (found_at (routes_of (reported_by value paths rows) (best_of value best)) i ≡ Some r)
    at_i = (next.best_of_all.0, next.best_of_all.1)

    key_at_i : (b : RouteKey) × (found_at (best_of value best) i ≡ Some b)
    key_at_i =
        let from = from_some (route_of (reported_by value paths rows)) (found_at (best_of value best) i) at_i.0 (sym (open-found (reported_by value paths rows) (best_of value best) i) ∙ at_i.1) in
        (from.0, from.1)

    pub best_within : i < length best
    best_within =
        let l = found_within (best_of value best) i key_at_i.0 key_at_i.1 in
        omega (arith, l, length-map best (option_map (key_of value)))

    pub row_within : i < length rows
    row_within = let l = best_within in omega arith

    no_row : found_at rows i ≡ None
    no_row = from_none (fixed_route value paths) (found_at rows i) (sym (found-map (fixed_route value paths) rows i) ∙ next.is_open)

    pub few_paths : CanBeNumbered (length rows) → length paths < 2 ^ 32
    few_paths few = let one = one_none rows i row_within no_row in let room = fixed.room in omega arith

    -- the route that is taken
    module _ (route : OpenRoute S) (is : found_at best i ≡ Some route) where
      key : RouteKey
      key = key_of value route

      here : found_at (best_of value best) i ≡ Some (key_of value route)
      here = found-map (key_of value) best i ∙ ap (option_map (key_of value)) is

      at_best : IsBestAt c (reported_by value paths rows) i (key_of value route)
      at_best = opened.queue.bests i (key_of value route) here

      pub node_is : route.place.node.0 ≡ i
      node_is = at_best.node

      pub node_within : route.place.node.0 < length rows
      node_within = rw node_is row_within

      pub next_within : route.place.next.0 < length rows
      next_within = by at_best.shaped
        where
          by : IsShaped (reported_by value paths rows) (key_of value route) → route.place.next.0 < length rows
          by (inl own) = rw own.0 node_within
          by (inr b) =
              let from = from_some (fixed_route value paths) (found_at rows route.place.next.0) b.next (sym (found-map (fixed_route value paths) rows route.place.next.0) ∙ b.is_reported) in
              found_within rows route.place.next.0 from.0 from.1

      r : PureRoute
      r = route_of (reported_by value paths rows) (key_of value route)

      open_is : found_at (open_routes value paths rows best) i ≡ Some (route_of (reported_by value paths rows) (key_of value route))
      open_is = open-found (reported_by value paths rows) (best_of value best) i ∙ ap (option_map (route_of (reported_by value paths rows))) here

      path : List NodeId
      path = route.place.node ∷ path_after paths (found_at rows route.place.next.0)

      row : PureFixedRoute S
      row = record { sig = route.sig; path = record { 0 = length paths } }

      -- with the node's row written and its path added
      module _ (new_rows : List (Option (PureFixedRoute S))) (new_paths : List (List NodeId)) (new_best : List (Option (OpenRoute S)))
          (rows_is : new_rows ≡ set rows route.place.node.0 (Some (record { sig = route.sig; path = record { 0 = length paths } })))
          (paths_is : new_paths ≡ paths ++ (route.place.node ∷ path_after paths (found_at rows route.place.next.0)) ∷ [])
          (best_is : new_best ≡ set best i None)
        where
          rows_written : (k : ℕ) → found_at new_rows k ≡ (if k == i then Some row else found_at rows k)
          unfolding row
          rows_written k = rw (rows_is, node_is) (found-set rows i k (Some row) row_within)

          row_is : fixed_route value new_paths row ≡ r
          unfolding row r
          row_is =
              let path_is : path_of new_paths record { 0 = length paths } ≡ route.place.node ∷ path_after paths (found_at rows route.place.next.0) =
              rw paths_is (get_or-append_seam paths (route.place.node ∷ path_after paths (found_at rows route.place.next.0)) [] []) in
              let rest : path_or_none (reported_by value paths rows route.place.next.0) ≡ numbers (path_after paths (found_at rows route.place.next.0)) =
              ap path_or_none (found-map (fixed_route value paths) rows route.place.next.0) ∙ reported-path value paths (found_at rows route.place.next.0) in
              rw (path_is, rest) refl

          reported_at : (k : ℕ) → reported_by value new_paths new_rows k ≡ with_reported (reported_by value paths rows) i r k
          reported_at k = found-map (fixed_route value new_paths) new_rows k ∙ by (k == i) refl
            where
              by : (b : Bool) → (k == i) ≡ b → option_map (fixed_route value new_paths) (found_at new_rows k) ≡ (if k == i then Some r else reported_by value paths rows k)
              by true e = rw (rows_written k, e) (ap (λ z. Some z) row_is)
              by false e = rw (rows_written k, e, paths_is) (reported-more value paths (route.place.node ∷ path_after paths (found_at rows route.place.next.0)) (found_at rows k) (fixed.ids k) ∙ sym (found-map (fixed_route value paths) rows k))

          -- the route that is fixed has as many nodes as its place says
          size_is : route.place.size ≡ length r.path
          unfolding r
          size_is = by at_best.shaped
            where
              by : IsShaped (reported_by value paths rows) (key_of value route) → route.place.size ≡ suc (length (path_or_none (reported_by value paths rows route.place.next.0)))
              by (inl own) =
                  let none : reported_by value paths rows route.place.next.0 ≡ None = ap (reported_by value paths rows) (own.0 ∙ node_is) ∙ at_best.is_open in
                  rw none own.1
              by (inr b) = rw b.is_reported (let size = b.size in omega arith)

          pub size_there : IfSome (reported_by value new_paths new_rows route.place.node.0) (λ q. route.place.size ≡ length q.path)
          size_there =
              let itself : (i == i) ≡ true = grind (arith, nat_tests) in
              let there : reported_by value new_paths new_rows i ≡ Some r = reported_at i ∙ rw itself refl in
              rw (node_is, there) size_is

          reported_is : reported_by value new_paths new_rows ≡ with_reported (reported_by value paths rows) i r
          reported_is = fun_ext reported_at

          best_set : best_of value new_best ≡ set (best_of value best) i None
          best_set = rw best_is (map-set (option_map (key_of value)) best i None)

          bests_within : i < length (best_of value best)
          bests_within = omega (arith, best_within, length-map best (option_map (key_of value)))

          same_route : (k : ℕ) (b : RouteKey) → (k == i) ≡ false → IsBestAt c (reported_by value paths rows) k b
              → route_of (with_reported (reported_by value paths rows) i r) b ≡ route_of (reported_by value paths rows) b
          same_route k b apart at_b = rw apart_next refl
            where
              apart_next : (b.next == i) ≡ false
              apart_next = by at_b.shaped (b.next == i) refl
                where
                  by : IsShaped (reported_by value paths rows) b → (t : Bool) → (b.next == i) ≡ t → (b.next == i) ≡ false
                  by shaped false e = e
                  by (inl own) true e = (let f : b.next ≡ k = own.0 ∙ at_b.node in rw f apart)
                  by (inr after) true e =
                      let same : b.next ≡ i = grind (arith, nat_tests) in
                      some_none (reported_by value paths rows i) after.next next.is_open (rw same at after.is_reported)

          open_at : (k : ℕ) → found_at (open_routes value new_paths new_rows new_best) k ≡ (if k == i then None else found_at (open_routes value paths rows best) k)
          open_at k =
              open-found (reported_by value new_paths new_rows) (best_of value new_best) k
              ∙ (ap (option_map (route_of (reported_by value new_paths new_rows))) (ap (λ z. found_at z k) best_set ∙ found-set (best_of value best) i k None bests_within) ∙ by (k == i) refl)
            where
              key_same : (k == i) ≡ false → (o : Option RouteKey) → found_at (best_of value best) k ≡ o
                  → option_map (route_of (reported_by value new_paths new_rows)) o ≡ option_map (route_of (reported_by value paths rows)) o
              key_same e None f = refl
              key_same e (Some b) f = ap (λ (z : Reported). Some (route_of z b)) reported_is ∙ ap (λ z. Some z) (same_route k b e (opened.queue.bests k b f))

              by : (t : Bool) → (k == i) ≡ t
                  → option_map (route_of (reported_by value new_paths new_rows)) (if k == i then None else found_at (best_of value best) k) ≡ (if k == i then None else found_at (open_routes value paths rows best) k)
              by true e = rw e refl
              by false e = rw e (key_same e (found_at (best_of value best) k) refl ∙ sym (open-found (reported_by value paths rows) (best_of value best) k))

          pub fixes : FixesNext value c rows paths best new_rows new_paths new_best i
          unfolding r row
          fixes = record {
            best_of_all = next.best_of_all;
            rows_at = λ k. reported_at k ∙ ap (λ o. if k == i then o else reported_by value paths rows k) (sym open_is);
            open_at = open_at;
            fewer = rw (rows_is, node_is) (none_count-set rows i row row_within no_row);
          }

          pub rows_length : length new_rows ≡ length rows
          unfolding row
          rows_length = rw rows_is (length-set rows route.place.node.0 (Some row))

          pub fixed_after : AreFixedBy is_sig new_rows new_paths
          unfolding row
          fixed_after = record {
            sigs = rw (rows_is, node_is) (all-set (λ f. is_sig f.sig) rows i (Some row) row_within fixed.sigs (all_sig));
            ids = rw (rows_is, node_is) (all-set (λ f. f.path.0 < length new_paths) rows i (Some row) row_within
                (all-weaker (λ f. f.path.0 < length paths) (λ f. f.path.0 < length new_paths) (λ f l. (let m = more in omega arith)) rows fixed.ids) (let m = more in omega arith));
            room =
                let m = more in
                let l = rows_length in
                let f = fixes.fewer in
                let room = fixed.room in
                omega arith;
          }
            where
              more : length new_paths ≡ length paths + 1
              more = rw paths_is (length-append paths ((route.place.node ∷ path_after paths (found_at rows route.place.next.0)) ∷ []))

              all_sig : is_sig route.sig
              all_sig = rw is at (opened.sigs i)

          pub open_after : IsOpen value is_sig c (reported_by value new_paths new_rows) new_best standing
          open_after = record {
            sigs = rw best_is (all-set (λ o. is_sig o.sig) best i None best_within opened.sigs tt);
            queue = rw (reported_is, best_set) (next.queue r);
          }
