-- From one state to the next, and from the last to the table.
use Rattle.std.proofs.Common.{◌≡◌, ◌≢◌, ℕ, ◌+◌, ◌*◌, ◌<◌, ◌≤◌, zero, suc, ◌⊎◌, inl, inr, List, [], ◌∷◌, Option, Some, None, IfSome, Bool, true, false, cond, ◌==◌, if◌then◌else◌, is_some, option_map, option_and_then, length, refl, sym, ap, ◌∙◌, arith}
use Rattle.std.proofs.lemmas.Bool.{cases_lt, false≢true}
use Rattle.std.proofs.lemmas.Bool.Decides.{nat_tests}
use Rattle.alg_model.specs.declared.edition.TheConstants.{MAX_LABEL_NUMBER}
use Rattle.alg_model.specs.declared.alg.TheConstants.{MAX_VALUE_NUMBER}
use Rattle.net_graph.specs.declared.route.TheConstants.{MAX_ROW_NUMBER}
use Rattle.alg_model.specs.Expressions.{PureCarrier, PureValue, PureLabel}
use Rattle.alg_model.specs.Carriers.{In}
use Rattle.alg_model.specs.Laws.{at_most_more}
use Rattle.net_graph.specs.Nets.{PureNet, IsNet, origin_value, label_between}
use Rattle.net_graph.specs.Routes.{PureRoute, Better, is_better}
use Rattle.net_graph.specs.Walks.{along}
use Rattle.net_graph.specs.declared.limits.TheConstants.{MOST_NODES}
use Rattle.net_graph.specs.Laws.{few_nodes}
use Rattle.net_graph.specs.Tables.{PureRow, TableOf, IsRouteOf, AreRowsFrom, carrier, route_at, is_among, IsOfferBy, IsOfferFrom, AreFixed, BestFirst}
use Rattle.best_first.specs.Found.{found_at, none_count, rows_from, better_of, own_offer, arc_offer}
use Rattle.alg_model.specs.Application.{App}
use Rattle.best_first.specs.State.{WereFixed, IsBestIn, IsBestOffer, IsKept, IsState, CanSpeak, relaxed}
use Rattle.net_graph.specs.ArcLaws.{of_some, IsArc, arcs_are, IsOrigin, origins_are, along_in, along_at_most}
use Rattle.best_first.proofs.Better.{unbeaten_by_all, not_itself, better_beats_both}
use Rattle.net_graph.specs.RouteLaws.{same_route}
use Rattle.best_first.proofs.Offers.{among_split, among_first, among_more, Agree, offer_moves, offer_begins}

-- a row's route is what was found
pub row-found : (dest i : ℕ) (rows : List (Option PureRoute)) (k : ℕ) → route_at (rows_from dest i rows) k ≡ found_at rows k
row-found dest i [] k = refl
row-found dest i (o ∷ os) zero = refl
row-found dest i (o ∷ os) (suc k) = row-found dest (i + 1) os k

length-rows : (dest i : ℕ) (rows : List (Option PureRoute)) → length (rows_from dest i rows) ≡ length rows
length-rows dest i [] = refl
length-rows dest i (o ∷ os) = let e = length-rows dest (i + 1) os in omega arith

rows_are : (net : PureNet) (dest i : ℕ) (rows : List (Option PureRoute)) → ((k : ℕ) (r : PureRoute) → found_at rows k ≡ Some r → IsRouteOf net r) → AreRowsFrom net dest i (rows_from dest i rows)
rows_are net dest i [] h = tt
rows_are net dest i (o ∷ os) h = (refl, refl, by o (h 0), rows_are net dest (i + 1) os (λ k. h (suc k)))
  where
    by : (o : Option PureRoute) → ((r : PureRoute) → o ≡ Some r → IsRouteOf net r) → IfSome o (IsRouteOf net)
    by None g = tt
    by (Some r) g = g r refl

-- what was fixed, the latest first, was fixed in some order
in_order : (net : PureNet) (dest : ℕ) (t : List PureRow) (before order : List ℕ) → WereFixed net dest t before → AreFixed net dest t before order
    → (all : List ℕ) × AreFixed net dest t [] all
in_order net dest t [] order w f = (order, f)
in_order net dest t (i ∷ before) order w f = in_order net dest t before (i ∷ order) w.3 (w.0, w.1, w.2, f)

-- offers by nodes more
offer_more : (net : PureNet) (dest : ℕ) (t : List PureRow) (before : List ℕ) (i k : ℕ) (s : PureRoute) → IsOfferFrom net dest (route_at t) before k s → IsOfferFrom net dest (route_at t) (i ∷ before) k s
offer_more net dest t before i k s (inl own) = inl own
offer_more net dest t before i k s (inr (j, among, by)) = inr (j, among_more before i j among, by)

offer_split : (net : PureNet) (dest : ℕ) (t : List PureRow) (before : List ℕ) (i k : ℕ) (s : PureRoute) → IsOfferFrom net dest (route_at t) (i ∷ before) k s
    → IsOfferFrom net dest (route_at t) before k s ⊎ IsOfferBy net (route_at t) k i s
offer_split net dest t before i k s (inl own) = inl (inl own)
offer_split net dest t before i k s (inr (j, among, by)) = elim (among_split before i j among) [
  | inl same ↦ inr (rw (← same) at by)
  | inr m ↦ inl (inr (j, m, by))
]

-- where tables agree on what was fixed, it was fixed in both
still_fixed : (net : PureNet) (dest : ℕ) (t u : List PureRow) (before : List ℕ) → Agree t u before → WereFixed net dest t before → WereFixed net dest u before
still_fixed net dest t u [] a w = tt
still_fixed net dest t u (i ∷ before) a w = (
  w.0,
  w.1,
  (
    w.2.0,
    sym (a i (among_first before i i refl)) ∙ w.2.1,
    offer_moves net dest t u before i w.2.0 smaller w.2.2,
    λ k s within out offer. w.2.3 k s within out (offer_moves net dest u t before k s back offer),
  ),
  still_fixed net dest t u before smaller w.3,
)
  where
    smaller : Agree t u before
    smaller j e = a j (among_more before i j e)

    back : Agree u t before
    back j e = sym (smaller j e)

-- an offer by nodes whose rows are kept may be kept
offer_kept : (net : PureNet) (dest : ℕ) (t : List PureRow) (before : List ℕ) (k : ℕ) (s : PureRoute) → IsNet net
    → ((j : ℕ) (r : PureRoute) → route_at t j ≡ Some r → IsKept net before r) → IsOfferFrom net dest (route_at t) before k s → IsKept net (k ∷ before) s
offer_kept net dest t before k s n kept (inl (value, path)) =
    let origin = of_some (IsOrigin net dest k) (origin_value net dest k) s.value (origins_are net n dest k) value in
    record {
      value_in = origin.value_in;
      bound =
          let one : length s.path ≡ 1 = rw path (omega arith) in
          at_most_more MAX_LABEL_NUMBER (MAX_LABEL_NUMBER * length s.path) s.value (rw one (omega arith)) origin.small;
      short = rw path (omega arith);
      inside = λ m e. elim (among_split [] k m (rw path at e)) [
        | inl same ↦ among_first before k m same
        | inr h ↦ absurd (false≢true h)
      ];
    }
offer_kept net dest t before k s n kept (inr (j, among, o)) =
    let next = kept j o.next o.is_reported in
    record {
      value_in = of_some (In (carrier net)) (along net k j (Some o.next.value)) s.value (along_in net n k j (Some o.next.value) next.value_in) o.weighs;
      bound =
          let more : length s.path ≡ length o.next.path + 1 = rw o.path (omega arith) in
          at_most_more (MAX_LABEL_NUMBER * length o.next.path + MAX_LABEL_NUMBER) (MAX_LABEL_NUMBER * length s.path) s.value (rw more (omega arith))
          (along_at_most net n k j o.next.value s.value (MAX_LABEL_NUMBER * length o.next.path) next.bound o.weighs);
      short = rw o.path (let h = next.short in omega arith);
      inside = λ m e. elim (among_split o.next.path k m (rw o.path at e)) [
        | inl same ↦ among_first before k m same
        | inr h ↦ among_more before k m (next.inside m h)
      ];
    }

abbrev route : PureValue → List ℕ → PureRoute
route v p = record { value = v; path = p }

-- without rows a node is offered what its own origin offers
pub first_state : (net : PureNet) (dest : ℕ) (rows open_routes : List (Option PureRoute)) → IsNet net → length rows ≡ length net.nodes → length open_routes ≡ length net.nodes
    → ((k : ℕ) → found_at rows k ≡ None) → none_count rows ≡ length net.nodes → ((k : ℕ) → k < length net.nodes → found_at open_routes k ≡ own_offer net dest k)
    → IsState net dest rows open_routes
first_state net dest rows open_routes n a b none count own = record {
  before = [];
  rows_count = a;
  open_count = b;
  marks = λ k l. rw (none k) refl;
  shut = λ k e. absurd (false≢true e);
  fixed = tt;
  chosen = λ k l e. rw (own k l) (by k (origin_value net dest k) refl);
  kept = λ k r e. absurd (let n = none k in cc);
  room = omega arith;
}
  where
    nobody : (k : ℕ) (s : PureRoute) → IsOfferFrom net dest (route_at (rows_from dest 0 rows)) [] k s → (origin_value net dest k ≡ Some s.value) × (s.path ≡ k ∷ [])
    nobody k s (inl own) = own
    nobody k s (inr (j, among, o)) = absurd (false≢true among)

    by : (k : ℕ) (o : Option PureValue) → origin_value net dest k ≡ o
        → IsBestOffer net dest (rows_from dest 0 rows) [] k (option_map (λ (v : PureValue). record { value = v; path = k ∷ [] }) o)
    by k None e = λ s offer. let f = (nobody k s offer).0 in cc
    by k (Some v) e = (
      inl (e, refl),
      λ s offer better.
          let own = nobody k s offer in
          let f = own.0 in
          let value : s.value ≡ v = cc in
          let same : s ≡ route v (k ∷ []) = same_route s (route v (k ∷ [])) value own.1 in
          let value_in = (of_some (IsOrigin net dest k) (origin_value net dest k) v (origins_are net n dest k) e).value_in in
          not_itself (carrier net) (Some (route v (k ∷ []))) value_in (rw same at better),
    )

-- what an arc makes of a route is an offer, and every offer by that node
arc-offer : (net : PureNet) (t : List PureRow) (k i : ℕ) (r s : PureRoute) → route_at t i ≡ Some r → is_among r.path k ≡ false → arc_offer net k i r ≡ Some s → IsOfferBy net (route_at t) k i s
arc-offer net t k i r s reported out e = by (along net k i (Some r.value)) refl e
  where
    by : (o : Option PureValue) → along net k i (Some r.value) ≡ o → option_map (λ (v : PureValue). record { value = v; path = k ∷ r.path }) o ≡ Some s → IsOfferBy net (route_at t) k i s
    by None h e = absurd (cc)
    by (Some v) h e =
        let same : route v (k ∷ r.path) ≡ s = cc in
        record {
          next = r;
          is_reported = reported;
          weighs = rw (← same) h;
          loopless = out;
          path = rw (← same) refl;
        }

offer-arc : (net : PureNet) (t : List PureRow) (k i : ℕ) (r s : PureRoute) → route_at t i ≡ Some r → IsOfferBy net (route_at t) k i s → arc_offer net k i r ≡ Some s
offer-arc net t k i r s reported o =
    let f = o.is_reported in
    let same : r ≡ o.next = cc in
    rw (same, o.weighs) (ap (λ z. Some z) (same_route (route s.value (k ∷ o.next.path)) s refl (sym o.path)))

list_past : (xs : List (Option PureRoute)) (k : ℕ) → length xs ≤ k → found_at xs k ≡ None
list_past [] k l = refl
list_past (x ∷ xs) zero l = absurd (omega arith)
list_past (x ∷ xs) (suc k) l = list_past xs k (omega arith)

is_none : (o : Option PureRoute) → is_some o ≡ false → o ≡ None
is_none None e = refl
is_none (Some r) e = absurd (cc)

-- no node has an arc to itself
pub no_loop : (net : PureNet) → IsNet net → (i : ℕ) (r : PureRoute) → arc_offer net i i r ≡ None
no_loop net n i r = by (label_between net i i) (arcs_are net n i i)
  where
    by : (o : Option PureLabel) → IfSome o (IsArc net i i) → option_map (λ (v : PureValue). route v (i ∷ r.path)) (option_and_then (λ l. option_and_then (App net.alg.expression l) (Some r.value)) o) ≡ None
    by None a = refl
    by (Some l) a =
        let itself : (i == i) ≡ true = grind (arith, nat_tests) in
        absurd (false≢true (sym a.apart ∙ itself))

-- The best of the old offers, and one more offer.
best_with : (c : PureCarrier) (Old All : PureRoute → Type 0) (o a : Option PureRoute) → IfSome o (λ r. In c r.value) → IfSome a (λ r. In c r.value) → ((s : PureRoute) → Old s → In c s.value)
    → ((s : PureRoute) → All s → Old s ⊎ (a ≡ Some s)) → ((s : PureRoute) → Old s → All s) → ((s : PureRoute) → a ≡ Some s → All s) → IsBestIn c Old o → IsBestIn c All (better_of c o a)
best_with c Old All None None i j ins split old new best = λ s all. elim (split s all) [ inl h ↦ best s h | inr e ↦ cc ]
best_with c Old All (Some x) None i j ins split old new best = (old x best.0, λ s all. elim (split s all) [ inl h ↦ best.1 s h | inr e ↦ absurd (cc) ])
best_with c Old All None (Some y) i j ins split old new best = (
  new y refl,
  λ s all. elim (split s all) [
    | inl h ↦ absurd (best s h)
    | inr e ↦
        let same : y ≡ s = cc in
        λ better. not_itself c (Some y) j (rw (← same) at better)
  ],
)
best_with c Old All (Some x) (Some y) i j ins split old new best = by (is_better c y x) refl
  where
    by : (b : Bool) → is_better c y x ≡ b → IsBestIn c All (cond b (Some y) (Some x))
    by true h = (
      new y refl,
      λ s all. elim (split s all) [
        | inl f ↦ unbeaten_by_all c (Some y) (Some x) (Some s) j i (ins s f) ((rw h at (better_beats_both c (Some x) (Some y) i j)).0) (best.1 s f)
        | inr e ↦
            let same : y ≡ s = cc in
            λ better. not_itself c (Some y) j (rw (← same) at better)
      ],
    )
    by false h = (
      old x best.0,
      λ s all. elim (split s all) [
        | inl f ↦ best.1 s f
        | inr e ↦
            let same : y ≡ s = cc in
            λ better. (rw h at (better_beats_both c (Some x) (Some y) i j)).1 (rw (← same) at better)
      ],
    )

-- the state with one node more
module _ (net : PureNet) (dest : ℕ) (rows open_routes taken next_rows next_open : List (Option PureRoute)) (i : ℕ) (r : PureRoute) (n : IsNet net) (st : IsState net dest rows open_routes)
    (reported : found_at open_routes i ≡ Some r) (best : (k : ℕ) (s : PureRoute) → found_at open_routes k ≡ Some s → ¬ Better (carrier net) s r)
    (taken_at : (k : ℕ) → found_at taken k ≡ (if k == i then None else found_at open_routes k))
    (open_at : (k : ℕ) → found_at next_open k ≡ relaxed (carrier net) (found_at rows k) (found_at taken k) (arc_offer net k i r))
    (rows_at : (k : ℕ) → found_at next_rows k ≡ (if k == i then Some r else found_at rows k))
  where
    t : List PureRow
    t = rows_from dest 0 rows

    u : List PureRow
    u = rows_from dest 0 next_rows

    differs : (k : ℕ) → k ≢ i → (k == i) ≡ false
    differs k ne = grind (arith, nat_tests)

    same : (k : ℕ) → k ≡ i → (k == i) ≡ true
    same k e = grind (arith, nat_tests)

    within : i < length net.nodes
    within = elim (cases_lt i (length net.nodes)) [
      | inl l ↦ l
      | inr l ↦ absurd (let e = list_past open_routes i (let h = st.open_count in omega arith) in cc)
    ]

    out : is_among st.before i ≡ false
    out = by (is_among st.before i) refl
      where
        by : (b : Bool) → is_among st.before i ≡ b → is_among st.before i ≡ false
        by true e = absurd (let f = st.shut i e in cc)
        by false e = e

    apart : (k : ℕ) → is_among st.before k ≡ true → k ≢ i
    apart k e f = false≢true (sym out ∙ rw f at e)

    at_i : route_at u i ≡ Some r
    unfolding u
    at_i = row-found dest 0 next_rows i ∙ rw (same i refl) at (rows_at i)

    agree : Agree t u st.before
    unfolding t u
    agree j e = row-found dest 0 rows j ∙ sym (row-found dest 0 next_rows j ∙ rw (differs j (apart j e)) at (rows_at j))

    back : Agree u t st.before
    back j e = sym (agree j e)

    row_kept : (j : ℕ) (s : PureRoute) → route_at t j ≡ Some s → IsKept net st.before s
    unfolding t
    row_kept j s e = st.kept j s (sym (row-found dest 0 rows j) ∙ e)

    chosen_i : IsBestOffer net dest t st.before i (Some r)
    unfolding t
    chosen_i = rw reported at (st.chosen i within out)

    r_kept : IsKept net (i ∷ st.before) r
    r_kept = offer_kept net dest t st.before i r n row_kept chosen_i.0

    value_in : (k : ℕ) (s : PureRoute) → IsOfferFrom net dest (route_at t) st.before k s → In (carrier net) s.value
    value_in k s o = (offer_kept net dest t st.before k s n row_kept o).value_in

    best_of_all : (k : ℕ) (s : PureRoute) → k < length net.nodes → is_among st.before k ≡ false → IsOfferFrom net dest (route_at t) st.before k s → ¬ Better (carrier net) s r
    unfolding t
    best_of_all k s l e o = by (found_at open_routes k) refl (st.chosen k l e)
      where
        by : (x : Option PureRoute) → found_at open_routes k ≡ x → IsBestOffer net dest (rows_from dest 0 rows) st.before k x → ¬ Better (carrier net) s r
        by None f h = absurd (h s o)
        by (Some x) f h = unbeaten_by_all (carrier net) (Some r) (Some x) (Some s) r_kept.value_in (value_in k x h.0) (value_in k s o) (best k x f) (h.1 s o)

    fixed_more : WereFixed net dest u (i ∷ st.before)
    unfolding t
    fixed_more = (
      within,
      out,
      (
        r,
        at_i,
        offer_moves net dest t u st.before i r agree chosen_i.0,
        λ k s l e o. best_of_all k s l e (offer_moves net dest u t st.before k s back o),
      ),
      still_fixed net dest t u st.before agree st.fixed,
    )

    kept_more : (k : ℕ) (s : PureRoute) → found_at next_rows k ≡ Some s → IsKept net (i ∷ st.before) s
    kept_more k s e = by (k == i) refl
      where
        by : (b : Bool) → (k == i) ≡ b → IsKept net (i ∷ st.before) s
        by true f =
            let g : Some r ≡ Some s = sym (rw f at (rows_at k)) ∙ e in
            let one : r ≡ s = cc in
            rw one at r_kept
        by false f =
            let h = st.kept k s (sym (rw f at (rows_at k)) ∙ e) in
            let short = h.short in
            record { value_in = h.value_in; bound = h.bound; short = omega arith; inside = λ m a. among_more st.before i m (h.inside m a) }

    marks_more : (k : ℕ) → k < length net.nodes → is_some (found_at next_rows k) ≡ is_among (i ∷ st.before) k
    marks_more k l = by (k == i) refl
      where
        by : (b : Bool) → (k == i) ≡ b → is_some (found_at next_rows k) ≡ is_among (i ∷ st.before) k
        by true f =
            let e : i ≡ k = grind (arith, nat_tests) in
            ap is_some (rw f at (rows_at k)) ∙ sym (among_first st.before i k e)
        by false f =
            let e : (i == k) ≡ false = grind (arith, nat_tests) in
            ap is_some (rw f at (rows_at k)) ∙ (st.marks k l ∙ rw e refl)

    no_row : (k : ℕ) → k < length net.nodes → is_among st.before k ≡ false → found_at rows k ≡ None
    no_row k l e = is_none (found_at rows k) (st.marks k l ∙ e)

    shut_more : length next_open ≡ length net.nodes → (k : ℕ) → is_among (i ∷ st.before) k ≡ true → found_at next_open k ≡ None
    shut_more count k e = elim (cases_lt k (length net.nodes)) [
      | inl l ↦ elim (among_split st.before i k e) [
        | inl f ↦
            let here : found_at next_open i ≡ None = open_at i ∙ rw (no_row i within out, taken_at i, same i refl, no_loop net n i r) refl in
            rw f at here
        | inr m ↦ open_at k ∙ by (found_at rows k) (st.marks k l ∙ m) (taken_at k ∙ rw (differs k (apart k m)) (st.shut k m))
      ]
      | inr past ↦ list_past next_open k (omega arith)
    ]
      where
        by : (o : Option PureRoute) → is_some o ≡ true → found_at taken k ≡ None → relaxed (carrier net) o (found_at taken k) (arc_offer net k i r) ≡ None
        by None e f = absurd (cc)
        by (Some x) e f = f

    chosen_more : (k : ℕ) → k < length net.nodes → is_among (i ∷ st.before) k ≡ false → IsBestOffer net dest u (i ∷ st.before) k (found_at next_open k)
    unfolding t
    chosen_more k l e = rw open_is (best_with (carrier net) (IsOfferFrom net dest (route_at t) st.before k) (IsOfferFrom net dest (route_at u) (i ∷ st.before) k) (found_at open_routes k) (arc_offer net k i r)
        (in_old (found_at open_routes k) (st.chosen k l before_out)) in_new (value_in k) split old new (st.chosen k l before_out))
      where
        by : (b : Bool) → is_among st.before k ≡ b → is_among st.before k ≡ false
        by true f = absurd (false≢true (sym e ∙ among_more st.before i k f))
        by false f = f

        before_out : is_among st.before k ≡ false
        before_out = by (is_among st.before k) refl

        ne : k ≢ i
        ne f = false≢true (sym e ∙ among_first st.before i k (sym f))

        open_is : found_at next_open k ≡ better_of (carrier net) (found_at open_routes k) (arc_offer net k i r)
        open_is = open_at k ∙ rw (no_row k l before_out, taken_at k, differs k ne) refl

        off : (b : Bool) → is_among r.path k ≡ b → is_among r.path k ≡ false
        off true f = absurd (false≢true (sym e ∙ r_kept.inside k f))
        off false f = f

        new : (s : PureRoute) → arc_offer net k i r ≡ Some s → IsOfferFrom net dest (route_at u) (i ∷ st.before) k s
        new s f = inr (i, among_first st.before i i refl, arc-offer net u k i r s at_i (off (is_among r.path k) refl) f)

        old : (s : PureRoute) → IsOfferFrom net dest (route_at t) st.before k s → IsOfferFrom net dest (route_at u) (i ∷ st.before) k s
        old s o = offer_more net dest u st.before i k s (offer_moves net dest t u st.before k s agree o)

        split : (s : PureRoute) → IsOfferFrom net dest (route_at u) (i ∷ st.before) k s → IsOfferFrom net dest (route_at t) st.before k s ⊎ (arc_offer net k i r ≡ Some s)
        split s o = elim (offer_split net dest u st.before i k s o) [
          | inl f ↦ inl (offer_moves net dest u t st.before k s back f)
          | inr f ↦ inr (offer-arc net u k i r s at_i f)
        ]

        in_old : (o : Option PureRoute) → IsBestOffer net dest t st.before k o → IfSome o (λ s. In (carrier net) s.value)
        in_old None h = tt
        in_old (Some s) h = value_in k s h.0

        in_new : IfSome (arc_offer net k i r) (λ s. In (carrier net) s.value)
        in_new = image (along net k i (Some r.value)) (along_in net n k i (Some r.value) r_kept.value_in)
          where
            image : (o : Option PureValue) → IfSome o (In (carrier net)) → IfSome (option_map (λ (v : PureValue). route v (k ∷ r.path)) o) (λ s. In (carrier net) s.value)
            image None h = tt
            image (Some v) h = h

    pub next_state : length next_rows ≡ length net.nodes → length next_open ≡ length net.nodes → none_count next_rows + 1 ≡ none_count rows → IsState net dest next_rows next_open
    unfolding u
    next_state a b count = record {
      before = i ∷ st.before;
      rows_count = a;
      open_count = b;
      marks = marks_more;
      shut = shut_more b;
      fixed = fixed_more;
      chosen = chosen_more;
      kept = kept_more;
      room = let h = st.room in omega arith;
    }

-- once nothing is open the table is made best first
pub last_state : (net : PureNet) (dest : ℕ) (rows open_routes : List (Option PureRoute)) → IsNet net → IsState net dest rows open_routes → ((k : ℕ) → found_at open_routes k ≡ None)
    → BestFirst net dest (rows_from dest 0 rows)
last_state net dest rows open_routes n st none = record { table_of = table; order = order.0; fixed = order.1 }
  where
    is_route : (k : ℕ) (r : PureRoute) → found_at rows k ≡ Some r → IsRouteOf net r
    is_route k r e =
        let h = st.kept k r e in
        let short = h.short in
        let room = st.room in
        let bound = n.node_room in
        let nodes = few_nodes net.alg.edition in
        let few : length r.path ≤ MOST_NODES = omega arith in
        record {
          value_in = h.value_in;
          bound = at_most_more (MAX_LABEL_NUMBER * length r.path) MAX_ROW_NUMBER r.value (omega arith) h.bound;
          path = omega arith;
        }

    table : TableOf net dest (rows_from dest 0 rows)
    table = record { rows = rows_are net dest 0 rows is_route; count = length-rows dest 0 rows ∙ st.rows_count }

    left : AreFixed net dest (rows_from dest 0 rows) st.before []
    left k l e = (row-found dest 0 rows k ∙ is_none (found_at rows k) (st.marks k l ∙ e), rw (none k) at (st.chosen k l e))

    order : (all : List ℕ) × AreFixed net dest (rows_from dest 0 rows) [] all
    order = in_order net dest (rows_from dest 0 rows) st.before [] st.fixed left

some_left : (xs : List (Option PureRoute)) (i : ℕ) → i < length xs → found_at xs i ≡ None → 0 < none_count xs
some_left [] i l e = absurd (omega arith)
some_left (None ∷ xs) i l e = omega arith
some_left (Some x ∷ xs) zero l e = absurd (cc)
some_left (Some x ∷ xs) (suc i) l e = some_left xs i (omega arith) e

-- a node with what is open at it may speak
pub can_speak : (net : PureNet) (dest : ℕ) (rows open_routes : List (Option PureRoute)) (i : ℕ) (r : PureRoute) → IsNet net → IsState net dest rows open_routes → found_at open_routes i ≡ Some r
    → CanSpeak net i r
can_speak net dest rows open_routes i r n st reported =
    let l = within in
    let kept = offer_kept net dest (rows_from dest 0 rows) st.before i r n (λ j s f. st.kept j s (sym (row-found dest 0 rows j) ∙ f)) offered in
    let short = kept.short in
    let room = st.room in
    let bound = n.node_room in
    let nodes = few_nodes net.alg.edition in
    record {
      value_in = kept.value_in;
      begins = offer_begins net dest (rows_from dest 0 rows) st.before i r offered;
      short = let more = one_left in omega arith;
      small = at_most_more (MAX_LABEL_NUMBER * length r.path) MAX_VALUE_NUMBER r.value (omega arith) kept.bound;
    }
  where
    within : i < length net.nodes
    within = elim (cases_lt i (length net.nodes)) [
      | inl l ↦ l
      | inr l ↦ absurd (let e = list_past open_routes i (let h = st.open_count in omega arith) in cc)
    ]

    out : (b : Bool) → is_among st.before i ≡ b → is_among st.before i ≡ false
    out true e = absurd (let f = st.shut i e in cc)
    out false e = e

    -- the node itself has no row, so that there is one more node than were fixed
    one_left : 0 < none_count rows
    one_left = some_left rows i (let h = st.rows_count in let l = within in omega arith) (is_none (found_at rows i) (st.marks i within ∙ out (is_among st.before i) refl))

    offered : IsOfferFrom net dest (route_at (rows_from dest 0 rows)) st.before i r
    offered = (rw reported at (st.chosen i within (out (is_among st.before i) refl))).0
