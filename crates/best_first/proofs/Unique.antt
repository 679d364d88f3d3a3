-- At most one table is made best first.
use Rattle.std.proofs.Common.{◌≡◌, ℕ, ◌<◌, inl, inr, List, [], ◌∷◌, Some, Bool, true, false, length, refl, sym, ap, ◌∙◌}
use Rattle.std.proofs.lemmas.Bool.{cases_lt}
use Rattle.net_graph.specs.Nets.{PureNet, IsNet}
use Rattle.net_graph.specs.Routes.{PureRoute, Better}
use Rattle.net_graph.specs.Tables.{PureRow, TableOf, route_at, carrier, is_among, IsOfferFrom, AreFixed, BestFirst}
use Rattle.net_graph.specs.RouteLaws.{table_route_in, no_route_past, tables_equal, neither_better}
use Rattle.best_first.proofs.Offers.{among_split, Agree, BeginWithThem, offer_moves, offer_begins, same_offer}

-- where tables agree so far, the next node is one, and so is its route
next_same : (net : PureNet) (dest : ℕ) (t u : List PureRow) (before : List ℕ) (i k : ℕ) (r s : PureRoute)
    → TableOf net dest t → TableOf net dest u → BeginWithThem t before → Agree t u before
    → route_at t i ≡ Some r → route_at u k ≡ Some s
    → IsOfferFrom net dest (route_at t) before i r → IsOfferFrom net dest (route_at u) before k s
    → (IsOfferFrom net dest (route_at t) before k s → ¬ (Better (carrier net) s r))
    → (IsOfferFrom net dest (route_at u) before i r → ¬ (Better (carrier net) r s))
    → (i ≡ k) × (route_at t i ≡ route_at u i)
next_same net dest t u before i k r s h g b a er es o q best_t best_u =
    let back : Agree u t before = λ j e. sym (a j e) in
    let moved = offer_moves net dest u t before k s back q in
    let path = neither_better (carrier net) r s (table_route_in net dest t h i r er).value_in (table_route_in net dest u g k s es).value_in
    (best_u (offer_moves net dest t u before i r a o)) (best_t moved) in
    let x = (offer_begins net dest t before i r o).1 in
    let y = (offer_begins net dest u before k s q).1 in
    let node : i ≡ k = cc in
    let one : r ≡ s = same_offer net dest t before i r s b o (rw (← node) at moved) path in
    (node, er ∙ (ap (λ z. Some z) one ∙ sym (rw (← node) at es)))

-- where the tables agree so far, they agree
agree_on : (net : PureNet) (dest : ℕ) (t u : List PureRow) (before first second : List ℕ)
    → TableOf net dest t → TableOf net dest u → BeginWithThem t before → Agree t u before
    → AreFixed net dest t before first → AreFixed net dest u before second → (n : ℕ) → n < length net.nodes → route_at t n ≡ route_at u n
agree_on net dest t u before [] [] h g b a f q n within = by (is_among before n) refl
  where
    by : (c : Bool) → is_among before n ≡ c → route_at t n ≡ route_at u n
    by true e = a n e
    by false e = (f n within e).0 ∙ sym (q n within e).0
agree_on net dest t u before [] (k ∷ second) h g b a f q n within =
    let back : Agree u t before = λ j e. sym (a j e) in
    absurd ((f k q.0 q.1).1 q.2.0 (offer_moves net dest u t before k q.2.0 back q.2.2))
agree_on net dest t u before (i ∷ first) [] h g b a f q n within =
    absurd ((q i f.0 f.1).1 f.2.0 (offer_moves net dest t u before i f.2.0 a f.2.2))
agree_on net dest t u before (i ∷ first) (k ∷ second) h g b a f q n within =
    agree_on net dest t u (i ∷ before) first second h g more agree f.3 (rw (← same.0) at q.3) n within
  where
    same : (i ≡ k) × (route_at t i ≡ route_at u i)
    same = next_same net dest t u before i k f.2.0 q.2.0 h g b a f.2.1 q.2.1 f.2.2 q.2.2 (f.2.3 k q.2.0 q.0 q.1) (q.2.3 i f.2.0 f.0 f.1)

    more : BeginWithThem t (i ∷ before)
    more j r e reported = elim (among_split before i j e) [
      | inl s ↦
          let begins = offer_begins net dest t before i f.2.0 f.2.2 in
          let x = f.2.1 in
          let z = begins.1 in
          let here : route_at t i ≡ Some r = rw (← s) at reported in
          let one : r ≡ f.2.0 = cc in
          (begins.0, rw (one, ← s) z)
      | inr m ↦ b j r m reported
    ]

    agree : Agree t u (i ∷ before)
    agree j e = elim (among_split before i j e) [
      | inl s ↦ rw s at same.1
      | inr m ↦ a j m
    ]

pub unique : (net : PureNet) (dest : ℕ) (t u : List PureRow) → IsNet net → dest < length net.dests → BestFirst net dest t → BestFirst net dest u → t ≡ u
unique net dest t u is_net within h g = tables_equal net dest t u h.table_of g.table_of same
  where
    at_node : (k : ℕ) → k < length net.nodes → route_at t k ≡ route_at u k
    at_node = agree_on net dest t u [] h.order g.order h.table_of g.table_of (λ j r e. absurd (cc)) (λ j e. absurd (cc)) h.fixed g.fixed

    same : (k : ℕ) → route_at t k ≡ route_at u k
    same k = elim (cases_lt k (length net.nodes)) [
      | inl l ↦ at_node k l
      | inr l ↦ no_route_past net dest t h.table_of k l ∙ sym (no_route_past net dest u g.table_of k l)
    ]
