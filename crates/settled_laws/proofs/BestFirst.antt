-- Where labels are monotone, a table that is made best first is stable.
use Rattle.std.proofs.Common.{◌≡◌, ℕ, ◌<◌, inl, inr, List, [], ◌∷◌, Some, Bool, true, false, ◌==◌, length, refl, sym, ◌∙◌, subst}
use Rattle.std.proofs.lemmas.Bool.{cases_lt, or_cases, or_left, or_parts, eqb-true, eq-eqb, false≢true}
use Rattle.alg_model.specs.Carriers.{In}
use Rattle.alg_model.specs.Properties.{monotone}
use Rattle.net_graph.specs.Nets.{PureNet, IsNet}
use Rattle.net_graph.specs.Routes.{PureRoute, Better}
use Rattle.net_graph.specs.Tables.{PureRow, TableOf, NetHas, route_at, carrier, is_among, IsOfferBy, IsOfferFrom, Offers, IsChoice, AreFixed, BestFirst, Stable}
use Rattle.net_graph.specs.RouteOrder.{not_better_trans, better_asymmetric}
use Rattle.net_graph.specs.RouteLaws.{table_route_in, no_route_past}
use Rattle.settled_laws.specs.Offers.{ReportsValues, next_better, offer_in, offer_begins, offer_from_offers, offer_from_more, offer_from_split}

-- what the law needs of the network and of the table
record Given (net : PureNet) (dest : ℕ) (t : List PureRow) : Type 0 where
  pub is_net : IsNet net
  pub are_monotone : NetHas monotone net
  pub table_of : TableOf net dest t

-- The node's route is its choice among what these nodes offer to it, and nothing that they offer to another node is
-- better.
record IsChosen (net : PureNet) (dest : ℕ) (t : List PureRow) (before : List ℕ) (k : ℕ) (r : PureRoute) : Type 0 where
  pub offer : IsOfferFrom net dest (route_at t) before k r
  pub best : (s : PureRoute) → IsOfferFrom net dest (route_at t) before k s → ¬ Better (carrier net) s r
  pub ahead : (n : ℕ) (s : PureRoute) → n < length net.nodes → is_among before n ≡ false → IsOfferFrom net dest (route_at t) before n s
      → ¬ Better (carrier net) s r

-- this holds of each of these nodes
abbrev AreChosen : PureNet → ℕ → List PureRow → List ℕ → Type 0
AreChosen net dest t before = (k : ℕ) → is_among before k ≡ true → (r : PureRoute) × (route_at t k ≡ Some r) × IsChosen net dest t before k r

-- the values of the table, and of what these nodes offer, are of the carrier
values : (net : PureNet) (dest : ℕ) (t : List PureRow) → Given net dest t → ReportsValues net (route_at t)
values net dest t g j next e = (table_route_in net dest t g.table_of j next e).value_in

from_in : (net : PureNet) (dest : ℕ) (t : List PureRow) (before : List ℕ) (k : ℕ) (s : PureRoute) → Given net dest t → IsOfferFrom net dest (route_at t) before k s → In (carrier net) s.value
from_in net dest t before k s g o = offer_in net dest (route_at t) k s g.is_net (values net dest t g) (offer_from_offers net dest (route_at t) before k s o)

-- what a node offers is worse than its route
by_better : (net : PureNet) (dest : ℕ) (t : List PureRow) (i k : ℕ) (r s : PureRoute) → Given net dest t → route_at t i ≡ Some r → IsOfferBy net (route_at t) k i s → Better (carrier net) r s
by_better net dest t i k r s g reported o =
    let same : o.next ≡ r = let e = o.is_reported in cc in
    rw same at (next_better net (route_at t) k i s g.are_monotone (values net dest t g) o)

-- a node makes no offer to itself
none_to_itself : (net : PureNet) (dest : ℕ) (t : List PureRow) (before : List ℕ) (i : ℕ) (r s : PureRoute) → route_at t i ≡ Some r → IsOfferFrom net dest (route_at t) before i r → ¬ IsOfferBy net (route_at t) i i s
none_to_itself net dest t before i r s reported offer o =
    let begins = offer_begins net dest (route_at t) i r (offer_from_offers net dest (route_at t) before i r offer) in
    let path : o.next.path ≡ i ∷ begins.0 = let e = o.is_reported in let f = begins.1 in cc in
    let passes : is_among (i ∷ begins.0) i ≡ true = or_left (i == i) (is_among begins.0 i) (eq-eqb i i refl) in
    false≢true (sym (rw path at o.loopless) ∙ passes)

-- with the next node too each route is its node's choice: first the next node's own
next_chosen : (net : PureNet) (dest : ℕ) (t : List PureRow) (before : List ℕ) (i : ℕ) (r : PureRoute) → Given net dest t → route_at t i ≡ Some r → IsOfferFrom net dest (route_at t) before i r
    → i < length net.nodes → is_among before i ≡ false
    → ((k : ℕ) (s : PureRoute) → k < length net.nodes → is_among before k ≡ false → IsOfferFrom net dest (route_at t) before k s → ¬ Better (carrier net) s r)
    → IsChosen net dest t (i ∷ before) i r
next_chosen net dest t before i r g reported offer within out best = record { offer = offer_from_more net dest (route_at t) before i i r offer; best = own; ahead = ahead }
  where
    own : (s : PureRoute) → IsOfferFrom net dest (route_at t) (i ∷ before) i s → ¬ Better (carrier net) s r
    own s o = elim (offer_from_split net dest (route_at t) before i i s o) [
      | inl old ↦ best i s within out old
      | inr new ↦ absurd (none_to_itself net dest t before i r s reported offer new)
    ]

    ahead : (n : ℕ) (s : PureRoute) → n < length net.nodes → is_among (i ∷ before) n ≡ false → IsOfferFrom net dest (route_at t) (i ∷ before) n s → ¬ Better (carrier net) s r
    ahead n s inside other o = elim (offer_from_split net dest (route_at t) before i n s o) [
      | inl old ↦ best n s inside (or_parts (i == n) (is_among before n) other).1 old
      | inr new ↦
          better_asymmetric (carrier net) r s (values net dest t g i r reported) (from_in net dest t (i ∷ before) n s g o) (by_better net dest t i n r s g reported new)
    ]

-- and then each other's, to which what the next node offers is worse
kept_chosen : (net : PureNet) (dest : ℕ) (t : List PureRow) (before : List ℕ) (i k : ℕ) (r q : PureRoute) → Given net dest t → route_at t i ≡ Some r → IsOfferFrom net dest (route_at t) before i r
    → i < length net.nodes → is_among before i ≡ false → route_at t k ≡ Some q → IsChosen net dest t before k q → IsChosen net dest t (i ∷ before) k q
kept_chosen net dest t before i k r q g reported offer within out reported_too chosen = record { offer = offer_from_more net dest (route_at t) before i k q chosen.offer; best = own; ahead = ahead }
  where
    worse : (n : ℕ) (s : PureRoute) → IsOfferFrom net dest (route_at t) (i ∷ before) n s → IsOfferBy net (route_at t) n i s → ¬ Better (carrier net) s q
    worse n s o new =
        let r_in = values net dest t g i r reported in
        let s_in = from_in net dest t (i ∷ before) n s g o in
        not_better_trans (carrier net) q r s (values net dest t g k q reported_too) r_in s_in
        (chosen.ahead i r within out offer) (better_asymmetric (carrier net) r s r_in s_in (by_better net dest t i n r s g reported new))

    own : (s : PureRoute) → IsOfferFrom net dest (route_at t) (i ∷ before) k s → ¬ Better (carrier net) s q
    own s o = elim (offer_from_split net dest (route_at t) before i k s o) [
      | inl old ↦ chosen.best s old
      | inr new ↦ worse k s o new
    ]

    ahead : (n : ℕ) (s : PureRoute) → n < length net.nodes → is_among (i ∷ before) n ≡ false → IsOfferFrom net dest (route_at t) (i ∷ before) n s → ¬ Better (carrier net) s q
    ahead n s inside other o = elim (offer_from_split net dest (route_at t) before i n s o) [
      | inl old ↦ chosen.ahead n s inside (or_parts (i == n) (is_among before n) other).1 old
      | inr new ↦ worse n s o new
    ]

-- so with the next node too all are chosen
chosen_more : (net : PureNet) (dest : ℕ) (t : List PureRow) (before : List ℕ) (i : ℕ) (r : PureRoute) → Given net dest t → AreChosen net dest t before → route_at t i ≡ Some r
    → IsOfferFrom net dest (route_at t) before i r → i < length net.nodes → is_among before i ≡ false
    → ((k : ℕ) (s : PureRoute) → k < length net.nodes → is_among before k ≡ false → IsOfferFrom net dest (route_at t) before k s → ¬ Better (carrier net) s r)
    → AreChosen net dest t (i ∷ before)
chosen_more net dest t before i r g chosen reported offer within out best k among = elim (or_cases (i == k) (is_among before k) among) [
  | inl same ↦ let e : i ≡ k = eqb-true i k same in rw (← e) (r, reported, next_chosen net dest t before i r g reported offer within out best)
  | inr others ↦ let h = chosen k others in (h.0, h.1, kept_chosen net dest t before i k r h.0 g reported offer within out h.1 h.2)
]

-- where no node is left, each node's row is its choice
all_chosen : (net : PureNet) (dest : ℕ) (t : List PureRow) (before : List ℕ) → Given net dest t → AreChosen net dest t before → AreFixed net dest t before [] → Stable net dest t
all_chosen net dest t before g chosen left = record { table_of = g.table_of; choices = choices }
  where
    among_them : (j : ℕ) (next : PureRoute) → route_at t j ≡ Some next → (b : Bool) → is_among before j ≡ b → is_among before j ≡ true
    among_them j next reported true e = e
    among_them j next reported false e = elim (cases_lt j (length net.nodes)) [
      | inl inside ↦ absurd (let none = (left j inside e).0 in cc)
      | inr past ↦ absurd (let none = no_route_past net dest t g.table_of j past in cc)
    ]

    from_them : (i : ℕ) (s : PureRoute) → Offers net dest (route_at t) i s → IsOfferFrom net dest (route_at t) before i s
    from_them i s (inl own) = inl own
    from_them i s (inr (j, o)) = inr (j, among_them j o.next o.is_reported (is_among before j) refl, o)

    choice : (i : ℕ) → i < length net.nodes → (b : Bool) → is_among before i ≡ b → IsChoice net dest (route_at t) i (route_at t i)
    choice i within true e =
        let h = chosen i e in
        subst (IsChoice net dest (route_at t) i) (sym h.1) (offer_from_offers net dest (route_at t) before i h.0 h.2.offer, λ s o. h.2.best s (from_them i s o))
    choice i within false e =
        let none = left i within e in
        subst (IsChoice net dest (route_at t) i) (sym none.0) (λ s o. none.1 s (from_them i s o))

    choices : (i : ℕ) → i < length net.nodes → IsChoice net dest (route_at t) i (route_at t i)
    choices i within = choice i within (is_among before i) refl

-- node by node, in the order in which they are fixed
fixed_stable : (net : PureNet) (dest : ℕ) (t : List PureRow) (before order : List ℕ) → Given net dest t → AreChosen net dest t before → AreFixed net dest t before order → Stable net dest t
fixed_stable net dest t before [] g chosen f = all_chosen net dest t before g chosen f
fixed_stable net dest t before (i ∷ order) g chosen f =
    fixed_stable net dest t (i ∷ before) order g (chosen_more net dest t before i f.2.0 g chosen f.2.1 f.2.2 f.0 f.1 f.2.3) f.3

pub best_first_is_stable : (net : PureNet) (dest : ℕ) (t : List PureRow) → IsNet net → NetHas monotone net → BestFirst net dest t → Stable net dest t
best_first_is_stable net dest t n m h =
    let g : Given net dest t = record { is_net = n; are_monotone = m; table_of = h.table_of } in
    fixed_stable net dest t [] h.order g (λ k e. absurd (cc)) h.fixed
