-- Where labels are monotone, at most one table is stable. Lemmas, so that proofs of other crates may cite them.
use Rattle.std.proofs.Common.{◌≡◌, ℕ, zero, suc, ◌+◌, ◌<◌, ◌⊎◌, inl, inr, List, Option, Some, None, length, refl, sym, ap, ◌∙◌, subst, arith}
use Rattle.std.proofs.lemmas.Bool.{cases_lt}
use Rattle.alg_model.specs.Carriers.{In}
use Rattle.alg_model.specs.Properties.{monotone}
use Rattle.net_graph.specs.Nets.{PureNet}
use Rattle.net_graph.specs.Routes.{PureRoute, Better}
use Rattle.net_graph.specs.Tables.{PureRow, NetHas, route_at, carrier, Offers, IsChoice, Stable}
use Rattle.net_graph.specs.RouteOrder.{better_asymmetric}
use Rattle.net_graph.specs.RouteLaws.{table_route_in, no_route_past, tables_equal, neither_better}
use Rattle.settled_laws.specs.BetterLaws.{itself_no_better, better_past}
use Rattle.settled_laws.specs.Offers.{ReportsValues, ReportsOwnPaths, next_better, offer_begins, same_offer}
use Rattle.settled_laws.specs.Counts.{count_better, fewer_better, fewer_than_own}

-- two stable tables over monotone labels
record Given (net : PureNet) (dest : ℕ) (t u : List PureRow) : Type 0 where
  pub are_monotone : NetHas monotone net
  pub first : Stable net dest t
  pub second : Stable net dest u

turned : (net : PureNet) (dest : ℕ) (t u : List PureRow) → Given net dest t u → Given net dest u t
turned net dest t u g = record { are_monotone = g.are_monotone; first = g.second; second = g.first }

-- the tables have the same route wherever one has a route that is better than this one
abbrev AgreeBefore : PureNet → List PureRow → List PureRow → PureRoute → Type 0
AgreeBefore net t u r = (j : ℕ) (next : PureRoute) → Better (carrier net) next r → (route_at t j ≡ Some next) ⊎ (route_at u j ≡ Some next) → route_at t j ≡ route_at u j

swapped : {A B : Type 0} → A ⊎ B → B ⊎ A
swapped (inl a) = inr a
swapped (inr b) = inl b

turned_before : (net : PureNet) (t u : List PureRow) (r : PureRoute) → AgreeBefore net t u r → AgreeBefore net u t r
turned_before net t u r agree j next better reported = sym (agree j next better (swapped reported))

-- what a stable table tells
stable_values : (net : PureNet) (dest : ℕ) (t : List PureRow) → Stable net dest t → ReportsValues net (route_at t)
stable_values net dest t h j next e = (table_route_in net dest t h.table_of j next e).value_in

stable_choice : (net : PureNet) (dest : ℕ) (t : List PureRow) → Stable net dest t → (i : ℕ) (r : PureRoute) → route_at t i ≡ Some r → (i < length net.nodes) × IsChoice net dest (route_at t) i (Some r)
stable_choice net dest t h i r reported = elim (cases_lt i (length net.nodes)) [
  | inl within ↦ (within, subst (IsChoice net dest (route_at t) i) reported (h.choices i within))
  | inr past ↦ absurd (let none = no_route_past net dest t h.table_of i past in cc)
]

stable_paths : (net : PureNet) (dest : ℕ) (t : List PureRow) → Stable net dest t → ReportsOwnPaths (route_at t)
stable_paths net dest t h j next reported = offer_begins net dest (route_at t) j next (stable_choice net dest t h j next reported).1.0

-- an offer than which the route before which the tables agree isn't better is made in both
moved : (net : PureNet) (dest : ℕ) (t u : List PureRow) (i : ℕ) (r q : PureRoute) → Given net dest t u → In (carrier net) r.value → In (carrier net) q.value → AgreeBefore net t u q
    → ¬ Better (carrier net) q r → Offers net dest (route_at t) i r → Offers net dest (route_at u) i r
moved net dest t u i r q g r_in q_in agree f (inl own) = inl own
moved net dest t u i r q g r_in q_in agree f (inr (j, o)) =
    let values = stable_values net dest t g.first in
    let better = better_past (carrier net) o.next r q (values j o.next o.is_reported) r_in q_in (next_better net (route_at t) i j r g.are_monotone values o) f in
    inr (j, record { next = o.next; is_reported = sym (agree j o.next better (inl o.is_reported)) ∙ o.is_reported; weighs = o.weighs; loopless = o.loopless; path = o.path })

-- where they agree before a route they agree at its node
agree_here : (net : PureNet) (dest : ℕ) (t u : List PureRow) (i : ℕ) (r : PureRoute) → Given net dest t u → route_at t i ≡ Some r → AgreeBefore net t u r → route_at t i ≡ route_at u i
agree_here net dest t u i r g reported agree = by (route_at u i) refl (g.second.choices i is.0)
  where
    is : (i < length net.nodes) × IsChoice net dest (route_at t) i (Some r)
    is = stable_choice net dest t g.first i r reported

    r_in : In (carrier net) r.value
    r_in = stable_values net dest t g.first i r reported

    there : Offers net dest (route_at u) i r
    there = moved net dest t u i r r g r_in r_in agree (itself_no_better (carrier net) r r_in) is.1.0

    no_better : (s : PureRoute) → route_at u i ≡ Some s → Offers net dest (route_at u) i s → ¬ Better (carrier net) s r
    no_better s e o b =
        let s_in = stable_values net dest u g.second i s e in
        let here = moved net dest u t i s r (turned net dest t u g) s_in r_in (turned_before net t u r agree) (better_asymmetric (carrier net) s r s_in r_in b) o in
        is.1.1 s here b

    by : (o : Option PureRoute) → route_at u i ≡ o → IsChoice net dest (route_at u) i (route_at u i) → route_at t i ≡ route_at u i
    by None e choice = absurd ((subst (IsChoice net dest (route_at u) i) e choice) r there)
    by (Some s) e choice =
        let c = subst (IsChoice net dest (route_at u) i) e choice in
        let s_in = stable_values net dest u g.second i s e in
        let path = neither_better (carrier net) r s r_in s_in (c.1 r there) (no_better s e c.0) in
        let one = same_offer net dest (route_at u) i r s (stable_paths net dest u g.second) there c.0 path in
        reported ∙ (ap (λ z. Some z) one ∙ sym e)

-- how many routes of both are better
abbrev count_both : PureNet → List PureRow → List PureRow → PureRoute → ℕ
count_both net t u r = count_better net t r + count_better net u r

-- a better route of one of them has fewer before it
count_falls : (net : PureNet) (dest : ℕ) (t u : List PureRow) → Given net dest t u → (j : ℕ) (next r : PureRoute) → In (carrier net) r.value → Better (carrier net) next r
    → (route_at t j ≡ Some next) ⊎ (route_at u j ≡ Some next) → count_both net t u next < count_both net t u r
count_falls net dest t u g j next r r_in e (inl reported) =
    let next_in = stable_values net dest t g.first j next reported in
    let own = fewer_than_own net dest t g.first.table_of j next reported r r_in e in
    let other = fewer_better net dest u g.second.table_of next r next_in r_in e in
    omega arith
count_falls net dest t u g j next r r_in e (inr reported) =
    let next_in = stable_values net dest u g.second j next reported in
    let own = fewer_than_own net dest u g.second.table_of j next reported r r_in e in
    let other = fewer_better net dest t g.first.table_of next r next_in r_in e in
    omega arith

-- so they agree wherever one has a route, by induction on that count
agree_from : (net : PureNet) (dest : ℕ) (t u : List PureRow) (n : ℕ) → Given net dest t u → (i : ℕ) (r : PureRoute) → count_both net t u r < n
    → (route_at t i ≡ Some r) ⊎ (route_at u i ≡ Some r) → route_at t i ≡ route_at u i
agree_from net dest t u zero g i r l reported = absurd (omega arith)
agree_from net dest t u (suc n) g i r l reported = by reported (λ j next below there. agree_from net dest t u n g j next below there)
  where
    by : (route_at t i ≡ Some r) ⊎ (route_at u i ≡ Some r)
        → ((j : ℕ) (next : PureRoute) → count_both net t u next < n → (route_at t j ≡ Some next) ⊎ (route_at u j ≡ Some next) → route_at t j ≡ route_at u j)
        → route_at t i ≡ route_at u i
    by (inl here) rest =
        let r_in = stable_values net dest t g.first i r here in
        agree_here net dest t u i r g here (λ j next e there. rest j next (let f = count_falls net dest t u g j next r r_in e there in omega arith) there)
    by (inr here) rest =
        let r_in = stable_values net dest u g.second i r here in
        let agree : AgreeBefore net t u r = λ j next e there. rest j next (let f = count_falls net dest t u g j next r r_in e there in omega arith) there in
        sym (agree_here net dest u t i r (turned net dest t u g) here (turned_before net t u r agree))

-- and elsewhere neither has one
pub stable_is_unique : (net : PureNet) (dest : ℕ) (t u : List PureRow) → NetHas monotone net → Stable net dest t → Stable net dest u → t ≡ u
stable_is_unique net dest t u m h k = tables_equal net dest t u h.table_of k.table_of (λ i. same i (route_at t i) refl (route_at u i) refl)
  where
    g : Given net dest t u
    g = record { are_monotone = m; first = h; second = k }

    same : (i : ℕ) (o : Option PureRoute) → route_at t i ≡ o → (p : Option PureRoute) → route_at u i ≡ p → route_at t i ≡ route_at u i
    same i (Some r) e p f = agree_from net dest t u (suc (count_both net t u r)) g i r (omega arith) (inl e)
    same i None e (Some r) f = agree_from net dest t u (suc (count_both net t u r)) g i r (omega arith) (inr f)
    same i None e None f = e ∙ sym f
