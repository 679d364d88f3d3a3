-- What holds of offers, and of those over labels that are monotone. Lemmas, so that proofs of other crates may cite
-- them.
use Rattle.std.proofs.Common.{◌≡◌, ◌≢◌, ℕ, ◌⊎◌, inl, inr, List, [], ◌∷◌, Some, ◌==◌, arith}
use Rattle.std.specs.Ordering.{ordering_then, ordering_reverse}
use Rattle.std.specs.declared.cmp.Ordering.{Ordering}
use Rattle.std.specs.declared.cmp.Ordering.TheVariants.{Less}
use Rattle.std.proofs.lemmas.Bool.{or_cases, or_right, eqb-true}
use Rattle.alg_model.specs.Carriers.{In, Order}
use Rattle.meta_base.specs.NodePaths.{compare_paths}
use Rattle.alg_model.specs.Properties.{monotone}
use Rattle.net_graph.specs.Nets.{PureNet, IsNet, origin_value}
use Rattle.net_graph.specs.Routes.{PureRoute, Better}
use Rattle.net_graph.specs.Walks.{along}
use Rattle.net_graph.specs.Tables.{Reported, NetHas, carrier, is_among, IsOfferBy, IsOfferFrom, Offers}
use Rattle.net_graph.specs.ArcLaws.{of_some, IsOrigin, origins_are, along_in, along_monotone}
use Rattle.net_graph.specs.RouteLaws.{same_route}
use Rattle.settled_laws.specs.BetterLaws.{longer_later}
use Rattle.settled_laws.specs.OrderTurns.{order_turns}

-- the routes that are reported have values of the carrier
abbrev pub ReportsValues : PureNet → Reported → Type 0
ReportsValues net reported = (j : ℕ) (next : PureRoute) → reported j ≡ Some next → In (carrier net) next.value

-- the path of each route that is reported begins with its node
abbrev pub ReportsOwnPaths : Reported → Type 0
ReportsOwnPaths reported = (j : ℕ) (next : PureRoute) → reported j ≡ Some next → (p : List ℕ) × (next.path ≡ j ∷ p)

-- Over labels that are monotone an offer is worse than the route that it is made of: where its value isn't, its path is
-- longer.
pub next_better : (net : PureNet) (reported : Reported) (i j : ℕ) (r : PureRoute) → NetHas monotone net → ReportsValues net reported → (o : IsOfferBy net reported i j r) → Better (carrier net) o.next r
next_better net reported i j r m values o =
    by (Order (carrier net) o.next.value r.value) (Order (carrier net) r.value o.next.value) (compare_paths o.next.path r.path) (order_turns (carrier net) o.next.value r.value)
    (rw o.weighs at (along_monotone net m i j (Some o.next.value) (values j o.next o.is_reported))) (rw o.path (longer_later i o.next.path))
  where
    by : (a b p : Ordering) → b ≡ ordering_reverse a → b ≢ Less → p ≡ Less → ordering_then a p ≡ Less
    by a b p e f g = grind arith

-- an offer's value is one of the carrier
pub offer_in : (net : PureNet) (dest : ℕ) (reported : Reported) (i : ℕ) (r : PureRoute) → IsNet net → ReportsValues net reported → Offers net dest reported i r → In (carrier net) r.value
offer_in net dest reported i r n values (inl own) = (of_some (IsOrigin net dest i) (origin_value net dest i) r.value (origins_are net n dest i) own.0).value_in
offer_in net dest reported i r n values (inr (j, o)) =
    of_some (In (carrier net)) (along net i j (Some o.next.value)) r.value (along_in net n i j (Some o.next.value) (values j o.next o.is_reported)) o.weighs

-- an offer's path begins with the node that it is made to
pub offer_begins : (net : PureNet) (dest : ℕ) (reported : Reported) (i : ℕ) (r : PureRoute) → Offers net dest reported i r → (p : List ℕ) × (r.path ≡ i ∷ p)
offer_begins net dest reported i r (inl own) = ([], own.1)
offer_begins net dest reported i r (inr (j, o)) = (o.next.path, o.path)

-- offers of one path are one offer
pub same_offer : (net : PureNet) (dest : ℕ) (reported : Reported) (i : ℕ) (r s : PureRoute) → ReportsOwnPaths reported → Offers net dest reported i r → Offers net dest reported i s → r.path ≡ s.path → r ≡ s
same_offer net dest reported i r s h (inl a) (inl b) e =
    let v : r.value ≡ s.value = let x = a.0 in let y = b.0 in cc in
    same_route r s v e
same_offer net dest reported i r s h (inl a) (inr (j, b)) e =
    let begins = h j b.next b.is_reported in
    absurd (let x = a.1 in let y = b.path in let z = begins.1 in cc)
same_offer net dest reported i r s h (inr (j, a)) (inl b) e =
    let begins = h j a.next a.is_reported in
    absurd (let x = a.path in let y = b.1 in let z = begins.1 in cc)
same_offer net dest reported i r s h (inr (j, a)) (inr (k, b)) e =
    let p = h j a.next a.is_reported in
    let q = h k b.next b.is_reported in
    let path : a.next.path ≡ b.next.path = let x = a.path in let y = b.path in cc in
    let node : j ≡ k = let x = p.1 in let y = q.1 in cc in
    let next : a.next ≡ b.next = let x = a.is_reported in let y = b.is_reported in cc in
    let v : r.value ≡ s.value = let x = a.weighs in let y = b.weighs in cc in
    same_route r s v e

-- an offer by some nodes is an offer, and one by more nodes
pub offer_from_offers : (net : PureNet) (dest : ℕ) (reported : Reported) (nodes : List ℕ) (i : ℕ) (r : PureRoute) → IsOfferFrom net dest reported nodes i r → Offers net dest reported i r
offer_from_offers net dest reported nodes i r (inl own) = inl own
offer_from_offers net dest reported nodes i r (inr (j, among, o)) = inr (j, o)

pub offer_from_more : (net : PureNet) (dest : ℕ) (reported : Reported) (nodes : List ℕ) (n i : ℕ) (r : PureRoute) → IsOfferFrom net dest reported nodes i r → IsOfferFrom net dest reported (n ∷ nodes) i r
offer_from_more net dest reported nodes n i r (inl own) = inl own
offer_from_more net dest reported nodes n i r (inr (j, among, o)) = inr (j, or_right (n == j) (is_among nodes j) among, o)

-- with one node more, an offer is by that node or by the others
pub offer_from_split : (net : PureNet) (dest : ℕ) (reported : Reported) (nodes : List ℕ) (n i : ℕ) (r : PureRoute) → IsOfferFrom net dest reported (n ∷ nodes) i r
    → IsOfferFrom net dest reported nodes i r ⊎ IsOfferBy net reported i n r
offer_from_split net dest reported nodes n i r (inl own) = inl (inl own)
offer_from_split net dest reported nodes n i r (inr (j, among, o)) = elim (or_cases (n == j) (is_among nodes j) among) [
  | inl same ↦ inr (let e : n ≡ j = eqb-true n j same in rw e o)
  | inr others ↦ inl (inr (j, others, o))
]
