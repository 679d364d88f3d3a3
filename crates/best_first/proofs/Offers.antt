-- What the nodes that are fixed offer.
use Rattle.std.proofs.Common.{◌≡◌, ℕ, ◌⊎◌, inl, inr, List, [], ◌∷◌, Some, Bool, true, false, ◌==◌, refl, sym, ◌∙◌, arith}
use Rattle.std.proofs.lemmas.Bool.Decides.{nat_tests}
use Rattle.net_graph.specs.Nets.{PureNet}
use Rattle.net_graph.specs.Routes.{PureRoute}
use Rattle.net_graph.specs.Tables.{PureRow, route_at, is_among, IsOfferFrom}
use Rattle.net_graph.specs.RouteLaws.{same_route}

-- with one node more, a node is that one or among the others
pub among_split : (before : List ℕ) (i j : ℕ) → is_among (i ∷ before) j ≡ true → (i ≡ j) ⊎ (is_among before j ≡ true)
among_split before i j e = by (i == j) refl
  where
    by : (b : Bool) → (i == j) ≡ b → (i ≡ j) ⊎ (is_among before j ≡ true)
    by true h = inl (grind (arith, nat_tests))
    by false h = inr (rw h at e)

pub among_first : (before : List ℕ) (i j : ℕ) → i ≡ j → is_among (i ∷ before) j ≡ true
among_first before i j e =
    let h : (i == j) ≡ true = grind (arith, nat_tests) in
    rw h refl

pub among_more : (before : List ℕ) (i j : ℕ) → is_among before j ≡ true → is_among (i ∷ before) j ≡ true
among_more before i j e = by (i == j) refl
  where
    by : (b : Bool) → (i == j) ≡ b → is_among (i ∷ before) j ≡ true
    by true h = rw h refl
    by false h = rw h e

-- the tables have the same routes at these nodes
abbrev pub Agree : List PureRow → List PureRow → List ℕ → Type 0
Agree t u before = (j : ℕ) → is_among before j ≡ true → route_at t j ≡ route_at u j

-- the path of each of these nodes begins with it
abbrev pub BeginWithThem : List PureRow → List ℕ → Type 0
BeginWithThem t before = (j : ℕ) (r : PureRoute) → is_among before j ≡ true → route_at t j ≡ Some r → (p : List ℕ) × (r.path ≡ j ∷ p)

-- where tables agree they make the same offers
pub offer_moves : (net : PureNet) (dest : ℕ) (t u : List PureRow) (before : List ℕ) (i : ℕ) (r : PureRoute) → Agree t u before
    → IsOfferFrom net dest (route_at t) before i r → IsOfferFrom net dest (route_at u) before i r
offer_moves net dest t u before i r a (inl own) = inl own
offer_moves net dest t u before i r a (inr (j, among, by)) = inr (
  j,
  among,
  record {
    next = by.next;
    is_reported = sym (a j among) ∙ by.is_reported;
    weighs = by.weighs;
    loopless = by.loopless;
    path = by.path;
  },
)

-- an offer's path begins with the node that it is made to
pub offer_begins : (net : PureNet) (dest : ℕ) (t : List PureRow) (before : List ℕ) (i : ℕ) (r : PureRoute) → IsOfferFrom net dest (route_at t) before i r
    → (p : List ℕ) × (r.path ≡ i ∷ p)
offer_begins net dest t before i r (inl own) = ([], own.1)
offer_begins net dest t before i r (inr (j, among, by)) = (by.next.path, by.path)

-- offers of one path are one offer
pub same_offer : (net : PureNet) (dest : ℕ) (t : List PureRow) (before : List ℕ) (i : ℕ) (r s : PureRoute) → BeginWithThem t before
    → IsOfferFrom net dest (route_at t) before i r → IsOfferFrom net dest (route_at t) before i s → r.path ≡ s.path → r ≡ s
same_offer net dest t before i r s h (inl a) (inl b) e =
    let v : r.value ≡ s.value = let x = a.0 in let y = b.0 in cc in
    same_route r s v e
same_offer net dest t before i r s h (inl a) (inr (j, among, b)) e =
    let begins = h j b.next among b.is_reported in
    absurd (let x = a.1 in let y = b.path in let z = begins.1 in cc)
same_offer net dest t before i r s h (inr (j, among, a)) (inl b) e =
    let begins = h j a.next among a.is_reported in
    absurd (let x = a.path in let y = b.1 in let z = begins.1 in cc)
same_offer net dest t before i r s h (inr (j, among, a)) (inr (k, others, b)) e =
    let p = h j a.next among a.is_reported in
    let q = h k b.next others b.is_reported in
    let path : a.next.path ≡ b.next.path = let x = a.path in let y = b.path in cc in
    let node : j ≡ k = let x = p.1 in let y = q.1 in cc in
    let next : a.next ≡ b.next = let x = a.is_reported in let y = b.is_reported in cc in
    let v : r.value ≡ s.value = let x = a.weighs in let y = b.weighs in cc in
    same_route r s v e
