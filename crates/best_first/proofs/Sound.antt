-- The routes of a table that is made best first are walks that weigh their values.
use Rattle.std.proofs.Common.{◌≡◌, ℕ, ◌<◌, inl, inr, List, [], ◌∷◌, Some, Bool, true, false, length, refl}
use Rattle.std.proofs.lemmas.Bool.{cases_lt, false≢true}
use Rattle.net_graph.specs.Nets.{PureNet, IsNet, origin_value}
use Rattle.net_graph.specs.Routes.{PureRoute}
use Rattle.net_graph.specs.Walks.{Walk, Weight}
use Rattle.net_graph.specs.Tables.{PureRow, TableOf, HasWalks, route_at, is_among, IsOfferFrom, AreFixed, BestFirst}
use Rattle.net_graph.specs.ArcLaws.{of_some, IsOrigin, origins_are, along_has}
use Rattle.net_graph.specs.RouteLaws.{no_route_past}
use Rattle.best_first.proofs.Offers.{among_split, among_first, among_more}

-- the route's path is a walk from its node that weighs its value, over these nodes alone
pub record IsSound (net : PureNet) (dest : ℕ) (before : List ℕ) (i : ℕ) (r : PureRoute) : Type 0 where
  pub walk : Walk net dest r.path
  pub weight : Weight net dest r.path ≡ Some r.value
  pub begins : (p : List ℕ) × (r.path ≡ i ∷ p)
  pub inside : (k : ℕ) → is_among r.path k ≡ true → is_among before k ≡ true

-- the routes of these nodes are sound
abbrev pub AreSound : PureNet → ℕ → List PureRow → List ℕ → Type 0
AreSound net dest t before = (j : ℕ) (r : PureRoute) → is_among before j ≡ true → route_at t j ≡ Some r → IsSound net dest before j r

-- an offer by nodes whose routes are sound is sound
offer_sound : (net : PureNet) (dest : ℕ) (t : List PureRow) (before : List ℕ) (i : ℕ) (r : PureRoute) → IsNet net → AreSound net dest t before
    → IsOfferFrom net dest (route_at t) before i r → IsSound net dest (i ∷ before) i r
offer_sound net dest t before i r n b (inl (value, path)) = record {
  walk = rw path (of_some (IsOrigin net dest i) (origin_value net dest i) r.value (origins_are net n dest i) value).has;
  weight = rw path value;
  begins = ([], path);
  inside = λ k e. elim (among_split [] i k (rw path at e)) [
    | inl s ↦ among_first before i k s
    | inr m ↦ absurd (false≢true m)
  ];
}
offer_sound net dest t before i r n b (inr (j, among, o)) =
    let s = b j o.next among o.is_reported in
    let begins = s.begins in
    record {
      walk = rw (o.path, begins.1) (along_has net n i j (Some o.next.value) r.value o.weighs, rw begins.1 at s.walk);
      weight =
          let w : Weight net dest (j ∷ begins.0) ≡ Some o.next.value = rw begins.1 at s.weight in
          rw (o.path, begins.1, w) o.weighs;
      begins = (o.next.path, o.path);
      inside = λ k e. elim (among_split o.next.path i k (rw o.path at e)) [
        | inl same ↦ among_first before i k same
        | inr m ↦ among_more before i k (s.inside k m)
      ];
    }

-- with the next node too the routes are sound
pub sound_more : (net : PureNet) (dest : ℕ) (t : List PureRow) (before : List ℕ) (i : ℕ) (r : PureRoute) → IsNet net → AreSound net dest t before
    → route_at t i ≡ Some r → IsOfferFrom net dest (route_at t) before i r → AreSound net dest t (i ∷ before)
sound_more net dest t before i r n b reported o j s e f = elim (among_split before i j e) [
  | inl same ↦ rw (← same) (first s (rw (← same) at f))
  | inr m ↦ widen j s (b j s m f)
]
  where
    widen : (j : ℕ) (s : PureRoute) → IsSound net dest before j s → IsSound net dest (i ∷ before) j s
    widen j s h = record { walk = h.walk; weight = h.weight; begins = h.begins; inside = λ k e. among_more before i k (h.inside k e) }

    first : (s : PureRoute) → route_at t i ≡ Some s → IsSound net dest (i ∷ before) i s
    first s e =
        let one : r ≡ s = cc in
        rw one at (offer_sound net dest t before i r n b o)

last_walks : (net : PureNet) (dest : ℕ) (t : List PureRow) (before : List ℕ) → TableOf net dest t → AreSound net dest t before → AreFixed net dest t before [] → HasWalks net dest t
last_walks net dest t before table b f i r reported = elim (cases_lt i (length net.nodes)) [
  | inl within ↦ walk_of (b i r (inside (is_among before i) refl within) reported)
  | inr past ↦ absurd (let n = no_route_past net dest t table i past in cc)
]
  where
    walk_of : IsSound net dest before i r → Walk net dest r.path × (Weight net dest r.path ≡ Some r.value) × ((p : List ℕ) × (r.path ≡ i ∷ p))
    walk_of s = (s.walk, s.weight, s.begins)

    inside : (c : Bool) → is_among before i ≡ c → i < length net.nodes → is_among before i ≡ true
    inside true e within = e
    inside false e within = absurd (let n = (f i within e).0 in cc)

fixed_walks : (net : PureNet) (dest : ℕ) (t : List PureRow) (before order : List ℕ) → IsNet net → TableOf net dest t → AreSound net dest t before → AreFixed net dest t before order → HasWalks net dest t
fixed_walks net dest t before [] n table b f = last_walks net dest t before table b f
fixed_walks net dest t before (i ∷ order) n table b f =
    fixed_walks net dest t (i ∷ before) order n table (sound_more net dest t before i f.2.0 n b f.2.1 f.2.2) f.3

-- the routes of a table that is made best first are walks
pub best_first_walks : (net : PureNet) (dest : ℕ) (t : List PureRow) → IsNet net → BestFirst net dest t → HasWalks net dest t
best_first_walks net dest t n h = fixed_walks net dest t [] h.order n h.table_of (λ j r e. absurd (cc)) h.fixed
