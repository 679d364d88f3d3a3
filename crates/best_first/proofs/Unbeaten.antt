-- A table that is made best first is beaten by no walk, where labels are monotone and isotone.
use Rattle.std.proofs.Common.{◌≡◌, ℕ, ◌<◌, inl, inr, List, [], ◌∷◌, Option, Some, None, IfSome, Bool, true, false, length, refl, sym, ◌∙◌, subst, option_map}
use Rattle.std.proofs.lemmas.Bool.{false≢true}
use Rattle.alg_model.specs.Expressions.{PureValue}
use Rattle.alg_model.specs.Carriers.{In}
use Rattle.alg_model.specs.Properties.{monotone, isotone}
use Rattle.net_graph.specs.Nets.{PureNet, IsNet, origin_value}
use Rattle.net_graph.specs.Routes.{PureRoute, Better}
use Rattle.net_graph.specs.Walks.{Walk, Weight, along}
use Rattle.net_graph.specs.Tables.{PureRow, TableOf, NetHas, route_at, value_at, carrier, is_among, IsOfferFrom, AreFixed, BestFirst, Optimal}
use Rattle.net_graph.specs.Unbeaten.{IsUnbeatenBy, unbeaten_trans, none_last}
use Rattle.net_graph.specs.ArcLaws.{walk_within, along_none, along_in, weight_in, along_monotone, along_isotone}
use Rattle.net_graph.specs.RouteLaws.{table_route_in, table_value_in}
use Rattle.best_first.proofs.Offers.{among_split}
use Rattle.best_first.proofs.Sound.{AreSound, sound_more, best_first_walks}

-- the routes of these nodes are sound, and no walk from one is better
record AreBest (net : PureNet) (dest : ℕ) (t : List PureRow) (before : List ℕ) : Type 0 where
  pub sound : AreSound net dest t before
  pub unbeaten : (j : ℕ) (p : List ℕ) → is_among before j ≡ true → Walk net dest (j ∷ p) → IsUnbeatenBy (carrier net) (value_at t j) (Weight net dest (j ∷ p))

-- what the laws need of the network and of the table
record Given (net : PureNet) (dest : ℕ) (t : List PureRow) : Type 0 where
  pub is_net : IsNet net
  pub are_monotone : NetHas monotone net
  pub are_isotone : NetHas isotone net
  pub table_of : TableOf net dest t

-- no offer by these nodes to another node has a value that is preferred
NoneOffers : PureNet → ℕ → List PureRow → List ℕ → Option PureValue → Type 0
NoneOffers net dest t before x = (k : ℕ) (s : PureRoute) → k < length net.nodes → is_among before k ≡ false → IsOfferFrom net dest (route_at t) before k s
    → IsUnbeatenBy (carrier net) x (Some s.value)

abbrev route : PureValue → List ℕ → PureRoute
route v p = record { value = v; path = p }

at_origin : (net : PureNet) (dest : ℕ) (t : List PureRow) (before : List ℕ) (x : Option PureValue) → NoneOffers net dest t before x
    → (k : ℕ) → k < length net.nodes → is_among before k ≡ false → IsUnbeatenBy (carrier net) x (origin_value net dest k)
unfolding NoneOffers
at_origin net dest t before x f k within out = by (origin_value net dest k) refl
  where
    by : (o : Option PureValue) → origin_value net dest k ≡ o → IsUnbeatenBy (carrier net) x o
    by None e = none_last (carrier net) x
    by (Some v) e = f k (route v (k ∷ [])) within out (inl (e, refl))

at_arc : (net : PureNet) (dest : ℕ) (t : List PureRow) (before : List ℕ) (x : Option PureValue) → AreBest net dest t before → NoneOffers net dest t before x
    → (k j : ℕ) → k < length net.nodes → is_among before k ≡ false → is_among before j ≡ true → IsUnbeatenBy (carrier net) x (along net k j (value_at t j))
unfolding NoneOffers
at_arc net dest t before x b f k j within out among = by (route_at t j) refl
  where
    loopless : (next : PureRoute) → route_at t j ≡ Some next → (c : Bool) → is_among next.path k ≡ c → is_among next.path k ≡ false
    loopless next reported true e = absurd (false≢true (sym out ∙ (b.sound j next among reported).inside k e))
    loopless next reported false e = e

    image : (next : PureRoute) → route_at t j ≡ Some next → (o : Option PureValue) → along net k j (Some next.value) ≡ o → IsUnbeatenBy (carrier net) x o
    image next reported None e = none_last (carrier net) x
    image next reported (Some w) e = f k (route w (k ∷ next.path)) within out (inr (
      j,
      among,
      record {
        next = next;
        is_reported = reported;
        weighs = e;
        loopless = loopless next reported (is_among next.path k) refl;
        path = refl;
      },
    ))

    by : (o : Option PureRoute) → route_at t j ≡ o → IsUnbeatenBy (carrier net) x (along net k j (option_map (λ (r : PureRoute). r.value) o))
    by None e = rw (along_none net k j) (none_last (carrier net) x)
    by (Some next) e = image next e (along net k j (Some next.value)) refl

-- no walk from a node that isn't among them weighs better
next_best : (net : PureNet) (dest : ℕ) (t : List PureRow) (before : List ℕ) (x : Option PureValue) → Given net dest t → AreBest net dest t before → IfSome x (In (carrier net)) → NoneOffers net dest t before x
    → (k : ℕ) (p : List ℕ) → is_among before k ≡ false → Walk net dest (k ∷ p) → IsUnbeatenBy (carrier net) x (Weight net dest (k ∷ p))
next_best net dest t before x g b i f k [] out w = at_origin net dest t before x f k (walk_within net g.is_net dest k [] w) out
next_best net dest t before x g b i f k (j ∷ p) out w = by (λ e. next_best net dest t before x g b i f j p e w.1) (is_among before j) refl
  where
    rest_in : IfSome (Weight net dest (j ∷ p)) (In (carrier net))
    rest_in = weight_in net g.is_net dest (j ∷ p)

    whole_in : IfSome (along net k j (Weight net dest (j ∷ p))) (In (carrier net))
    whole_in = along_in net g.is_net k j (Weight net dest (j ∷ p)) rest_in

    by : (is_among before j ≡ false → IsUnbeatenBy (carrier net) x (Weight net dest (j ∷ p))) → (c : Bool) → is_among before j ≡ c
        → IsUnbeatenBy (carrier net) x (along net k j (Weight net dest (j ∷ p)))
    by rest true e =
        let row_in = table_value_in net dest t g.table_of j in
        unbeaten_trans (carrier net) x (along net k j (value_at t j)) (along net k j (Weight net dest (j ∷ p)))
        i (along_in net g.is_net k j (value_at t j) row_in) whole_in
        (at_arc net dest t before x b f k j (walk_within net g.is_net dest k (j ∷ p) w) out e)
        (along_isotone net g.are_isotone k j (value_at t j) (Weight net dest (j ∷ p)) row_in rest_in (b.unbeaten j p e w.1))
    by rest false e =
        unbeaten_trans (carrier net) x (Weight net dest (j ∷ p)) (along net k j (Weight net dest (j ∷ p)))
        i rest_in whole_in (rest e) (along_monotone net g.are_monotone k j (Weight net dest (j ∷ p)) rest_in)

-- with the next node too the routes are best
best_more : (net : PureNet) (dest : ℕ) (t : List PureRow) (before : List ℕ) (i : ℕ) (r : PureRoute) → Given net dest t → AreBest net dest t before
    → is_among before i ≡ false → route_at t i ≡ Some r → IsOfferFrom net dest (route_at t) before i r
    → ((k : ℕ) (s : PureRoute) → k < length net.nodes → is_among before k ≡ false → IsOfferFrom net dest (route_at t) before k s → ¬ Better (carrier net) s r)
    → AreBest net dest t (i ∷ before)
unfolding NoneOffers
best_more net dest t before i r g b out reported o best = record { sound = sound_more net dest t before i r g.is_net b.sound reported o; unbeaten = unbeaten }
  where
    none : NoneOffers net dest t before (Some r.value)
    none k s within other offer e = best k s within other offer (rw e refl)

    here : (p : List ℕ) → Walk net dest (i ∷ p) → IsUnbeatenBy (carrier net) (value_at t i) (Weight net dest (i ∷ p))
    here p w = rw reported (next_best net dest t before (Some r.value) g b (table_route_in net dest t g.table_of i r reported).value_in none i p out w)

    unbeaten : (j : ℕ) (p : List ℕ) → is_among (i ∷ before) j ≡ true → Walk net dest (j ∷ p) → IsUnbeatenBy (carrier net) (value_at t j) (Weight net dest (j ∷ p))
    unbeaten j p e w = elim (among_split before i j e) [
      | inl same ↦
          let P : ℕ → Type 0 = λ k. (q : List ℕ) → Walk net dest (k ∷ q) → IsUnbeatenBy (carrier net) (value_at t k) (Weight net dest (k ∷ q)) in
          subst P same here p w
      | inr m ↦ b.unbeaten j p m w
    ]

-- no walk weighs better than the row of its first node
Unbeaten : PureNet → ℕ → List PureRow → Type 0
Unbeaten net dest t = (i : ℕ) (p : List ℕ) → Walk net dest (i ∷ p) → IsUnbeatenBy (carrier net) (value_at t i) (Weight net dest (i ∷ p))

last_best : (net : PureNet) (dest : ℕ) (t : List PureRow) (before : List ℕ) → Given net dest t → AreBest net dest t before → AreFixed net dest t before [] → Unbeaten net dest t
unfolding NoneOffers Unbeaten
last_best net dest t before g b f i p w = by i p w (is_among before i) refl
  where
    none : NoneOffers net dest t before None
    none k s within other offer = absurd ((f k within other).1 s offer)

    by : (i : ℕ) (p : List ℕ) → Walk net dest (i ∷ p) → (c : Bool) → is_among before i ≡ c → IsUnbeatenBy (carrier net) (value_at t i) (Weight net dest (i ∷ p))
    by i p w true e = b.unbeaten i p e w
    by i p w false e = rw ((f i (walk_within net g.is_net dest i p w) e).0) (next_best net dest t before None g b tt none i p e w)

fixed_best : (net : PureNet) (dest : ℕ) (t : List PureRow) (before order : List ℕ) → Given net dest t → AreBest net dest t before → AreFixed net dest t before order → Unbeaten net dest t
fixed_best net dest t before [] g b f = last_best net dest t before g b f
fixed_best net dest t before (i ∷ order) g b f =
    fixed_best net dest t (i ∷ before) order g (best_more net dest t before i f.2.0 g b f.1 f.2.1 f.2.2 f.2.3) f.3

pub optimal : (net : PureNet) (dest : ℕ) (t : List PureRow) → IsNet net → NetHas monotone net → NetHas isotone net
    → BestFirst net dest t → Optimal net dest t
unfolding Unbeaten
optimal net dest t n m i h =
    let g : Given net dest t = record { is_net = n; are_monotone = m; are_isotone = i; table_of = h.table_of } in
    let b : AreBest net dest t [] = record { sound = λ j r e. absurd (cc); unbeaten = λ j q e. absurd (cc) } in
    let f = fixed_best net dest t [] h.order g b h.fixed in
    record { table_of = h.table_of; walks = best_first_walks net dest t n h; unbeaten = f }
