-- What offers are, and where there is an arc that makes one.
use Rattle.std.proofs.Common.{◌≡◌, ℕ, ◌<◌, List, [], ◌∷◌, Option, Some, None, IfSome, Bool, true, false, inl, inr, if◌then◌else◌, option_map, option_and_then, length, refl, sym, ap, ◌∙◌}
use Rattle.std.specs.Bool.{Decides}
use Rattle.alg_model.specs.Expressions.{PureLabel, PureValue}
use Rattle.alg_model.specs.Carriers.{In, IsPreferred}
use Rattle.net_graph.specs.Nets.{PureNet, IsNet, has_arc, label_between, origin_value}
use Rattle.net_graph.specs.Routes.{PureRoute}
use Rattle.net_graph.specs.Walks.{along}
use Rattle.net_graph.specs.Tables.{PureRow, Reported, TableOf, Offers, IsOfferBy, IsChoice, Stable, carrier, is_among, route_at, value_at}
use Rattle.net_graph.specs.ArcLaws.{of_some, IsArc, arcs_are, IsOrigin, origins_are, along_has, along_in}
use Rattle.net_graph.specs.RouteLaws.{table_route_in}
use Rattle.stable_check.specs.Checks.{passed_on, offer_by, own_offer, Outdoes, Makes, OutdoneBy, MadeBy, ImprovedBy, IsMade, IsOutdone}

-- the label between two nodes is that of an arc
pub label_is : (net : PureNet) → IsNet net → (i j : ℕ) (l : PureLabel) → label_between net i j ≡ Some l → IsArc net i j l
label_is net n i j l e = of_some (IsArc net i j) (label_between net i j) l (arcs_are net n i j) e

-- the values of routes of a table are the algebra's
pub rows_in : (net : PureNet) (dest : ℕ) (rows : List PureRow) → TableOf net dest rows → (k : ℕ) → IfSome (route_at rows k) (λ r. In (carrier net) r.value)
rows_in net dest rows h k = by (route_at rows k) refl
  where
    by : (o : Option PureRoute) → route_at rows k ≡ o → IfSome o (λ r. In (carrier net) r.value)
    by None e = tt
    by (Some r) e = (table_route_in net dest rows h k r e).value_in

-- so are those of origins, and of their offers
pub origin_in : (net : PureNet) → IsNet net → (dest i : ℕ) → IfSome (origin_value net dest i) (In (carrier net))
origin_in net n dest i = by (origin_value net dest i) (origins_are net n dest i)
  where
    by : (o : Option PureValue) → IfSome o (IsOrigin net dest i) → IfSome o (In (carrier net))
    by None h = tt
    by (Some v) h = h.value_in

pub own_offer_in : (net : PureNet) → IsNet net → (dest i : ℕ) → IfSome (own_offer net dest i) (λ r. In (carrier net) r.value)
own_offer_in net n dest i = by (origin_value net dest i) (origin_in net n dest i)
  where
    by : (o : Option PureValue) → IfSome o (In (carrier net)) → IfSome (option_map (λ (v : PureValue). record { value = v; path = i ∷ [] }) o) (λ (r : PureRoute). In (carrier net) r.value)
    by None h = tt
    by (Some v) h = h

-- an offer by an arc, from what makes it
pub offer_made : (net : PureNet) (reported : Reported) (i j : ℕ) (s : PureRoute) → offer_by net reported i j ≡ Some s → IsOfferBy net reported i j s
offer_made net reported i j s e = by (reported j) refl e
  where
    image : (next : PureRoute) → reported j ≡ Some next → is_among next.path i ≡ false → (o : Option PureValue) → along net i j (Some next.value) ≡ o
        → option_map (λ (v : PureValue). record { value = v; path = i ∷ next.path }) o ≡ Some s → IsOfferBy net reported i j s
    image next t f None g h = absurd (cc)
    image next t f (Some v) g h =
        let value : v ≡ s.value = ap (λ (r : PureRoute). r.value) (let k : record { value = v; path = i ∷ next.path } ≡ s = cc in k) in
        let path : i ∷ next.path ≡ s.path = ap (λ (r : PureRoute). r.path) (let k : record { value = v; path = i ∷ next.path } ≡ s = cc in k) in
        record { next = next; is_reported = t; weighs = g ∙ ap Some value; loopless = f; path = sym path }

    loop : (next : PureRoute) → reported j ≡ Some next → (b : Bool) → is_among next.path i ≡ b
        → (if b then None else option_map (λ (v : PureValue). record { value = v; path = i ∷ next.path }) (along net i j (Some next.value))) ≡ Some s → IsOfferBy net reported i j s
    loop next t true f h = absurd (cc)
    loop next t false f h = image next t f (along net i j (Some next.value)) refl h

    by : (o : Option PureRoute) → reported j ≡ o → option_and_then (passed_on net i j) o ≡ Some s → IsOfferBy net reported i j s
    by None t h = absurd (cc)
    by (Some next) t h = loop next t (is_among next.path i) refl h

pub offer_found : (net : PureNet) (reported : Reported) (i j : ℕ) (s : PureRoute) → IsOfferBy net reported i j s → offer_by net reported i j ≡ Some s
offer_found net reported i j s o = rw (o.is_reported, o.loopless, o.weighs, ← o.path) refl

-- values and offers come by arcs alone
pub improved_has : (net : PureNet) → IsNet net → (rows : List PureRow) (i j : ℕ) → ImprovedBy net rows i j → has_arc net i j ≡ true
improved_has net n rows i j h = by (along net i j (value_at rows j)) refl h
  where
    none : (o : Option PureValue) → IsPreferred (carrier net) None o → has_arc net i j ≡ true
    none None h = absurd (cc)
    none (Some v) h = absurd (cc)

    by : (o : Option PureValue) → along net i j (value_at rows j) ≡ o → IsPreferred (carrier net) o (value_at rows i) → has_arc net i j ≡ true
    by None e h = none (value_at rows i) h
    by (Some v) e h = along_has net n i j (value_at rows j) v e

pub offer_has : (net : PureNet) → IsNet net → (reported : Reported) (i j : ℕ) (s : PureRoute) → offer_by net reported i j ≡ Some s → has_arc net i j ≡ true
offer_has net n reported i j s e = let o = offer_made net reported i j s e in along_has net n i j (Some o.next.value) s.value o.weighs

pub outdone_has : (net : PureNet) → IsNet net → (reported : Reported) (i j : ℕ) → OutdoneBy net reported i j → has_arc net i j ≡ true
outdone_has net n reported i j h = by (offer_by net reported i j) refl h
  where
    by : (o : Option PureRoute) → offer_by net reported i j ≡ o → Outdoes (carrier net) o (reported i) → has_arc net i j ≡ true
    by None e h = absurd h
    by (Some s) e h = offer_has net n reported i j s e

pub made_has : (net : PureNet) → IsNet net → (reported : Reported) (i j : ℕ) → MadeBy net reported i j → has_arc net i j ≡ true
made_has net n reported i j h = by (reported i) h
  where
    by : (o : Option PureRoute) → Makes (offer_by net reported i j) o → has_arc net i j ≡ true
    by None h = absurd h
    by (Some r) h = offer_has net n reported i j r h

-- the values of offers are the algebra's
pub offer_in : (net : PureNet) → IsNet net → (dest : ℕ) (rows : List PureRow) → TableOf net dest rows → (i j : ℕ) → IfSome (offer_by net (route_at rows) i j) (λ r. In (carrier net) r.value)
offer_in net n dest rows h i j = by (offer_by net (route_at rows) i j) refl
  where
    by : (o : Option PureRoute) → offer_by net (route_at rows) i j ≡ o → IfSome o (λ r. In (carrier net) r.value)
    by None e = tt
    by (Some s) e =
        let o = offer_made net (route_at rows) i j s e in
        of_some (In (carrier net)) (along net i j (Some o.next.value)) s.value (along_in net n i j (Some o.next.value) (table_route_in net dest rows h j o.next o.is_reported).value_in) o.weighs

-- an own offer
pub own_made : (net : PureNet) (dest i : ℕ) (s : PureRoute) → own_offer net dest i ≡ Some s → (origin_value net dest i ≡ Some s.value) × (s.path ≡ i ∷ [])
own_made net dest i s e = by (origin_value net dest i) refl e
  where
    by : (o : Option PureValue) → origin_value net dest i ≡ o → option_map (λ (v : PureValue). record { value = v; path = i ∷ [] }) o ≡ Some s → (o ≡ Some s.value) × (s.path ≡ i ∷ [])
    by None f h = absurd (cc)
    by (Some v) f h =
        let k : record { value = v; path = i ∷ [] } ≡ s = cc in
        (ap Some (ap (λ (r : PureRoute). r.value) k), sym (ap (λ (r : PureRoute). r.path) k))

pub own_found : (net : PureNet) (dest i : ℕ) (s : PureRoute) → origin_value net dest i ≡ Some s.value → s.path ≡ i ∷ [] → own_offer net dest i ≡ Some s
own_found net dest i s e f = rw (e, ← f) refl

-- a row is outdone by the own offer, or by an arc, or not at all
pub outdone_own : (net : PureNet) (dest : ℕ) (reported : Reported) (i : ℕ) → Outdoes (carrier net) (own_offer net dest i) (reported i) → IsOutdone net dest reported i
outdone_own net dest reported i h = by (own_offer net dest i) refl h
  where
    by : (o : Option PureRoute) → own_offer net dest i ≡ o → Outdoes (carrier net) o (reported i) → IsOutdone net dest reported i
    by None e h = absurd h
    by (Some s) e h = (s, inl (own_made net dest i s e), h)

pub outdone_arc : (net : PureNet) (dest : ℕ) (reported : Reported) (i j : ℕ) → OutdoneBy net reported i j → IsOutdone net dest reported i
outdone_arc net dest reported i j h = by (offer_by net reported i j) refl h
  where
    by : (o : Option PureRoute) → offer_by net reported i j ≡ o → Outdoes (carrier net) o (reported i) → IsOutdone net dest reported i
    by None e h = absurd h
    by (Some s) e h = (s, inr (j, offer_made net reported i j s e), h)

pub outdone_by : (net : PureNet) (dest : ℕ) (reported : Reported) (i : ℕ) (b : Bool) → ¬ Outdoes (carrier net) (own_offer net dest i) (reported i) → Decides b ((j : ℕ) × OutdoneBy net reported i j) → Decides b (IsOutdone net dest reported i)
outdone_by net dest reported i b own arcs = (λ e. let a = arcs.0 e in outdone_arc net dest reported i a.0 a.1, λ h. by h.0 h.1 h.2)
  where
    by : (s : PureRoute) → Offers net dest reported i s → Outdoes (carrier net) (Some s) (reported i) → b ≡ true
    by s (inl o) h = absurd (own (rw (own_found net dest i s o.0 o.1) h))
    by s (inr (j, o)) h = arcs.1 (j, rw (offer_found net reported i j s o) h)

-- and likewise made
pub made_own : (net : PureNet) (dest : ℕ) (reported : Reported) (i : ℕ) → Makes (own_offer net dest i) (reported i) → IsMade net dest reported i
made_own net dest reported i h = by (reported i) h
  where
    by : (o : Option PureRoute) → Makes (own_offer net dest i) o → IfSome o (Offers net dest reported i)
    by None h = tt
    by (Some r) h = inl (own_made net dest i r h)

pub made_by : (net : PureNet) (dest : ℕ) (reported : Reported) (i : ℕ) (b : Bool) (r : PureRoute) → Some r ≡ reported i → ¬ (own_offer net dest i ≡ Some r) → Decides b ((j : ℕ) × MadeBy net reported i j) → Decides b (IsMade net dest reported i)
made_by net dest reported i b r row own arcs = by (reported i) row arcs
  where
    offered : Decides b ((j : ℕ) × (offer_by net reported i j ≡ Some r)) → Offers net dest reported i r → b ≡ true
    offered arcs (inl o) = absurd (own (own_found net dest i r o.0 o.1))
    offered arcs (inr (j, o)) = arcs.1 (j, offer_found net reported i j r o)

    by : (o : Option PureRoute) → Some r ≡ o → Decides b ((j : ℕ) × Makes (offer_by net reported i j) o) → Decides b (IfSome o (Offers net dest reported i))
    by None row arcs = absurd (cc)
    by (Some s) row arcs =
        let same : s ≡ r = cc in
        let known : Decides b ((j : ℕ) × (offer_by net reported i j ≡ Some r)) = rw same at arcs in
        rw same (λ e. let a = known.0 e in inr (a.0, offer_made net reported i a.0 r a.1), λ h. offered known h)

-- a row that is outdone is no choice, and another is one where it is made
pub outdone_no_choice : (net : PureNet) (dest : ℕ) (reported : Reported) (i : ℕ) → IsOutdone net dest reported i → ¬ IsChoice net dest reported i (reported i)
outdone_no_choice net dest reported i h c = by (reported i) h.2 c
  where
    by : (o : Option PureRoute) → Outdoes (carrier net) (Some h.0) o → IsChoice net dest reported i o → ⊥
    by None g c = c h.0 h.1
    by (Some r) g c = c.1 h.0 h.1 g

pub choice_by : (net : PureNet) (dest : ℕ) (reported : Reported) (i : ℕ) (b : Bool) → ¬ IsOutdone net dest reported i → Decides b (IsMade net dest reported i) → Decides b (IsChoice net dest reported i (reported i))
choice_by net dest reported i b out made = by (reported i) (λ s o g. out (s, o, g)) made
  where
    by : (o : Option PureRoute) → ((s : PureRoute) → Offers net dest reported i s → Outdoes (carrier net) (Some s) o → ⊥) → Decides b (IfSome o (Offers net dest reported i)) → Decides b (IsChoice net dest reported i o)
    by None out made = (λ e s o. out s o tt, λ c. made.1 tt)
    by (Some r) out made = (λ e. (made.0 e, λ s o g. out s o g), λ c. made.1 c.0)

-- a table of choices is stable
pub all_choices : (net : PureNet) (dest n : ℕ) (rows : List PureRow) → TableOf net dest rows → length net.nodes ≡ n → ((k : ℕ) → k < n → IsChoice net dest (route_at rows) k (route_at rows k)) → Stable net dest rows
all_choices net dest n rows t e h = record { table_of = t; choices = λ i within. h i (rw e at within) }
