-- A node's choice is the offer that no other is better than, and it may be the node's. Lemmas, so that proofs of
-- other crates may cite them.
use Rattle.std.proofs.Common.{◌≡◌, ℕ, suc, ◌+◌, ◌*◌, ◌<◌, ◌≤◌, ◌⊎◌, inl, inr, List, [], ◌∷◌, Bool, true, false, not, ◌&&◌, ◌==◌, length, cond, slice_get, Option, Some, None, subst, refl, sym, ap, ◌∙◌, arith}
use Rattle.std.specs.Prelude.{nat_lt, option_map, option_and_then}
use Rattle.std.specs.Option.{option_map_or}
use Rattle.std.specs.List.{find, list_all, filter_map}
use Rattle.std.specs.declared.cmp.Ordering.{Ordering}
use Rattle.std.specs.declared.cmp.Ordering.TheVariants.{Less, Equal, Greater}
use Rattle.std.proofs.lemmas.Bool.Decides.{nat_tests}
use Rattle.alg_model.specs.Expressions.{PureCarrier, PureValue}
use Rattle.alg_model.specs.Carriers.{In, distinct}
use Rattle.alg_model.specs.Application.{App}
use Rattle.alg_model.specs.Bounds.{AtMost, greatest_number}
use Rattle.alg_model.specs.Laws.{images_in, images_at_most, at_most_more}
use Rattle.alg_model.specs.Tests.{is_in, is_in-Decides, is_at_most, is_at_most-Decides}
use Rattle.net_graph.specs.Nets.{PureArc, PureOrigin, PureNet, IsNet, IsArcOf, IsOriginOf, AreDistinct, joins_same, is_arc_between, is_origin_at, arcs_from, origin_value}
use Rattle.net_graph.specs.Routes.{PureRoute, Better, compare_routes, is_less, is_better}
use Rattle.net_graph.specs.Tables.{Reported, carrier, is_among, IsOwnOffer, IsOfferBy, Offers, IsChoice}
use Rattle.path_vector.specs.Node.{PvState, own_offers, offer_by, offers_to, best_of, choice, begins_with, greatest_on, may_be_of}
use Rattle.path_vector.specs.Coherent.{heard_of}
use Rattle.path_vector.specs.Reporting.{arcs_stand}
use Rattle.path_vector.specs.Items.{IsItem, of_all, found_item, none_found, items_all, all_items, item_split, item_left, item_right, item_passed, item_passes, item_mapped, item_maps, from_not}
use Rattle.net_graph.specs.RouteOrder.{not_better_trans, better_asymmetric}

-- ---- the best of some routes

pub not_less : (o : Ordering) → is_less o ≡ false → ¬ (o ≡ Less)
not_less Less e = absurd (cc)
not_less Equal e = λ f. cc
not_less Greater e = λ f. cc

pub less : (o : Ordering) → is_less o ≡ true → o ≡ Less
less Less e = refl
less Equal e = absurd (cc)
less Greater e = absurd (cc)

pub to_not_less : (o : Ordering) → ¬ (o ≡ Less) → is_less o ≡ false
to_not_less Less e = absurd (e refl)
to_not_less Equal e = refl
to_not_less Greater e = refl

pub to_not : (b : Bool) → b ≡ false → not b ≡ true
to_not true e = absurd (cc)
to_not false e = refl

-- a route of these that none of them is better than
pub record IsBestOf (c : PureCarrier) (rs : List PureRoute) (r : PureRoute) : Type 0 where
  pub item : IsItem r rs
  pub unbeaten : (s : PureRoute) → IsItem s rs → ¬ Better c s r

best_there : (c : PureCarrier) (x : PureRoute) (rs : List PureRoute) → ((r : PureRoute) → IsItem r (x ∷ rs) → In c r.value) → (r : PureRoute) × IsBestOf c (x ∷ rs) r
best_there c x [] i = (x, record { item = inl refl; unbeaten = alone })
  where
    alone : (s : PureRoute) → IsItem s (x ∷ []) → ¬ Better c s x
    alone s (inl same) = let x_in = i x (inl refl) in λ e. better_asymmetric c x x x_in x_in (rw (← same) at e) (rw (← same) at e)
    alone s (inr none) = absurd none
best_there c x (y ∷ rs) i = by (best_there c y rs (λ r e. i r (inr e)))
  where
    by : (r : PureRoute) × IsBestOf c (y ∷ rs) r → (r : PureRoute) × IsBestOf c (x ∷ y ∷ rs) r
    by (b, best) = either (is_better c x b) refl
      where
        x_in : In c x.value
        x_in = i x (inl refl)

        b_in : In c b.value
        b_in = i b (inr best.item)

        first : Better c x b → (s : PureRoute) → IsItem s (x ∷ y ∷ rs) → ¬ Better c s x
        first e s (inl same) = λ f. better_asymmetric c x x x_in x_in (rw (← same) at f) (rw (← same) at f)
        first e s (inr more) = not_better_trans c x b s x_in b_in (i s (inr more)) (better_asymmetric c x b x_in b_in e) (best.unbeaten s more)

        other : ¬ Better c x b → (s : PureRoute) → IsItem s (x ∷ y ∷ rs) → ¬ Better c s b
        other e s (inl same) = rw same at e
        other e s (inr more) = best.unbeaten s more

        either : (t : Bool) → is_better c x b ≡ t → (r : PureRoute) × IsBestOf c (x ∷ y ∷ rs) r
        either true e = (x, record { item = inl refl; unbeaten = first (less (compare_routes c x b) e) })
        either false e = (b, record { item = inr best.item; unbeaten = other (not_less (compare_routes c x b) e) })

-- what is chosen of some routes is the best of them
pub best_is : (c : PureCarrier) (rs : List PureRoute) (r : PureRoute) → best_of c rs ≡ Some r → IsBestOf c rs r
best_is c rs r e =
    let found = found_item (λ r. list_all (λ s. not (is_better c s r)) rs) rs r e in
    record {
      item = found.0;
      unbeaten = λ s i. not_less (compare_routes c s r) (from_not (is_better c s r) (all_items (λ s. not (is_better c s r)) rs s found.1 i));
    }

-- and none is chosen only where there is none
pub none_best : (c : PureCarrier) (rs : List PureRoute) → ((r : PureRoute) → IsItem r rs → In c r.value) → best_of c rs ≡ None → (r : PureRoute) → ¬ IsItem r rs
none_best c [] i e r = λ none. none
none_best c (x ∷ rs) i e r = λ _. by (best_there c x rs i)
  where
    by : (b : PureRoute) × IsBestOf c (x ∷ rs) b → ⊥
    by (b, best) =
        let misses = none_found (λ r. list_all (λ s. not (is_better c s r)) (x ∷ rs)) (x ∷ rs) b e best.item in
        let holds = items_all (λ s. not (is_better c s b)) (x ∷ rs) (λ s j. to_not (is_better c s b) (to_not_less (compare_routes c s b) (best.unbeaten s j))) in
        cc

-- ---- arcs

arc_found : (arcs : List PureArc) (a : PureArc) → AreDistinct joins_same arcs → IsItem a arcs → find (is_arc_between a.tail a.head) arcs ≡ Some a
arc_found [] a d i = absurd i
arc_found (b ∷ arcs) a d (inl same) =
    let itself : is_arc_between a.tail a.head a ≡ true = grind (arith, nat_tests) in
    rw (same, itself) refl
arc_found (b ∷ arcs) a d (inr more) =
    let apart : is_arc_between a.tail a.head b ≡ false = of_all (λ y. joins_same b y ≡ false) arcs a d.0 more in
    rw apart (arc_found arcs a d.1 more)

-- an arc is the one between its ends
pub arc_is_found : (net : PureNet) (a : PureArc) → IsNet net → IsItem a net.arcs → find (is_arc_between a.tail a.head) net.arcs ≡ Some a
arc_is_found net a n i = arc_found net.arcs a n.arc_apart i

pub arc_is_in : (net : PureNet) (a : PureArc) → IsNet net → IsItem a net.arcs → IsArcOf net.alg (length net.nodes) a
arc_is_in net a n i = of_all (IsArcOf net.alg (length net.nodes)) net.arcs a n.arcs_in i

pub arc_stands : (net : PureNet) (a : PureArc) → IsNet net → IsItem a net.arcs → slice_get net.arcs a.id ≡ Some a
arc_stands net a n i = of_all (λ (b : PureArc). slice_get net.arcs b.id ≡ Some b) net.arcs a (arcs_stand net n) i

-- what is found between two nodes
pub record IsArcThere (net : PureNet) (i j : ℕ) (a : PureArc) : Type 0 where
  pub item : IsItem a net.arcs
  pub stands : slice_get net.arcs a.id ≡ Some a
  pub tail : a.tail ≡ i
  pub head : a.head ≡ j

pub found_there : (net : PureNet) (i j : ℕ) (a : PureArc) → IsNet net → find (is_arc_between i j) net.arcs ≡ Some a → IsArcThere net i j a
found_there net i j a n e =
    let found = found_item (is_arc_between i j) net.arcs a e in
    let between : is_arc_between i j a ≡ true = found.1 in
    record {
      item = found.0;
      stands = arc_stands net a n found.0;
      tail = grind (arith, nat_tests);
      head = grind (arith, nat_tests);
    }

-- ---- what may be a node's route

pub record MayBeOf (net : PureNet) (j : ℕ) (r : PureRoute) : Type 0 where
  pub value_in : In (carrier net) r.value
  pub begins : begins_with j r.path ≡ true
  pub apart : distinct r.path ≡ true
  pub inside : list_all (λ n. nat_lt n (length net.nodes)) r.path ≡ true
  pub bound : AtMost (greatest_on net r.path) r.value

five : (a b c d e : Bool) → (a && b && c && d && e) ≡ true → (a ≡ true) × (b ≡ true) × (c ≡ true) × (d ≡ true) × (e ≡ true)
five true true true true true h = (refl, refl, refl, refl, refl)
five _ _ _ _ _ h = absurd (cc)

pub may_be_parts : (net : PureNet) (j : ℕ) (r : PureRoute) → may_be_of net j r ≡ true → MayBeOf net j r
may_be_parts net j r e =
    let p = five (is_in (carrier net) r.value) (begins_with j r.path) (distinct r.path) (list_all (λ n. nat_lt n (length net.nodes)) r.path) (is_at_most (greatest_on net r.path) r.value) e in
    record {
      value_in = (is_in-Decides (carrier net) r.value).0 p.0;
      begins = p.1;
      apart = p.2;
      inside = p.3;
      bound = (is_at_most-Decides (greatest_on net r.path) r.value).0 p.4;
    }

pub may_be_from : (net : PureNet) (j : ℕ) (r : PureRoute) → MayBeOf net j r → may_be_of net j r ≡ true
may_be_from net j r h =
    let value = (is_in-Decides (carrier net) r.value).1 h.value_in in
    let bound = (is_at_most-Decides (greatest_on net r.path) r.value).1 h.bound in
    rw (value, h.begins, h.apart, h.inside, bound) refl

-- ---- offers

route_made : (v : PureValue) (p : List ℕ) (r : PureRoute) → v ≡ r.value → p ≡ r.path → record { value = v; path = p } ≡ r
route_made v p r e f = rw (e, f) refl

-- the origin of the node, and what holds of it
pub own_origin : (net : PureNet) (dest i : ℕ) (v : PureValue) → IsNet net → origin_value net dest i ≡ Some v
    → (dest < length net.dests) × (i < length net.nodes) × In (carrier net) v × AtMost (greatest_number net.alg.edition) v
own_origin net dest i v n e = by (find (is_origin_at dest i) net.origins) refl e
  where
    by : (o : Option PureOrigin) → find (is_origin_at dest i) net.origins ≡ o → option_map (λ (o : PureOrigin). o.value) o ≡ Some v
        → (dest < length net.dests) × (i < length net.nodes) × In (carrier net) v × AtMost (greatest_number net.alg.edition) v
    by None f g = absurd (cc)
    by (Some o) f g =
        let found = found_item (is_origin_at dest i) net.origins o f in
        let at : is_origin_at dest i o ≡ true = found.1 in
        let is : IsOriginOf net.alg (length net.nodes) (length net.dests) o = of_all (IsOriginOf net.alg (length net.nodes) (length net.dests)) net.origins o n.origins_in found.0 in
        let d : o.dest ≡ dest = grind (arith, nat_tests) in
        let k : o.node ≡ i = grind (arith, nat_tests) in
        let same : o.value ≡ v = cc in
        (rw d at is.dest_in, rw k at is.node_in, rw same at is.value_in, rw same at is.bound)

-- what an arc makes of a route
pub record IsMade (net : PureNet) (a : PureArc) (next r : PureRoute) : Type 0 where
  pub weighs : App net.alg.expression a.label next.value ≡ Some r.value
  pub loopless : is_among next.path a.tail ≡ false
  pub path : r.path ≡ a.tail ∷ next.path

pub offer_parts : (net : PureNet) (a : PureArc) (next r : PureRoute) → offer_by net a next ≡ Some r → IsMade net a next r
offer_parts net a next r e = by (is_among next.path a.tail) (App net.alg.expression a.label next.value) refl refl e
  where
    by : (b : Bool) (o : Option PureValue) → is_among next.path a.tail ≡ b → App net.alg.expression a.label next.value ≡ o
        → cond b None (option_map (λ v. record { value = v; path = a.tail ∷ next.path }) o) ≡ Some r → IsMade net a next r
    by true o f g h = absurd (cc)
    by false None f g h = absurd (cc)
    by false (Some v) f g h =
        let made : PureRoute = record { value = v; path = a.tail ∷ next.path } in
        let same : made ≡ r = cc in
        record { weighs = g ∙ ap (λ (s : PureRoute). Some s.value) same; loopless = f; path = sym (ap (λ (s : PureRoute). s.path) same) }

pub offer_from : (net : PureNet) (a : PureArc) (next r : PureRoute) → IsMade net a next r → offer_by net a next ≡ Some r
offer_from net a next r m = rw (m.loopless, m.weighs) (ap (λ s. Some s) (route_made r.value (a.tail ∷ next.path) r refl (sym m.path)))

more_on : (k g : ℕ) → k * (g + 1) + g ≤ suc k * (g + 1)
more_on k g = grind arith

-- what is reported of its neighbours to a node that heard these routes on its arcs
abbrev pub reported_by : PureNet → ℕ → (ℕ → Option PureRoute) → Reported
reported_by net i heard j = option_and_then (λ (a : PureArc). heard a.id) (find (is_arc_between i j) net.arcs)

module _ (net : PureNet) (n : IsNet net) (dest i : ℕ) (heard : ℕ → Option PureRoute) where
  own_item : (r : PureRoute) → IsItem r (own_offers net dest i) → IsOwnOffer net dest i r
  own_item r e = by (origin_value net dest i) refl e
    where
      by : (o : Option PureValue) → origin_value net dest i ≡ o → IsItem r (option_map_or (λ v. record { value = v; path = i ∷ [] } ∷ []) o []) → IsOwnOffer net dest i r
      by None f e = absurd e
      by (Some v) f (inl same) = (f ∙ ap (λ (s : PureRoute). Some s.value) same, sym (ap (λ (s : PureRoute). s.path) same))
      by (Some v) f (inr none) = absurd none

  item_own : (r : PureRoute) → IsOwnOffer net dest i r → IsItem r (own_offers net dest i)
  item_own r (value, path) = rw value (inl (route_made r.value (i ∷ []) r refl (sym path)))

  -- an arc on which a route was heard that it makes this one of
  record IsArcOffer (r : PureRoute) : Type 0 where
    arc : PureArc
    item : IsItem arc net.arcs
    tail : arc.tail ≡ i
    next : PureRoute
    is_heard : heard arc.id ≡ Some next
    made : IsMade net arc next r

  arc_item : (r : PureRoute) → IsItem r (filter_map (λ (a : PureArc). option_and_then (offer_by net a) (heard a.id)) (arcs_from net i)) → IsArcOffer r
  arc_item r e = by (item_mapped (λ (a : PureArc). option_and_then (offer_by net a) (heard a.id)) (arcs_from net i) r e)
    where
      by : (a : PureArc) × IsItem a (arcs_from net i) × (option_and_then (offer_by net a) (heard a.id) ≡ Some r) → IsArcOffer r
      by (a, it, e) = heard_by (heard a.id) refl e
        where
          heard_by : (o : Option PureRoute) → heard a.id ≡ o → option_and_then (offer_by net a) o ≡ Some r → IsArcOffer r
          heard_by None f g = absurd (cc)
          heard_by (Some next) f g =
              let passed = item_passed (λ (b : PureArc). b.tail == i) net.arcs a it in
              let test : (a.tail == i) ≡ true = passed.1 in
              record { arc = a; item = passed.0; tail = grind (arith, nat_tests); next = next; is_heard = f; made = offer_parts net a next r g }

  item_arc : (r : PureRoute) → IsArcOffer r → IsItem r (filter_map (λ (a : PureArc). option_and_then (offer_by net a) (heard a.id)) (arcs_from net i))
  item_arc r o =
      let tail : o.arc.tail ≡ i = o.tail in
      let test : (o.arc.tail == i) ≡ true = grind (arith, nat_tests) in
      item_maps (λ (a : PureArc). option_and_then (offer_by net a) (heard a.id)) (arcs_from net i) o.arc r (item_passes (λ (b : PureArc). b.tail == i) net.arcs o.arc o.item test)
      (rw o.is_heard (offer_from net o.arc o.next r o.made))

  by_arc : (r : PureRoute) → IsArcOffer r → (j : ℕ) × IsOfferBy net (reported_by net i heard) i j r
  by_arc r o =
      let there : find (is_arc_between i o.arc.head) net.arcs ≡ Some o.arc = subst (λ z. find (is_arc_between z o.arc.head) net.arcs ≡ Some o.arc) o.tail (arc_is_found net o.arc n o.item) in (
        o.arc.head,
        record {
          next = o.next;
          is_reported = rw there o.is_heard;
          weighs = rw there o.made.weighs;
          loopless = rw o.tail at o.made.loopless;
          path = rw o.tail at o.made.path;
        },
      )

  to_arc : (r : PureRoute) (j : ℕ) → IsOfferBy net (reported_by net i heard) i j r → IsArcOffer r
  to_arc r j o = by (find (is_arc_between i j) net.arcs) refl o.is_reported o.weighs
    where
      by : (f : Option PureArc) → find (is_arc_between i j) net.arcs ≡ f → option_and_then (λ (a : PureArc). heard a.id) f ≡ Some o.next
          → option_and_then (λ l. option_and_then (App net.alg.expression l) (Some o.next.value)) (option_map (λ (a : PureArc). a.label) f) ≡ Some r.value → IsArcOffer r
      by None f g h = absurd (cc)
      by (Some a) f g h =
          let there = found_there net i j a n f in
          record {
            arc = a;
            item = there.item;
            tail = there.tail;
            next = o.next;
            is_heard = g;
            made = record { weighs = h; loopless = rw there.tail o.loopless; path = rw there.tail o.path };
          }

  -- the list of the offers has the offers
  pub item_is_offer : (r : PureRoute) → IsItem r (offers_to net dest i heard) → Offers net dest (reported_by net i heard) i r
  item_is_offer r e = by (item_split (own_offers net dest i) (filter_map (λ (a : PureArc). option_and_then (offer_by net a) (heard a.id)) (arcs_from net i)) r e)
    where
      by : IsItem r (own_offers net dest i) ⊎ IsItem r (filter_map (λ (a : PureArc). option_and_then (offer_by net a) (heard a.id)) (arcs_from net i)) → Offers net dest (reported_by net i heard) i r
      by (inl own) = inl (own_item r own)
      by (inr it) = inr (by_arc r (arc_item r it))

  pub offer_is_item : (r : PureRoute) → Offers net dest (reported_by net i heard) i r → IsItem r (offers_to net dest i heard)
  offer_is_item r (inl own) = item_left (own_offers net dest i) (filter_map (λ (a : PureArc). option_and_then (offer_by net a) (heard a.id)) (arcs_from net i)) r (item_own r own)
  offer_is_item r (inr (j, o)) = item_right (own_offers net dest i) (filter_map (λ (a : PureArc). option_and_then (offer_by net a) (heard a.id)) (arcs_from net i)) r (item_arc r (to_arc r j o))

  pub offer_in : ((a : PureArc) (r : PureRoute) → IsItem a net.arcs → a.tail ≡ i → heard a.id ≡ Some r → In (carrier net) r.value)
      → (r : PureRoute) → Offers net dest (reported_by net i heard) i r → In (carrier net) r.value
  offer_in h r (inl (value, path)) = (own_origin net dest i r.value n value).2
  offer_in h r (inr (j, o)) =
      let a = to_arc r j o in
      let is = arc_is_in net a.arc n a.item in
      images_in net.alg.expression a.arc.label a.next.value r.value n.is_alg.formed is.label_in (h a.arc a.next a.item a.tail a.is_heard) a.made.weighs

  -- the choice is the offer that no other is better than
  pub choice_is : ((a : PureArc) (r : PureRoute) → IsItem a net.arcs → a.tail ≡ i → heard a.id ≡ Some r → In (carrier net) r.value)
      → IsChoice net dest (reported_by net i heard) i (best_of (carrier net) (offers_to net dest i heard))
  choice_is h = by (best_of (carrier net) (offers_to net dest i heard)) refl
    where
      by : (o : Option PureRoute) → best_of (carrier net) (offers_to net dest i heard) ≡ o → IsChoice net dest (reported_by net i heard) i o
      by (Some r) e =
          let best = best_is (carrier net) (offers_to net dest i heard) r e in
          (item_is_offer r best.item, λ s o. best.unbeaten s (offer_is_item s o))
      by None e = λ r o. none_best (carrier net) (offers_to net dest i heard) (λ s k. offer_in h s (item_is_offer s k)) e r (offer_is_item r o)

  -- where what was heard may be the speakers', an offer may be the node's
  pub offer_may_be : ((a : PureArc) (r : PureRoute) → IsItem a net.arcs → a.tail ≡ i → heard a.id ≡ Some r → (dest < length net.dests) × (may_be_of net a.head r ≡ true))
      → (r : PureRoute) → Offers net dest (reported_by net i heard) i r → (dest < length net.dests) × (may_be_of net i r ≡ true)
  offer_may_be h r (inl (value, path)) =
      let own = own_origin net dest i r.value n value in
      let itself : (i == i) ≡ true = grind (arith, nat_tests) in
      let below : nat_lt i (length net.nodes) ≡ true = let b = own.1 in grind (arith, nat_tests) in
      let g = greatest_number net.alg.edition in
      let room : g ≤ 1 * (g + 1) = grind arith in (
        own.0,
        may_be_from net i r (record {
          value_in = own.2;
          begins = rw path itself;
          apart = rw path refl;
          inside = rw path (rw below refl);
          bound = rw path (at_most_more g (1 * (g + 1)) r.value room own.3);
        }),
      )
  offer_may_be h r (inr (j, o)) =
      let a = to_arc r j o in
      let is = arc_is_in net a.arc n a.item in
      let known = h a.arc a.next a.item a.tail a.is_heard in
      let next = may_be_parts net a.arc.head a.next known.1 in
      let path : r.path ≡ i ∷ a.next.path = rw a.tail at a.made.path in
      let misses : is_among a.next.path i ≡ false = rw a.tail at a.made.loopless in
      let itself : (i == i) ≡ true = grind (arith, nat_tests) in
      let below : nat_lt i (length net.nodes) ≡ true = let b = is.tail_in in let t = a.tail in grind (arith, nat_tests) in
      let g = greatest_number net.alg.edition in
      let k = length a.next.path in
      let bound = images_at_most net.alg.expression a.arc.label a.next.value r.value (k * (g + 1)) g is.label_in is.bound next.bound a.made.weighs in (
        known.0,
        may_be_from net i r (record {
          value_in = images_in net.alg.expression a.arc.label a.next.value r.value n.is_alg.formed is.label_in next.value_in a.made.weighs;
          begins = rw path itself;
          apart = rw path (rw misses next.apart);
          inside = rw path (rw below next.inside);
          bound = rw path (at_most_more (k * (g + 1) + g) (suc k * (g + 1)) r.value (more_on k g) bound);
        }),
      )

  -- and so may the choice
  pub choice_may_be : ((a : PureArc) (r : PureRoute) → IsItem a net.arcs → a.tail ≡ i → heard a.id ≡ Some r → (dest < length net.dests) × (may_be_of net a.head r ≡ true))
      → (r : PureRoute) → best_of (carrier net) (offers_to net dest i heard) ≡ Some r → (dest < length net.dests) × (may_be_of net i r ≡ true)
  choice_may_be h r e = offer_may_be h r (item_is_offer r (best_is (carrier net) (offers_to net dest i heard) r e).item)

-- so a node's choice is, where what it heard is of the carrier
pub state_choice_is : (net : PureNet) (dest : ℕ) (s : PvState) → IsNet net → s.net ≡ net → ((a : PureArc) (r : PureRoute) → slice_get net.arcs a.id ≡ Some a → a.tail ≡ s.number → s.heard a.id dest ≡ Some r → In (carrier net) r.value)
    → IsChoice net dest (heard_of s dest) s.number (choice net dest s.number s.heard)
state_choice_is net dest s n e h =
    subst (λ (z : PureNet). IsNet z → ((a : PureArc) (r : PureRoute) → slice_get z.arcs a.id ≡ Some a → a.tail ≡ s.number → s.heard a.id dest ≡ Some r → In (carrier z) r.value)
    → IsChoice z dest (heard_of s dest) s.number (choice z dest s.number s.heard)) e
    (λ m g. choice_is s.net m dest s.number (λ b. s.heard b dest) (λ a r item tail f. g a r (arc_stands s.net a m item) tail f)) n h
