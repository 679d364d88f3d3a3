-- The choice once what was heard on one arc was replaced.
use Rattle.std.proofs.Common.{◌≡◌, ℕ, ◌⊎◌, inl, inr, List, [], ◌∷◌, Bool, true, false, ◌==◌, cond, slice_get, Option, Some, None, subst, refl, sym, ap, ◌∙◌, arith}
use Rattle.std.specs.Prelude.{option_and_then, find}
use Rattle.std.proofs.lemmas.Bool.{eqb-true}
use Rattle.std.proofs.lemmas.Bool.Decides.{nat_tests}
use Rattle.alg_model.specs.Carriers.{In}
use Rattle.net_graph.specs.Nets.{PureArc, PureNet, IsNet, is_arc_between}
use Rattle.net_graph.specs.Routes.{PureRoute, Better, compare_routes, is_better}
use Rattle.net_graph.specs.RouteLaws.{neither_better, same_route}
use Rattle.net_graph.specs.RouteOrder.{not_better_trans, better_asymmetric}
use Rattle.net_graph.specs.Tables.{Reported, carrier, is_among, IsOwnOffer, IsOfferBy, Offers, IsChoice}
use Rattle.path_vector.specs.Node.{begins_with, choice, offer_by, may_be_of}
use Rattle.path_vector.specs.Items.{IsItem, item_at}
use Rattle.path_vector.specs.Choosing.{reported_by, found_there, may_be_parts, offer_parts, offer_from, offer_in, choice_is, arc_is_found, not_less, less}
use Rattle.path_vector.specs.Delivering.{same_arcs}
use Rattle.path_vector.specs.Settling.{is_next, goes_by, is_worse, settled, Settles}

-- ---- routes by a neighbour

-- what is reported of each node begins with it
abbrev BeginWithThem : Reported → Type 0
BeginWithThem reported = (k : ℕ) (r : PureRoute) → reported k ≡ Some r → begins_with k r.path ≡ true

begins_other : (path : List ℕ) (k j : ℕ) → begins_with k path ≡ true → begins_with j path ≡ (k == j)
begins_other [] k j e = absurd (cc)
begins_other (n ∷ path) k j e =
    let same : n ≡ k = eqb-true n k e in
    rw same refl

begins_both : (path : List ℕ) (k j : ℕ) → begins_with k path ≡ true → begins_with j path ≡ true → k ≡ j
begins_both path k j e f = eqb-true k j (sym (begins_other path k j e) ∙ f)

own_goes_by_none : (net : PureNet) (dest i j : ℕ) (r : PureRoute) → IsOwnOffer net dest i r → goes_by j (Some r) ≡ false
own_goes_by_none net dest i j r own = rw own.1 refl

offer_goes_by : (net : PureNet) (reported : Reported) (i k j : ℕ) (r : PureRoute) → BeginWithThem reported → IsOfferBy net reported i k r → goes_by j (Some r) ≡ (k == j)
offer_goes_by net reported i k j r begin o = rw o.path (begins_other o.next.path k j (begin k o.next o.is_reported))

-- an offer that doesn't go by the neighbour stays one
stays_offered : (net : PureNet) (dest i j : ℕ) (reported other : Reported) → BeginWithThem reported → ((k : ℕ) → (k == j) ≡ false → reported k ≡ other k)
    → (r : PureRoute) → goes_by j (Some r) ≡ false → Offers net dest reported i r → Offers net dest other i r
stays_offered net dest i j reported other begin same r by (inl own) = inl own
stays_offered net dest i j reported other begin same r by (inr (k, o)) =
    let apart : (k == j) ≡ false = sym (offer_goes_by net reported i k j r begin o) ∙ by in
    inr (k, record { next = o.next; is_reported = sym (same k apart) ∙ o.is_reported; weighs = o.weighs; loopless = o.loopless; path = o.path })

-- and one that does is the neighbour's
offered_by : (net : PureNet) (dest i j : ℕ) (reported : Reported) → BeginWithThem reported → (r : PureRoute) → goes_by j (Some r) ≡ true → Offers net dest reported i r → IsOfferBy net reported i j r
offered_by net dest i j reported begin r by (inl own) = absurd (let e = own_goes_by_none net dest i j r own in cc)
offered_by net dest i j reported begin r by (inr (k, o)) =
    let one : k ≡ j = eqb-true k j (sym (offer_goes_by net reported i k j r begin o) ∙ by) in
    subst (λ z. IsOfferBy net reported i z r) one o

-- offers of one path are one
same_offer : (net : PureNet) (dest i : ℕ) (reported : Reported) (r s : PureRoute) → BeginWithThem reported → Offers net dest reported i r → Offers net dest reported i s → r.path ≡ s.path → r ≡ s
same_offer net dest i reported r s begin (inl a) (inl b) e =
    let v : r.value ≡ s.value = let x = a.0 in let y = b.0 in cc in
    same_route r s v e
same_offer net dest i reported r s begin (inl a) (inr (k, b)) e =
    absurd (let no = own_goes_by_none net dest i k r a in let it = offered_next k b in let f : is_next k r.path ≡ is_next k s.path = ap (is_next k) e in cc)
  where
    offered_next : (k : ℕ) → IsOfferBy net reported i k s → is_next k s.path ≡ true
    offered_next k b = rw b.path (begin k b.next b.is_reported)
same_offer net dest i reported r s begin (inr (k, a)) (inl b) e =
    absurd (let no = own_goes_by_none net dest i k s b in let it = offered_next k a in let f : is_next k r.path ≡ is_next k s.path = ap (is_next k) e in cc)
  where
    offered_next : (k : ℕ) → IsOfferBy net reported i k r → is_next k r.path ≡ true
    offered_next k a = rw a.path (begin k a.next a.is_reported)
same_offer net dest i reported r s begin (inr (k, a)) (inr (l, b)) e =
    let path : a.next.path ≡ b.next.path = let x = a.path in let y = b.path in cc in
    let node : k ≡ l = begins_both b.next.path k l (subst (λ p. begins_with k p ≡ true) path (begin k a.next a.is_reported)) (begin l b.next b.is_reported) in
    let next : a.next ≡ b.next = let x = a.is_reported in let y = b.is_reported in cc in
    let v : r.value ≡ s.value = let x = a.weighs in let y = b.weighs in cc in
    same_route r s v e

-- at most one is the choice
same_choice : (net : PureNet) (dest i : ℕ) (reported : Reported) → BeginWithThem reported → ((r : PureRoute) → Offers net dest reported i r → In (carrier net) r.value)
    → (o p : Option PureRoute) → IsChoice net dest reported i o → IsChoice net dest reported i p → o ≡ p
same_choice net dest i reported begin value_in None None c d = refl
same_choice net dest i reported begin value_in None (Some s) c d = absurd (c s d.0)
same_choice net dest i reported begin value_in (Some r) None c d = absurd (d r c.0)
same_choice net dest i reported begin value_in (Some r) (Some s) c d =
    ap (λ z. Some z) (same_offer net dest i reported r s begin c.0 d.0 (neither_better (carrier net) r s (value_in r c.0) (value_in s d.0) (d.1 r c.0) (c.1 s d.0)))

-- ---- what is reported of one node was replaced

module _ (net : PureNet) (dest i j : ℕ) (reported later : Reported) (begin : BeginWithThem reported) (begin_later : BeginWithThem later)
    (same : (k : ℕ) → (k == j) ≡ false → reported k ≡ later k)
    (value_in : (r : PureRoute) → Offers net dest reported i r → In (carrier net) r.value) (later_in : (r : PureRoute) → Offers net dest later i r → In (carrier net) r.value)
    (offer : Option PureRoute) (made : (r : PureRoute) → IsOfferBy net later i j r → offer ≡ Some r) (makes : (r : PureRoute) → offer ≡ Some r → IsOfferBy net later i j r)
  where
    -- an offer now is the new one, or was one before
    now_offered : (s : PureRoute) → Offers net dest later i s → (offer ≡ Some s) ⊎ Offers net dest reported i s
    now_offered s o = by (goes_by j (Some s)) refl
      where
        by : (b : Bool) → goes_by j (Some s) ≡ b → (offer ≡ Some s) ⊎ Offers net dest reported i s
        by true e = inl (made s (offered_by net dest i j later begin_later s e o))
        by false e = inr (stays_offered net dest i j later reported begin_later (λ k apart. sym (same k apart)) s e o)

    -- a choice that doesn't go by the neighbour, and that the new offer is worse than, stays the choice
    row_stays : (row : Option PureRoute) → IsChoice net dest reported i row → is_worse (carrier net) offer row ≡ true → goes_by j row ≡ false → IsChoice net dest later i row
    row_stays None c worse by = absurd (cc)
    row_stays (Some b) c worse by = (stays_offered net dest i j reported later begin same b by c.0, unbeaten)
      where
        unbeaten : (s : PureRoute) → Offers net dest later i s → ¬ Better (carrier net) s b
        unbeaten s o = elim (now_offered s o) [
          | inl new ↦
              let better : is_better (carrier net) b s ≡ true = subst (λ z. is_worse (carrier net) z (Some b) ≡ true) new worse in
              better_asymmetric (carrier net) b s (value_in b c.0) (later_in s o) (less (compare_routes (carrier net) b s) better)
          | inr old ↦ c.1 s old
        ]

    -- and a new offer that isn't worse than the choice is the choice
    offer_is_chosen : (row new : Option PureRoute) → offer ≡ new → IsChoice net dest reported i row → is_worse (carrier net) new row ≡ false → IsChoice net dest later i new
    offer_is_chosen None None e c worse = λ s o. elim (now_offered s o) [
      | inl new ↦ cc
      | inr old ↦ c s old
    ]
    offer_is_chosen (Some b) None e c worse = absurd (cc)
    offer_is_chosen row (Some y) e c worse = (
      inr (j, makes y e),
      λ s o. elim (now_offered s o) [
        | inl new ↦
            let one : s ≡ y = let f = sym new ∙ e in cc in
            let y_in : In (carrier net) y.value = later_in y (inr (j, makes y e)) in
            λ f. let g = subst (λ z. Better (carrier net) z y) one f in better_asymmetric (carrier net) y y y_in y_in g g
        | inr old ↦ beaten row c worse s (later_in s o) old
      ],
    )
      where
        beaten : (row : Option PureRoute) → IsChoice net dest reported i row → is_worse (carrier net) (Some y) row ≡ false → (s : PureRoute) → In (carrier net) s.value → Offers net dest reported i s → ¬ Better (carrier net) s y
        beaten None c worse s s_in old = absurd (c s old)
        beaten (Some b) c worse s s_in old =
            not_better_trans (carrier net) y b s (later_in y (inr (j, makes y e))) (value_in b c.0) s_in (not_less (compare_routes (carrier net) b y) worse) (c.1 s old)

    settled_is_chosen : (row o : Option PureRoute) → IsChoice net dest reported i row → settled (carrier net) j row offer ≡ Some o → IsChoice net dest later i o
    settled_is_chosen row o c e = by (is_worse (carrier net) offer row) (goes_by j row) refl refl e
      where
        by : (b d : Bool) → is_worse (carrier net) offer row ≡ b → goes_by j row ≡ d → cond b (cond d None (Some row)) (Some offer) ≡ Some o → IsChoice net dest later i o
        by true true f g h = absurd (cc)
        by true false f g h =
            let one : row ≡ o = cc in
            subst (λ z. IsChoice net dest later i z) one (row_stays row c f g)
        by false d f g h =
            let one : offer ≡ o = cc in
            subst (λ z. IsChoice net dest later i z) one (offer_is_chosen row offer refl c f)

-- ---- what was heard on one arc was replaced

-- what a node heard of a destination on its arcs may be its neighbours'
abbrev pub MayBeHeard : PureNet → ℕ → ℕ → (ℕ → ℕ → Option PureRoute) → Type 0
MayBeHeard net dest i heard = (a : PureArc) (r : PureRoute) → IsItem a net.arcs → a.tail ≡ i → heard a.id dest ≡ Some r → may_be_of net a.head r ≡ true

module _ (net : PureNet) (n : IsNet net) (dest i : ℕ) (heard : ℕ → ℕ → Option PureRoute) (may : MayBeHeard net dest i heard) where
  reported_begins : BeginWithThem (reported_by net i (λ b. heard b dest))
  reported_begins k r e = by (find (is_arc_between i k) net.arcs) refl e
    where
      by : (f : Option PureArc) → find (is_arc_between i k) net.arcs ≡ f → option_and_then (λ (a : PureArc). heard a.id dest) f ≡ Some r → begins_with k r.path ≡ true
      by None f g = absurd (cc)
      by (Some a) f g =
          let there = found_there net i k a n f in
          subst (λ z. begins_with z r.path ≡ true) there.head (may_be_parts net a.head r (may a r there.item there.tail g)).begins

  heard_in : (a : PureArc) (r : PureRoute) → IsItem a net.arcs → a.tail ≡ i → heard a.id dest ≡ Some r → In (carrier net) r.value
  heard_in a r item tail e = (may_be_parts net a.head r (may a r item tail e)).value_in

  reported_in : (r : PureRoute) → Offers net dest (reported_by net i (λ b. heard b dest)) i r → In (carrier net) r.value
  reported_in = offer_in net n dest i (λ b. heard b dest) heard_in

  reported_chosen : IsChoice net dest (reported_by net i (λ b. heard b dest)) i (choice net dest i heard)
  reported_chosen = choice_is net n dest i (λ b. heard b dest) heard_in

-- once one thing that was heard is replaced, the old choice and the new offer settle the choice
pub choice_settles : (net : PureNet) → IsNet net → (dest i : ℕ) (before heard : ℕ → ℕ → Option PureRoute) (a : PureArc) → slice_get net.arcs a.id ≡ Some a → a.tail ≡ i
    → ((b : ℕ) → (b == a.id) ≡ false → before b dest ≡ heard b dest) → MayBeHeard net dest i before → MayBeHeard net dest i heard
    → Settles net dest i heard a (choice net dest i before)
choice_settles net n dest i before heard a stands tail others may_before may o e =
    same_choice net dest i later (reported_begins net n dest i heard may) (reported_in net n dest i heard may) (choice net dest i heard) o (reported_chosen net n dest i heard may)
    (settled_is_chosen net dest i a.head reported later (reported_begins net n dest i before may_before) (reported_begins net n dest i heard may) same
    (reported_in net n dest i before may_before) (reported_in net n dest i heard may) (option_and_then (offer_by net a) (heard a.id dest)) made makes
    (choice net dest i before) o (reported_chosen net n dest i before may_before) e)
  where
    reported : Reported
    reported = reported_by net i (λ b. before b dest)

    later : Reported
    later = reported_by net i (λ b. heard b dest)

    same : (k : ℕ) → (k == a.head) ≡ false → reported_by net i (λ b. before b dest) k ≡ reported_by net i (λ b. heard b dest) k
    same k apart = by (find (is_arc_between i k) net.arcs) refl
      where
        by : (f : Option PureArc) → find (is_arc_between i k) net.arcs ≡ f → option_and_then (λ (b : PureArc). before b.id dest) f ≡ option_and_then (λ (b : PureArc). heard b.id dest) f
        by None f = refl
        by (Some b) f = others b.id (arc (b.id == a.id) refl)
          where
            arc : (t : Bool) → (b.id == a.id) ≡ t → t ≡ false
            arc false g = refl
            arc true g =
                let there = found_there net i k b n f in
                let one : b ≡ a = same_arcs net b a there.stands stands g in
                let head : k ≡ a.head = sym there.head ∙ ap (λ (z : PureArc). z.head) one in
                let misses : (k == a.head) ≡ false = apart in
                absurd (grind (arith, nat_tests))

    there : find (is_arc_between i a.head) net.arcs ≡ Some a
    there = subst (λ z. find (is_arc_between z a.head) net.arcs ≡ Some a) tail (arc_is_found net a n (item_at net.arcs a.id a stands))

    made : (r : PureRoute) → IsOfferBy net (reported_by net i (λ b. heard b dest)) i a.head r → option_and_then (offer_by net a) (heard a.id dest) ≡ Some r
    made r o =
        let next : heard a.id dest ≡ Some o.next = rw there at o.is_reported in
        rw next (offer_from net a o.next r (record {
          weighs = rw there at o.weighs;
          loopless = subst (λ z. is_among o.next.path z ≡ false) (sym tail) o.loopless;
          path = subst (λ z. r.path ≡ z ∷ o.next.path) (sym tail) o.path;
        }))

    makes : (r : PureRoute) → option_and_then (offer_by net a) (heard a.id dest) ≡ Some r → IsOfferBy net (reported_by net i (λ b. heard b dest)) i a.head r
    makes r e = by (heard a.id dest) refl e
      where
        by : (h : Option PureRoute) → heard a.id dest ≡ h → option_and_then (offer_by net a) h ≡ Some r → IsOfferBy net (reported_by net i (λ b. heard b dest)) i a.head r
        by None f g = absurd (cc)
        by (Some next) f g =
            let m = offer_parts net a next r g in
            record {
              next = next;
              is_reported = rw there f;
              weighs = rw there m.weighs;
              loopless = rw tail at m.loopless;
              path = rw tail at m.path;
            }
