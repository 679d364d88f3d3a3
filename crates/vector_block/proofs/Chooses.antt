-- How a node's choice among its neighbours' offers is made an offer at a time.
use Rattle.std.proofs.Common.{◌≡◌, ℕ, suc, ◌+◌, ◌<◌, ◌≤◌, List, [], ◌∷◌, ◌++◌, Bool, true, false, ◌==◌, length, get_or, slice_get, Option, Some, None, subst, refl, sym, ap, ◌∙◌, arith}
use Rattle.std.specs.Prelude.{option_map, option_and_then, IfOk, OnOk, OnErr, Result, Ok, Err}
use Rattle.std.specs.Option.{option_map_or}
use Rattle.std.specs.List.{filter_map}
use Rattle.std.proofs.Math.ListN.{take, drop}
use Rattle.std.proofs.lemmas.Bool.Decides.{nat_tests}
use Rattle.std.proofs.lemmas.List.{take-append-drop, append_assoc}
use Rattle.std.proofs.lemmas.List.Elements.{filter_map-append}
use Rattle.alg_model.specs.Expressions.{PureCarrier, PureLabel, PureValue}
use Rattle.alg_model.specs.Carriers.{In}
use Rattle.arc_labels.specs.Images.{made_in}
use Rattle.arc_labels.specs.declared.neighbours.Neighbour.{Neighbour}
use Rattle.arc_labels.specs.Neighbours.{AreNeighbours, IsNeighbour, head_of}
use Rattle.net_graph.specs.Nets.{PureArc, PureNet, IsNet, arcs_from, origin_value}
use Rattle.net_graph.specs.Routes.{PureRoute}
use Rattle.net_graph.specs.Tables.{carrier}
use Rattle.std.proofs.lemmas.Option.{slice_get_read, slice_get_within}
use Rattle.path_vector.specs.Choosing.{arc_stands, item_is_offer, may_be_parts, offer_in}
use Rattle.path_vector.specs.Items.{IsItem, item_at, item_left, item_passed, item_there}
use Rattle.path_vector.specs.Known.{better_of}
use Rattle.path_vector.specs.Reporting.{id_is_place}
use Rattle.path_vector.specs.Settling.{Settles, settled}
use Rattle.path_vector.specs.Node.{best_of, choice, may_be_of, offer_by, offers_to, own_offers, same_row}
use Rattle.path_vector.proofs.Choices.{append_nothing, best_with, tail_is, take_next, take_whole}
use Rattle.vector_block.specs.declared.look.Hearing.{Hearing}
use Rattle.vector_block.specs.Hearings.{HasRechosen, heard_at}
use Rattle.vector_block.specs.Stores.{PureStore, with_report}

pub better_nothing : (c : PureCarrier) (o : Option PureRoute) → better_of c o None ≡ o
better_nothing c None = refl
better_nothing c (Some b) = refl

-- what an arc offers, and the offers of the node's own origin and of the first arcs
abbrev pub offered_on : PureNet → PureStore → ℕ → ℕ → PureArc → Option PureRoute
offered_on net s i dest a = option_and_then (offer_by net a) (heard_at net s i a.id dest)

abbrev pub firsts : PureNet → PureStore → ℕ → ℕ → ℕ → List PureRoute
firsts net s i dest k = own_offers net dest i ++ filter_map (offered_on net s i dest) (take k (arcs_from net i))

-- an arc from a node, by its place among those
pub record IsFrom (net : PureNet) (i k : ℕ) (a : PureArc) : Type 0 where
  pub place : slice_get (arcs_from net i) k ≡ Some a
  pub stands : slice_get net.arcs a.id ≡ Some a
  pub tail : a.tail ≡ i
  pub inside : a.id < length net.arcs

pub arc_from : (net : PureNet) → IsNet net → (i k : ℕ) → k < length (arcs_from net i) → (a : PureArc) × IsFrom net i k a
arc_from net n i k l =
    let there = item_there (arcs_from net i) k l in
    let a = there.0 in
    let passed = item_passed (λ (b : PureArc). b.tail == i) net.arcs a (item_at (arcs_from net i) k a there.1) in
    let stands = arc_stands net a n passed.0 in
    (a, record { place = there.1; stands = stands; tail = tail_is net i k a there.1; inside = slice_get_within net.arcs a.id a stands })

-- the speaker at a place is the arc's
speaker_at : {L : Type 0} (stands_for : L → PureLabel → Type 0) (net : PureNet) → IsNet net → (i k : ℕ) (speakers : List (Neighbour L)) (speaker : Neighbour L)
    → AreNeighbours stands_for head_of (arcs_from net i) speakers → slice_get speakers k ≡ Some speaker → (a : PureArc) × IsFrom net i k a × IsNeighbour stands_for head_of a speaker
speaker_at stands_for net n i k speakers speaker are e =
    let within = slice_get_within speakers k speaker e in
    let there = arc_from net n i k (omega (arith, within, are.count)) in
    (there.0, there.1, are.each k speaker e there.0 there.1.place)

pub speaker_read : {L : Type 0} (stands_for : L → PureLabel → Type 0) (net : PureNet) → IsNet net → (i k : ℕ) (speakers : List (Neighbour L)) (speaker : Neighbour L)
    → AreNeighbours stands_for head_of (arcs_from net i) speakers → k < length speakers → speaker ≡ get_or speakers k speaker → (a : PureArc) × IsFrom net i k a × IsNeighbour stands_for head_of a speaker
speaker_read stands_for net n i k speakers speaker are l e = speaker_at stands_for net n i k speakers speaker are (slice_get_read speakers (length speakers) k speaker refl l e)

-- what stands in a place that a call says it put there
pub all_made : {X : Type 0} (placed : Bool) (o : Option X) → placed ≡ true → made_in placed o ≡ o
all_made placed None e = refl
all_made placed (Some x) e = rw e refl

-- what was heard on an arc that the node listens on is what it heard there
pub heard_from : (net : PureNet) (s : PureStore) (i dest : ℕ) (a : PureArc) → slice_get net.arcs a.id ≡ Some a → a.tail ≡ i → heard_at net s i a.id dest ≡ s.heard a.id dest
heard_from net s i dest a stands tail =
    let test : (a.tail == i) ≡ true = grind (arith, nat_tests) in
    rw (stands, test) refl

module _ (net : PureNet) (n : IsNet net) (s : PureStore) (i dest : ℕ)
    (known : (a : PureArc) (r : PureRoute) → slice_get net.arcs a.id ≡ Some a → a.tail ≡ i → s.heard a.id dest ≡ Some r → may_be_of net a.head r ≡ true) where
  heard_in : (a : PureArc) (r : PureRoute) → IsItem a net.arcs → a.tail ≡ i → heard_at net s i a.id dest ≡ Some r → In (carrier net) r.value
  heard_in a r it tail e =
      let stands = arc_stands net a n it in
      (may_be_parts net a.head r (known a r stands tail (sym (heard_from net s i dest a stands tail) ∙ e))).value_in

  all_in : (r : PureRoute) → IsItem r (offers_to net dest i (λ a. heard_at net s i a dest)) → In (carrier net) r.value
  all_in r it = offer_in net n dest i (λ a. heard_at net s i a dest) heard_in r (item_is_offer net n dest i (λ a. heard_at net s i a dest) r it)

  first_in : (k : ℕ) (r : PureRoute) → IsItem r (firsts net s i dest k) → In (carrier net) r.value
  first_in k r it =
      let arcs = arcs_from net i in
      let offered = offered_on net s i dest in
      let whole : firsts net s i dest k ++ filter_map (offered_on net s i dest) (drop k arcs) ≡ own_offers net dest i ++ filter_map (offered_on net s i dest) arcs =
      append_assoc (own_offers net dest i) (filter_map (offered_on net s i dest) (take k arcs)) (filter_map (offered_on net s i dest) (drop k arcs))
      ∙ ap (λ z. own_offers net dest i ++ z) (sym (filter_map-append (offered_on net s i dest) (take k arcs) (drop k arcs)) ∙ ap (filter_map (offered_on net s i dest)) (take-append-drop k arcs)) in
      all_in r (subst (λ z. IsItem r z) whole (item_left (firsts net s i dest k) (filter_map (offered_on net s i dest) (drop k arcs)) r it))

  -- the best of the offers so far, with that of one more arc
  pub best_next : (k : ℕ) (a : PureArc) → IsFrom net i k a
      → best_of (carrier net) (firsts net s i dest (suc k)) ≡ better_of (carrier net) (best_of (carrier net) (firsts net s i dest k)) (option_and_then (offer_by net a) (s.heard a.id dest))
  best_next k a is =
      by (offered_on net s i dest a) refl ∙ ap (λ z. better_of (carrier net) (best_of (carrier net) (firsts net s i dest k)) (option_and_then (offer_by net a) z)) (heard_from net s i dest a is.stands is.tail)
    where
      more : firsts net s i dest (suc k) ≡ firsts net s i dest k ++ filter_map (offered_on net s i dest) (a ∷ [])
      more = ap (λ z. own_offers net dest i ++ filter_map (offered_on net s i dest) z) (take_next (arcs_from net i) k a is.place)
          ∙ ap (λ z. own_offers net dest i ++ z) (filter_map-append (offered_on net s i dest) (take k (arcs_from net i)) (a ∷ []))
          ∙ sym (append_assoc (own_offers net dest i) (filter_map (offered_on net s i dest) (take k (arcs_from net i))) (filter_map (offered_on net s i dest) (a ∷ [])))

      by : (o : Option PureRoute) → offered_on net s i dest a ≡ o → best_of (carrier net) (firsts net s i dest (suc k)) ≡ better_of (carrier net) (best_of (carrier net) (firsts net s i dest k)) o
      by None g =
          let none : filter_map (offered_on net s i dest) (a ∷ []) ≡ [] = rw g refl in
          ap (best_of (carrier net)) (more ∙ ap (λ z. firsts net s i dest k ++ z) none ∙ append_nothing (firsts net s i dest k)) ∙ sym (better_nothing (carrier net) (best_of (carrier net) (firsts net s i dest k)))
      by (Some x) g =
          let one : filter_map (offered_on net s i dest) (a ∷ []) ≡ x ∷ [] = rw g refl in
          let next : firsts net s i dest (suc k) ≡ firsts net s i dest k ++ x ∷ [] = more ∙ ap (λ z. firsts net s i dest k ++ z) one in
          ap (best_of (carrier net)) next ∙ best_with (carrier net) (firsts net s i dest k) x (λ r it. first_in (suc k) r (subst (λ z. IsItem r z) (sym next) it))

  -- and where nothing was offered on it
  pub best_stays : (k : ℕ) (a : PureArc) → IsFrom net i k a → option_and_then (offer_by net a) (s.heard a.id dest) ≡ None → best_of (carrier net) (firsts net s i dest (suc k)) ≡ best_of (carrier net) (firsts net s i dest k)
  best_stays k a is e = best_next k a is ∙ ap (better_of (carrier net) (best_of (carrier net) (firsts net s i dest k))) e ∙ better_nothing (carrier net) (best_of (carrier net) (firsts net s i dest k))

  -- the best once one more arc offered this, or nothing
  module _ (k : ℕ) (a : PureArc) (is : IsFrom net i k a) (arc : ℕ) (number : arc ≡ a.id) (best : Option PureRoute) (so_far : best ≡ best_of (carrier net) (firsts net s i dest k)) where
    abbrev after : ℕ → Option PureRoute
    after j = best_of (carrier net) (firsts net s i dest j)

    one_more : after (suc k) ≡ after (k + 1)
    one_more = let next : suc k ≡ k + 1 = omega arith in ap after next

    pub better_next : (r : PureRoute) (offer : Option PureRoute) → Some r ≡ s.heard arc dest → offer ≡ offer_by net a r → better_of (carrier net) best offer ≡ best_of (carrier net) (firsts net s i dest (k + 1))
    better_next r offer e f =
        let heard : s.heard a.id dest ≡ Some r = subst (λ z. s.heard z dest ≡ Some r) number (sym e) in
        ap (better_of (carrier net) best) f
        ∙ ap (λ z. better_of (carrier net) z (offer_by net a r)) so_far
        ∙ ap (λ z. better_of (carrier net) (after k) (option_and_then (offer_by net a) z)) (sym heard)
        ∙ sym (best_next k a is) ∙ one_more

    pub same_next : option_and_then (offer_by net a) (s.heard arc dest) ≡ None → best ≡ best_of (carrier net) (firsts net s i dest (k + 1))
    same_next e = so_far ∙ sym (best_stays k a is (subst (λ z. option_and_then (offer_by net a) (s.heard z dest) ≡ None) number e)) ∙ one_more

  -- the own origin's offer is the best of it alone
  abbrev pub alone : Option PureValue → List PureRoute
  alone z = option_map_or (λ v. record { value = v; path = i ∷ [] } ∷ []) z [] ++ []

  pub own_best : option_map {U = PureRoute} (λ v. record { value = v; path = i ∷ [] }) (origin_value net dest i) ≡ best_of (carrier net) (firsts net s i dest 0)
  own_best = by (origin_value net dest i) (first_in 0)
    where
      by : (o : Option PureValue) → ((r : PureRoute) → IsItem r (alone o) → In (carrier net) r.value)
          → option_map {U = PureRoute} (λ v. record { value = v; path = i ∷ [] }) o ≡ best_of (carrier net) (alone o)
      by None h = refl
      by (Some v) h = sym (best_with (carrier net) [] (record { value = v; path = i ∷ [] }) h)

  -- once no arc is left, the best of the offers is the node's choice
  pub chosen_at_end : (k : ℕ) → length (arcs_from net i) ≤ k → best_of (carrier net) (firsts net s i dest k) ≡ choice net dest i (heard_at net s i)
  chosen_at_end k l = ap (λ z. best_of (carrier net) (own_offers net dest i ++ filter_map (offered_on net s i dest) z)) (take_whole (arcs_from net i) k l)

-- ---- a row that is chosen anew

-- what is settled by what was heard on the arc is the node's choice
pub settled_there : (net : PureNet) → IsNet net → (s : PureStore) (i dest k speaker : ℕ) (a : PureArc) (said o : Option PureRoute) → slice_get net.arcs k ≡ Some a → a.tail ≡ i → a.head ≡ speaker → s.heard k dest ≡ said
    → Settles net dest i (heard_at net s i) a (s.rows i dest) → settled (carrier net) speaker (s.rows i dest) (option_and_then (offer_by net a) said) ≡ Some o → choice net dest i (heard_at net s i) ≡ o
settled_there net n s i dest k speaker a said o stands tail head heard settles e =
    let number : a.id ≡ k = let m = id_is_place 0 k net.arcs a n.arc_ids stands in omega (arith, m) in
    let there : slice_get net.arcs a.id ≡ Some a = ap (slice_get net.arcs) number ∙ stands in
    let on_arc : heard_at net s i a.id dest ≡ said = heard_from net s i dest a there tail ∙ ap (λ z. s.heard z dest) number ∙ heard in
    settles o (ap (λ z. settled (carrier net) z (s.rows i dest) (option_and_then (offer_by net a) (heard_at net s i a.id dest))) head
    ∙ ap (λ z. settled (carrier net) speaker (s.rows i dest) (option_and_then (offer_by net a) z)) on_arc ∙ e)

-- another row was reported, or that was refused
pub has_rechosen : {E : Type 0} (net : PureNet) (h : Hearing) (before after : PureStore) (result : Result Bool E) (row : Option PureRoute) → choice net h.dest.0 h.node.0 (heard_at net before h.node.0) ≡ row
    → same_row row (before.rows h.node.0 h.dest.0) ≡ false → IfOk result (λ changed. changed ≡ true) → OnOk result (after ≡ with_report before h.node.0 (record { dest = h.dest.0; route = row; stamp = h.clock })) → OnErr result (after ≡ before)
    → HasRechosen net h before after result
has_rechosen net h before after (Ok true) row e f ok there kept = rw e (f, there)
has_rechosen net h before after (Ok false) row e f ok there kept = absurd (cc)
has_rechosen net h before after (Err refusal) row e f ok there kept = kept
