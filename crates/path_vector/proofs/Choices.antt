-- How a node's choice is made an offer at a time.
use Rattle.std.proofs.Common.{◌≡◌, ℕ, zero, suc, ◌+◌, ◌<◌, ◌≤◌, inl, inr, List, [], ◌∷◌, ◌++◌, Bool, true, false, not, ◌&&◌, ◌==◌, length, cond, slice_get, Option, Some, None, subst, refl, sym, ap, ◌∙◌, arith}
use Rattle.std.specs.Prelude.{option_map, option_and_then, filter, find}
use Rattle.std.specs.Option.{option_map_or}
use Rattle.std.specs.List.{list_all, filter_map, AllByRecursion}
use Rattle.std.proofs.Math.ListN.{take, drop}
use Rattle.std.proofs.lemmas.List.{take-append-drop, append_assoc}
use Rattle.std.proofs.lemmas.Option.{slice_get-get_or, slice_get_within}
use Rattle.std.proofs.Math.ListN.{get_or}
use Rattle.std.proofs.lemmas.List.Elements.{filter_map-append}
use Rattle.std.proofs.lemmas.Bool.Decides.{nat_tests}
use Rattle.alg_model.specs.Expressions.{PureCarrier, PureValue, PureLabel}
use Rattle.alg_model.specs.Carriers.{In}
use Rattle.net_graph.specs.Nets.{PureArc, PureNet, IsNet, AreNumbered, AreDistinct, arcs_from, origin_value}
use Rattle.net_graph.specs.Tables.{carrier}
use Rattle.net_graph.specs.Routes.{PureRoute, compare_routes, is_better}
use Rattle.path_vector.specs.Node.{best_of, choice, own_offers, offer_by, offers_to, may_be_of}
use Rattle.path_vector.specs.Items.{IsItem, of_all, item_at, item_passed, item_left, item_right, items_all}
use Rattle.path_vector.specs.Choosing.{choice_may_be, may_be_parts, item_is_offer, offer_in, IsBestOf, best_is, none_best, not_less, less, to_not_less, to_not}
use Rattle.net_graph.specs.Tables.{is_among}
use Rattle.alg_model.specs.Application.{App}
use Rattle.meta_base.specs.NodePaths.{numbers}
use Rattle.net_graph.specs.RouteOrder.{not_better_trans, better_asymmetric}
use Rattle.arc_labels.specs.Images.{made_in}
use Rattle.path_vector.specs.declared.known.Known.{Known}
use Rattle.std.specs.Borrow.{Bor}
use Rattle.meta_base.specs.declared.ids.NodeId.{NodeId}
use Rattle.path_vector.specs.Known.{better_of, entry_of, known_route, offered_route, placed, heard_by, IsNeighbour, AreNeighbours, MayOffer, Listened}

-- ---- one more route

find_kept : {X : Type 0} (p q : X → Bool) (xs ys : List X) (x : X) → ((y : X) → p y ≡ false → q y ≡ false) → find p xs ≡ Some x → q x ≡ true → find q (xs ++ ys) ≡ Some x
find_kept p q [] ys x less e h = absurd (cc)
find_kept p q (y ∷ xs) ys x fewer e h = by (p y) refl e (λ g. find_kept p q xs ys x fewer g h)
  where
    by : (b : Bool) → p y ≡ b → cond b (Some y) (find p xs) ≡ Some x → (find p xs ≡ Some x → find q (xs ++ ys) ≡ Some x)
        → cond (q y) (Some y) (find q (xs ++ ys)) ≡ Some x
    by true f g more =
        let same : y ≡ x = cc in
        rw (same, h) refl
    by false f g more = rw (fewer y f) (more g)

find_end : {X : Type 0} (q : X → Bool) (xs : List X) (x : X) → ((y : X) → IsItem y xs → q y ≡ false) → q x ≡ true → find q (xs ++ x ∷ []) ≡ Some x
find_end q [] x none h = rw h refl
find_end q (y ∷ xs) x none h = rw (none y (inl refl)) (find_end q xs x (λ z i. none z (inr i)) h)

all_end : {X : Type 0} (p : X → Bool) (xs : List X) (x : X) → list_all p (xs ++ x ∷ []) ≡ (list_all p xs && p x)
all_end p [] x = by (p x)
  where
    by : (b : Bool) → (b && true) ≡ b
    by true = refl
    by false = refl
all_end p (y ∷ xs) x = by (p y) (all_end p xs x)
  where
    by : (b : Bool) → list_all p (xs ++ x ∷ []) ≡ (list_all p xs && p x) → (b && list_all p (xs ++ x ∷ [])) ≡ ((b && list_all p xs) && p x)
    by true more = more
    by false more = refl

both_false : (a b : Bool) → a ≡ false → (a && b) ≡ false
both_false true b e = absurd (cc)
both_false false b e = refl

second_false : (a b : Bool) → b ≡ false → (a && b) ≡ false
second_false true b e = e
second_false false b e = refl

both_true : (a b : Bool) → a ≡ true → b ≡ true → (a && b) ≡ true
both_true true true e f = refl
both_true true false e f = absurd (cc)
both_true false b e f = absurd (cc)

from_true : (b : Bool) → b ≡ true → not b ≡ false
from_true true e = refl
from_true false e = absurd (cc)

nothing_in : {X : Type 0} (xs : List X) → ((x : X) → ¬ IsItem x xs) → xs ≡ []
nothing_in [] none = refl
nothing_in (x ∷ xs) none = absurd (none x (inl refl))

module _ (c : PureCarrier) (rs : List PureRoute) (x : PureRoute) (i : (r : PureRoute) → IsItem r (rs ++ x ∷ []) → In c r.value) where
  unbeaten : PureRoute → Bool
  unbeaten r = list_all (λ s. not (is_better c s r)) rs

  unbeaten_too : PureRoute → Bool
  unbeaten_too r = list_all (λ s. not (is_better c s r)) (rs ++ x ∷ [])

  x_in : In c x.value
  x_in = i x (item_right rs (x ∷ []) x (inl refl))

  r_in : (r : PureRoute) → IsItem r rs → In c r.value
  r_in r k = i r (item_left rs (x ∷ []) r k)

  not_itself : is_better c x x ≡ false
  not_itself = to_not_less (compare_routes c x x) (λ e. better_asymmetric c x x x_in x_in e e)

  -- what is found with one more is the better one
  pub best_with : best_of c (rs ++ x ∷ []) ≡ better_of c (best_of c rs) (Some x)
  unfolding unbeaten unbeaten_too
  best_with = by (best_of c rs) refl
    where
      by : (o : Option PureRoute) → best_of c rs ≡ o → best_of c (rs ++ x ∷ []) ≡ better_of c o (Some x)
      by None e =
          let nothing : rs ≡ [] = nothing_in rs (none_best c rs r_in e) in
          rw nothing (rw not_itself refl)
      by (Some b) e = either (is_better c x b) refl
        where
          best : IsBestOf c rs b
          best = best_is c rs b e

          b_in : In c b.value
          b_in = r_in b best.item

          fewer : (r : PureRoute) → unbeaten r ≡ false → unbeaten_too r ≡ false
          fewer r f = all_end (λ s. not (is_better c s r)) rs x ∙ both_false (unbeaten r) (not (is_better c x r)) f

          kept : is_better c x b ≡ false → unbeaten_too b ≡ true
          kept f = all_end (λ s. not (is_better c s b)) rs x ∙ both_true (unbeaten b) (not (is_better c x b))
              (items_all (λ s. not (is_better c s b)) rs (λ s k. to_not (is_better c s b) (to_not_less (compare_routes c s b) (best.unbeaten s k))))
              (to_not (is_better c x b) f)

          beats : is_better c x b ≡ true → (r : PureRoute) → IsItem r rs → is_better c x r ≡ true
          beats f r k = of (is_better c x r) refl
            where
              of : (t : Bool) → is_better c x r ≡ t → t ≡ true
              of true g = refl
              of false g = absurd (not_better_trans c b r x b_in (r_in r k) x_in (best.unbeaten r k) (not_less (compare_routes c x r) g) (less (compare_routes c x b) f))

          gone : is_better c x b ≡ true → (r : PureRoute) → IsItem r rs → unbeaten_too r ≡ false
          gone f r k = all_end (λ s. not (is_better c s r)) rs x ∙ second_false (unbeaten r) (not (is_better c x r)) (from_true (is_better c x r) (beats f r k))

          over : is_better c x b ≡ true → (r : PureRoute) → IsItem r rs → is_better c r x ≡ false
          over f r k = to_not_less (compare_routes c r x) (better_asymmetric c x r x_in (r_in r k) (less (compare_routes c x r) (beats f r k)))

          new : is_better c x b ≡ true → unbeaten_too x ≡ true
          new f = all_end (λ s. not (is_better c s x)) rs x ∙ both_true (unbeaten x) (not (is_better c x x))
              (items_all (λ s. not (is_better c s x)) rs (λ s k. to_not (is_better c s x) (over f s k)))
              (to_not (is_better c x x) not_itself)

          either : (t : Bool) → is_better c x b ≡ t → best_of c (rs ++ x ∷ []) ≡ cond t (Some x) (Some b)
          either true f = find_end unbeaten_too rs x (gone f) (new f)
          either false f = find_kept unbeaten unbeaten_too rs (x ∷ []) b fewer e (kept f)

-- ---- neighbours

later_ids : (m n : ℕ) (arcs : List PureArc) (p : PureArc → Bool) → m < n → AreNumbered n arcs → AllByRecursion (λ (b : PureArc). (m == b.id) ≡ false) (filter p arcs)
later_ids m n [] p l are = tt
later_ids m n (a ∷ arcs) p l are =
    let further : m < n + 1 = omega arith in
    by (p a) (later_ids m (n + 1) arcs p further are.1)
  where
    apart : (m == a.id) ≡ false
    apart = let same = are.0 in grind (arith, nat_tests)

    by : (b : Bool) → AllByRecursion (λ (b : PureArc). (m == b.id) ≡ false) (filter p arcs)
        → AllByRecursion (λ (b : PureArc). (m == b.id) ≡ false) (cond b (a ∷ filter p arcs) (filter p arcs))
    by true more = (apart, more)
    by false more = more

ids_apart : (n : ℕ) (arcs : List PureArc) (p : PureArc → Bool) → AreNumbered n arcs → AreDistinct (λ (a b : PureArc). a.id == b.id) (filter p arcs)
ids_apart n [] p are = tt
ids_apart n (a ∷ arcs) p are = by (p a) (ids_apart (n + 1) arcs p are.1)
  where
    later : AllByRecursion (λ (b : PureArc). (a.id == b.id) ≡ false) (filter p arcs)
    later = later_ids a.id (n + 1) arcs p (let same = are.0 in omega arith) are.1

    by : (b : Bool) → AreDistinct (λ (a b : PureArc). a.id == b.id) (filter p arcs)
        → AreDistinct (λ (a b : PureArc). a.id == b.id) (cond b (a ∷ filter p arcs) (filter p arcs))
    by true more = (later, more)
    by false more = more

module _ {L S : Type 0} (stands_for : L → PureLabel → Type 0) (is_sig : S → Type 0) (value : S → PureValue) (net : PureNet) where
  -- the arc of a neighbour
  pub neighbour_at : (arcs : List PureArc) (ns : List (Listened L S)) (k : ℕ) (n : Listened L S) → AreNeighbours stands_for is_sig value net arcs ns
      → slice_get ns k ≡ Some n → (a : PureArc) × (slice_get arcs k ≡ Some a) × IsNeighbour stands_for is_sig value net a n
  neighbour_at [] [] k n are e = absurd (cc)
  neighbour_at [] (m ∷ ns) k n are e = absurd are
  neighbour_at (a ∷ arcs) [] k n are e = absurd are
  neighbour_at (a ∷ arcs) (m ∷ ns) zero n are e =
      let same : m ≡ n = cc in
      (a, refl, subst (IsNeighbour stands_for is_sig value net a) same are.0)
  neighbour_at (a ∷ arcs) (m ∷ ns) (suc k) n are e = neighbour_at arcs ns k n are.1 e

  -- the neighbour at an arc is found by the arc's number
  pub neighbour_found : (arcs : List PureArc) (ns : List (Listened L S)) (k : ℕ) (a : PureArc) (n : Listened L S) → AreNeighbours stands_for is_sig value net arcs ns
      → AreDistinct (λ (a b : PureArc). a.id == b.id) arcs → slice_get arcs k ≡ Some a → slice_get ns k ≡ Some n → find (λ (m : Listened L S). m.arc.0 == a.id) ns ≡ Some n
  neighbour_found [] ns k a n are apart e f = absurd (cc)
  neighbour_found (b ∷ arcs) [] k a n are apart e f = absurd are
  neighbour_found (b ∷ arcs) (m ∷ ns) zero a n are apart e f =
      let same : b ≡ a = cc in
      let this : m ≡ n = cc in
      let number = are.0.arc in
      let test : (m.arc.0 == b.id) ≡ true = grind (arith, nat_tests) in
      rw (← same, test) (ap (λ z. Some z) this)
  neighbour_found (b ∷ arcs) (m ∷ ns) (suc k) a n are apart e f =
      let other : (b.id == a.id) ≡ false = of_all (λ (y : PureArc). (b.id == y.id) ≡ false) arcs a apart.0 (item_at arcs k a e) in
      let number = are.0.arc in
      let test : (m.arc.0 == a.id) ≡ false = grind (arith, nat_tests) in
      rw test (neighbour_found arcs ns k a n are.1 apart.1 e f)

-- the arcs from a node have numbers of their own
pub ids_from_apart : (net : PureNet) (i : ℕ) → AreNumbered 0 net.arcs → AreDistinct (λ (a b : PureArc). a.id == b.id) (arcs_from net i)
ids_from_apart net i are = ids_apart 0 net.arcs (λ (a : PureArc). a.tail == i) are

-- ---- offers one after another

pub take_next : {X : Type 0} (xs : List X) (k : ℕ) (x : X) → slice_get xs k ≡ Some x → take (suc k) xs ≡ take k xs ++ x ∷ []
take_next [] k x e = absurd (cc)
take_next (y ∷ xs) zero x e =
    let same : y ≡ x = cc in
    rw same refl
take_next (y ∷ xs) (suc k) x e = rw (take_next xs k x e) refl

pub append_nothing : {X : Type 0} (xs : List X) → xs ++ [] ≡ xs
append_nothing [] = refl
append_nothing (x ∷ xs) = rw (append_nothing xs) refl

pub take_whole : {X : Type 0} (xs : List X) (k : ℕ) → length xs ≤ k → take k xs ≡ xs
take_whole [] zero l = refl
take_whole [] (suc k) l = refl
take_whole (x ∷ xs) zero l = absurd (omega arith)
take_whole (x ∷ xs) (suc k) l =
    let less : length xs ≤ k = omega arith in
    rw (take_whole xs k less) refl

better_none : (c : PureCarrier) (o : Option PureRoute) → better_of c o None ≡ o
better_none c None = refl
better_none c (Some b) = refl

-- an entry is within its list
entry_inside : {X : Type 0} (xs : List (Option X)) (i : ℕ) (x : X) → entry_of xs i ≡ Some x → i < length xs
entry_inside {X = X} xs i x e = by (slice_get xs i) refl e
  where
    by : (o : Option (Option X)) → slice_get xs i ≡ o → option_and_then (λ z. z) o ≡ Some x → i < length xs
    by None f g = absurd (cc)
    by (Some z) f g = slice_get_within xs i z f

-- what an arc offers, and the offers of the node's own origin and of the first arcs
abbrev pub offered_on : {L S : Type 0} → (S → PureValue) → PureNet → ℕ → List (Listened L S) → PureArc → Option PureRoute
offered_on value net dest ns a = option_and_then (offer_by net a) (heard_by value ns a.id dest)

abbrev pub firsts : {L S : Type 0} → (S → PureValue) → PureNet → ℕ → ℕ → List (Listened L S) → ℕ → List PureRoute
firsts value net i dest ns k = own_offers net dest i ++ filter_map (offered_on value net dest ns) (take k (arcs_from net i))

module _ {L S : Type 0} (stands_for : L → PureLabel → Type 0) (is_sig : S → Type 0) (value : S → PureValue) (net : PureNet) where
  -- what was heard on an arc may be its speaker's
  pub heard_may_be : (arcs : List PureArc) (ns : List (Listened L S)) (b dest : ℕ) (r : PureRoute) → AreNeighbours stands_for is_sig value net arcs ns
      → heard_by value ns b dest ≡ Some r → (a : PureArc) × IsItem a arcs × (a.id ≡ b) × (may_be_of net a.head r ≡ true) × (dest < length net.dests)
  heard_may_be [] [] b dest r are e = absurd (cc)
  heard_may_be [] (n ∷ ns) b dest r are e = absurd are
  heard_may_be (a ∷ arcs) [] b dest r are e = absurd are
  heard_may_be (a ∷ arcs) (n ∷ ns) b dest r are e = by (n.arc.0 == b) refl e (λ f. heard_may_be arcs ns b dest r are.1 f)
    where
      known : (o : Option (Known S)) → entry_of n.heard dest ≡ o → option_map (known_route value) o ≡ Some r → (may_be_of net a.head r ≡ true) × (dest < length net.dests)
      known None f g = absurd (cc)
      known (Some k) f g =
          let same : known_route value k ≡ r = cc in
          (subst (λ z. may_be_of net a.head z ≡ true) same (are.0.known dest k f).1, subst (λ z. dest < z) are.0.count (entry_inside n.heard dest k f))

      by : (t : Bool) → (n.arc.0 == b) ≡ t → option_and_then (λ (m : Listened L S). option_map (known_route value) (entry_of m.heard dest)) (cond t (Some n) (find (λ (m : Listened L S). m.arc.0 == b) ns)) ≡ Some r
          → (heard_by value ns b dest ≡ Some r → (x : PureArc) × IsItem x arcs × (x.id ≡ b) × (may_be_of net x.head r ≡ true) × (dest < length net.dests))
          → (x : PureArc) × IsItem x (a ∷ arcs) × (x.id ≡ b) × (may_be_of net x.head r ≡ true) × (dest < length net.dests)
      by true f g more =
          let number = are.0.arc in
          let same : a.id ≡ b = grind (arith, nat_tests) in
          (let k = known (entry_of n.heard dest) refl g in (a, inl refl, same, k.0, k.1))
      by false f g more = let found = more g in (found.0, inr found.1, found.2, found.3, found.4)

  pub as_many : (arcs : List PureArc) (ns : List (Listened L S)) → AreNeighbours stands_for is_sig value net arcs ns → length arcs ≡ length ns
  as_many [] [] are = refl
  as_many [] (n ∷ ns) are = absurd are
  as_many (a ∷ arcs) [] are = absurd are
  as_many (a ∷ arcs) (n ∷ ns) are = ap (λ z. suc z) (as_many arcs ns are.1)

  module _ (n : IsNet net) (i dest : ℕ) (ns : List (Listened L S)) (are : AreNeighbours stands_for is_sig value net (arcs_from net i) ns) where
    heard_in : (a : PureArc) (r : PureRoute) → heard_by value ns a.id dest ≡ Some r → In (carrier net) r.value
    heard_in a r e =
        let found = heard_may_be (arcs_from net i) ns a.id dest r are e in
        (may_be_parts net found.0.head r found.3).value_in

    all_in : (r : PureRoute) → IsItem r (offers_to net dest i (λ a. heard_by value ns a dest)) → In (carrier net) r.value
    all_in r it = offer_in net n dest i (λ a. heard_by value ns a dest) (λ a s item tail e. heard_in a s e) r (item_is_offer net n dest i (λ a. heard_by value ns a dest) r it)

    first_in : (k : ℕ) (r : PureRoute) → IsItem r (firsts value net i dest ns k) → In (carrier net) r.value
    first_in k r it =
        let arcs = arcs_from net i in
        let whole : firsts value net i dest ns k ++ filter_map (offered_on value net dest ns) (drop k arcs) ≡ own_offers net dest i ++ filter_map (offered_on value net dest ns) arcs =
        append_assoc (own_offers net dest i) (filter_map (offered_on value net dest ns) (take k arcs)) (filter_map (offered_on value net dest ns) (drop k arcs))
        ∙ ap (λ z. own_offers net dest i ++ z) (sym (filter_map-append (offered_on value net dest ns) (take k arcs) (drop k arcs)) ∙ ap (filter_map (offered_on value net dest ns)) (take-append-drop k arcs)) in
        all_in r (subst (λ z. IsItem r z) whole (item_left (firsts value net i dest ns k) (filter_map (offered_on value net dest ns) (drop k arcs)) r it))

    -- the best of the offers so far, with that of one more arc
    pub best_next : (k : ℕ) (a : PureArc) (m : Listened L S) → slice_get (arcs_from net i) k ≡ Some a → slice_get ns k ≡ Some m
        → best_of (carrier net) (firsts value net i dest ns (suc k)) ≡ better_of (carrier net) (best_of (carrier net) (firsts value net i dest ns k)) (option_and_then (offer_by net a) (option_map (known_route value) (entry_of m.heard dest)))
    best_next k a m e f = rw (← on_arc) (by (offered_on value net dest ns a) refl)
      where
        found : find (λ (x : Listened L S). x.arc.0 == a.id) ns ≡ Some m
        found = neighbour_found stands_for is_sig value net (arcs_from net i) ns k a m are (ids_from_apart net i n.arc_ids) e f

        on_arc : offered_on value net dest ns a ≡ option_and_then (offer_by net a) (option_map (known_route value) (entry_of m.heard dest))
        on_arc = rw found refl

        more : firsts value net i dest ns (suc k) ≡ firsts value net i dest ns k ++ filter_map (offered_on value net dest ns) (a ∷ [])
        more = ap (λ z. own_offers net dest i ++ filter_map (offered_on value net dest ns) z) (take_next (arcs_from net i) k a e)
            ∙ ap (λ z. own_offers net dest i ++ z) (filter_map-append (offered_on value net dest ns) (take k (arcs_from net i)) (a ∷ []))
            ∙ sym (append_assoc (own_offers net dest i) (filter_map (offered_on value net dest ns) (take k (arcs_from net i))) (filter_map (offered_on value net dest ns) (a ∷ [])))

        by : (o : Option PureRoute) → offered_on value net dest ns a ≡ o → best_of (carrier net) (firsts value net i dest ns (suc k)) ≡ better_of (carrier net) (best_of (carrier net) (firsts value net i dest ns k)) o
        by None g =
            let none : filter_map (offered_on value net dest ns) (a ∷ []) ≡ [] = rw g refl in
            ap (best_of (carrier net)) (more ∙ ap (λ z. firsts value net i dest ns k ++ z) none ∙ append_nothing (firsts value net i dest ns k)) ∙ sym (better_none (carrier net) (best_of (carrier net) (firsts value net i dest ns k)))
        by (Some x) g =
            let one : filter_map (offered_on value net dest ns) (a ∷ []) ≡ x ∷ [] = rw g refl in
            let next : firsts value net i dest ns (suc k) ≡ firsts value net i dest ns k ++ x ∷ [] = more ∙ ap (λ z. firsts value net i dest ns k ++ z) one in
            ap (best_of (carrier net)) next ∙ best_with (carrier net) (firsts value net i dest ns k) x (λ r it. first_in (suc k) r (subst (λ z. IsItem r z) (sym next) it))

    -- the own origin's offer is the best of it alone
    abbrev pub alone : Option PureValue → List PureRoute
    alone z = option_map_or (λ v. record { value = v; path = i ∷ [] } ∷ []) z [] ++ []

    pub own_best : (o : Option S) → option_map value o ≡ origin_value net dest i
        → option_map {U = PureRoute} (λ s. record { value = value s; path = i ∷ [] }) o ≡ best_of (carrier net) (firsts value net i dest ns 0)
    own_best o e = subst (λ z. option_map {U = PureRoute} (λ s. record { value = value s; path = i ∷ [] }) o ≡ best_of (carrier net) (alone z)) e
        (by o (λ r it. first_in 0 r (subst (λ z. IsItem r (alone z)) e it)))
      where
        by : (o : Option S) → ((r : PureRoute) → IsItem r (alone (option_map value o)) → In (carrier net) r.value)
            → option_map {U = PureRoute} (λ s. record { value = value s; path = i ∷ [] }) o ≡ best_of (carrier net) (alone (option_map value o))
        by None h = refl
        by (Some s) h = sym (best_with (carrier net) [] (record { value = value s; path = i ∷ [] }) h)

    -- there is no choice for what isn't a destination
    pub none_outside : (dest_out : ¬ (dest < length net.dests)) → choice net dest i (heard_by value ns) ≡ None
    none_outside out = by (choice net dest i (heard_by value ns)) refl
      where
        heard_inside : (a : PureArc) (r : PureRoute) → IsItem a net.arcs → a.tail ≡ i → heard_by value ns a.id dest ≡ Some r → (dest < length net.dests) × (may_be_of net a.head r ≡ true)
        heard_inside a r item tail e = absurd (out (heard_may_be (arcs_from net i) ns a.id dest r are e).4)

        by : (o : Option PureRoute) → choice net dest i (heard_by value ns) ≡ o → choice net dest i (heard_by value ns) ≡ None
        by None e = e
        by (Some r) e = absurd (out (choice_may_be net n dest i (λ a. heard_by value ns a dest) heard_inside r e).0)

    -- once no arc is left, the best of the offers is the node's choice
    pub chosen_at_end : (k : ℕ) → length ns ≤ k → best_of (carrier net) (firsts value net i dest ns k) ≡ choice net dest i (heard_by value ns)
    chosen_at_end k l =
        let few : length (arcs_from net i) ≤ k = subst (λ z. z ≤ k) (sym (as_many (arcs_from net i) ns are)) l in
        ap (λ z. best_of (carrier net) (own_offers net dest i ++ filter_map (offered_on value net dest ns) z)) (take_whole (arcs_from net i) k few)

-- the arcs from a node have it for their tail
pub tail_is : (net : PureNet) (i k : ℕ) (a : PureArc) → slice_get (arcs_from net i) k ≡ Some a → a.tail ≡ i
tail_is net i k a e =
    let test : (a.tail == i) ≡ true = (item_passed (λ (b : PureArc). b.tail == i) net.arcs a (item_at (arcs_from net i) k a e)).1 in
    grind (arith, nat_tests)

-- ---- entries and offers

-- what stands at a place of the entries
pub entry_is : {X : Type 0} (xs : List (Option X)) (i : ℕ) (x : Option X) → i < length xs → x ≡ get_or xs i x → entry_of xs i ≡ x
entry_is xs i x l e = ap (λ z. option_and_then (λ y. y) z) (slice_get-get_or xs i x l) ∙ sym e

-- what a neighbour is asked for, where its label and what was heard of it are read
pub may_offer : {L S : Type 0} (stands_for : L → PureLabel → Type 0) (is_sig : S → Type 0) (value : S → PureValue) (net : PureNet) (a : PureArc) (n : Listened L S) (dest : ℕ) (l : L) (known : Option (Known S))
    → IsNeighbour stands_for is_sig value net a n → l ≡ n.label → entry_of n.heard dest ≡ known → MayOffer stands_for is_sig value net a l known
may_offer stands_for is_sig value net a n dest l known is e f = record {
  label = rw e is.label;
  route = λ x h. is.known dest x (f ∙ h);
}

-- what a label makes of a known route that doesn't pass the node is what the arc offers
pub offers_known : {S : Type 0} (value : S → PureValue) (net : PureNet) (a : PureArc) (k : Known S) (node : ℕ) (p : List ℕ) (o : Option S) → a.tail ≡ node → p ≡ numbers k.path
    → is_among (numbers k.path) node ≡ false → option_map value o ≡ App net.alg.expression a.label (value k.sig)
    → option_map {U = PureRoute} (λ s. record { value = value s; path = node ∷ p }) o ≡ offer_by net a (known_route value k)
offers_known {S = S} value net a k node p o tail path among image = rw (tail, path, among, ← image) (by o)
  where
    by : (o : Option S) → option_map {U = PureRoute} (λ s. record { value = value s; path = node ∷ numbers k.path }) o ≡ option_map {U = PureRoute} (λ v. record { value = v; path = node ∷ numbers k.path }) (option_map value o)
    by None = refl
    by (Some s) = refl

-- the offer whose value stands in a place is a route where a value stands there
pub placed_routes : {S : Type 0} (value : S → PureValue) (node : ℕ) (b : Bor (List NodeId)) (place : Option S)
    → option_map {U = PureRoute} (offered_route value node) (placed (Some b) place) ≡ option_map {U = PureRoute} (λ s. record { value = value s; path = node ∷ numbers b.now }) place
placed_routes value node b None = refl
placed_routes value node b (Some s) = refl

-- what a label made of a value stands in the place that it was put in
pub image_stands : {S : Type 0} (value : S → PureValue) (place : Option S) (image : Option PureValue) → option_map value (made_in true place) ≡ image → option_map value place ≡ image
image_stands value None image e = e
image_stands value (Some s) image e = e

-- and where it made nothing, none does
pub no_image_stands : {S : Type 0} (value : S → PureValue) (place : Option S) (image : Option PureValue) → option_map value (made_in false place) ≡ image → None ≡ image
no_image_stands value None image e = e
no_image_stands value (Some s) image e = e

-- and of one that passes it the arc makes nothing
pub passing_offers_none : {S : Type 0} (value : S → PureValue) (net : PureNet) (a : PureArc) (k : Known S) (node : ℕ) → a.tail ≡ node → is_among (numbers k.path) node ≡ true → offer_by net a (known_route value k) ≡ None
passing_offers_none value net a k node tail among = rw (tail, among) refl
