-- Arcs alike, and what a node chooses by them.
use Rattle.std.proofs.Common.{◌≡◌, ◌≢◌, ℕ, zero, suc, ◌+◌, ◌<◌, ◌≤◌, ◌==◌, ◌&&◌, inl, inr, List, [], ◌∷◌, ◌++◌, Bool, true, false, length, slice_get, Option, Some, None, refl, sym, ap, subst, ◌∙◌, arith}
use Rattle.std.specs.Prelude.{find, option_map, option_and_then}
use Rattle.std.specs.List.{filter_map}
use Rattle.std.proofs.Math.ListN.{set}
use Rattle.std.proofs.Math.Path.{fun_ext}
use Rattle.std.proofs.lemmas.Bool.{eqb-true}
use Rattle.std.proofs.lemmas.Bool.Decides.{nat_tests}
use Rattle.std.proofs.lemmas.Option.{slice_get_within}
use Rattle.alg_model.specs.Expressions.{PureLabel, PureValue, number_label, keep, symbol_label, mark, unmark, need, bar, allow, deny, row_label, pair_label, both_label, first_label, second_label, const_label, outer, inner}
use Rattle.alg_model.specs.Tests.{same_value, same_value-Decides}
use Rattle.net_graph.specs.Nets.{PureArc, PureNet, IsNet, is_arc_between, arcs_from}
use Rattle.net_graph.specs.Routes.{PureRoute}
use Rattle.net_graph.specs.Tables.{carrier}
use Rattle.path_vector.specs.Alike.{same_label, is_alike, AreAlike, IsRenewed, AreRenewed}
use Rattle.path_vector.specs.Choosing.{arc_is_found, arc_stands, found_there}
use Rattle.path_vector.specs.Items.{IsItem, item_at, item_passed, item_passes, item_there}
use Rattle.path_vector.specs.Known.{entry_of, heard_by, known_route, IsNeighbour, AreNeighbours, Listened}
use Rattle.path_vector.specs.Node.{best_of, choice, heard_before, may_be_of, offer_by, offers_to, own_offers, same_arc}
use Rattle.path_vector.specs.Reporting.{id_is_place}
use Rattle.path_vector.proofs.Choices.{as_many, heard_may_be, ids_from_apart, neighbour_found}
use Rattle.path_vector.proofs.Moving.{get_set}

-- both tests say yes
both : (a b : Bool) → (a && b) ≡ true → (a ≡ true) × (b ≡ true)
both true b e = (refl, e)
both false b e = absurd (cc)

-- labels of which the test says so are one
pub same_label_is : (l m : PureLabel) → same_label l m ≡ true → l ≡ m
same_label_is (number_label m) (number_label n) e = ap number_label (eqb-true m n e)
same_label_is keep keep e = refl
same_label_is (symbol_label m) (symbol_label n) e = ap symbol_label (eqb-true m n e)
same_label_is (mark j) (mark k) e = ap mark (eqb-true j k e)
same_label_is (unmark j) (unmark k) e = ap unmark (eqb-true j k e)
same_label_is (need j) (need k) e = ap need (eqb-true j k e)
same_label_is (bar j) (bar k) e = ap bar (eqb-true j k e)
same_label_is allow allow e = refl
same_label_is deny deny e = refl
same_label_is (row_label q) (row_label r) e = ap row_label (eqb-true q r e)
same_label_is (pair_label l m) (pair_label n o) e =
    let parts = both (same_label l n) (same_label m o) e in
    rw (same_label_is l n parts.0, same_label_is m o parts.1) refl
same_label_is (both_label l m) (both_label n o) e =
    let parts = both (same_label l n) (same_label m o) e in
    rw (same_label_is l n parts.0, same_label_is m o parts.1) refl
same_label_is (first_label l) (first_label n) e = ap first_label (same_label_is l n e)
same_label_is (second_label m) (second_label o) e = ap second_label (same_label_is m o e)
same_label_is (const_label u) (const_label v) e = ap const_label ((same_value-Decides u v).0 e)
same_label_is (outer l u) (outer n v) e =
    let parts = both (same_label l n) (same_value u v) e in
    rw (same_label_is l n parts.0, (same_value-Decides u v).0 parts.1) refl
same_label_is (inner m) (inner o) e = ap inner (same_label_is m o e)
same_label_is _ _ e = absurd (cc)

-- arcs alike have one head, and one label
pub heads_alike : (a b : PureArc) → is_alike a b ≡ true → a.head ≡ b.head
heads_alike a b e = eqb-true a.head b.head (both (a.head == b.head) (same_label a.label b.label) e).0

pub labels_alike : (a b : PureArc) → is_alike a b ≡ true → a.label ≡ b.label
labels_alike a b e = same_label_is a.label b.label (both (a.head == b.head) (same_label a.label b.label) e).1

-- ---- lists side by side

-- what two functions make of lists, where they make one thing of what stands at each place
pub images_alike : {X Y Z : Type 0} (f : X → Option Z) (g : Y → Option Z) (xs : List X) (ys : List Y) → length xs ≡ length ys
    → ((k : ℕ) (x : X) (y : Y) → slice_get xs k ≡ Some x → slice_get ys k ≡ Some y → f x ≡ g y) → filter_map f xs ≡ filter_map g ys
images_alike f g [] [] count each = refl
images_alike f g [] (y ∷ ys) count each = absurd (omega arith)
images_alike f g (x ∷ xs) [] count each = absurd (omega arith)
images_alike f g (x ∷ xs) (y ∷ ys) count each =
    let first : f x ≡ g y = each 0 x y refl refl in
    let rest : filter_map f xs ≡ filter_map g ys = images_alike f g xs ys (omega arith) (λ k a b d e. each (suc k) a b d e) in
    rw (first, rest) refl

-- what stands at another place than the one that was set
get_elsewhere : {X : Type 0} (xs : List X) (k : ℕ) (y : X) (j : ℕ) → j ≢ k → slice_get (set xs k y) j ≡ slice_get xs j
get_elsewhere [] k y j apart = refl
get_elsewhere (x ∷ xs) zero y zero apart = absurd (apart refl)
get_elsewhere (x ∷ xs) (suc k) y zero apart = refl
get_elsewhere (x ∷ xs) zero y (suc j) apart = refl
get_elsewhere (x ∷ xs) (suc k) y (suc j) apart = get_elsewhere xs k y j (λ e. apart (ap suc e))

-- an item stands at a place
pub place_of_item : {X : Type 0} (xs : List X) (x : X) → IsItem x xs → (k : ℕ) × (slice_get xs k ≡ Some x)
place_of_item [] x i = absurd i
place_of_item (y ∷ ys) x (inl same) = (0, ap (λ z. Some z) same)
place_of_item (y ∷ ys) x (inr more) = let there = place_of_item ys x more in (suc there.0, there.1)

module _ (before net : PureNet) (old_net : IsNet before) (new_net : IsNet net) (same : net ≡ record before { arcs = net.arcs }) (i : ℕ) (alike : AreAlike (arcs_from before i) (arcs_from net i)) where
  from_is : (z : PureNet) (a : PureArc) → IsItem a (arcs_from z i) → IsItem a z.arcs × (a.tail ≡ i)
  from_is z a item =
      let passed = item_passed (λ (b : PureArc). b.tail == i) z.arcs a item in
      (passed.0, eqb-true a.tail i passed.1)

  -- the arcs at a place of the node's in both networks are one's same
  pub arc_before : (k : ℕ) (b a : PureArc) → slice_get (arcs_from before i) k ≡ Some b → slice_get (arcs_from net i) k ≡ Some a → same_arc before a ≡ Some b
  arc_before k b a e f =
      let b_is = from_is before b (item_at (arcs_from before i) k b e) in
      let a_is = from_is net a (item_at (arcs_from net i) k a f) in
      let tail : b.tail ≡ a.tail = b_is.1 ∙ sym a_is.1 in
      let head : b.head ≡ a.head = heads_alike b a (alike.each k b a e f) in
      subst (λ z. find (is_arc_between z a.head) before.arcs ≡ Some b) tail (subst (λ z. find (is_arc_between b.tail z) before.arcs ≡ Some b) head (arc_is_found before b old_net b_is.0))

  -- what the node chooses stays, where it heard on its arcs what it heard before
  pub choice_stays : (dest : ℕ) (heard : ℕ → ℕ → Option PureRoute) → choice net dest i (heard_before before net heard) ≡ choice before dest i heard
  choice_stays dest heard =
      ap (λ z. best_of z (offers_to net dest i (λ a. heard_before before net heard a dest))) (ap carrier same)
      ∙ ap (best_of (carrier before)) (ap (λ z. z ++ offered_now) (ap (λ z. own_offers z dest i) same) ∙ ap (λ z. own_offers before dest i ++ z) (sym offers_alike))
    where
      on_now : PureArc → Option PureRoute
      on_now a = option_and_then (offer_by net a) (heard_before before net heard a.id dest)

      on_before : PureArc → Option PureRoute
      on_before b = option_and_then (offer_by before b) (heard b.id dest)

      offered_now : List PureRoute
      offered_now = filter_map (λ (a : PureArc). option_and_then (offer_by net a) (heard_before before net heard a.id dest)) (arcs_from net i)

      each : (k : ℕ) (b a : PureArc) → slice_get (arcs_from before i) k ≡ Some b → slice_get (arcs_from net i) k ≡ Some a
          → option_and_then (offer_by before b) (heard b.id dest) ≡ option_and_then (offer_by net a) (heard_before before net heard a.id dest)
      each k b a e f =
          let b_is = from_is before b (item_at (arcs_from before i) k b e) in
          let a_is = from_is net a (item_at (arcs_from net i) k a f) in
          let stands = arc_stands net a new_net a_is.0 in
          let one = arc_before k b a e f in
          let hears : heard_before before net heard a.id dest ≡ heard b.id dest = rw (stands, one) refl in
          let tail : b.tail ≡ a.tail = b_is.1 ∙ sym a_is.1 in
          let label : b.label ≡ a.label = labels_alike b a (alike.each k b a e f) in
          let offers : offer_by before b ≡ offer_by net a = fun_ext (λ r. made b.tail a.tail tail b.label a.label label r) in
          ap (λ g. option_and_then g (heard b.id dest)) offers ∙ ap (option_and_then (offer_by net a)) (sym hears)
        where
          made : (t u : ℕ) → t ≡ u → (l m : PureLabel) → l ≡ m → (r : PureRoute)
              → offer_by before (record { id = b.id; tail = t; head = b.head; label = l }) r ≡ offer_by net (record { id = a.id; tail = u; head = a.head; label = m }) r
          made t u tails l m labels r = rw (tails, labels) (sym (ap (λ z. offer_by z (record { id = a.id; tail = u; head = a.head; label = m }) r) same))

      offers_alike : filter_map (λ (b : PureArc). option_and_then (offer_by before b) (heard b.id dest)) (arcs_from before i) ≡ offered_now
      offers_alike = images_alike (λ (b : PureArc). option_and_then (offer_by before b) (heard b.id dest)) (λ (a : PureArc). option_and_then (offer_by net a) (heard_before before net heard a.id dest))
          (arcs_from before i) (arcs_from net i) alike.count each

  module _ {L S : Type 0} (stands_for : L → PureLabel → Type 0) (is_sig : S → Type 0) (value : S → PureValue) where
    one_renewed : (b a : PureArc) (n m : Listened L S) → is_alike b a ≡ true → IsNeighbour stands_for is_sig value before b n → IsRenewed a n m → IsNeighbour stands_for is_sig value net a m
    one_renewed b a n m e was is = record {
      arc = is.arc;
      label = subst (λ z. stands_for z a.label) (sym is.label) (subst (stands_for n.label) (labels_alike b a e) was.label);
      count = ap length is.heard ∙ (was.count ∙ ap (λ (z : PureNet). length z.dests) (sym same));
      known = λ dest k f.
          let known = was.known dest k (ap (λ z. entry_of z dest) (sym is.heard) ∙ f) in
          (known.0, subst (λ z. may_be_of net z (known_route value k) ≡ true) (heads_alike b a e) (subst (λ z. may_be_of z b.head (known_route value k) ≡ true) (sym same) known.1));
    }

    all_renewed : (bs xs : List PureArc) (old new : List (Listened L S)) → length bs ≡ length xs → ((k : ℕ) (b a : PureArc) → slice_get bs k ≡ Some b → slice_get xs k ≡ Some a → is_alike b a ≡ true)
        → AreNeighbours stands_for is_sig value before bs old → length new ≡ length old
        → ((k : ℕ) (a : PureArc) (n m : Listened L S) → slice_get xs k ≡ Some a → slice_get old k ≡ Some n → slice_get new k ≡ Some m → IsRenewed a n m) → AreNeighbours stands_for is_sig value net xs new
    all_renewed [] [] [] [] count each are many is = tt
    all_renewed [] [] [] (m ∷ new) count each are many is = absurd (omega arith)
    all_renewed [] [] (n ∷ old) new count each are many is = absurd are
    all_renewed [] (a ∷ xs) old new count each are many is = absurd (omega arith)
    all_renewed (b ∷ bs) [] old new count each are many is = absurd (omega arith)
    all_renewed (b ∷ bs) (a ∷ xs) [] new count each are many is = absurd are
    all_renewed (b ∷ bs) (a ∷ xs) (n ∷ old) [] count each are many is = absurd (omega arith)
    all_renewed (b ∷ bs) (a ∷ xs) (n ∷ old) (m ∷ new) count each are many is = (
      one_renewed b a n m (each 0 b a refl refl) are.0 (is 0 a n m refl refl refl),
      all_renewed bs xs old new (omega arith) (λ k x y e f. each (suc k) x y e f) are.1 (omega arith) (λ k x y z e f g. is (suc k) x y z e f g),
    )

    module _ (old new : List (Listened L S)) (are : AreNeighbours stands_for is_sig value before (arcs_from before i) old) (renewed : AreRenewed (arcs_from net i) old new) where
      -- neighbours that are put at arcs alike are neighbours
      pub renewed_are : AreNeighbours stands_for is_sig value net (arcs_from net i) new
      renewed_are = all_renewed (arcs_from before i) (arcs_from net i) old new alike.count alike.each are renewed.count renewed.each

      -- nothing is heard on an arc that isn't the node's
      not_before : (a dest : ℕ) → ((z : PureArc) → IsItem z (arcs_from before i) → z.id ≡ a → ⊥) → heard_by value old a dest ≡ None
      not_before a dest out = by (heard_by value old a dest) refl
        where
          by : (o : Option PureRoute) → heard_by value old a dest ≡ o → heard_by value old a dest ≡ None
          by None e = e
          by (Some r) e = let found = heard_may_be stands_for is_sig value before (arcs_from before i) old a dest r are e in absurd (out found.0 found.1 found.2)

      not_now : (a dest : ℕ) → ((z : PureArc) → IsItem z (arcs_from net i) → z.id ≡ a → ⊥) → heard_by value new a dest ≡ None
      not_now a dest out = by (heard_by value new a dest) refl
        where
          by : (o : Option PureRoute) → heard_by value new a dest ≡ o → heard_by value new a dest ≡ None
          by None e = e
          by (Some r) e = let found = heard_may_be stands_for is_sig value net (arcs_from net i) new a dest r renewed_are e in absurd (out found.0 found.1 found.2)

      stands_now : (z : PureArc) (a : ℕ) → IsItem z (arcs_from net i) → z.id ≡ a → slice_get net.arcs a ≡ Some z
      stands_now z a item e = ap (slice_get net.arcs) (sym e) ∙ arc_stands net z new_net (from_is net z item).0

      on_own : (k : ℕ) (w : PureArc) (dest : ℕ) → slice_get (arcs_from net i) k ≡ Some w → heard_by value new w.id dest ≡ option_and_then (λ (b : PureArc). heard_by value old b.id dest) (same_arc before w)
      on_own k w dest e =
          let b = item_there (arcs_from before i) k (let l = slice_get_within (arcs_from net i) k w e in let c = alike.count in omega arith) in
          let many = as_many stands_for is_sig value before (arcs_from before i) old are in
          let within = slice_get_within (arcs_from before i) k b.0 b.1 in
          let n = item_there old k (omega arith) in
          let count = renewed.count in
          let there = slice_get_within old k n.0 n.1 in
          let m = item_there new k (omega arith) in
          let is = renewed.each k w n.0 m.0 e n.1 m.1 in
          let old_found = neighbour_found stands_for is_sig value before (arcs_from before i) old k b.0 n.0 are (ids_from_apart before i old_net.arc_ids) b.1 n.1 in
          let new_found = neighbour_found stands_for is_sig value net (arcs_from net i) new k w m.0 renewed_are (ids_from_apart net i new_net.arc_ids) e m.1 in
          rw (new_found, arc_before k b.0 w b.1 e, old_found) (ap (λ z. option_map (known_route value) (entry_of z dest)) is.heard)

      elsewhere : (w : PureArc) (dest : ℕ) → (w.tail == i) ≡ false → option_and_then (λ (b : PureArc). heard_by value old b.id dest) (same_arc before w) ≡ None
      elsewhere w dest apart = by (same_arc before w) refl
        where
          by : (o : Option PureArc) → same_arc before w ≡ o → option_and_then (λ (b : PureArc). heard_by value old b.id dest) o ≡ None
          by None e = refl
          by (Some v) e =
              let there = found_there before w.tail w.head v old_net e in
              not_before v.id dest (λ z item number.
              let is = from_is before z item in
              let stands : slice_get before.arcs v.id ≡ Some z = ap (slice_get before.arcs) (sym number) ∙ arc_stands before z old_net is.0 in
              let one : v ≡ z = (let f = sym there.stands ∙ stands in cc) in
              let tail : w.tail ≡ i = sym there.tail ∙ (ap (λ (y : PureArc). y.tail) one ∙ is.1) in
              absurd (let here : (w.tail == i) ≡ true = grind (arith, nat_tests) in cc))

      on_arc : (a dest : ℕ) (o : Option PureArc) → slice_get net.arcs a ≡ o → heard_by value new a dest ≡ option_and_then (λ (b : PureArc). heard_by value old b.id dest) (option_and_then (same_arc before) o)
      on_arc a dest None e = not_now a dest (λ z item number. let stands = stands_now z a item number in cc)
      on_arc a dest (Some w) e = by (w.tail == i) refl
        where
          number : w.id ≡ a
          number = let id = id_is_place 0 a net.arcs w new_net.arc_ids e in omega arith

          by : (t : Bool) → (w.tail == i) ≡ t → heard_by value new a dest ≡ option_and_then (λ (b : PureArc). heard_by value old b.id dest) (same_arc before w)
          by true f =
              let item = item_passes (λ (b : PureArc). b.tail == i) net.arcs w (item_at net.arcs a w e) f in
              let place = place_of_item (arcs_from net i) w item in
              ap (λ z. heard_by value new z dest) (sym number) ∙ on_own place.0 w dest place.1
          by false f = not_now a dest (λ z item number. absurd (
              let stands = stands_now z a item number in
              let one : w ≡ z = (let g = sym e ∙ stands in cc) in
              let tail : w.tail ≡ i = ap (λ (y : PureArc). y.tail) one ∙ (from_is net z item).1 in
              let here : (w.tail == i) ≡ true = grind (arith, nat_tests) in
              cc)) ∙ sym (elsewhere w dest f)

      -- and they heard what was heard before
      pub renewed_heard : heard_by value new ≡ heard_before before net (heard_by value old)
      renewed_heard = fun_ext (λ a. fun_ext (λ dest. on_arc a dest (slice_get net.arcs a) refl))

-- ---- neighbours that are put at new arcs, one after another

module _ {L S : Type 0} (arcs : List PureArc) (old ns new : List (Listened L S)) (k : ℕ) (a : PureArc) (n now : Listened L S) (there : slice_get arcs k ≡ Some a) (was : slice_get old k ≡ Some n) (is : slice_get ns k ≡ Some n)
    (put : new ≡ set ns k now) (renewed : IsRenewed a n now)
  where
    -- one more is done
    pub renewed_next : ((j : ℕ) (b : PureArc) (x y : Listened L S) → j < k → slice_get arcs j ≡ Some b → slice_get old j ≡ Some x → slice_get ns j ≡ Some y → IsRenewed b x y)
        → (j : ℕ) (b : PureArc) (x y : Listened L S) → j < k + 1 → slice_get arcs j ≡ Some b → slice_get old j ≡ Some x → slice_get new j ≡ Some y → IsRenewed b x y
    renewed_next done j b x y l e f g = by (j == k) refl
      where
        by : (t : Bool) → (j == k) ≡ t → IsRenewed b x y
        by true h =
            let place : j ≡ k = eqb-true j k h in
            let arc : a ≡ b = (let i = sym there ∙ (ap (slice_get arcs) (sym place) ∙ e) in cc) in
            let first : n ≡ x = (let i = sym was ∙ (ap (slice_get old) (sym place) ∙ f) in cc) in
            let last : now ≡ y = (let i = sym (get_set ns k now (slice_get_within ns k n is)) ∙ (ap (λ z. slice_get z k) (sym put) ∙ (ap (slice_get new) (sym place) ∙ g)) in cc) in
            rw (← arc, ← first, ← last) renewed
        by false h =
            let apart : j ≢ k = (λ i. let same : (j == k) ≡ true = grind (arith, nat_tests) in cc) in
            done j b x y (let less : j < k = grind (arith, nat_tests) in less) e f (sym (get_elsewhere ns k now j apart) ∙ (ap (λ z. slice_get z j) (sym put) ∙ g))

    -- and those after it are as they were
    pub left_next : ((j : ℕ) → k ≤ j → slice_get ns j ≡ slice_get old j) → (j : ℕ) → k + 1 ≤ j → slice_get new j ≡ slice_get old j
    left_next left j l = ap (λ z. slice_get z j) put ∙ (get_elsewhere ns k now j (omega arith) ∙ left j (omega arith))
