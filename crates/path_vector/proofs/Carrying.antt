-- The neighbours of a node that begins, which were heard before a change.
use Rattle.std.proofs.Common.{◌≡◌, ℕ, ◌<◌, ◌==◌, zero, suc, ◌+◌, ◌≤◌, List, [], ◌∷◌, ◌++◌, Bool, true, false, cond, length, map, slice_get, Option, Some, None, refl, sym, ap, subst, ◌∙◌, arith}
use Rattle.std.specs.Prelude.{find, option_map, option_and_then, position, IfSome}
use Rattle.std.proofs.Math.ListN.{drop, set, take}
use Rattle.std.proofs.Math.Path.{fun_ext}
use Rattle.std.proofs.lemmas.Bool.Decides.{nat_tests}
use Rattle.std.proofs.lemmas.Option.{slice_get_within}
use Rattle.alg_model.specs.declared.edition.TheConstants.{MAX_LABEL_NUMBER}
use Rattle.alg_model.specs.Bounds.{LabelAtMost, greatest_number}
use Rattle.alg_model.specs.Laws.{label_at_most_more, greatest_is_bounded}
use Rattle.alg_model.specs.Expressions.{PureLabel, PureValue}
use Rattle.net_graph.specs.NetLaws.{found_at_place, nothing_at_place}
use Rattle.net_graph.specs.Nets.{PureArc, PureNet, IsNet, IsArcOf, is_arc_between, arcs_from}
use Rattle.net_graph.specs.Routes.{PureRoute}
use Rattle.path_vector.specs.Columns.{HasEntries}
use Rattle.path_vector.specs.Choosing.{IsArcThere, arc_is_found, arc_stands, found_there}
use Rattle.path_vector.specs.Delivering.{same_arcs}
use Rattle.path_vector.specs.Items.{IsItem, item_at, item_passed, item_there, none_found, of_all}
use Rattle.path_vector.specs.Reporting.{id_is_place}
use Rattle.path_vector.specs.Known.{entry_of, heard_by, known_route, IsNeighbour, AreNeighbours, Listened}
use Rattle.path_vector.specs.Node.{heard_before, may_be_of, same_arc}
use Rattle.path_vector.proofs.Choices.{as_many, ids_from_apart, neighbour_at, neighbour_found, tail_is, take_next, take_whole}
use Rattle.path_vector.proofs.Hearings.{heard_set, neighbours_set}

find_first : {X : Type 0} (p : X → Bool) (xs ys : List X) (x : X) → find p xs ≡ Some x → find p (xs ++ ys) ≡ Some x
find_first p [] ys x e = absurd (cc)
find_first p (y ∷ xs) ys x e = by (p y) refl e (find_first p xs ys x)
  where
    by : (b : Bool) → p y ≡ b → cond b (Some y) (find p xs) ≡ Some x → (find p xs ≡ Some x → find p (xs ++ ys) ≡ Some x) → find p ((y ∷ xs) ++ ys) ≡ Some x
    by true f g more = rw f g
    by false f g more = rw f (more g)

find_next : {X : Type 0} (p : X → Bool) (xs ys : List X) → find p xs ≡ None → find p (xs ++ ys) ≡ find p ys
find_next p [] ys e = refl
find_next p (y ∷ xs) ys e = by (p y) refl e (find_next p xs ys)
  where
    by : (b : Bool) → p y ≡ b → cond b (Some y) (find p xs) ≡ None → (find p xs ≡ None → find p (xs ++ ys) ≡ find p ys) → find p ((y ∷ xs) ++ ys) ≡ find p ys
    by true f g more = absurd (cc)
    by false f g more = rw f (more g)

module _ {L S : Type 0} (value : S → PureValue) (ns : List (Listened L S)) (n : Listened L S) where
  abbrev is_at : ℕ → Listened L S → Bool
  is_at a m = m.arc.0 == a

  abbrev said : ℕ → Option (Listened L S) → Option PureRoute
  said dest o = option_and_then (λ (m : Listened L S). option_map (known_route value) (entry_of m.heard dest)) o

  -- what is heard of neighbours and one more, who says nothing or is at another arc
  pub heard_otherwise : (a dest : ℕ) → said dest (cond (n.arc.0 == a) (Some n) None) ≡ None → heard_by value (ns ++ n ∷ []) a dest ≡ heard_by value ns a dest
  heard_otherwise a dest e = by (find (is_at a) ns) refl
    where
      by : (o : Option (Listened L S)) → find (is_at a) ns ≡ o → heard_by value (ns ++ n ∷ []) a dest ≡ heard_by value ns a dest
      by None f = rw (find_next (is_at a) ns (n ∷ []) f, f) e
      by (Some m) f = rw (find_first (is_at a) ns (n ∷ []) m f, f) refl

  -- and the last one is heard, where no other one is at its arc
  pub heard_last : (a dest : ℕ) → (n.arc.0 == a) ≡ true → ((m : Listened L S) → find (is_at a) ns ≡ Some m → m ≡ n) → heard_by value (ns ++ n ∷ []) a dest ≡ option_map (known_route value) (entry_of n.heard dest)
  heard_last a dest e alone = by (find (is_at a) ns) refl
    where
      by : (o : Option (Listened L S)) → find (is_at a) ns ≡ o → heard_by value (ns ++ n ∷ []) a dest ≡ option_map (known_route value) (entry_of n.heard dest)
      by None f = rw (find_next (is_at a) ns (n ∷ []) f, e) refl
      by (Some m) f = rw (find_first (is_at a) ns (n ∷ []) m f, alone m f) refl

-- the label of an arc may be taken into an algebra
pub small_label : (net : PureNet) (i k : ℕ) (a : PureArc) → IsNet net → slice_get (arcs_from net i) k ≡ Some a → LabelAtMost MAX_LABEL_NUMBER a.label
small_label net i k a n e =
    let item = (item_passed (λ (b : PureArc). b.tail == i) net.arcs a (item_at (arcs_from net i) k a e)).0 in
    label_at_most_more (greatest_number net.alg.edition) MAX_LABEL_NUMBER a.label (greatest_is_bounded net.alg.edition) (of_all (IsArcOf net.alg (length net.nodes)) net.arcs a n.arcs_in item).bound

parted : {X : Type 0} (xs : List X) (k : ℕ) (x : X) → slice_get xs k ≡ Some x → take k xs ++ x ∷ drop (suc k) xs ≡ xs
parted [] k x e = absurd (cc)
parted (y ∷ xs) zero x e =
    let same : y ≡ x = cc in
    ap (λ z. z ∷ xs) (sym same)
parted (y ∷ xs) (suc k) x e = ap (λ z. y ∷ z) (parted xs k x e)

module _ {L S : Type 0} (stands_for : L → PureLabel → Type 0) (is_sig : S → Type 0) (value : S → PureValue) where
  -- ---- neighbours that are heard before a change, one after another

  module _ (before net : PureNet) (old_net : IsNet before) (new_net : IsNet net) (same : net ≡ record before { arcs = net.arcs }) (i : ℕ) (old : List (Listened L S)) (k : ℕ) (x : Listened L S)
      (are : AreNeighbours stands_for is_sig value before (arcs_from before i) old) (there : slice_get old k ≡ Some x)
    where
      -- those that are done, and those that are left after the next
      abbrev pub done : List (Listened L S)
      done = take k old

      abbrev left : List (Listened L S)
      left = drop (suc k) old

      split : done ++ x ∷ left ≡ old
      split = parted old k x there

      -- the arc of the next neighbour
      pub next_arc : (z : PureArc) × (slice_get (arcs_from before i) k ≡ Some z) × IsNeighbour stands_for is_sig value before z x
      next_arc = neighbour_at stands_for is_sig value before (arcs_from before i) old k x are there

      abbrev pub arc : PureArc
      arc = next_arc.0

      arc_item : IsItem arc before.arcs
      arc_item = (item_passed (λ (b : PureArc). b.tail == i) before.arcs arc (item_at (arcs_from before i) k arc next_arc.1)).0

      -- it has an entry for each destination, of which both networks have the same
      pub entries_before : length x.heard ≡ length net.dests
      entries_before = next_arc.2.count ∙ ap (λ (z : PureNet). length z.dests) (sym same)

      number : x.arc.0 ≡ arc.id
      number = next_arc.2.arc

      pub next_stands : slice_get before.arcs x.arc.0 ≡ Some arc
      next_stands = subst (λ z. slice_get before.arcs z ≡ Some arc) (sym number) (arc_stands before arc old_net arc_item)

      pub next_tail : arc.tail ≡ i
      next_tail = tail_is before i k arc next_arc.1

      here : (dest : ℕ) → heard_by value (done ++ x ∷ []) arc.id dest ≡ option_map (known_route value) (entry_of x.heard dest)
      here dest =
          let test : (x.arc.0 == arc.id) ≡ true = (let e = number in grind (arith, nat_tests)) in
          heard_last value done x arc.id dest test (λ m f.
          let first : find (λ (y : Listened L S). y.arc.0 == arc.id) old ≡ Some m = subst (λ z. find (λ (y : Listened L S). y.arc.0 == arc.id) z ≡ Some m) split (find_first (λ (y : Listened L S). y.arc.0 == arc.id) done (x ∷ left) m f) in
          let found : find (λ (y : Listened L S). y.arc.0 == arc.id) old ≡ Some x = neighbour_found stands_for is_sig value before (arcs_from before i) old k arc x are (ids_from_apart before i old_net.arc_ids) next_arc.1 there in
          cc)

      elsewhere : (a dest : ℕ) → (x.arc.0 == a) ≡ false → heard_by value (done ++ x ∷ []) a dest ≡ heard_by value done a dest
      elsewhere a dest e = heard_otherwise value done x a dest (rw e refl)

      -- an arc of the changed network whose nodes the next arc doesn't join has heard as much as before
      other_arcs : (w : PureArc) (dest : ℕ) → slice_get net.arcs w.id ≡ Some w → is_arc_between arc.tail arc.head w ≡ false
          → option_and_then (λ (b : PureArc). heard_by value (done ++ x ∷ []) b.id dest) (same_arc before w) ≡ option_and_then (λ (b : PureArc). heard_by value done b.id dest) (same_arc before w)
      other_arcs w dest stands apart = by (same_arc before w) refl
        where
          by : (o : Option PureArc) → same_arc before w ≡ o → option_and_then (λ (b : PureArc). heard_by value (done ++ x ∷ []) b.id dest) o ≡ option_and_then (λ (b : PureArc). heard_by value done b.id dest) o
          by None e = refl
          by (Some v) e = elsewhere v.id dest (test (found_there before w.tail w.head v old_net e) (x.arc.0 == v.id) refl)
            where
              test : IsArcThere before w.tail w.head v → (b : Bool) → (x.arc.0 == v.id) ≡ b → (x.arc.0 == v.id) ≡ false
              test is false f = f
              test is true f =
                  let e = number in
                  let ids : (v.id == arc.id) ≡ true = grind (arith, nat_tests) in
                  let one : v ≡ arc = same_arcs before v arc is.stands (arc_stands before arc old_net arc_item) ids in
                  let tail : w.tail ≡ arc.tail = sym is.tail ∙ ap (λ (z : PureArc). z.tail) one in
                  let head : w.head ≡ arc.head = sym is.head ∙ ap (λ (z : PureArc). z.head) one in
                  absurd (let joins : is_arc_between arc.tail arc.head w ≡ true = (grind (arith, nat_tests)) in cc)

      -- where no arc of the changed network joins the nodes of the next one, all is heard as before
      pub none_joins : (now : ℕ → ℕ → Option PureRoute) → find (is_arc_between arc.tail arc.head) net.arcs ≡ None → ((a dest : ℕ) → now a dest ≡ heard_before before net (heard_by value done) a dest)
          → (a dest : ℕ) → now a dest ≡ heard_before before net (heard_by value (done ++ x ∷ [])) a dest
      none_joins now none so_far a dest = so_far a dest ∙ sym (by (slice_get net.arcs a) refl)
        where
          by : (o : Option PureArc) → slice_get net.arcs a ≡ o → option_and_then (λ (b : PureArc). heard_by value (done ++ x ∷ []) b.id dest) (option_and_then (same_arc before) o)
              ≡ option_and_then (λ (b : PureArc). heard_by value done b.id dest) (option_and_then (same_arc before) o)
          by None e = refl
          by (Some w) e =
              let item = item_at net.arcs a w e in
              other_arcs w dest (arc_stands net w new_net item) (none_found (is_arc_between arc.tail arc.head) net.arcs w none item)

      -- and where one joins them, the neighbour at it has heard what the next one said
      module _ (y : PureArc) (place : ℕ) (found : find (is_arc_between arc.tail arc.head) net.arcs ≡ Some y) (placed : slice_get (arcs_from net y.tail) place ≡ Some y)
          (ns : List (Listened L S)) (now_are : AreNeighbours stands_for is_sig value net (arcs_from net i) ns) (m : Listened L S) (m_there : slice_get ns place ≡ Some m)
        where
          joins : IsArcThere net arc.tail arc.head y
          joins = found_there net arc.tail arc.head y new_net found

          placed_here : slice_get (arcs_from net i) place ≡ Some y
          placed_here = subst (λ z. slice_get (arcs_from net z) place ≡ Some y) (joins.tail ∙ next_tail) placed

          old_neighbour : IsNeighbour stands_for is_sig value net y m
          old_neighbour =
              let is = neighbour_at stands_for is_sig value net (arcs_from net i) ns place m now_are m_there in
              let one : is.0 ≡ y = (let e = sym is.1 ∙ placed_here in cc) in
              subst (λ z. IsNeighbour stands_for is_sig value net z m) one is.2

          abbrev pub now : Listened L S
          now = record m { heard = x.heard }

          neighbour_now : IsNeighbour stands_for is_sig value net y now
          neighbour_now = record {
            arc = old_neighbour.arc;
            label = old_neighbour.label;
            count = next_arc.2.count ∙ ap (λ (z : PureNet). length z.dests) (sym same);
            known = λ dest k e.
                let was = next_arc.2.known dest k e in
                (was.0, subst (λ z. may_be_of net z (known_route value k) ≡ true) (sym joins.head) (subst (λ z. may_be_of z arc.head (known_route value k) ≡ true) (sym same) was.1));
          }

          pub neighbours_joined : AreNeighbours stands_for is_sig value net (arcs_from net i) (set ns place now)
          neighbours_joined = neighbours_set stands_for is_sig value net (arcs_from net i) ns place y now now_are placed_here neighbour_now

          pub heard_joined : ((a dest : ℕ) → heard_by value ns a dest ≡ heard_before before net (heard_by value done) a dest)
              → (a dest : ℕ) → heard_by value (set ns place now) a dest ≡ heard_before before net (heard_by value (done ++ x ∷ [])) a dest
          heard_joined so_far a dest =
              heard_set stands_for is_sig value net (arcs_from net i) ns place y now now_are (ids_from_apart net i new_net.arc_ids) placed_here neighbour_now.arc a dest ∙ by (a == y.id) refl
            where
              same_between : same_arc before y ≡ Some arc
              same_between = subst (λ z. find (is_arc_between z y.head) before.arcs ≡ Some arc) (sym joins.tail)
                  (subst (λ z. find (is_arc_between arc.tail z) before.arcs ≡ Some arc) (sym joins.head) (arc_is_found before arc old_net arc_item))

              by : (b : Bool) → (a == y.id) ≡ b → cond b (option_map (known_route value) (entry_of x.heard dest)) (heard_by value ns a dest) ≡ heard_before before net (heard_by value (done ++ x ∷ [])) a dest
              by true e =
                  let place_is : a ≡ y.id = grind (arith, nat_tests) in
                  sym (rw (place_is, joins.stands, same_between) (here dest))
              by false e = so_far a dest ∙ sym (others (slice_get net.arcs a) refl)
                where
                  others : (o : Option PureArc) → slice_get net.arcs a ≡ o → option_and_then (λ (b : PureArc). heard_by value (done ++ x ∷ []) b.id dest) (option_and_then (same_arc before) o)
                      ≡ option_and_then (λ (b : PureArc). heard_by value done b.id dest) (option_and_then (same_arc before) o)
                  others None f = refl
                  others (Some w) f = other_arcs w dest (arc_stands net w new_net (item_at net.arcs a w f)) (apart (item_at net.arcs a w f) (is_arc_between arc.tail arc.head w) refl)
                    where
                      apart : IsItem w net.arcs → (b : Bool) → is_arc_between arc.tail arc.head w ≡ b → is_arc_between arc.tail arc.head w ≡ false
                      apart item false g = g
                      apart item true g =
                          let tail : w.tail ≡ arc.tail = grind (arith, nat_tests) in
                          let head : w.head ≡ arc.head = grind (arith, nat_tests) in
                          let itself : find (is_arc_between arc.tail arc.head) net.arcs ≡ Some w = subst (λ z. find (is_arc_between z arc.head) net.arcs ≡ Some w) tail (subst (λ z. find (is_arc_between w.tail z) net.arcs ≡ Some w) head (arc_is_found net w new_net item)) in
                          let one : w ≡ y = cc in
                          let id = id_is_place 0 a net.arcs w new_net.arc_ids f in
                          let number : w.id ≡ y.id = ap (λ (z : PureArc). z.id) one in
                          let place_is : a ≡ y.id = omega arith in
                          absurd (let here : (a == y.id) ≡ true = grind (arith, nat_tests) in cc)

      -- the number of the arc that joins the nodes of the next neighbour's is one of the network's
      pub id_within : (b : PureArc) (id : ℕ) → Some id ≡ position (is_arc_between b.tail b.head) net.arcs → id < length net.arcs
      id_within b id between = (found_at_place (is_arc_between b.tail b.head) net.arcs id (sym between)).1

      -- the arc that joins the nodes of the next neighbour's, by its number, and the neighbour there
      module _ (b : PureArc) (b_stands : slice_get before.arcs x.arc.0 ≡ Some b) (id place : ℕ) (between : Some id ≡ position (is_arc_between b.tail b.head) net.arcs)
          (placed : IfSome (slice_get net.arcs id) (λ (w : PureArc). slice_get (arcs_from net w.tail) place ≡ Some w))
          (ns : List (Listened L S)) (now_are : AreNeighbours stands_for is_sig value net (arcs_from net i) ns)
        where
          same_next : b ≡ arc
          same_next = let e = sym b_stands ∙ next_stands in cc

          found_place : (find (is_arc_between arc.tail arc.head) net.arcs ≡ slice_get net.arcs id) × (id < length net.arcs)
          found_place = found_at_place (is_arc_between arc.tail arc.head) net.arcs id (subst (λ (z : PureArc). position (is_arc_between z.tail z.head) net.arcs ≡ Some id) same_next (sym between))

          joined : (y : PureArc) × (slice_get net.arcs id ≡ Some y)
          joined = item_there net.arcs id found_place.1

          found : find (is_arc_between arc.tail arc.head) net.arcs ≡ Some joined.0
          found = found_place.0 ∙ joined.1

          here_placed : slice_get (arcs_from net joined.0.tail) place ≡ Some joined.0
          here_placed = subst (λ o. IfSome o (λ (w : PureArc). slice_get (arcs_from net w.tail) place ≡ Some w)) joined.1 placed

          tail_here : joined.0.tail ≡ i
          tail_here = (found_there net arc.tail arc.head joined.0 new_net found).tail ∙ next_tail

          pub place_within : place < length ns
          place_within = subst (λ z. place < z) (as_many stands_for is_sig value net (arcs_from net i) ns now_are)
              (slice_get_within (arcs_from net i) place joined.0 (subst (λ z. slice_get (arcs_from net z) place ≡ Some joined.0) tail_here here_placed))

          neighbour_there : (m : Listened L S) × (slice_get ns place ≡ Some m)
          neighbour_there = item_there ns place place_within

          -- the neighbour there has an entry for each destination
          pub entries_there : HasEntries place (length net.dests) ns
          entries_there =
              let is = neighbour_at stands_for is_sig value net (arcs_from net i) ns place neighbour_there.0 now_are neighbour_there.1 in
              (neighbour_there.0, neighbour_there.1, is.2.count)

          -- what the neighbours are once the one at that place has heard all that
          module _ (new : List (Listened L S)) (is : (n : Listened L S) → slice_get ns place ≡ Some n → new ≡ set ns place (record n { heard = x.heard })) where
            pub still_neighbours : AreNeighbours stands_for is_sig value net (arcs_from net i) new
            still_neighbours = subst (AreNeighbours stands_for is_sig value net (arcs_from net i)) (sym (is neighbour_there.0 neighbour_there.1))
                (neighbours_joined joined.0 place found here_placed ns now_are neighbour_there.0 neighbour_there.1)

            pub heard_so_far : ((a dest : ℕ) → heard_by value ns a dest ≡ heard_before before net (heard_by value done) a dest)
                → (a dest : ℕ) → heard_by value new a dest ≡ heard_before before net (heard_by value (done ++ x ∷ [])) a dest
            heard_so_far so_far a dest = ap (λ z. heard_by value z a dest) (is neighbour_there.0 neighbour_there.1)
                ∙ heard_joined joined.0 place found here_placed ns now_are neighbour_there.0 neighbour_there.1 so_far a dest

      module _ (b : PureArc) (b_stands : slice_get before.arcs x.arc.0 ≡ Some b) (none : None ≡ position (is_arc_between b.tail b.head) net.arcs) where
        same_one : b ≡ arc
        same_one = let e = sym b_stands ∙ next_stands in cc

        pub nothing_joins : find (is_arc_between arc.tail arc.head) net.arcs ≡ None
        nothing_joins = nothing_at_place (is_arc_between arc.tail arc.head) net.arcs (subst (λ (z : PureArc). position (is_arc_between z.tail z.head) net.arcs ≡ None) same_one (sym none))

-- once all are done
pub all_heard : {L S : Type 0} (value : S → PureValue) (before net : PureNet) (old : List (Listened L S)) (k : ℕ) (ns : List (Listened L S)) → length old ≤ k
    → ((a dest : ℕ) → heard_by value ns a dest ≡ heard_before before net (heard_by value (take k old)) a dest) → heard_by value ns ≡ heard_before before net (heard_by value old)
all_heard value before net old k ns past heard =
    fun_ext (λ a. fun_ext (λ dest. heard a dest)) ∙ ap (λ z. heard_before before net (heard_by value z)) (take_whole old k past)

-- one more is done
pub one_more : {X : Type 0} (P : List X → Type 0) (xs : List X) (k : ℕ) (x : X) → slice_get xs k ≡ Some x → P (take k xs ++ x ∷ []) → P (take (k + 1) xs)
one_more P xs k x e p =
    let next : suc k ≡ k + 1 = omega arith in
    subst (λ z. P (take z xs)) next (subst P (sym (take_next xs k x e)) p)
