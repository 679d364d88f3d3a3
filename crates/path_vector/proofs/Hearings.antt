-- What a node heard, once it heard one more update.
use Rattle.std.proofs.Common.{◌≡◌, ℕ, zero, suc, ◌+◌, ◌<◌, List, [], ◌∷◌, Bool, true, false, ◌&&◌, ◌==◌, length, cond, slice_get, Option, Some, None, subst, refl, sym, ap, ◌∙◌, arith}
use Rattle.std.specs.Prelude.{option_map, IfSome}
use Rattle.std.proofs.Math.ListN.{set}
use Rattle.std.proofs.Math.Path.{fun_ext}
use Rattle.std.proofs.lemmas.Bool.Decides.{nat_tests}
use Rattle.alg_model.specs.Expressions.{PureValue, PureLabel}
use Rattle.net_graph.specs.Nets.{PureArc, PureNet, IsNet, AreDistinct, arcs_from}
use Rattle.net_graph.specs.Routes.{PureRoute}
use Rattle.path_vector.specs.declared.known.Known.{Known}
use Rattle.path_vector.specs.Known.{entry_of, known_route, heard_by, IsNeighbour, AreNeighbours, HasHeard, Listened}
use Rattle.path_vector.specs.Node.{may_be_of}
use Rattle.std.proofs.lemmas.Option.{slice_get_within}
use Rattle.path_vector.specs.Items.{of_all, item_at, item_there}
use Rattle.path_vector.specs.Reporting.{id_is_place}
use Rattle.path_vector.proofs.Choices.{as_many, neighbour_at, neighbour_found, ids_from_apart}

pub set_length : {X : Type 0} (xs : List X) (i : ℕ) (y : X) → length (set xs i y) ≡ length xs
set_length [] i y = refl
set_length (x ∷ xs) zero y = refl
set_length (x ∷ xs) (suc i) y = ap (λ z. suc z) (set_length xs i y)

-- what stands in entries of which one was replaced
pub entry_set : {X : Type 0} (xs : List (Option X)) (i : ℕ) (y : Option X) (d : ℕ) → i < length xs → entry_of (set xs i y) d ≡ cond (d == i) y (entry_of xs d)
entry_set [] i y d l = absurd (omega arith)
entry_set (x ∷ xs) zero y zero l = refl
entry_set (x ∷ xs) zero y (suc d) l =
    let apart : (suc d == 0) ≡ false = grind (arith, nat_tests) in
    rw apart refl
entry_set (x ∷ xs) (suc i) y zero l =
    let apart : (0 == suc i) ≡ false = grind (arith, nat_tests) in
    rw apart refl
entry_set (x ∷ xs) (suc i) y (suc d) l =
    let same : (suc d == suc i) ≡ (d == i) = grind (arith, nat_tests) in
    rw same (entry_set xs i y d (omega arith))

-- the neighbour was heard to say this for the destination, and is as it was otherwise
pub record IsAfter {L S : Type 0} (n m : Listened L S) (dest : ℕ) (route : Option (Known S)) : Type 0 where
  pub arc : m.arc ≡ n.arc
  pub label : m.label ≡ n.label
  pub heard : m.heard ≡ set n.heard dest route
  pub inside : dest < length n.heard

module _ {L S : Type 0} (stands_for : L → PureLabel → Type 0) (is_sig : S → Type 0) (value : S → PureValue) (net : PureNet) where
  -- neighbours of which one was replaced are neighbours
  pub neighbours_set : (arcs : List PureArc) (ns : List (Listened L S)) (k : ℕ) (a : PureArc) (m : Listened L S) → AreNeighbours stands_for is_sig value net arcs ns
      → slice_get arcs k ≡ Some a → IsNeighbour stands_for is_sig value net a m → AreNeighbours stands_for is_sig value net arcs (set ns k m)
  neighbours_set [] [] k a m are e is = absurd (cc)
  neighbours_set [] (x ∷ ns) k a m are e is = absurd are
  neighbours_set (b ∷ arcs) [] k a m are e is = absurd are
  neighbours_set (b ∷ arcs) (x ∷ ns) zero a m are e is =
      let same : b ≡ a = cc in
      (subst (λ z. IsNeighbour stands_for is_sig value net z m) (sym same) is, are.1)
  neighbours_set (b ∷ arcs) (x ∷ ns) (suc k) a m are e is = (are.0, neighbours_set arcs ns k a m are.1 e is)

  -- and what is heard of them
  pub heard_set : (arcs : List PureArc) (ns : List (Listened L S)) (k : ℕ) (a : PureArc) (m : Listened L S) → AreNeighbours stands_for is_sig value net arcs ns
      → AreDistinct (λ (x y : PureArc). x.id == y.id) arcs → slice_get arcs k ≡ Some a → m.arc.0 ≡ a.id
      → (b d : ℕ) → heard_by value (set ns k m) b d ≡ cond (b == a.id) (option_map (known_route value) (entry_of m.heard d)) (heard_by value ns b d)
  heard_set [] ns k a m are apart e number b d = absurd (cc)
  heard_set (y ∷ arcs) [] k a m are apart e number b d = absurd are
  heard_set (y ∷ arcs) (x ∷ ns) zero a m are apart e number b d = by (b == a.id) refl
    where
      same : x.arc.0 ≡ a.id
      same = are.0.arc ∙ (let one : y ≡ a = cc in ap (λ (z : PureArc). z.id) one)

      by : (t : Bool) → (b == a.id) ≡ t → heard_by value (m ∷ ns) b d ≡ cond t (option_map (known_route value) (entry_of m.heard d)) (heard_by value (x ∷ ns) b d)
      by true g =
          let here : (m.arc.0 == b) ≡ true = grind (arith, nat_tests) in
          rw here refl
      by false g =
          let here : (m.arc.0 == b) ≡ false = grind (arith, nat_tests) in
          let was : (x.arc.0 == b) ≡ false = grind (arith, nat_tests) in
          rw (here, was) refl
  heard_set (y ∷ arcs) (x ∷ ns) (suc k) a m are apart e number b d = by (x.arc.0 == b) refl (heard_set arcs ns k a m are.1 apart.1 e number b d)
    where
      other : (y.id == a.id) ≡ false
      other = of_all (λ (z : PureArc). (y.id == z.id) ≡ false) arcs a apart.0 (item_at arcs k a e)

      first : x.arc.0 ≡ y.id
      first = are.0.arc

      by : (t : Bool) → (x.arc.0 == b) ≡ t → heard_by value (set ns k m) b d ≡ cond (b == a.id) (option_map (known_route value) (entry_of m.heard d)) (heard_by value ns b d)
          → heard_by value (x ∷ set ns k m) b d ≡ cond (b == a.id) (option_map (known_route value) (entry_of m.heard d)) (heard_by value (x ∷ ns) b d)
      by true g more =
          let here : (b == a.id) ≡ false = (let apart_ids = other in let same = first in grind (arith, nat_tests)) in
          rw (g, here) refl
      by false g more = rw g more

  -- the neighbour that heard one route is a neighbour
  module _ (a : PureArc) (n m : Listened L S) (dest : ℕ) (route : Option (Known S)) (old : IsNeighbour stands_for is_sig value net a n) (is : IsAfter n m dest route)
      (fit : (x : Known S) → route ≡ Some x → is_sig x.sig × (may_be_of net a.head (known_route value x) ≡ true))
    where
      known_now : (d : ℕ) (y : Known S) → entry_of m.heard d ≡ Some y → is_sig y.sig × (may_be_of net a.head (known_route value y) ≡ true)
      known_now d y g = by (d == dest) (sym (ap (λ z. entry_of z d) is.heard ∙ entry_set n.heard dest route d is.inside) ∙ g)
        where
          by : (t : Bool) → cond t route (entry_of n.heard d) ≡ Some y → is_sig y.sig × (may_be_of net a.head (known_route value y) ≡ true)
          by true h = fit y h
          by false h = old.known d y h

      pub neighbour_now : IsNeighbour stands_for is_sig value net a m
      neighbour_now = record {
        arc = ap (λ z. z.0) is.arc ∙ old.arc;
        label = subst (λ z. stands_for z a.label) (sym is.label) old.label;
        count = ap length is.heard ∙ (set_length n.heard dest route ∙ old.count);
        known = known_now;
      }

  -- neighbours of which one heard a route that may be its own are neighbours
  pub neighbours_after : (arcs : List PureArc) (ns : List (Listened L S)) (k : ℕ) (a : PureArc) (n m : Listened L S) (dest : ℕ) (route : Option (Known S)) → AreNeighbours stands_for is_sig value net arcs ns
      → slice_get arcs k ≡ Some a → IsNeighbour stands_for is_sig value net a n → IsAfter n m dest route → ((x : Known S) → route ≡ Some x → is_sig x.sig × (may_be_of net a.head (known_route value x) ≡ true))
      → AreNeighbours stands_for is_sig value net arcs (set ns k m)
  neighbours_after arcs ns k a n m dest route are e old is fit = neighbours_set arcs ns k a m are e (neighbour_now a n m dest route old is fit)

  -- and what they were heard to say
  heard_at_once : (arcs : List PureArc) (ns : List (Listened L S)) (k : ℕ) (a : PureArc) (n m : Listened L S) (dest : ℕ) (route : Option (Known S)) → AreNeighbours stands_for is_sig value net arcs ns
      → AreDistinct (λ (x y : PureArc). x.id == y.id) arcs → slice_get arcs k ≡ Some a → slice_get ns k ≡ Some n → n.arc.0 ≡ a.id → IsAfter n m dest route
      → (b d : ℕ) → heard_by value (set ns k m) b d ≡ cond (b == a.id && d == dest) (option_map (known_route value) route) (heard_by value ns b d)
  heard_at_once arcs ns k a n m dest route are apart e f number is b d =
      heard_set arcs ns k a m are apart e number_now b d ∙ by (b == a.id) (d == dest) refl refl
    where
      number_now : m.arc.0 ≡ a.id
      number_now = ap (λ z. z.0) is.arc ∙ number

      entry : entry_of m.heard d ≡ cond (d == dest) route (entry_of n.heard d)
      entry = ap (λ z. entry_of z d) is.heard ∙ entry_set n.heard dest route d is.inside

      by : (s t : Bool) → (b == a.id) ≡ s → (d == dest) ≡ t → cond s (option_map (known_route value) (entry_of m.heard d)) (heard_by value ns b d)
          ≡ cond (s && t) (option_map (known_route value) route) (heard_by value ns b d)
      by false t g h = refl
      by true true g h =
          let said : entry_of m.heard d ≡ route = entry ∙ rw h refl in
          ap (option_map (known_route value)) said
      by true false g h =
          let place : b ≡ a.id = grind (arith, nat_tests) in
          let said : entry_of m.heard d ≡ entry_of n.heard d = entry ∙ rw h refl in
          let was : heard_by value ns b d ≡ option_map (known_route value) (entry_of n.heard d) = rw (place, neighbour_found stands_for is_sig value net arcs ns k a n are apart e f) refl in
          ap (option_map (known_route value)) said ∙ sym was

  pub heard_after : (arcs : List PureArc) (ns : List (Listened L S)) (k : ℕ) (a : PureArc) (n m : Listened L S) (dest : ℕ) (route : Option (Known S)) → AreNeighbours stands_for is_sig value net arcs ns
      → AreDistinct (λ (x y : PureArc). x.id == y.id) arcs → slice_get arcs k ≡ Some a → slice_get ns k ≡ Some n → n.arc.0 ≡ a.id → IsAfter n m dest route
      → heard_by value (set ns k m) ≡ λ b d. cond (b == a.id && d == dest) (option_map (known_route value) route) (heard_by value ns b d)
  heard_after arcs ns k a n m dest route are apart e f number is = fun_ext (λ b. fun_ext (λ d. heard_at_once arcs ns k a n m dest route are apart e f number is b d))

-- ---- the neighbour at the place of an arc

module _ {L S : Type 0} (stands_for : L → PureLabel → Type 0) (is_sig : S → Type 0) (value : S → PureValue) (net : PureNet) (i : ℕ) (n : IsNet net) (ns : List (Listened L S))
    (are : AreNeighbours stands_for is_sig value net (arcs_from net i) ns) (b k dest : ℕ) (a : PureArc) (stands : slice_get net.arcs b ≡ Some a) (tail : a.tail ≡ i)
    (at : IfSome (slice_get net.arcs b) (λ (x : PureArc). slice_get (arcs_from net x.tail) k ≡ Some x)) (inside : dest < length net.dests)
  where
    placed : slice_get (arcs_from net i) k ≡ Some a
    placed = subst (λ z. slice_get (arcs_from net z) k ≡ Some a) tail (subst (λ z. IfSome z (λ (x : PureArc). slice_get (arcs_from net x.tail) k ≡ Some x)) stands at)

    -- the neighbour, and that it has a place for the destination
    pub neighbour_there : (m : Listened L S) × (slice_get ns k ≡ Some m) × (dest < length m.heard)
    neighbour_there =
        let few : k < length ns = subst (λ z. k < z) (as_many stands_for is_sig value net (arcs_from net i) ns are) (slice_get_within (arcs_from net i) k a placed) in
        let there = item_there ns k few in
        let is = neighbour_at stands_for is_sig value net (arcs_from net i) ns k there.0 are there.1 in
        (there.0, there.1, subst (λ z. dest < z) (sym is.2.count) inside)

    -- the neighbour at the place is the arc's
    pub neighbour_is : (m : Listened L S) → slice_get ns k ≡ Some m → IsNeighbour stands_for is_sig value net a m
    neighbour_is m e =
        let is = neighbour_at stands_for is_sig value net (arcs_from net i) ns k m are e in
        let same : is.0 ≡ a = (let f = sym is.1 ∙ placed in cc) in
        subst (λ z. IsNeighbour stands_for is_sig value net z m) same is.2

    same_neighbour : IsNeighbour stands_for is_sig value net a neighbour_there.0
    same_neighbour = neighbour_is neighbour_there.0 neighbour_there.1

    -- and what was heard on the arc is what it was heard to say
    pub heard_there : (m : Listened L S) → slice_get ns k ≡ Some m → heard_by value ns a.id dest ≡ option_map (known_route value) (entry_of m.heard dest)
    heard_there m e =
        let found = neighbour_found stands_for is_sig value net (arcs_from net i) ns k a m are (ids_from_apart net i n.arc_ids) placed e in
        rw found refl

    pub number : a.id ≡ b
    number = id_is_place 0 b net.arcs a n.arc_ids stands ∙ (let e : 0 + b ≡ b = omega arith in e)

    module _ (route earlier : Option (Known S)) (new : List (Listened L S)) (has : HasHeard dest route earlier ns k neighbour_there.0 new) where
      after : IsAfter neighbour_there.0 has.now dest route
      after = record { arc = has.arc; label = has.label; heard = has.heard; inside = neighbour_there.2 }

      pub still_neighbours : ((x : Known S) → route ≡ Some x → is_sig x.sig × (may_be_of net a.head (known_route value x) ≡ true)) → AreNeighbours stands_for is_sig value net (arcs_from net i) new
      still_neighbours fit = subst (AreNeighbours stands_for is_sig value net (arcs_from net i)) (sym has.at)
          (neighbours_after stands_for is_sig value net (arcs_from net i) ns k a neighbour_there.0 has.now dest route are placed same_neighbour after fit)

      pub heard_now : heard_by value new ≡ λ c d. cond (c == b && d == dest) (option_map (known_route value) route) (heard_by value ns c d)
      heard_now = ap (heard_by value) has.at
          ∙ (heard_after stands_for is_sig value net (arcs_from net i) ns k a neighbour_there.0 has.now dest route are (ids_from_apart net i n.arc_ids) placed neighbour_there.1 same_neighbour.arc after
          ∙ ap (λ z. λ c d. cond (c == z && d == dest) (option_map (known_route value) route) (heard_by value ns c d)) number)

      -- what was heard there before may be the speaker's, and is what the neighbours were heard to say
      pub earlier_fits : (x : Known S) → earlier ≡ Some x → is_sig x.sig × (may_be_of net a.head (known_route value x) ≡ true)
      earlier_fits x e = same_neighbour.known dest x (has.was ∙ e)

      pub earlier_is : heard_by value ns b dest ≡ option_map (known_route value) earlier
      earlier_is =
          let found = neighbour_found stands_for is_sig value net (arcs_from net i) ns k a neighbour_there.0 are (ids_from_apart net i n.arc_ids) placed neighbour_there.1 in
          subst (λ z. heard_by value ns z dest ≡ option_map (known_route value) earlier) number (rw found (ap (option_map (known_route value)) has.was))

-- what is replaced and put back is as it was
pub put_back : (f g h : ℕ → ℕ → Option PureRoute) (b dest : ℕ) (x y : Option PureRoute) → g ≡ (λ c d. cond (c == b && d == dest) x (f c d)) → h ≡ (λ c d. cond (c == b && d == dest) y (g c d)) → f b dest ≡ y → h ≡ f
put_back f g h b dest x y e k same = k ∙ fun_ext (λ c. fun_ext (λ d. by c d (c == b) (d == dest) refl refl))
  where
    by : (c d : ℕ) (s t : Bool) → (c == b) ≡ s → (d == dest) ≡ t → cond (c == b && d == dest) y (g c d) ≡ f c d
    by c d true true p q =
        let one : c ≡ b = grind (arith, nat_tests) in
        let two : d ≡ dest = grind (arith, nat_tests) in
        rw (p, q, one, two) (sym same)
    by c d true false p q = rw (p, q) (ap (λ z. z c d) e ∙ rw (p, q) refl)
    by c d false t p q = rw p (ap (λ z. z c d) e ∙ rw p refl)

-- the route of an update that fits may be the speaker's
pub known_fits : {S : Type 0} (is_sig : S → Type 0) (value : S → PureValue) (net : PureNet) (a : PureArc) (known : Option (Known S)) (route : Option PureRoute) → IfSome known (λ (k : Known S). is_sig k.sig)
    → option_map (known_route value) known ≡ route → ((r : PureRoute) → route ≡ Some r → may_be_of net a.head r ≡ true) → (x : Known S) → known ≡ Some x → is_sig x.sig × (may_be_of net a.head (known_route value x) ≡ true)
known_fits is_sig value net a None route sig e fit x f = absurd (cc)
known_fits is_sig value net a (Some k) route sig e fit x f =
    let same : k ≡ x = cc in
    (subst (λ (z : Known _). is_sig z.sig) same sig, fit (known_route value x) (sym e ∙ ap (λ z. option_map (known_route value) z) f))
