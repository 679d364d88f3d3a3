-- Where a node's arcs stand, and what stands at their places of what it heard.
use Rattle.std.proofs.Common.{◌≡◌, ◌≢◌, inl, inr, ℕ, zero, suc, ◌+◌, ◌*◌, ◌<◌, ◌≤◌, List, [], ◌∷◌, Bool, true, false, ◌&&◌, ◌==◌, length, filter, cond, slice_get, Option, Some, None, subst, refl, sym, ap, ◌∙◌, arith}
use Rattle.std.specs.Prelude.{option_map, option_and_then}
use Rattle.std.specs.List.{AllByRecursion}
use Rattle.std.proofs.Math.ListN.{set}
use Rattle.std.proofs.Math.Nat.{suc-mul, mul-le-mul_right}
use Rattle.std.proofs.Math.Path.{fun_ext}
use Rattle.std.proofs.lemmas.Bool.{cases_lt, eqb-true}
use Rattle.std.proofs.lemmas.Bool.Decides.{nat_tests}
use Rattle.std.proofs.lemmas.Option.{slice_get_within}
use Rattle.alg_model.specs.Expressions.{PureValue}
use Rattle.net_graph.specs.ArcLaws.{all_at}
use Rattle.net_graph.specs.Nets.{PureArc, PureNet, IsNet, AreNumbered, AreDistinct, arcs_from}
use Rattle.distance_node.specs.Chosen.{entry_of}
use Rattle.distance_node.specs.Node.{heard_with}
use Rattle.distance_node.specs.Places.{place_of, width, heard_in, heard_by, values_in}
use Rattle.distance_node.proofs.Pushing.{entry_mapped, entry_set}

-- ---- places

later_ids : (m n : ℕ) (arcs : List PureArc) (p : PureArc → Bool) → m < n → AreNumbered n arcs → AllByRecursion (λ (b : PureArc). (m == b.id) ≡ false) (filter p arcs)
later_ids m n [] p l are = tt
later_ids m n (a ∷ arcs) p l are =
    let further : m < n + 1 = omega (arith, l) in
    by (p a) (later_ids m (n + 1) arcs p further are.1)
  where
    apart : (m == a.id) ≡ false
    apart = let same = are.0 in grind (arith, nat_tests)

    by : (b : Bool) → AllByRecursion (λ (b : PureArc). (m == b.id) ≡ false) (filter p arcs)
        → AllByRecursion (λ (b : PureArc). (m == b.id) ≡ false) (cond b (a ∷ filter p arcs) (filter p arcs))
    by true more = (apart, more)
    by false more = more

ids_apart : (n : ℕ) (arcs : List PureArc) (p : PureArc → Bool) → AreNumbered n arcs → AreDistinct (λ (a b : PureArc). a.id == b.id) (filter p arcs)
ids_apart n [] p are = tt
ids_apart n (a ∷ arcs) p are = by (p a) (ids_apart (n + 1) arcs p are.1)
  where
    later : AllByRecursion (λ (b : PureArc). (a.id == b.id) ≡ false) (filter p arcs)
    later = later_ids a.id (n + 1) arcs p (let same = are.0 in omega (arith, same)) are.1

    by : (b : Bool) → AreDistinct (λ (a b : PureArc). a.id == b.id) (filter p arcs)
        → AreDistinct (λ (a b : PureArc). a.id == b.id) (cond b (a ∷ filter p arcs) (filter p arcs))
    by true more = (later, more)
    by false more = more

place_in : (arcs : List PureArc) (k : ℕ) (a : PureArc) → AreDistinct (λ (a b : PureArc). a.id == b.id) arcs → slice_get arcs k ≡ Some a → place_of a.id arcs ≡ Some k
place_in [] k a d e = absurd (cc)
place_in (b ∷ arcs) zero a d e =
    let same : b ≡ a = cc in
    let test : (a.id == a.id) ≡ true = grind (arith, nat_tests) in
    rw (same, test) refl
place_in (b ∷ arcs) (suc k) a d e =
    let apart : (b.id == a.id) ≡ false = all_at (λ (x : PureArc). (b.id == x.id) ≡ false) arcs k a d.0 e in
    rw (apart, place_in arcs k a d.1 e) refl

-- the arc at a place has that place
pub place_at : (net : PureNet) → IsNet net → (i k : ℕ) (a : PureArc) → slice_get (arcs_from net i) k ≡ Some a → place_of a.id (arcs_from net i) ≡ Some k
place_at net n i k a e = place_in (arcs_from net i) k a (ids_apart 0 net.arcs (λ (b : PureArc). b.tail == i) n.arc_ids) e

-- and the place of an arc is where it stands
pub place_is : (arcs : List PureArc) (b k : ℕ) → place_of b arcs ≡ Some k → (a : PureArc) × (slice_get arcs k ≡ Some a) × (a.id ≡ b)
place_is [] b k e = absurd (cc)
place_is (a ∷ arcs) b k e = by (λ j. place_is arcs b j) (a.id == b) refl (place_of b arcs) refl e
  where
    by : ((j : ℕ) → place_of b arcs ≡ Some j → (x : PureArc) × (slice_get arcs j ≡ Some x) × (x.id ≡ b)) → (t : Bool) → (a.id == b) ≡ t → (o : Option ℕ) → place_of b arcs ≡ o → cond t (Some 0) (option_map (λ j. suc j) o) ≡ Some k → (x : PureArc) × (slice_get (a ∷ arcs) k ≡ Some x) × (x.id ≡ b)
    by rest true f o g h =
        let first : k ≡ 0 = cc in
        (a, rw first refl, eqb-true a.id b f)
    by rest false f None g h = absurd (cc)
    by rest false f (Some j) g h =
        let next : k ≡ suc j = cc in
        let more = rest j g in
        (more.0, rw next more.1, more.2)

pub place_within : (arcs : List PureArc) (b k : ℕ) → place_of b arcs ≡ Some k → k < length arcs
place_within arcs b k e = let is = place_is arcs b k e in slice_get_within arcs k is.0 is.1

equal : (x y : ℕ) → x ≡ y → (x == y) ≡ true
equal x y e = grind (arith, nat_tests)

unequal : (x y : ℕ) → x ≢ y → (x == y) ≡ false
unequal x y e = grind (arith, nat_tests)

-- ---- rows of entries

-- an entry of a row is within the list
pub within : (dests w dest k : ℕ) → dest < dests → k < w → dest * w + k < dests * w
within dests w dest k r p =
    let up_to : suc dest * w ≤ dests * w = mul-le-mul_right w (omega (arith, r)) in
    omega (arith, suc-mul dest w, up_to, p)

lower_row : (w a b j k : ℕ) → a < b → j < w → a * w + j < b * w + k
lower_row w a b j k l p =
    let up_to : suc a * w ≤ b * w = mul-le-mul_right w (omega (arith, l)) in
    omega (arith, suc-mul a w, up_to, p)

-- entries at one place are one
pub same_entry : (w a b j k : ℕ) → j < w → k < w → a * w + j ≡ b * w + k → (a ≡ b) × (j ≡ k)
same_entry w a b j k p q e = elim (cases_lt a b) [
  | inl l ↦ absurd (let m = lower_row w a b j k l p in omega (arith, m, e))
  | inr l ↦ elim (cases_lt b a) [
    | inl m ↦ absurd (let n = lower_row w b a k j m q in omega (arith, n, e))
    | inr m ↦
        let same : a ≡ b = omega (arith, l, m) in
        (same, (let f : b * w + j ≡ b * w + k = subst (λ z. z * w + j ≡ b * w + k) same e in omega (arith, f)))
  ]
]

-- what was heard on the arc at a place
pub heard_at : {X : Type 0} (net : PureNet) → IsNet net → (i k : ℕ) (a : PureArc) (entries : List (Option X)) (dest : ℕ) → slice_get (arcs_from net i) k ≡ Some a → heard_in net i entries a.id dest ≡ entry_of entries (dest * width net i + k)
heard_at net n i k a entries dest e = ap (option_and_then (λ j. entry_of entries (dest * width net i + j))) (place_at net n i k a e)

pub heard_value : {S : Type 0} (value : S → PureValue) (net : PureNet) → IsNet net → (i k : ℕ) (a : PureArc) (entries : List (Option S)) (dest : ℕ) → slice_get (arcs_from net i) k ≡ Some a
    → heard_by value net i entries a.id dest ≡ option_map value (entry_of entries (dest * width net i + k))
heard_value value net n i k a entries dest e = heard_at net n i k a (values_in value entries) dest e ∙ entry_mapped value entries (dest * width net i + k)

-- what was heard is heard again as values
pub heard_values : {S : Type 0} (value : S → PureValue) (net : PureNet) (i : ℕ) (entries : List (Option S)) (a dest : ℕ) → heard_by value net i entries a dest ≡ option_map value (heard_in net i entries a dest)
heard_values value net i entries a dest = by (place_of a (arcs_from net i))
  where
    by : (o : Option ℕ) → option_and_then (λ j. entry_of (values_in value entries) (dest * width net i + j)) o ≡ option_map value (option_and_then (λ j. entry_of entries (dest * width net i + j)) o)
    by None = refl
    by (Some j) = entry_mapped value entries (dest * width net i + j)

-- what was heard, once an entry was replaced
pub heard_set : {S : Type 0} (value : S → PureValue) (net : PureNet) → IsNet net → (i k : ℕ) (a : PureArc) (entries : List (Option S)) (dests dest : ℕ) (reported : Option S) → slice_get (arcs_from net i) k ≡ Some a
    → length entries ≡ dests * width net i → dest < dests
    → heard_by value net i (set entries (dest * width net i + k) reported) ≡ heard_with (heard_by value net i entries) a.id dest (option_map value reported)
heard_set {S} value net n i k a entries dests dest reported e count below = fun_ext (λ b. fun_ext (λ d. at b d))
  where
    here : k < width net i
    here = slice_get_within (arcs_from net i) k a e

    inside : dest * width net i + k < length entries
    inside = subst (λ z. dest * width net i + k < z) (sym count) (within dests (width net i) dest k below here)

    at : (b d : ℕ) → heard_by value net i (set entries (dest * width net i + k) reported) b d ≡ heard_with (heard_by value net i entries) a.id dest (option_map value reported) b d
    at b d = by (place_of b (arcs_from net i)) refl
      where
        by : (o : Option ℕ) → place_of b (arcs_from net i) ≡ o
            → option_and_then (λ j. entry_of (values_in value (set entries (dest * width net i + k) reported)) (d * width net i + j)) o
            ≡ cond (b == a.id && d == dest) (option_map value reported) (option_and_then (λ j. entry_of (values_in value entries) (d * width net i + j)) o)
        by None f = either (b == a.id) refl
          where
            either : (t : Bool) → (b == a.id) ≡ t → None ≡ cond (t && d == dest) (option_map value reported) None
            either true g = absurd (let h : None ≡ Some k = sym f ∙ (ap (λ z. place_of z (arcs_from net i)) (eqb-true b a.id g) ∙ place_at net n i k a e) in cc)
            either false g = refl
        by (Some j) f =
            entry_mapped value (set entries (dest * width net i + k) reported) (d * width net i + j)
            ∙ (ap (option_map value) (entry_set entries (dest * width net i + k) reported (d * width net i + j) inside)
            ∙ (split (d * width net i + j == dest * width net i + k)
            ∙ (ap (λ z. cond z (option_map value reported) (option_map value (entry_of entries (d * width net i + j)))) same_test
            ∙ ap (λ z. cond (b == a.id && d == dest) (option_map value reported) z) (sym (entry_mapped value entries (d * width net i + j))))))
          where
            split : (t : Bool) → option_map value (cond t reported (entry_of entries (d * width net i + j))) ≡ cond t (option_map value reported) (option_map value (entry_of entries (d * width net i + j)))
            split true = refl
            split false = refl

            there : j < width net i
            there = place_within (arcs_from net i) b j f

            same_test : (d * width net i + j == dest * width net i + k) ≡ (b == a.id && d == dest)
            same_test = of (b == a.id) refl (d == dest) refl
              where
                of : (t : Bool) → (b == a.id) ≡ t → (u : Bool) → (d == dest) ≡ u → (d * width net i + j == dest * width net i + k) ≡ (t && u)
                of true g true h =
                    let arc : Some j ≡ Some k = sym f ∙ (ap (λ z. place_of z (arcs_from net i)) (eqb-true b a.id g) ∙ place_at net n i k a e) in
                    let place : j ≡ k = cc in
                    let row : d ≡ dest = eqb-true d dest h in
                    let one : d * width net i + j ≡ dest * width net i + k = ap (λ z. z * width net i + j) row ∙ ap (λ z. dest * width net i + z) place in
                    equal (d * width net i + j) (dest * width net i + k) one
                of true g false h = unequal (d * width net i + j) (dest * width net i + k) (λ one.
                    let row = (same_entry (width net i) d dest j k there here one).0 in
                    let test : (d == dest) ≡ true = equal d dest row in
                    let z : true ≡ false = sym test ∙ h in cc)
                of false g u h = unequal (d * width net i + j) (dest * width net i + k) (λ one.
                    let place = (same_entry (width net i) d dest j k there here one).1 in
                    let is = place_is (arcs_from net i) b j f in
                    let arc : Some is.0 ≡ Some a = sym is.1 ∙ (ap (slice_get (arcs_from net i)) place ∙ e) in
                    let id : b ≡ a.id = sym is.2 ∙ (let same : is.0 ≡ a = cc in ap (λ (x : PureArc). x.id) same) in
                    let test : (b == a.id) ≡ true = equal b a.id id in
                    let z : true ≡ false = sym test ∙ g in cc)
