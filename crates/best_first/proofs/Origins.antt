-- The origins of a destination, one after the other.
use Rattle.std.proofs.Common.{◌≡◌, ℕ, ◌+◌, zero, suc, [], ◌∷◌, Option, Some, None, Bool, true, false, ◌==◌, if◌then◌else◌, filter, take, option_map, List, length, refl, arith}
use Rattle.std.specs.List.{find, slice_get, AllByRecursion}
use Rattle.std.proofs.Math.Seq.{take-length}
use Rattle.std.proofs.lemmas.Bool.Decides.{nat_tests}
use Rattle.net_graph.specs.Nets.{PureNet, PureOrigin, IsNet, AreDistinct, stands_same, origins_of}
use Rattle.net_graph.specs.Routes.{PureRoute}
use Rattle.net_graph.specs.Tables.{carrier}
use Rattle.best_first.specs.Found.{own_offer, better_of}
use Rattle.best_first.proofs.Places.{own-first}

-- what the first m of the destination's origins offer to node k
abbrev pub own_so_far : PureNet → ℕ → ℕ → ℕ → Option PureRoute
own_so_far net dest m k = option_map (λ (o : PureOrigin). record { value = o.value; path = k ∷ [] }) (find (λ (o : PureOrigin). o.node == k) (take m (origins_of net dest)))

pub own_all : (net : PureNet) (dest m k : ℕ) → m ≡ length (origins_of net dest) → own_so_far net dest m k ≡ own_offer net dest k
own_all net dest m k e = rw (e, take-length (origins_of net dest)) (own-first net dest k)

-- the origins that stand at this node are apart from an earlier one
apart_in : (o : PureOrigin) (xs : List PureOrigin) (dest : ℕ) → o.dest ≡ dest → AllByRecursion (λ y. stands_same o y ≡ false) xs
    → AllByRecursion (λ (y : PureOrigin). (o.node == y.node) ≡ false) (filter (λ (y : PureOrigin). y.dest == dest) xs)
apart_in o [] dest e h = tt
apart_in o (x ∷ xs) dest e h = by (apart_in o xs dest e h.1) (x.dest == dest) refl
  where
    by : AllByRecursion (λ (y : PureOrigin). (o.node == y.node) ≡ false) (filter (λ (y : PureOrigin). y.dest == dest) xs) → (b : Bool) → (x.dest == dest) ≡ b
        → AllByRecursion (λ (y : PureOrigin). (o.node == y.node) ≡ false) (filter (λ (y : PureOrigin). y.dest == dest) (x ∷ xs))
    by rest true f =
        let same : (o.dest == x.dest) ≡ true = grind (arith, nat_tests) in
        rw f (rw same at h.0, rest)
    by rest false f = rw f rest

-- no two of them stand at one node
origins_apart : (xs : List PureOrigin) (dest : ℕ) → AreDistinct stands_same xs → AreDistinct (λ (o p : PureOrigin). o.node == p.node) (filter (λ (y : PureOrigin). y.dest == dest) xs)
origins_apart [] dest h = tt
origins_apart (x ∷ xs) dest h = by (origins_apart xs dest h.1) (x.dest == dest) refl
  where
    by : AreDistinct (λ (o p : PureOrigin). o.node == p.node) (filter (λ (y : PureOrigin). y.dest == dest) xs) → (b : Bool) → (x.dest == dest) ≡ b
        → AreDistinct (λ (o p : PureOrigin). o.node == p.node) (filter (λ (y : PureOrigin). y.dest == dest) (x ∷ xs))
    by rest true f =
        let is : x.dest ≡ dest = grind (arith, nat_tests) in
        rw f (apart_in x xs dest is h.0, rest)
    by rest false f = rw f rest

-- one more among those that are apart: nothing was found before
none_before : (xs : List PureOrigin) (m : ℕ) (o : PureOrigin) → AreDistinct (λ (o p : PureOrigin). o.node == p.node) xs → slice_get xs m ≡ Some o
    → find (λ (p : PureOrigin). p.node == o.node) (take m xs) ≡ None
none_before xs zero o h e = none_taken xs
  where
    none_taken : (xs : List PureOrigin) → find (λ (p : PureOrigin). p.node == o.node) (take 0 xs) ≡ None
    none_taken [] = refl
    none_taken (x ∷ xs) = refl
none_before [] (suc m) o h e = absurd (cc)
none_before (x ∷ xs) (suc m) o h e =
    let differs : (x.node == o.node) ≡ false = all_apart xs m h.0 e in
    rw differs (none_before xs m o h.1 e)
  where
    all_apart : (ys : List PureOrigin) (m : ℕ) → AllByRecursion (λ (y : PureOrigin). (x.node == y.node) ≡ false) ys → slice_get ys m ≡ Some o → (x.node == o.node) ≡ false
    all_apart [] m h e = absurd (cc)
    all_apart (y ∷ ys) zero h e = let same : y ≡ o = cc in rw same at h.0
    all_apart (y ∷ ys) (suc m) h e = all_apart ys m h.1 e

find_more : (xs : List PureOrigin) (m k : ℕ) (o : PureOrigin) → slice_get xs m ≡ Some o → find (λ (p : PureOrigin). p.node == k) (take m xs) ≡ None
    → find (λ (p : PureOrigin). p.node == k) (take (suc m) xs) ≡ (if o.node == k then Some o else None)
find_more [] m k o e n = absurd (cc)
find_more (x ∷ xs) zero k o e n = let same : x ≡ o = cc in rw same (by xs (o.node == k))
  where
    by : (ys : List PureOrigin) (b : Bool) → (if b then Some o else find (λ (p : PureOrigin). p.node == k) (take 0 ys)) ≡ (if b then Some o else None)
    by ys true = refl
    by [] false = refl
    by (y ∷ ys) false = refl
find_more (x ∷ xs) (suc m) k o e n = by (λ f. find_more xs m k o e f) (x.node == k) refl
  where
    by : (find (λ (p : PureOrigin). p.node == k) (take m xs) ≡ None → find (λ (p : PureOrigin). p.node == k) (take (suc m) xs) ≡ (if o.node == k then Some o else None))
        → (b : Bool) → (x.node == k) ≡ b → find (λ (p : PureOrigin). p.node == k) (take (suc (suc m)) (x ∷ xs)) ≡ (if o.node == k then Some o else None)
    by rest true f = absurd (let g : Some x ≡ None = rw f at n in cc)
    by rest false f = rw f (rest (rw f at n))

kept_more : (xs : List PureOrigin) (m k : ℕ) (o : PureOrigin) → slice_get xs m ≡ Some o → (o.node == k) ≡ false
    → find (λ (p : PureOrigin). p.node == k) (take (suc m) xs) ≡ find (λ (p : PureOrigin). p.node == k) (take m xs)
kept_more [] m k o e n = absurd (cc)
kept_more (x ∷ xs) zero k o e n = let same : x ≡ o = cc in rw (same, n) (by xs)
  where
    by : (ys : List PureOrigin) → find (λ (p : PureOrigin). p.node == k) (take 0 ys) ≡ None
    by [] = refl
    by (y ∷ ys) = refl
kept_more (x ∷ xs) (suc m) k o e n = by (kept_more xs m k o e n) (x.node == k) refl
  where
    by : find (λ (p : PureOrigin). p.node == k) (take (suc m) xs) ≡ find (λ (p : PureOrigin). p.node == k) (take m xs) → (b : Bool) → (x.node == k) ≡ b → find (λ (p : PureOrigin). p.node == k) (take (suc (suc m)) (x ∷ xs)) ≡ find (λ (p : PureOrigin). p.node == k) (take (suc m) (x ∷ xs))
    by rest true f = rw f refl
    by rest false f = rw f rest

-- the next origin's offer is the better of none and itself
pub own_more : (net : PureNet) → IsNet net → (dest m k : ℕ) (o : PureOrigin) → slice_get (origins_of net dest) m ≡ Some o
    → own_so_far net dest (m + 1) k ≡ (if k == o.node then better_of (carrier net) (own_so_far net dest m k) (Some (record { value = o.value; path = o.node ∷ [] })) else own_so_far net dest m k)
own_more net n dest m k o e =
    let more : m + 1 ≡ suc m = omega arith in
    rw more (by (k == o.node) refl)
  where
    by : (b : Bool) → (k == o.node) ≡ b → own_so_far net dest (suc m) k
        ≡ (if b then better_of (carrier net) (own_so_far net dest m k) (Some (record { value = o.value; path = o.node ∷ [] })) else own_so_far net dest m k)
    by true f =
        let same : k ≡ o.node = grind (arith, nat_tests) in
        let itself : (o.node == o.node) ≡ true = grind (arith, nat_tests) in
        let before = none_before (origins_of net dest) m o (origins_apart net.origins dest n.origin_apart) e in
        rw (same, find_more (origins_of net dest) m o.node o e before, itself, before) refl
    by false f =
        let differs : (o.node == k) ≡ false = grind (arith, nat_tests) in
        rw (kept_more (origins_of net dest) m k o e differs) refl
