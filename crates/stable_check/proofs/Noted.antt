-- The values of nodes' origins, noted one after the other.
use Rattle.std.proofs.Common.{◌≡◌, ◌≢◌, ℕ, ◌+◌, ◌<◌, zero, suc, List, [], ◌∷◌, Option, Some, None, Bool, true, false, ◌==◌, cond, take, replicate, length, get_or, option_map, option_and_then, refl, sym, ap, ◌∙◌, arith}
use Rattle.std.specs.List.{slice_get, find}
use Rattle.std.specs.Option.{option_or}
use Rattle.std.proofs.Math.ListN.{set}
use Rattle.std.proofs.Math.Seq.{take-length}
use Rattle.std.proofs.lemmas.Bool.Decides.{nat_tests}
use Rattle.std.proofs.lemmas.Option.{slice_get_read}
use Rattle.net_graph.specs.Nets.{PureOrigin, PureNet, origins_of, origin_value}
use Rattle.net_graph.specs.ArcLaws.{find-filter}
use Rattle.stable_check.specs.Checks.{own_at}

pub own_none : {X : Type 0} (n k : ℕ) → own_at {X = X} (replicate n None) k ≡ None
own_none zero k = refl
own_none (suc n) zero = refl
own_none (suc n) (suc k) = own_none n k

set_same : {X : Type 0} (xs : List (Option X)) (p : ℕ) (x : Option X) → p < length xs → own_at (set xs p x) p ≡ x
set_same [] p x l = absurd (omega arith)
set_same (y ∷ xs) zero x l = refl
set_same (y ∷ xs) (suc p) x l = set_same xs p x (omega arith)

set_other : {X : Type 0} (xs : List (Option X)) (p k : ℕ) (x : Option X) → p ≢ k → own_at (set xs p x) k ≡ own_at xs k
set_other [] p k x n = refl
set_other (y ∷ xs) zero zero x n = absurd (n refl)
set_other (y ∷ xs) zero (suc k) x n = refl
set_other (y ∷ xs) (suc p) zero x n = refl
set_other (y ∷ xs) (suc p) (suc k) x n = set_other xs p k x (λ e. n (ap suc e))

or_none : {X : Type 0} (o : Option X) → option_or o None ≡ o
or_none None = refl
or_none (Some x) = refl

find_more : {X : Type 0} (p : X → Bool) (xs : List X) (m : ℕ) (x : X) → slice_get xs m ≡ Some x → find p (take (suc m) xs) ≡ option_or (find p (take m xs)) (cond (p x) (Some x) None)
find_more p [] m x e = absurd (cc)
find_more {X} p (y ∷ ys) zero x e = let same : y ≡ x = cc in rw same (by ys (p x))
  where
    by : (ys : List X) (b : Bool) → cond b (Some x) (find p (take 0 ys)) ≡ cond b (Some x) None
    by [] b = refl
    by (z ∷ zs) b = refl
find_more p (y ∷ ys) (suc m) x e = by (find_more p ys m x e) (p y) refl
  where
    by : find p (take (suc m) ys) ≡ option_or (find p (take m ys)) (cond (p x) (Some x) None) → (b : Bool) → p y ≡ b → find p (take (suc (suc m)) (y ∷ ys)) ≡ option_or (find p (take (suc m) (y ∷ ys))) (cond (p x) (Some x) None)
    by rest true h = rw h refl
    by rest false h = rw h rest

-- with the next origin too each node has the first that stands at it
pub own_more : {X O V : Type 0} (view : X → V) (value : O → V) (node : O → ℕ) (xs : List (Option X)) (os : List O) (m k : ℕ) (o : O) (x : X) (got new : Option X)
    → slice_get os m ≡ Some o → node o < length xs → got ≡ get_or xs (node o) got → new ≡ option_or got (Some x) → view x ≡ value o
    → ((j : ℕ) → option_map view (own_at xs j) ≡ option_map value (find (λ q. node q == j) (take m os)))
    → option_map view (own_at (set xs (node o) new) k) ≡ option_map value (find (λ q. node q == k) (take (m + 1) os))
own_more {X = X} {O = O} {V = V} view value node xs os m k o x got new at within there made same before =
    let more : m + 1 ≡ suc m = omega arith in
    rw (more, find_more (λ q. node q == k) os m o at) (by (node o == k) refl)
  where
    had : own_at xs (node o) ≡ got
    had = ap (option_and_then (λ (y : Option X). y)) (slice_get_read xs (length xs) (node o) got refl within there)

    joined : (a : Option X) (b : Option O) → option_map view a ≡ option_map value b → option_map view (option_or a (Some x)) ≡ option_map value (option_or b (Some o))
    joined None None e = ap Some same
    joined None (Some q) e = absurd (cc)
    joined (Some y) None e = absurd (cc)
    joined (Some y) (Some q) e = e

    by : (b : Bool) → (node o == k) ≡ b → option_map view (own_at (set xs (node o) new) k) ≡ option_map value (option_or (find (λ q. node q == k) (take m os)) (cond b (Some o) None))
    by true h =
        let here : node o ≡ k = grind (arith, nat_tests) in
        let old : option_map view got ≡ option_map value (find (λ q. node q == k) (take m os)) = ap (option_map view) (sym had) ∙ (ap (λ j. option_map view (own_at xs j)) here ∙ before k) in
        let put : own_at (set xs (node o) new) k ≡ option_or got (Some x) = ap (own_at (set xs (node o) new)) (sym here) ∙ (set_same xs (node o) new within ∙ made) in
        ap (option_map view) put ∙ joined got (find (λ q. node q == k) (take m os)) old
    by false h =
        let other : node o ≢ k = grind (arith, nat_tests) in
        rw (or_none (find (λ q. node q == k) (take m os)), set_other xs (node o) k new other) (before k)

-- and with all of them its own
pub own_all : (net : PureNet) (dest k m : ℕ) → m ≡ length (origins_of net dest) → option_map (λ (o : PureOrigin). o.value) (find (λ (o : PureOrigin). o.node == k) (take m (origins_of net dest))) ≡ origin_value net dest k
own_all net dest k m e = rw (e, take-length (origins_of net dest)) (ap (option_map (λ (o : PureOrigin). o.value)) (sym (find-filter (λ (b : PureOrigin). b.dest == dest) (λ (b : PureOrigin). b.node == k) net.origins)))
