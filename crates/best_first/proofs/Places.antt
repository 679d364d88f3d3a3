-- What stands at a node's place in a list of what is found.
use Rattle.std.proofs.Common.{◌≡◌, ◌≢◌, ℕ, ◌<◌, ◌≤◌, ◌+◌, zero, suc, List, [], ◌∷◌, ◌++◌, Option, Some, None, IfSome, Bool, true, false, ◌==◌, ◌&&◌, if◌then◌else◌, map, option_map, length, get_or, replicate, take, inl, inr, refl, sym, ap, ◌∙◌, arith}
use Rattle.std.specs.List.{find}
use Rattle.std.specs.Option.{is_some}
use Rattle.std.proofs.lemmas.List.{length-map, map-append}
use Rattle.std.proofs.Math.ListN.{set}
use Rattle.std.proofs.lemmas.Bool.{cases_lt}
use Rattle.std.proofs.lemmas.Bool.Decides.{nat_tests}
use Rattle.std.proofs.lemmas.Option.{slice_get-get_or}
use Rattle.alg_model.specs.Expressions.{PureValue}
use Rattle.net_graph.specs.Routes.{PureRoute}
use Rattle.net_graph.specs.Nets.{PureNet, PureOrigin, origins_of}
use Rattle.net_graph.specs.Views.{pure_row}
use Rattle.net_graph.specs.declared.route.RouteRow.{RouteRow}
use Rattle.net_graph.specs.ArcLaws.{find-filter}
use Rattle.best_first.specs.Found.{found_at, AllFound, none_count, own_offer, row_from, rows_from}

pub found-read : {X : Type 0} (xs : List (Option X)) (k : ℕ) (x : Option X) → k < length xs → x ≡ get_or xs k x → found_at xs k ≡ x
found-read xs k x l e = rw (slice_get-get_or xs k x l, ← e) refl

found-set_same : {X : Type 0} (xs : List (Option X)) (k : ℕ) (x : Option X) → k < length xs → found_at (set xs k x) k ≡ x
found-set_same [] k x l = absurd (omega arith)
found-set_same (y ∷ xs) zero x l = refl
found-set_same (y ∷ xs) (suc k) x l = found-set_same xs k x (omega arith)

pub found-set_other : {X : Type 0} (xs : List (Option X)) (i k : ℕ) (x : Option X) → k ≢ i → found_at (set xs i x) k ≡ found_at xs k
found-set_other [] i k x n = refl
found-set_other (y ∷ xs) zero zero x n = absurd (n refl)
found-set_other (y ∷ xs) zero (suc k) x n = refl
found-set_other (y ∷ xs) (suc i) zero x n = refl
found-set_other (y ∷ xs) (suc i) (suc k) x n = found-set_other xs i k x (λ e. n (ap suc e))

-- with one written
pub found-set : {X : Type 0} (xs : List (Option X)) (i k : ℕ) (x : Option X) → i < length xs → found_at (set xs i x) k ≡ (if k == i then x else found_at xs k)
found-set xs i k x l = by (k == i) refl
  where
    by : (b : Bool) → (k == i) ≡ b → found_at (set xs i x) k ≡ (if k == i then x else found_at xs k)
    by true h =
        let e : k ≡ i = grind (arith, nat_tests) in
        rw h (rw e (found-set_same xs i x l))
    by false h =
        let n : k ≢ i = grind (arith, nat_tests) in
        rw h (found-set_other xs i k x n)

-- where nothing was found, nothing is when one place is emptied
pub found-cleared : {X : Type 0} (xs : List (Option X)) (i k : ℕ) → i < length xs → found_at xs k ≡ None → found_at (set xs i None) k ≡ None
found-cleared {X} xs i k l h = rw (found-set xs i k None l) (by (k == i) (found_at xs k) h)
  where
    by : (b : Bool) (o : Option X) → o ≡ None → (if b then None else o) ≡ None
    by true o e = refl
    by false o e = e

pub all-set : {X : Type 0} (P : X → Type 0) (xs : List (Option X)) (i : ℕ) (x : Option X) → i < length xs → AllFound P xs → IfSome x P → AllFound P (set xs i x)
all-set P xs i x l h s k = rw (found-set xs i k x l) (by (k == i))
  where
    by : (b : Bool) → IfSome (if b then x else found_at xs k) P
    by true = s
    by false = h k

pub all-none : {X : Type 0} (P : X → Type 0) (xs : List (Option X)) → ((k : ℕ) → found_at xs k ≡ None) → AllFound P xs
all-none P xs h k = rw (h k) tt

pub found-none : {X : Type 0} (n k : ℕ) → found_at {X = X} (replicate n None) k ≡ None
found-none zero k = refl
found-none (suc n) zero = refl
found-none (suc n) (suc k) = found-none n k

-- the front of a list with what was found at the next place
pub found_next : {X : Type 0} (xs : List (Option X)) (k : ℕ) → k < length xs → take (suc k) xs ≡ take k xs ++ found_at xs k ∷ []
found_next [] k l = absurd (omega arith)
found_next (x ∷ xs) zero l = refl
found_next (x ∷ xs) (suc k) l = ap (λ ys. x ∷ ys) (found_next xs k (omega arith))

pub found_past : {X : Type 0} (xs : List (Option X)) (k : ℕ) → length xs ≤ k → found_at xs k ≡ None
found_past [] k l = refl
found_past (y ∷ xs) zero l = absurd (omega arith)
found_past (y ∷ xs) (suc k) l = found_past xs k (omega arith)

pub found_within : {X : Type 0} (xs : List (Option X)) (k : ℕ) (x : X) → found_at xs k ≡ Some x → k < length xs
found_within xs k x e = elim (cases_lt k (length xs)) [
  | inl below ↦ below
  | inr past ↦ absurd (let n = found_past xs k past in cc)
]

pub all-found : {X : Type 0} (P : X → Type 0) (xs : List (Option X)) (k : ℕ) (x : X) → AllFound P xs → found_at xs k ≡ Some x → P x
all-found P xs k x h e = rw e at (h k)

pub mapped_none : {X Y : Type 0} (f : X → Y) (o : Option X) → is_some o ≡ false → option_map f o ≡ None
mapped_none f None e = refl
mapped_none f (Some x) e = absurd (cc)

pub mapped_some : {X Y : Type 0} (f : X → Y) (o : Option X) → is_some o ≡ true → is_some (option_map f o) ≡ true
mapped_some f None e = absurd (cc)
mapped_some f (Some x) e = refl

-- what was mapped to none was none, and to something was something
pub from_none : {X Y : Type 0} (f : X → Y) (o : Option X) → option_map f o ≡ None → o ≡ None
from_none f None e = refl
from_none f (Some x) e = absurd (cc)

pub from_some : {X Y : Type 0} (f : X → Y) (o : Option X) (y : Y) → option_map f o ≡ Some y → (x : X) × (o ≡ Some x) × (y ≡ f x)
from_some f None y e = absurd (cc)
from_some f (Some x) y e = (x, refl, (let g : f x ≡ y = cc in sym g))

pub none_count-map : {X Y : Type 0} (f : X → Y) (xs : List (Option X)) → none_count (map (option_map f) xs) ≡ none_count xs
none_count-map f [] = refl
none_count-map f (None ∷ xs) = ap (λ n. n + 1) (none_count-map f xs)
none_count-map f (Some x ∷ xs) = none_count-map f xs

pub none_count-set : {X : Type 0} (xs : List (Option X)) (i : ℕ) (x : X) → i < length xs → found_at xs i ≡ None → none_count (set xs i (Some x)) + 1 ≡ none_count xs
none_count-set [] i x l e = absurd (omega arith)
none_count-set (None ∷ xs) zero x l e = refl
none_count-set (Some y ∷ xs) zero x l e = absurd (cc)
none_count-set (None ∷ xs) (suc i) x l e = let h = none_count-set xs i x (omega arith) e in omega arith
none_count-set (Some y ∷ xs) (suc i) x l e = none_count-set xs i x (omega arith) e

pub none_count-none : (X : Type 0) (n : ℕ) → none_count {X = X} (replicate n None) ≡ n
none_count-none X zero = refl
none_count-none X (suc n) = let h = none_count-none X n in omega arith

-- a node's own offer, by its origin among those of the destination
pub own-first : (net : PureNet) (dest node : ℕ) → option_map (λ (o : PureOrigin). record { value = o.value; path = node ∷ [] }) (find (λ (o : PureOrigin). o.node == node) (origins_of net dest)) ≡ own_offer net dest node
own-first net dest node = rw (sym (find-filter (λ (o : PureOrigin). o.dest == dest) (λ (o : PureOrigin). o.node == node) net.origins)) (by (find (λ (o : PureOrigin). o.dest == dest && o.node == node) net.origins))
  where
    by : (o : Option PureOrigin) → option_map {U = PureRoute} (λ (o : PureOrigin). record { value = o.value; path = node ∷ [] }) o
        ≡ option_map (λ (v : PureValue). record { value = v; path = node ∷ [] }) (option_map (λ (o : PureOrigin). o.value) o)
    by None = refl
    by (Some o) = refl

-- with one row more
rows-push : (dest i : ℕ) (xs : List (Option PureRoute)) (o : Option PureRoute) → rows_from dest i (xs ++ o ∷ []) ≡ rows_from dest i xs ++ row_from (i + length xs) dest o ∷ []
rows-push dest i [] o = let e : i ≡ i + length {A = Option PureRoute} [] = omega arith in rw (← e) refl
rows-push dest i (x ∷ xs) o =
    let e : (i + 1) + length xs ≡ i + length (x ∷ xs) = omega arith in
    ap (λ rows. row_from i dest x ∷ rows) (rows-push dest (i + 1) xs o ∙ ap (λ n. rows_from dest (i + 1) xs ++ row_from n dest o ∷ []) e)

pub table-push : {F : Type 0} (f : F → PureRoute) (dest node : ℕ) (table : List RouteRow) (row : RouteRow) (ys : List (Option F)) (y : Option F) → node ≡ length ys
    → map pure_row table ≡ rows_from dest 0 (map (option_map f) ys) → pure_row row ≡ row_from node dest (option_map f y)
    → map pure_row (table ++ row ∷ []) ≡ rows_from dest 0 (map (option_map f) (ys ++ y ∷ []))
table-push f dest node table row ys y e g h =
    let first = map-append pure_row table (row ∷ []) in
    let second = map-append (option_map f) ys (y ∷ []) in
    let third = rows-push dest 0 (map (option_map f) ys) (option_map f y) in
    let place : node ≡ 0 + length (map (option_map f) ys) = let l = length-map ys (option_map f) in omega arith in
    rw (first, second, third, g, h, place) refl
