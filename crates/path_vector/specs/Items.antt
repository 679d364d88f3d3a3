-- Items of lists. Lemmas, so that proofs of other crates may cite them.
use Rattle.std.proofs.Common.{◌≡◌, ℕ, zero, suc, ◌<◌, length, ◌⊎◌, inl, inr, List, [], ◌∷◌, ◌++◌, Bool, true, false, not, filter, cond, slice_get, Option, Some, None, refl, ap, arith}
use Rattle.std.specs.List.{AllByRecursion, find, list_all, list_any, filter_map, cons_option}

-- the item is in the list
abbrev pub IsItem : {X : Type 0} → X → List X → Type 0
IsItem x [] = ⊥
IsItem x (y ∷ ys) = (y ≡ x) ⊎ IsItem x ys

pub item_at : {X : Type 0} (xs : List X) (k : ℕ) (x : X) → slice_get xs k ≡ Some x → IsItem x xs
item_at [] k x e = absurd (cc)
item_at (y ∷ ys) zero x e = inl (cc)
item_at (y ∷ ys) (suc k) x e = inr (item_at ys k x e)

pub item_there : {X : Type 0} (xs : List X) (k : ℕ) → k < length xs → (x : X) × (slice_get xs k ≡ Some x)
item_there {X = X} [] k l = absurd (omega arith)
item_there {X = X} (y ∷ ys) zero l = (y, refl)
item_there {X = X} (y ∷ ys) (suc k) l = item_there ys k (omega arith)

pub of_all : {X : Type 0} (P : X → Type 0) (xs : List X) (x : X) → AllByRecursion P xs → IsItem x xs → P x
of_all P [] x all e = absurd e
of_all P (y ∷ ys) x all (inl same) = rw same at all.0
of_all P (y ∷ ys) x all (inr more) = of_all P ys x all.1 more

pub found_item : {X : Type 0} (p : X → Bool) (xs : List X) (x : X) → find p xs ≡ Some x → IsItem x xs × (p x ≡ true)
found_item p [] x e = absurd (cc)
found_item {X} p (y ∷ ys) x e = by (found_item p ys x) (p y) refl
  where
    by : (find p ys ≡ Some x → IsItem x ys × (p x ≡ true)) → (b : Bool) → p y ≡ b → IsItem x (y ∷ ys) × (p x ≡ true)
    by rest true h =
        let f : Some y ≡ Some x = rw h at e in
        let same : y ≡ x = cc in
        (inl same, rw same at h)
    by rest false h = let more = rest (rw h at e) in (inr more.0, more.1)

pub none_found : {X : Type 0} (p : X → Bool) (xs : List X) (x : X) → find p xs ≡ None → IsItem x xs → p x ≡ false
none_found p [] x e i = absurd i
none_found {X} p (y ∷ ys) x e i = by (none_found p ys x) (p y) refl i
  where
    by : (find p ys ≡ None → IsItem x ys → p x ≡ false) → (b : Bool) → p y ≡ b → (y ≡ x) ⊎ IsItem x ys → p x ≡ false
    by rest true h j =
        let f : Some y ≡ None = rw h at e in
        absurd (cc)
    by rest false h (inl same) = rw same at h
    by rest false h (inr more) = rest (rw h at e) more

-- nothing is found where no item passes
pub found_none : {X : Type 0} (p : X → Bool) (xs : List X) → list_any p xs ≡ false → find p xs ≡ None
found_none p [] e = refl
found_none {X} p (y ∷ ys) e = by (found_none p ys) (p y) refl
  where
    by : (list_any p ys ≡ false → find p ys ≡ None) → (b : Bool) → p y ≡ b → find p (y ∷ ys) ≡ None
    by rest true h = absurd (let f : true ≡ false = rw h at e in cc)
    by rest false h = rw h (rest (rw h at e))

-- and one is where one does
pub found_some : {X : Type 0} (p : X → Bool) (xs : List X) → list_any p xs ≡ true → (x : X) × (find p xs ≡ Some x)
found_some {X = X} p [] e = absurd (cc)
found_some {X = X} p (y ∷ ys) e = by (found_some p ys) (p y) refl
  where
    by : (list_any p ys ≡ true → (x : X) × (find p ys ≡ Some x)) → (b : Bool) → p y ≡ b → (x : X) × (find p (y ∷ ys) ≡ Some x)
    by rest true h = (y, rw h refl)
    by rest false h = let found = rest (rw h at e) in (found.0, rw h found.1)

pub all_items : {X : Type 0} (p : X → Bool) (xs : List X) (x : X) → list_all p xs ≡ true → IsItem x xs → p x ≡ true
all_items p [] x e i = absurd i
all_items {X} p (y ∷ ys) x e i = by (all_items p ys x) (p y) refl i
  where
    by : (list_all p ys ≡ true → IsItem x ys → p x ≡ true) → (b : Bool) → p y ≡ b → (y ≡ x) ⊎ IsItem x ys → p x ≡ true
    by rest false h j = absurd (let f : false ≡ true = rw h at e in cc)
    by rest true h (inl same) = rw same at h
    by rest true h (inr more) = rest (rw h at e) more

pub items_all : {X : Type 0} (p : X → Bool) (xs : List X) → ((x : X) → IsItem x xs → p x ≡ true) → list_all p xs ≡ true
items_all p [] f = refl
items_all p (x ∷ xs) f = rw (f x (inl refl)) (items_all p xs (λ y i. f y (inr i)))

pub item_split : {X : Type 0} (xs ys : List X) (x : X) → IsItem x (xs ++ ys) → IsItem x xs ⊎ IsItem x ys
item_split [] ys x i = inr i
item_split (y ∷ xs) ys x (inl same) = inl (inl same)
item_split {X} (y ∷ xs) ys x (inr more) = by (item_split xs ys x more)
  where
    by : IsItem x xs ⊎ IsItem x ys → IsItem x (y ∷ xs) ⊎ IsItem x ys
    by (inl i) = inl (inr i)
    by (inr i) = inr i

pub item_left : {X : Type 0} (xs ys : List X) (x : X) → IsItem x xs → IsItem x (xs ++ ys)
item_left [] ys x i = absurd i
item_left (y ∷ xs) ys x (inl same) = inl same
item_left (y ∷ xs) ys x (inr more) = inr (item_left xs ys x more)

pub item_right : {X : Type 0} (xs ys : List X) (x : X) → IsItem x ys → IsItem x (xs ++ ys)
item_right [] ys x i = i
item_right (y ∷ xs) ys x i = inr (item_right xs ys x i)

pub item_passed : {X : Type 0} (p : X → Bool) (xs : List X) (x : X) → IsItem x (filter p xs) → IsItem x xs × (p x ≡ true)
item_passed p [] x i = absurd i
item_passed {X} p (y ∷ ys) x i = by (item_passed p ys x) (p y) refl i
  where
    by : (IsItem x (filter p ys) → IsItem x ys × (p x ≡ true)) → (b : Bool) → p y ≡ b → IsItem x (cond b (y ∷ filter p ys) (filter p ys)) → IsItem x (y ∷ ys) × (p x ≡ true)
    by rest true h (inl same) = (inl same, rw same at h)
    by rest true h (inr more) = let r = rest more in (inr r.0, r.1)
    by rest false h more = let r = rest more in (inr r.0, r.1)

pub item_passes : {X : Type 0} (p : X → Bool) (xs : List X) (x : X) → IsItem x xs → p x ≡ true → IsItem x (filter p xs)
item_passes p [] x i e = absurd i
item_passes {X} p (y ∷ ys) x i e = by (λ more. item_passes p ys x more e) (p y) refl i
  where
    by : (IsItem x ys → IsItem x (filter p ys)) → (b : Bool) → p y ≡ b → (y ≡ x) ⊎ IsItem x ys → IsItem x (cond b (y ∷ filter p ys) (filter p ys))
    by rest true h (inl same) = inl same
    by rest true h (inr more) = inr (rest more)
    by rest false h (inl same) = absurd (let f : p x ≡ false = rw same at h in cc)
    by rest false h (inr more) = rest more

-- what a function gives of the items
pub item_mapped : {X Y : Type 0} (f : X → Option Y) (xs : List X) (y : Y) → IsItem y (filter_map f xs) → (x : X) × IsItem x xs × (f x ≡ Some y)
item_mapped {X = X} {Y = Y} f [] y i = absurd i
item_mapped {X = X} {Y = Y} f (x ∷ xs) y i = by (item_mapped f xs y) (f x) refl i
  where
    by : (IsItem y (filter_map f xs) → (z : X) × IsItem z xs × (f z ≡ Some y)) → (o : Option Y) → f x ≡ o → IsItem y (cons_option o (filter_map f xs)) → (z : X) × IsItem z (x ∷ xs) × (f z ≡ Some y)
    by rest None h more = let r = rest more in (r.0, inr r.1, r.2)
    by rest (Some w) h (inl same) = (x, inl refl, rw same at h)
    by rest (Some w) h (inr more) = let r = rest more in (r.0, inr r.1, r.2)

pub item_maps : {X Y : Type 0} (f : X → Option Y) (xs : List X) (x : X) (y : Y) → IsItem x xs → f x ≡ Some y → IsItem y (filter_map f xs)
item_maps f [] x y i e = absurd i
item_maps {X} {Y} f (z ∷ xs) x y i e = by (λ more. item_maps f xs x y more e) (f z) refl i
  where
    by : (IsItem x xs → IsItem y (filter_map f xs)) → (o : Option Y) → f z ≡ o → (z ≡ x) ⊎ IsItem x xs → IsItem y (cons_option o (filter_map f xs))
    by rest None h (inl same) = absurd (let g : f x ≡ None = rw same at h in cc)
    by rest None h (inr more) = rest more
    by rest (Some w) h (inl same) =
        let g : f x ≡ Some w = rw same at h in
        let one : w ≡ y = cc in
        inl one
    by rest (Some w) h (inr more) = inr (rest more)

-- ---- what holds of all items

-- all items pass a test that none fails
pub unfiltered : {X : Type 0} (xs : List X) → filter (λ _. true) xs ≡ xs
unfiltered [] = refl
unfiltered (x ∷ xs) = ap (λ l. x ∷ l) (unfiltered xs)

pub from_not : (b : Bool) → not b ≡ true → b ≡ false
from_not true e = absurd (cc)
from_not false e = refl
