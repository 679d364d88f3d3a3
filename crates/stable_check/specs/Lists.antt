-- What is found in a list, and where. Lemmas, so that proofs of other crates may cite them.
use Rattle.std.proofs.Common.{◌≡◌, ℕ, zero, suc, List, [], ◌∷◌, Some, Bool, true, false, map, option_map, filter, refl}
use Rattle.std.specs.List.{slice_get, find}

-- what stands at a place and passes the test
pub record IsPlaced {X : Type 0} (p : X → Bool) (xs : List X) (x : X) : Type 0 where
  pub place : ℕ
  pub there : slice_get xs place ≡ Some x
  pub passes : p x ≡ true

later : {X : Type 0} (p : X → Bool) (xs : List X) (x y : X) → IsPlaced p xs x → IsPlaced p (y ∷ xs) x
later p xs x y h = record { place = suc h.place; there = h.there; passes = h.passes }

-- what is found stands somewhere
pub find_placed : {X : Type 0} (p : X → Bool) (xs : List X) (x : X) → find p xs ≡ Some x → IsPlaced p xs x
find_placed p [] x e = absurd (cc)
find_placed p (y ∷ ys) x e = by (find_placed p ys x) (p y) refl
  where
    by : (find p ys ≡ Some x → IsPlaced p ys x) → (b : Bool) → p y ≡ b → IsPlaced p (y ∷ ys) x
    by rest true h =
        let f : Some y ≡ Some x = rw h at e in
        let same : y ≡ x = cc in
        record { place = 0; there = rw same refl; passes = rw same at h }
    by rest false h = later p ys x y (rest (rw h at e))

-- and so does what passed a filter
pub filter_placed : {X : Type 0} (p : X → Bool) (xs : List X) (m : ℕ) (x : X) → slice_get (filter p xs) m ≡ Some x → IsPlaced p xs x
filter_placed p [] m x e = absurd (cc)
filter_placed p (y ∷ ys) m x e = by (λ k f. filter_placed p ys k x f) (p y) refl m e
  where
    by : ((k : ℕ) → slice_get (filter p ys) k ≡ Some x → IsPlaced p ys x) → (b : Bool) → p y ≡ b → (m : ℕ) → slice_get (filter p (y ∷ ys)) m ≡ Some x → IsPlaced p (y ∷ ys) x
    by rest true h zero e =
        let f : Some y ≡ Some x = rw h at e in
        let same : y ≡ x = cc in
        record { place = 0; there = rw same refl; passes = rw same at h }
    by rest true h (suc k) e = later p ys x y (rest k (rw h at e))
    by rest false h m e = later p ys x y (rest m (rw h at e))

-- to look in the images is to look for an image
pub find-map : {X Y : Type 0} (p : Y → Bool) (f : X → Y) (xs : List X) → find p (map f xs) ≡ option_map f (find (λ x. p (f x)) xs)
find-map p f [] = refl
find-map p f (x ∷ xs) = by (find-map p f xs) (p (f x)) refl
  where
    by : find p (map f xs) ≡ option_map f (find (λ x. p (f x)) xs) → (b : Bool) → p (f x) ≡ b → find p (map f (x ∷ xs)) ≡ option_map f (find (λ x. p (f x)) (x ∷ xs))
    by rest true h = rw h refl
    by rest false h = rw h rest
