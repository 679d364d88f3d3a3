-- Lists that grow by one at the end. Lemmas, so that proofs of other crates may cite them.
use Rattle.std.proofs.Common.{◌≡◌, ℕ, zero, suc, List, [], ◌∷◌, ◌++◌, Option, Some, length, ◌⊎◌, inl, inr, refl, ap, slice_get}

-- what stands in a list with one more
pushed : {X : Type 0} (xs : List X) (x y : X) (k : ℕ) → slice_get (xs ++ x ∷ []) k ≡ Some y → (slice_get xs k ≡ Some y) ⊎ ((k ≡ length xs) × (x ≡ y))
pushed [] x y zero e = inr (refl, cc)
pushed [] x y (suc k) e = absurd (cc)
pushed (z ∷ xs) x y zero e = inl e
pushed (z ∷ xs) x y (suc k) e = elim (pushed xs x y k e) [ inl f ↦ inl f | inr f ↦ inr (ap suc f.0, f.1) ]

-- what holds at each place, with one more
pub each_more : {X : Type 0} (P : ℕ → X → Type 0) (xs : List X) (x : X) → P (length xs) x → ((k : ℕ) (y : X) → slice_get xs k ≡ Some y → P k y) → (k : ℕ) (y : X) → slice_get (xs ++ x ∷ []) k ≡ Some y → P k y
each_more P xs x holds each k y e = elim (pushed xs x y k e) [
  | inl f ↦ each k y f
  | inr f ↦ rw (f.0, ← f.1) holds
]

-- what holds of the one thing that is there
pub the_one : {X : Type 0} (P : X → Type 0) (o : Option X) (x : X) → o ≡ Some x → P x → (y : X) → o ≡ Some y → P y
the_one P o x e holds y f =
    let same : x ≡ y = cc in
    rw same at holds
