-- Laws of lists of what has a profile: the profiles of two lists in a row, and a list with one item more.
use Rattle.std.proofs.Common.{◌≡◌, sym, subst, ℕ, ◌<◌, ◌≤◌, ◌-◌, List, [], ◌∷◌, ◌++◌, length, take, drop, get_or, ◌⊎◌, inl, inr, ⊎_elim, arith}
use Rattle.std.specs.List.{AllByRecursion}
use Rattle.std.proofs.lemmas.List.{take_all}
use Rattle.std.proofs.lemmas.List.Elements.{All-from_recursion, recursion_from_All, All-push}
use Rattle.alg_classes.specs.declared.profile.Profile.{Profile}
use Rattle.alg_classes.specs.Classes.{HasBy, AreDistinctBy}

pub has_left : {A : Type 0} (of : A → Profile) (xs ys : List A) (p : Profile) → HasBy of xs p → HasBy of (xs ++ ys) p
has_left of [] ys p h = absurd h
has_left of (x ∷ xs) ys p h = ⊎_elim (λ e. inl e) (λ g. inr (has_left of xs ys p g)) h

pub has_right : {A : Type 0} (of : A → Profile) (xs ys : List A) (p : Profile) → HasBy of ys p → HasBy of (xs ++ ys) p
has_right of [] ys p h = h
has_right of (x ∷ xs) ys p h = inr (has_right of xs ys p h)

pub has_either : {A : Type 0} (of : A → Profile) (xs ys : List A) (p : Profile) → HasBy of (xs ++ ys) p → HasBy of xs p ⊎ HasBy of ys p
has_either of [] ys p h = inr h
has_either of (x ∷ xs) ys p h = ⊎_elim (λ e. inl (inl e)) (λ g. ⊎_elim (λ a. inl (inr a)) (λ b. inr b) (has_either of xs ys p g)) h

-- what holds of each holds of one more, and of one of them
pub all_and_one : {A : Type 0} (P : A → Type 0) (xs : List A) (x : A) → AllByRecursion P xs → P x → AllByRecursion P (xs ++ x ∷ [])
all_and_one P xs x a h = recursion_from_All P (xs ++ x ∷ []) (All-push P xs x (All-from_recursion P xs a) h)

pub one_of_all : {A : Type 0} (P : A → Type 0) (xs : List A) (i : ℕ) (x : A) → AllByRecursion P xs → i < length xs → x ≡ get_or xs i x → P x
one_of_all P xs i x a within is = subst P (sym is) (All-from_recursion P xs a i x within)

-- an item of a new profile keeps the list distinct
pub distinct_and_one : {A : Type 0} (of : A → Profile) (xs : List A) (x : A) → AreDistinctBy of xs → ¬ HasBy of xs (of x)
    → AreDistinctBy of (xs ++ x ∷ [])
distinct_and_one of [] x d none = ((λ h. h), tt)
distinct_and_one of (y ∷ ys) x d none = (
  λ h. ⊎_elim d.0 (λ g. ⊎_elim (λ e. none (inl (sym e))) (λ b. b) g) (has_either of ys (x ∷ []) (of y) h),
  distinct_and_one of ys x d.1 (λ h. none (inr h)),
)

-- a list that isn't empty is its first item and the rest
pub taken_apart : {A : Type 0} (P : List A → Type 0) (items : List A) (item : A) → 1 ≤ length items → item ≡ get_or items 0 item
    → P (item ∷ take (length items - 1) (drop 1 items)) → P items
taken_apart P [] item some first h = absurd (omega arith)
taken_apart P (d ∷ ds) item some first h =
    let others : length (d ∷ ds) - 1 ≡ length ds = omega arith in
    let rest : take (length (d ∷ ds) - 1) ds ≡ ds = rw others (take_all (length ds) ds (omega arith)) in
    subst (λ x. P (x ∷ ds)) first (subst (λ r. P (item ∷ r)) rest h)
