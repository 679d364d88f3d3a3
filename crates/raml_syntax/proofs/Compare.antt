-- Where two lists of marks part: at the first token that differs, with the same marks before it.
use Rattle.std.proofs.Common.{◌≡◌, ◌⊎◌, inl, inr, ℕ, List, [], ◌∷◌, ◌++◌, Bool, true, false, bytes_eq, refl, sym, subst, subst₂, append_assoc, append-nil}
use Rattle.std.proofs.lemmas.Bool.{cases_eq}
use Rattle.std.proofs.lemmas.Bool.Decides.{not_from_Decides}
use Rattle.std.proofs.lemmas.Slice.Eq.{bytes_eq-Decides}
use Rattle.raml_lex.specs.Tokens.{Tok, word, number}
use Rattle.raml_syntax.specs.Marks.{Mark}
use Rattle.raml_syntax.specs.Productions.{toks}

-- the lists are the same up to a place where both go on, with different tokens
pub data Diverges : List Mark → List Mark → Type 0 where
  here : {x y : Mark} {xs ys : List Mark} → (x.tok ≡ y.tok → ⊥) → Diverges (x ∷ xs) (y ∷ ys)
  next : {x : Mark} {xs ys : List Mark} → Diverges xs ys → Diverges (x ∷ xs) (x ∷ ys)

-- so they are no beginnings of one list of tokens
pub diverging_differ : {xs ys : List Mark} → Diverges xs ys → (y z : List Tok) → toks xs ++ y ≡ toks ys ++ z → ⊥
diverging_differ (here n) y z h = n cc
diverging_differ (next d) y z h = diverging_differ d y z cc

-- they stay so after the same marks
pub after : (ps : List Mark) {xs ys : List Mark} → Diverges xs ys → Diverges (ps ++ xs) (ps ++ ys)
after [] d = d
after (p ∷ ps) d = next (after ps d)

-- two trees are the same, or the marks that they begin diverge
pub data Compared (P : Type 0) (xs ys : List Mark) : Type 0 where
  same : P → Compared P xs ys
  apart : Diverges xs ys → Compared P xs ys

-- what follows from sameness
pub compared_map : {P Q : Type 0} {xs ys : List Mark} → (P → Q) → Compared P xs ys → Compared Q xs ys
compared_map f (same p) = same (f p)
compared_map f (apart d) = apart d

-- the same mark on both sides
pub compared_next : {P : Type 0} {x : Mark} {xs ys : List Mark} → Compared P xs ys → Compared P (x ∷ xs) (x ∷ ys)
compared_next (same p) = same p
compared_next (apart d) = apart (next d)

-- a mark on each side, and then what depends on it
pub compared_one : {A P : Type 0} {xs : List Mark} (f : A → Mark) (g : A → List Mark) (a b : A) → (a ≡ b) ⊎ ((f a).tok ≡ (f b).tok → ⊥) → Compared P xs (g a) → Compared ((a ≡ b) × P) (f a ∷ xs) (f b ∷ g b)
compared_one f g a b (inl e) (same p) = same (e, p)
compared_one {xs} f g a b (inl e) (apart d) = apart (subst (λ x. Diverges (f a ∷ xs) (f x ∷ g x)) e (next d))
compared_one f g a b (inr n) c = apart (here n)

-- a mark on each side that tells all
pub compared_last : {A : Type 0} {xs ys : List Mark} (f : A → Mark) (a b : A) → (a ≡ b) ⊎ ((f a).tok ≡ (f b).tok → ⊥) → Compared (a ≡ b) (f a ∷ xs) (f b ∷ ys)
compared_last f a b (inl e) = same e
compared_last f a b (inr n) = apart (here n)

-- marks on each side, and then what depends on them, in brackets to the right
then_joined : {A P : Type 0} (f g : A → List Mark) (xs : List Mark) (a b : A) → Compared (a ≡ b) (f a ++ xs) (f b ++ g b) → Compared P xs (g a) → Compared ((a ≡ b) × P) (f a ++ xs) (f b ++ g b)
then_joined f g xs a b (same e) (same p) = same (e, p)
then_joined f g xs a b (same e) (apart d) = apart (subst (λ x. Diverges (f a ++ xs) (f x ++ g x)) e (after (f a) d))
then_joined f g xs a b (apart d) c = apart d

-- marks on each side, and then what depends on them
pub compared_then : {A P : Type 0} (f g : A → List Mark) (l xs ys : List Mark) (a b : A) → Compared (a ≡ b) (f a ++ (l ++ xs)) (f b ++ (g b ++ ys)) → Compared P (l ++ xs) (g a ++ ys)
    → Compared ((a ≡ b) × P) ((f a ++ l) ++ xs) ((f b ++ g b) ++ ys)
compared_then {P} f g l xs ys a b c d =
    subst₂ (λ u v. Compared ((a ≡ b) × P) u v) (sym (append_assoc (f a) l xs)) (sym (append_assoc (f b) (g b) ys)) (then_joined f (λ x. g x ++ ys) (l ++ xs) a b c d)

-- marks in two parts, and what comes after
pub compared_joined : {P : Type 0} (us l xs vs r ys : List Mark) → Compared P (us ++ (l ++ xs)) (vs ++ (r ++ ys)) → Compared P ((us ++ l) ++ xs) ((vs ++ r) ++ ys)
compared_joined {P} us l xs vs r ys c = subst₂ (λ u v. Compared P u v) (sym (append_assoc us l xs)) (sym (append_assoc vs r ys)) c

-- with nothing after
pub compared_whole : {P : Type 0} (xs ys : List Mark) → Compared P (xs ++ []) (ys ++ []) → Compared P xs ys
compared_whole {P} xs ys c = subst₂ (λ u v. Compared P u v) (append-nil xs) (append-nil ys) c

-- words and numbers are distinct
pub which_word : (w v : List ℕ) → (w ≡ v) ⊎ (word w ≡ word v → ⊥)
which_word w v = by (bytes_eq w v) refl
  where
    by : (b : Bool) → bytes_eq w v ≡ b → (w ≡ v) ⊎ (word w ≡ word v → ⊥)
    by true e = inl ((bytes_eq-Decides w v).0 e)
    by false e = inr (λ h. not_from_Decides (bytes_eq w v) (bytes_eq-Decides w v) e cc)

pub which_number : (m n : ℕ) → (m ≡ n) ⊎ (number m ≡ number n → ⊥)
which_number m n = by (cases_eq m n)
  where
    by : (m ≡ n) ⊎ (m ≡ n → ⊥) → (m ≡ n) ⊎ (number m ≡ number n → ⊥)
    by (inl e) = inl e
    by (inr k) = inr (λ h. k cc)

-- words that a test tells apart
pub words_apart : (w v : List ℕ) → bytes_eq w v ≡ false → word w ≡ word v → ⊥
words_apart w v e h = not_from_Decides (bytes_eq w v) (bytes_eq-Decides w v) e cc
