-- Lists of a table's names, which differ.
use Rattle.std.proofs.Common.{◌≡◌, ℕ, ◌+◌, ◌<◌, zero, suc, Bool, true, false, not, ◌||◌, cond, nat_lt, List, [], ◌∷◌, ◌++◌, length, get_or, Some, None, bytes_eq, refl, ap, ap₂, sym, ◌∙◌, arith}
use Rattle.std.specs.List.{list_all, position_or_len}
use Rattle.std.proofs.lemmas.Bool.{lt-ltb, and_parts, or_parts, or_left, or_right, not_from_true, not_from_false, cond-true, cond-false, false≢true}
use Rattle.raml_syntax.specs.Differing.{differ}
use Rattle.raml_syntax.specs.Syntax.{is_among}
use Rattle.alg_model.specs.Names.{place_of}
use Rattle.raml_syntax.proofs.TestLaws.{bytes_same, bytes_self}
use Rattle.raml_syntax.proofs.Printing.{off}

-- none of these is among those before
abbrev pub Fresh : List (List ℕ) → List (List ℕ) → Type 0
Fresh before names = (w : List ℕ) → is_among names w ≡ true → is_among before w ≡ false

pub bytes_differ : (x y : List ℕ) → bytes_eq x y ≡ false → bytes_eq y x ≡ false
bytes_differ x y h = by (bytes_eq y x) refl
  where
    by : (b : Bool) → bytes_eq y x ≡ b → b ≡ false
    by true e = absurd (false≢true (sym h ∙ ap (bytes_eq x) (bytes_same y x e) ∙ bytes_self x))
    by false e = refl

-- the first of names that differ is none of the others
pub first_apart : (n : List ℕ) (ns : List (List ℕ)) → differ (n ∷ ns) ≡ true → (is_among ns n ≡ false) × (differ ns ≡ true)
first_apart n ns h = let p = and_parts (not (is_among ns n)) (differ ns) h in (off (is_among ns n) p.0, p.1)

pub other_apart : (n w : List ℕ) (ns : List (List ℕ)) → is_among ns n ≡ false → is_among ns w ≡ true → bytes_eq n w ≡ false
other_apart n w ns h k = by (bytes_eq n w) refl
  where
    by : (b : Bool) → bytes_eq n w ≡ b → b ≡ false
    by true e = absurd (false≢true (sym h ∙ ap (is_among ns) (bytes_same n w e) ∙ k))
    by false e = refl

pub not_pushed : (before : List (List ℕ)) (n w : List ℕ) → is_among before w ≡ false → bytes_eq n w ≡ false → is_among (before ++ n ∷ []) w ≡ false
not_pushed [] n w h e = ap (λ b. b || false) e
not_pushed (b ∷ bs) n w h e = let p = or_parts (bytes_eq b w) (is_among bs w) h in ap₂ (λ x y. x || y) p.0 (not_pushed bs n w p.1 e)

pub fresh_first : (before : List (List ℕ)) (n : List ℕ) (ns : List (List ℕ)) → Fresh before (n ∷ ns) → is_among before n ≡ false
fresh_first before n ns f = f n (or_left (bytes_eq n n) (is_among ns n) (bytes_self n))

pub fresh_less : (before : List (List ℕ)) (n : List ℕ) (ns : List (List ℕ)) → Fresh before (n ∷ ns) → Fresh before ns
fresh_less before n ns f w h = f w (or_right (bytes_eq n w) (is_among ns w) h)

pub fresh_more : (before : List (List ℕ)) (n : List ℕ) (ns : List (List ℕ)) → is_among ns n ≡ false → Fresh before (n ∷ ns) → Fresh (before ++ n ∷ []) ns
fresh_more before n ns misses f w h = not_pushed before n w (fresh_less before n ns f w h) (other_apart n w ns misses h)

-- the names at places
pub at_among : (ns : List (List ℕ)) (k : ℕ) → k < length ns → is_among ns (get_or ns k []) ≡ true
at_among [] k h = absurd (omega arith)
at_among (n ∷ ns) zero h = or_left (bytes_eq n n) (is_among ns n) (bytes_self n)
at_among (n ∷ ns) (suc k) h = or_right (bytes_eq n (get_or ns k [])) (is_among ns (get_or ns k [])) (at_among ns k (omega arith))

pub at_all : (p : List ℕ → Bool) (ns : List (List ℕ)) (k : ℕ) → list_all p ns ≡ true → k < length ns → p (get_or ns k []) ≡ true
at_all p [] k all h = absurd (omega arith)
at_all p (n ∷ ns) zero all h = (and_parts (p n) (list_all p ns) all).0
at_all p (n ∷ ns) (suc k) all h = at_all p ns k (and_parts (p n) (list_all p ns) all).1 (omega arith)

place_len : (ns : List (List ℕ)) (k : ℕ) → differ ns ≡ true → k < length ns → position_or_len (λ name. bytes_eq name (get_or ns k [])) ns ≡ k
place_len [] k d h = absurd (omega arith)
place_len (n ∷ ns) zero d h = cond-false (not (bytes_eq n n)) _ _ (not_from_true (bytes_eq n n) (bytes_self n))
place_len (n ∷ ns) (suc k) d h =
    let apart = first_apart n ns d in
    let other = other_apart n (get_or ns k []) ns apart.0 (at_among ns k (omega arith)) in
    let least = place_len ns k apart.1 (omega arith) in
    cond-true (not (bytes_eq n (get_or ns k []))) _ _ (not_from_false (bytes_eq n (get_or ns k [])) other) ∙ ap (λ i. 1 + i) least ∙ omega arith

pub place_at : (ns : List (List ℕ)) (k : ℕ) → differ ns ≡ true → k < length ns → place_of ns (get_or ns k []) ≡ Some k
place_at ns k d h =
    ap (λ i. cond (nat_lt i (length ns)) (Some i) None) (place_len ns k d h) ∙ cond-true (nat_lt k (length ns)) (Some k) None (lt-ltb k (length ns) h)
