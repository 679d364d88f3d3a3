-- Places after more bytes.
use Rattle.std.proofs.Common.{◌≡◌, ℕ, ◌+◌, ◌≤◌, Bool, true, false, not, cond, ◌&&◌, suc, List, [], ◌∷◌, ◌++◌, length, count_by, refl, ap, sym, ◌∙◌, zero-add, arith}
use Rattle.std.specs.List.{list_all, suffix_len, prefix_len}
use Rattle.std.proofs.lemmas.List.{reverse-append, append_assoc, append-nil}
use Rattle.std.proofs.lemmas.List.Sums.{suffix_len-le-length, count_by-le-length, sum_by-append}
use Rattle.meta_base.specs.declared.ids.Place.{Place}
use Rattle.meta_base.specs.Bytes.{is_line_feed}
use Rattle.raml_lex.specs.Places.{place_after, moved, moved_over}

abbrev record_of : ℕ → ℕ → Place
record_of l c = record { line = l; column = c }

-- one more byte moves the place on
pub place_after-push : (xs : List ℕ) (c : ℕ) → place_after (xs ++ c ∷ []) ≡ moved (place_after xs) c
place_after-push xs c =
    let inside : ℕ → Bool = λ x. not (is_line_feed x) in
    let lines : count_by is_line_feed (xs ++ c ∷ []) ≡ count_by is_line_feed xs + cond (is_line_feed c) 1 0 = sum_by-append (λ x. cond (is_line_feed x) 1 0) xs (c ∷ []) ∙ ap (λ n. count_by is_line_feed xs + n) (zero-add (cond (is_line_feed c) 1 0)) in
    let bytes : suffix_len inside (xs ++ c ∷ []) ≡ cond (inside c) (1 + suffix_len inside xs) 0 = ap (prefix_len inside) (reverse-append xs (c ∷ [])) in
    same_place _ _ _ _ (ap (λ n. 1 + n) lines) (ap (λ n. 1 + n) bytes) ∙ by (is_line_feed c) (count_by is_line_feed xs) (suffix_len inside xs)
  where
    same_place : (l m a b : ℕ) → l ≡ m → a ≡ b → record_of l a ≡ record_of m b
    same_place l m a b p q = cc

    by : (b : Bool) (n s : ℕ) → record_of (1 + (n + cond b 1 0)) (1 + cond (not b) (1 + s) 0) ≡ cond b (record_of (1 + n + 1) 1) (record_of (1 + n) (1 + s + 1))
    by true n s = same_place _ _ _ _ (omega arith) (omega arith)
    by false n s = same_place _ _ _ _ (omega arith) (omega arith)

pub place_after-append : (ys xs : List ℕ) → place_after (xs ++ ys) ≡ moved_over (place_after xs) ys
place_after-append [] xs = ap place_after (append-nil xs)
place_after-append (y ∷ ys) xs = ap place_after (sym (append_assoc xs (y ∷ []) ys)) ∙ place_after-append ys (xs ++ y ∷ []) ∙ ap (λ p. moved_over p ys) (place_after-push xs y)

pub moved_over-append : (xs ys : List ℕ) (p : Place) → moved_over p (xs ++ ys) ≡ moved_over (moved_over p xs) ys
moved_over-append [] ys p = refl
moved_over-append (x ∷ xs) ys p = moved_over-append xs ys (moved p x)

-- within a line the column moves on
pub moved_over-line : (xs : List ℕ) (p : Place) → list_all (λ c. not (is_line_feed c)) xs ≡ true → moved_over p xs ≡ record { line = p.line; column = p.column + length xs }
moved_over-line [] p h = ap (record_of p.line) (omega arith)
moved_over-line (x ∷ xs) p h = by (is_line_feed x) h (moved_over-line xs (record_of p.line (p.column + 1)))
  where
    by : (b : Bool) → (not b && list_all (λ c. not (is_line_feed c)) xs) ≡ true
        → (list_all (λ c. not (is_line_feed c)) xs ≡ true → moved_over (record_of p.line (p.column + 1)) xs ≡ record_of p.line (p.column + 1 + length xs))
        → moved_over (cond b (record_of (p.line + 1) 1) (record_of p.line (p.column + 1))) xs ≡ record_of p.line (p.column + suc (length xs))
    by true h k = absurd (cc)
    by false h k = k h ∙ ap (record_of p.line) (omega arith)

-- a line and a column are at most one more than the bytes before
pub line_le : (xs : List ℕ) → (place_after xs).line ≤ 1 + length xs
line_le xs = omega (arith, count_by-le-length is_line_feed xs)

pub column_le : (xs : List ℕ) → (place_after xs).column ≤ 1 + length xs
column_le xs = omega (arith, suffix_len-le-length (λ c. not (is_line_feed c)) xs)

-- each line feed is one line more
pub moved_over-lines : (xs : List ℕ) (p : Place) → (moved_over p xs).line ≡ p.line + count_by is_line_feed xs
moved_over-lines [] p = omega arith
moved_over-lines (x ∷ xs) p =
    let more : count_by is_line_feed (x ∷ xs) ≡ (0 + cond (is_line_feed x) 1 0) + count_by is_line_feed xs = sum_by-append (λ b. cond (is_line_feed b) 1 0) (x ∷ []) xs in
    moved_over-lines xs (moved p x) ∙ by (is_line_feed x) ∙ ap (λ n. p.line + n) (sym more)
  where
    by : (b : Bool) → (cond b (record_of (p.line + 1) 1) (record_of p.line (p.column + 1))).line + count_by is_line_feed xs ≡ p.line + ((0 + cond b 1 0) + count_by is_line_feed xs)
    by true = omega arith
    by false = omega arith

-- after the last line feed the column follows from the bytes since
pub moved_over-last : (ys zs : List ℕ) (p : Place) → list_all (λ c. not (is_line_feed c)) zs ≡ true
    → moved_over p (ys ++ 10 ∷ zs) ≡ record { line = p.line + count_by is_line_feed (ys ++ 10 ∷ zs); column = 1 + length zs }
moved_over-last ys zs p h =
    let split : moved_over p (ys ++ 10 ∷ zs) ≡ moved_over (record_of ((moved_over p ys).line + 1) 1) zs = moved_over-append ys (10 ∷ zs) p in
    let whole = split ∙ moved_over-line zs (record_of ((moved_over p ys).line + 1) 1) h in
    whole ∙ ap (λ l. record_of l (1 + length zs)) (sym (ap (λ q. q.line) whole) ∙ moved_over-lines (ys ++ 10 ∷ zs) p)
