-- What a label makes of a value has no number above the greatest of the value and that of the label
-- together. Lemmas, so that proofs of other crates may cite them.
use Rattle.std.proofs.Common.{◌≡◌, ℕ, ◌+◌, ◌-◌, ◌^◌, ◌≤◌, ◌==◌, List, [], ◌∷◌, ◌++◌, Some, arith}
use Rattle.std.specs.Prelude.{nat_le, max, min, bit_or, bit_and}
use Rattle.std.specs.List.{AllByRecursion, list_any}
use Rattle.alg_model.specs.declared.tree.TableSpec.{TableSpec}
use Rattle.alg_model.specs.Numbers.{max_label_number}
use Rattle.alg_model.specs.declared.edition.Edition.{Edition}
use Rattle.alg_model.specs.declared.edition.Edition.TheVariants.{One, Two}
use Rattle.alg_model.specs.Expressions.{Expression, add, cap, worst, width, pref, orig, seq, simseq, tags, guard, gate, table, lex, scoped, union, sum, plus, left, right}
use Rattle.alg_model.specs.Expressions.{PureValue, number, symbols, marks, unit, name, pair, first, second}
use Rattle.alg_model.specs.Expressions.{PureLabel, number_label, keep, symbol_label, mark, unmark, need, bar, allow, deny, row_label, pair_label, both_label, first_label, second_label, const_label, outer, inner}
use Rattle.alg_model.specs.Application.{App, IsLabel, image_of, has_mark}
use Rattle.alg_model.specs.Bounds.{AtMost, LabelAtMost, greatest_number}
use Rattle.alg_model.specs.Images.{image_same, image_where, image_unless, image_part, image_both}

-- a bound on the numbers of a list may be raised
pub all_at_most_more : (m n : ℕ) (ks : List ℕ) → m ≤ n → AllByRecursion (λ k. k ≤ m) ks → AllByRecursion (λ k. k ≤ n) ks
all_at_most_more m n [] h i = tt
all_at_most_more m n (k ∷ ks) h i = (omega arith, all_at_most_more m n ks h i.1)

-- a bound on a value's numbers may be raised
pub at_most_more : (m n : ℕ) (v : PureValue) → m ≤ n → AtMost m v → AtMost n v
at_most_more m n (number k) h i = omega arith
at_most_more m n (symbols ks) h i = all_at_most_more m n ks h i
at_most_more m n (marks k) h i = tt
at_most_more m n unit h i = tt
at_most_more m n (name k) h i = tt
at_most_more m n (pair u v) h i = (at_most_more m n u h i.0, at_most_more m n v h i.1)
at_most_more m n (first u) h i = at_most_more m n u h i
at_most_more m n (second v) h i = at_most_more m n v h i

-- a bound on a label's numbers may be raised
pub label_at_most_more : (m n : ℕ) (l : PureLabel) → m ≤ n → LabelAtMost m l → LabelAtMost n l
label_at_most_more m n (number_label k) h i = omega arith
label_at_most_more m n keep h i = tt
label_at_most_more m n (symbol_label k) h i = omega arith
label_at_most_more m n (mark k) h i = tt
label_at_most_more m n (unmark k) h i = tt
label_at_most_more m n (need k) h i = tt
label_at_most_more m n (bar k) h i = tt
label_at_most_more m n allow h i = tt
label_at_most_more m n deny h i = tt
label_at_most_more m n (row_label r) h i = tt
label_at_most_more m n (pair_label k l) h i = (label_at_most_more m n k h i.0, label_at_most_more m n l h i.1)
label_at_most_more m n (both_label k l) h i = (label_at_most_more m n k h i.0, label_at_most_more m n l h i.1)
label_at_most_more m n (first_label k) h i = label_at_most_more m n k h i
label_at_most_more m n (second_label l) h i = label_at_most_more m n l h i
label_at_most_more m n (const_label v) h i = at_most_more m n v h i
label_at_most_more m n (outer k v) h i = (label_at_most_more m n k h i.0, at_most_more m n v h i.1)
label_at_most_more m n (inner l) h i = label_at_most_more m n l h i

-- no edition's texts hold a greater number than labels may
pub greatest_is_bounded : (e : Edition) → greatest_number e ≤ max_label_number
greatest_is_bounded One = omega arith
greatest_is_bounded Two = omega arith

-- what holds of each number of a list and of one more holds of each of the list with it after
pub all_and_one : (P : ℕ → Type 0) (ks : List ℕ) (n : ℕ) → AllByRecursion P ks → P n → AllByRecursion P (ks ++ n ∷ [])
all_and_one P [] n h i = (i, tt)
all_and_one P (k ∷ ks) n h i = (h.0, all_and_one P ks n h.1 i)

-- the law for an expression
abbrev pub IsBounded : Expression → Type 0
IsBounded a = (l : PureLabel) (v w : PureValue) (m n : ℕ) → IsLabel a l → LabelAtMost n l → AtMost m v → App a l v ≡ Some w → AtMost (m + n) w

add_bound : (low high : ℕ) → IsBounded (add low high)
add_bound low high (number_label k) (number i) w m n is small at e = image_same (AtMost (m + n)) (number (i + k)) w e (omega arith)
add_bound low high (number_label k) _ w m n is small at e = absurd (cc)
add_bound low high _ v w m n is small at e = absurd is

cap_bound : (top low high : ℕ) → IsBounded (cap top low high)
cap_bound top low high (number_label k) (number i) w m n is small at e = image_where (AtMost (m + n)) (nat_le (i + k) top) (number (i + k)) w e (λ _. omega arith)
cap_bound top low high (number_label k) _ w m n is small at e = absurd (cc)
cap_bound top low high _ v w m n is small at e = absurd is

worst_bound : (top low high : ℕ) → IsBounded (worst top low high)
worst_bound top low high (number_label k) (number i) w m n is small at e = image_same (AtMost (m + n)) (number (max i k)) w e (omega arith)
worst_bound top low high (number_label k) _ w m n is small at e = absurd (cc)
worst_bound top low high _ v w m n is small at e = absurd is

width_bound : (top low high : ℕ) → IsBounded (width top low high)
width_bound top low high (number_label k) (number i) w m n is small at e = image_same (AtMost (m + n)) (number (min i k)) w e (omega arith)
width_bound top low high (number_label k) _ w m n is small at e = absurd (cc)
width_bound top low high _ v w m n is small at e = absurd is

pref_bound : (top : ℕ) → IsBounded (pref top)
pref_bound top (number_label k) (number i) w m n is small at e = image_same (AtMost (m + n)) (number k) w e (omega arith)
pref_bound top (number_label k) _ w m n is small at e = absurd (cc)
pref_bound top _ v w m n is small at e = absurd is

-- a label that keeps the value
kept_bound : (v w : PureValue) (m n : ℕ) → AtMost m v → Some v ≡ Some w → AtMost (m + n) w
kept_bound v w m n at e = image_same (AtMost (m + n)) v w e (at_most_more m (m + n) v (omega arith) at)

orig_bound : (top : ℕ) → IsBounded (orig top)
orig_bound top keep v w m n is small at e = kept_bound v w m n at e
orig_bound top _ v w m n is small at e = absurd is

-- the numbers of a sequence and one more
appended : (ks : List ℕ) (k m n : ℕ) → k ≤ n → AllByRecursion (λ i. i ≤ m) ks → AtMost (m + n) (symbols (ks ++ k ∷ []))
appended ks k m n h i = all_and_one (λ i. i ≤ m + n) ks k (all_at_most_more m (m + n) ks (omega arith) i) (omega arith)

seq_bound : (count : ℕ) → IsBounded (seq count)
seq_bound count (symbol_label k) (symbols ks) w m n is small at e = image_same (AtMost (m + n)) (symbols (ks ++ k ∷ [])) w e (appended ks k m n small at)
seq_bound count (symbol_label k) _ w m n is small at e = absurd (cc)
seq_bound count _ v w m n is small at e = absurd is

simseq_bound : (count : ℕ) → IsBounded (simseq count)
simseq_bound count (symbol_label k) (symbols ks) w m n is small at e = image_unless (AtMost (m + n)) (list_any (λ i. i == k) ks) (symbols (ks ++ k ∷ [])) w e (λ _. appended ks k m n small at)
simseq_bound count (symbol_label k) _ w m n is small at e = absurd (cc)
simseq_bound count _ v w m n is small at e = absurd is

tags_bound : (count : ℕ) → IsBounded (tags count)
tags_bound count keep v w m n is small at e = kept_bound v w m n at e
tags_bound count (mark k) (marks s) w m n is small at e = image_same (AtMost (m + n)) (marks (bit_or s (2 ^ k))) w e tt
tags_bound count (mark k) _ w m n is small at e = absurd (cc)
tags_bound count (unmark k) (marks s) w m n is small at e = image_same (AtMost (m + n)) (marks (bit_and s (2 ^ 64 - 1 - 2 ^ k))) w e tt
tags_bound count (unmark k) _ w m n is small at e = absurd (cc)
tags_bound count _ v w m n is small at e = absurd is

guard_bound : (count : ℕ) → IsBounded (guard count)
guard_bound count (need k) (marks s) w m n is small at e = image_where (AtMost (m + n)) (has_mark s k) (marks s) w e (λ _. tt)
guard_bound count (need k) _ w m n is small at e = absurd (cc)
guard_bound count (bar k) (marks s) w m n is small at e = image_unless (AtMost (m + n)) (has_mark s k) (marks s) w e (λ _. tt)
guard_bound count (bar k) _ w m n is small at e = absurd (cc)
guard_bound count _ v w m n is small at e = absurd is

gate_bound : IsBounded gate
gate_bound allow v w m n is small at e = kept_bound v w m n at e
gate_bound deny v w m n is small at e = absurd (cc)
gate_bound _ v w m n is small at e = absurd is

table_bound : (t : TableSpec) → IsBounded (table t)
table_bound t (row_label r) (name k) w m n is small at e = image_part (AtMost (m + n)) name (image_of t r k) w e (λ i _. tt)
table_bound t (row_label r) _ w m n is small at e = absurd (cc)
table_bound t _ v w m n is small at e = absurd is

lex_bound : (a b : Expression) → IsBounded a → IsBounded b → IsBounded (lex a b)
lex_bound a b first_law second_law (pair_label l k) (pair u v) w m n is small at e =
    image_both (AtMost (m + n)) (App a l u) (App b k v) w e (λ x y p q.
    (first_law l u x m n is.0 small.0 at.0 p, second_law k v y m n is.1 small.1 at.1 q))
lex_bound a b first_law second_law (pair_label l k) _ w m n is small at e = absurd (cc)
lex_bound a b first_law second_law _ v w m n is small at e = absurd is

scoped_bound : (a b : Expression) → IsBounded a → IsBounded b → IsBounded (scoped a b)
scoped_bound a b first_law second_law (outer l s) (pair u v) w m n is small at e =
    image_both (AtMost (m + n)) (App a l u) (Some s) w e (λ x y p q.
    (first_law l u x m n is.0 small.0 at.0 p, image_same (AtMost (m + n)) s y q (at_most_more n (m + n) s (omega arith) small.1)))
scoped_bound a b first_law second_law (outer l s) _ w m n is small at e = absurd (cc)
scoped_bound a b first_law second_law (inner k) (pair u v) w m n is small at e =
    image_both (AtMost (m + n)) (Some u) (App b k v) w e (λ x y p q.
    (kept_bound u x m n at.0 p, second_law k v y m n is small at.1 q))
scoped_bound a b first_law second_law (inner k) _ w m n is small at e = absurd (cc)
scoped_bound a b first_law second_law _ v w m n is small at e = absurd is

union_bound : (a b : Expression) → IsBounded a → IsBounded b → IsBounded (union a b)
union_bound a b first_law second_law (first_label l) (first u) w m n is small at e =
    image_part (AtMost (m + n)) first (App a l u) w e (λ x p. first_law l u x m n is small at p)
union_bound a b first_law second_law (first_label l) _ w m n is small at e = absurd (cc)
union_bound a b first_law second_law (second_label k) (second v) w m n is small at e =
    image_part (AtMost (m + n)) second (App b k v) w e (λ x p. second_law k v x m n is small at p)
union_bound a b first_law second_law (second_label k) _ w m n is small at e = absurd (cc)
union_bound a b first_law second_law _ v w m n is small at e = absurd is

sum_bound : (a b : Expression) → IsBounded a → IsBounded b → IsBounded (sum a b)
sum_bound a b first_law second_law (both_label l k) (first u) w m n is small at e =
    image_part (AtMost (m + n)) first (App a l u) w e (λ x p. first_law l u x m n is.0 small.0 at p)
sum_bound a b first_law second_law (both_label l k) (second v) w m n is small at e =
    image_part (AtMost (m + n)) second (App b k v) w e (λ x p. second_law k v x m n is.1 small.1 at p)
sum_bound a b first_law second_law (both_label l k) _ w m n is small at e = absurd (cc)
sum_bound a b first_law second_law _ v w m n is small at e = absurd is

plus_bound : (a b : Expression) → IsBounded a → IsBounded b → IsBounded (plus a b)
plus_bound a b first_law second_law (first_label l) v w m n is small at e = first_law l v w m n is small at e
plus_bound a b first_law second_law (second_label k) v w m n is small at e = second_law k v w m n is small at e
plus_bound a b first_law second_law _ v w m n is small at e = absurd is

left_bound : (a : Expression) → IsBounded (left a)
left_bound a (const_label s) v w m n is small at e = image_same (AtMost (m + n)) s w e (at_most_more n (m + n) s (omega arith) small)
left_bound a _ v w m n is small at e = absurd is

right_bound : (a : Expression) → IsBounded (right a)
right_bound a keep v w m n is small at e = kept_bound v w m n at e
right_bound a _ v w m n is small at e = absurd is

bounded : (a : Expression) → IsBounded a
bounded (add low high) = add_bound low high
bounded (cap top low high) = cap_bound top low high
bounded (worst top low high) = worst_bound top low high
bounded (width top low high) = width_bound top low high
bounded (pref top) = pref_bound top
bounded (orig top) = orig_bound top
bounded (seq count) = seq_bound count
bounded (simseq count) = simseq_bound count
bounded (tags count) = tags_bound count
bounded (guard count) = guard_bound count
bounded gate = gate_bound
bounded (table t) = table_bound t
bounded (lex a b) = lex_bound a b (bounded a) (bounded b)
bounded (scoped a b) = scoped_bound a b (bounded a) (bounded b)
bounded (union a b) = union_bound a b (bounded a) (bounded b)
bounded (sum a b) = sum_bound a b (bounded a) (bounded b)
bounded (plus a b) = plus_bound a b (bounded a) (bounded b)
bounded (left a) = left_bound a
bounded (right a) = right_bound a

-- no number of an image is above the greatest of the value and the greatest of the label together
pub images_at_most : (a : Expression) (l : PureLabel) (v w : PureValue) (m n : ℕ) → IsLabel a l → LabelAtMost n l → AtMost m v → App a l v ≡ Some w → AtMost (m + n) w
images_at_most a = bounded a
