-- What a label makes of a value of the carrier is in the carrier. Lemmas, so that proofs of other
-- crates may cite them.
use Rattle.std.proofs.Common.{◌≡◌, ℕ, ◌+◌, ◌-◌, ◌^◌, ◌<◌, ◌≤◌, ◌==◌, List, [], ◌∷◌, ◌++◌, zero, suc, length, Bool, true, false, not, ◌&&◌, ◌||◌, Option, Some, None, refl, arith}
use Rattle.std.proofs.lemmas.Bool.Decides.{nat_tests}
use Rattle.std.proofs.lemmas.Nat.{or_lt, and_le_l, pow_below}
use Rattle.std.specs.Prelude.{nat_le, nat_lt, max, min, bit_or, bit_and, slice_get, option_and_then}
use Rattle.std.specs.List.{list_any, list_all}
use Rattle.alg_model.specs.declared.tree.TableSpec.{TableSpec}
use Rattle.alg_model.specs.declared.tree.TableRow.{TableRow}
use Rattle.alg_model.specs.Expressions.{Expression, add, cap, worst, width, pref, orig, seq, simseq, tags, guard, gate, table, lex, scoped, union, sum, plus, left, right}
use Rattle.alg_model.specs.Expressions.{up_to, down_from, seqs, simseqs, sets, named}
use Rattle.alg_model.specs.Expressions.{whole, PureValue, number, symbols, marks, name, pair, first, second}
use Rattle.alg_model.specs.Expressions.{PureLabel, number_label, keep, symbol_label, mark, unmark, need, bar, allow, deny, row_label, pair_label, both_label, first_label, second_label, const_label, outer, inner}
use Rattle.alg_model.specs.Carriers.{carrier_of, In, distinct}
use Rattle.alg_model.specs.Application.{App, IsLabel, image_of, has_mark}
use Rattle.alg_model.specs.Formation.{MeetsRanges, MeetsCarriers, IsFormed, is_table, is_table_count, are_ranks, is_row_over, is_place_or_none}
use Rattle.alg_model.specs.Images.{image_same, image_where, image_unless, image_part, image_both}
use Rattle.alg_model.specs.BoundLaws.{all_and_one}

-- what both of two tests say, and what neither of two does
both_hold : (a b : Bool) → (a && b) ≡ true → (a ≡ true) × (b ≡ true)
both_hold true b h = (refl, h)
both_hold false b h = absurd (cc)

neither_holds : (a b : Bool) → (a || b) ≡ false → (a ≡ false) × (b ≡ false)
neither_holds true b h = absurd (cc)
neither_holds false b h = (refl, h)

not_true : (a : Bool) → not a ≡ true → a ≡ false
not_true true h = cc
not_true false h = refl

-- a number that isn't among others, and isn't one more, isn't among all of them
none_and_one : (k n : ℕ) (ks : List ℕ) → list_any (λ m. m == k) ks ≡ false → (n == k) ≡ false → list_any (λ m. m == k) (ks ++ n ∷ []) ≡ false
none_and_one k n [] h i = rw i refl
none_and_one k n (m ∷ ks) h i =
    let t = neither_holds (m == k) (list_any (λ m. m == k) ks) h in
    rw (t.0, none_and_one k n ks t.1 i) refl

other_way : (m n : ℕ) → (m == n) ≡ false → (n == m) ≡ false
other_way m n h = grind (arith, nat_tests)

-- numbers without a repeat, and one that isn't among them, are without a repeat
pub distinct_and_one : (ks : List ℕ) (n : ℕ) → distinct ks ≡ true → list_any (λ m. m == n) ks ≡ false → distinct (ks ++ n ∷ []) ≡ true
distinct_and_one [] n h i = refl
distinct_and_one (k ∷ ks) n h i =
    let d = both_hold (not (list_any (λ m. m == k) ks)) (distinct ks) h in
    let t = neither_holds (k == n) (list_any (λ m. m == n) ks) i in
    rw (none_and_one k n ks (not_true (list_any (λ m. m == k) ks) d.0) (other_way k n t.0), distinct_and_one ks n d.1 t.1) refl

-- an image that is there is one of the places
image_place : (count : ℕ) (images : List (Option ℕ)) (k place : ℕ) → list_all (is_place_or_none count) images ≡ true
    → option_and_then (λ image. image) (slice_get images k) ≡ Some place → place < count
image_place count [] k place h e = absurd (cc)
image_place count (None ∷ images) zero place h e = absurd (cc)
image_place count (Some i ∷ images) zero place h e =
    let t = both_hold (nat_lt i count) (list_all (is_place_or_none count) images) h in
    let f : i ≡ place = cc in
    rw f at (below i count t.0)
  where
    below : (i count : ℕ) → nat_lt i count ≡ true → i < count
    below i count h = grind (arith, nat_tests)
image_place count (image ∷ images) (suc k) place h e =
    let t = both_hold (is_place_or_none count image) (list_all (is_place_or_none count) images) h in
    image_place count images k place t.1 e

-- and so for each of the rows
row_place : (count : ℕ) (rows : List TableRow) (r k place : ℕ) → list_all (is_row_over count) rows ≡ true
    → option_and_then (λ (row : TableRow). option_and_then (λ image. image) (slice_get row.images k)) (slice_get rows r) ≡ Some place → place < count
row_place count [] r k place h e = absurd (cc)
row_place count (row ∷ rows) zero k place h e =
    let t = both_hold (is_row_over count row) (list_all (is_row_over count) rows) h in
    let u = both_hold (length row.images == count) (list_all (is_place_or_none count) row.images) t.0 in
    image_place count row.images k place u.1 e
row_place count (row ∷ rows) (suc r) k place h e =
    let t = both_hold (is_row_over count row) (list_all (is_row_over count) rows) h in
    row_place count rows r k place t.1 e

rows_fit : (a b c d e : Bool) → (a && b && c && d && e) ≡ true → e ≡ true
rows_fit a b c d e h = (both_hold (a && b && c && d) e h).1

-- in a table each image that is there is the place of one of the values
pub image_of_within : (t : TableSpec) (r k place : ℕ) → is_table t ≡ true → image_of t r k ≡ Some place → place < length t.names
image_of_within t r k place h e =
    row_place (length t.names) t.rows r k place (rows_fit (is_table_count (length t.names)) (is_table_count (length t.rows)) (length t.ranks == length t.names) (are_ranks t.ranks) (list_all (is_row_over (length t.names)) t.rows) h) e

-- the law for an expression
abbrev pub KeepsIn : Expression → Type 0
KeepsIn a = (l : PureLabel) (v w : PureValue) → IsLabel a l → In (carrier_of a) v → App a l v ≡ Some w → In (carrier_of a) w

add_in : (low high : ℕ) → KeepsIn (add low high)
add_in low high (number_label k) (number i) w is within e = image_same (In whole) (number (i + k)) w e tt
add_in low high (number_label k) _ w is within e = absurd within
add_in low high _ v w is within e = absurd is

cap_in : (top low high : ℕ) → KeepsIn (cap top low high)
cap_in top low high (number_label k) (number i) w is within e = image_where (In (up_to top)) (nat_le (i + k) top) (number (i + k)) w e (λ t. at_most (i + k) top t)
  where
    at_most : (m n : ℕ) → nat_le m n ≡ true → m ≤ n
    at_most m n h = grind (arith, nat_tests)
cap_in top low high (number_label k) _ w is within e = absurd within
cap_in top low high _ v w is within e = absurd is

worst_in : (top low high : ℕ) → high ≤ top → KeepsIn (worst top low high)
worst_in top low high h (number_label k) (number i) w is within e = image_same (In (up_to top)) (number (max i k)) w e (omega arith)
worst_in top low high h (number_label k) _ w is within e = absurd within
worst_in top low high h _ v w is within e = absurd is

width_in : (top low high : ℕ) → KeepsIn (width top low high)
width_in top low high (number_label k) (number i) w is within e = image_same (In (down_from top)) (number (min i k)) w e (omega arith)
width_in top low high (number_label k) _ w is within e = absurd within
width_in top low high _ v w is within e = absurd is

pref_in : (top : ℕ) → KeepsIn (pref top)
pref_in top (number_label k) (number i) w is within e = image_same (In (down_from top)) (number k) w e is
pref_in top (number_label k) _ w is within e = absurd within
pref_in top _ v w is within e = absurd is

orig_in : (top : ℕ) → KeepsIn (orig top)
orig_in top keep v w is within e = image_same (In (up_to top)) v w e within
orig_in top _ v w is within e = absurd is

seq_in : (count : ℕ) → KeepsIn (seq count)
seq_in count (symbol_label k) (symbols ks) w is within e = image_same (In (seqs count)) (symbols (ks ++ k ∷ [])) w e (all_and_one (λ i. i < count) ks k within is)
seq_in count (symbol_label k) _ w is within e = absurd within
seq_in count _ v w is within e = absurd is

simseq_in : (count : ℕ) → KeepsIn (simseq count)
simseq_in count (symbol_label k) (symbols ks) w is within e =
    image_unless (In (simseqs count)) (list_any (λ i. i == k) ks) (symbols (ks ++ k ∷ [])) w e (λ t.
    (all_and_one (λ i. i < count) ks k within.0 is, distinct_and_one ks k within.1 t))
simseq_in count (symbol_label k) _ w is within e = absurd within
simseq_in count _ v w is within e = absurd is

-- below a number is what is at most a number below it
at_most_below : (k m n : ℕ) → k ≤ m → m < n → k < n
at_most_below k m n h i = omega arith

tags_in : (count : ℕ) → KeepsIn (tags count)
tags_in count keep v w is within e = image_same (In (sets count)) v w e within
tags_in count (mark k) (marks s) w is within e = image_same (In (sets count)) (marks (bit_or s (2 ^ k))) w e (or_lt count s (2 ^ k) within (pow_below k count is))
tags_in count (mark k) _ w is within e = absurd within
tags_in count (unmark k) (marks s) w is within e =
    image_same (In (sets count)) (marks (bit_and s (2 ^ 64 - 1 - 2 ^ k))) w e (at_most_below (bit_and s (2 ^ 64 - 1 - 2 ^ k)) s (2 ^ count) (and_le_l s (2 ^ 64 - 1 - 2 ^ k)) within)
tags_in count (unmark k) _ w is within e = absurd within
tags_in count _ v w is within e = absurd is

guard_in : (count : ℕ) → KeepsIn (guard count)
guard_in count (need k) (marks s) w is within e = image_where (In (sets count)) (has_mark s k) (marks s) w e (λ _. within)
guard_in count (need k) _ w is within e = absurd within
guard_in count (bar k) (marks s) w is within e = image_unless (In (sets count)) (has_mark s k) (marks s) w e (λ _. within)
guard_in count (bar k) _ w is within e = absurd within
guard_in count _ v w is within e = absurd is

gate_in : KeepsIn gate
gate_in allow v w is within e = image_same (In (carrier_of gate)) v w e within
gate_in deny v w is within e = absurd (cc)
gate_in _ v w is within e = absurd is

table_in : (t : TableSpec) → is_table t ≡ true → KeepsIn (table t)
table_in t h (row_label r) (name k) w is within e = image_part (In (named t.names t.ranks)) name (image_of t r k) w e (λ place p. image_of_within t r k place h p)
table_in t h (row_label r) _ w is within e = absurd within
table_in t h _ v w is within e = absurd is

lex_in : (a b : Expression) → KeepsIn a → KeepsIn b → KeepsIn (lex a b)
lex_in a b first_law second_law (pair_label l k) (pair u v) w is within e =
    image_both (In (carrier_of (lex a b))) (App a l u) (App b k v) w e (λ x y p q. (first_law l u x is.0 within.0 p, second_law k v y is.1 within.1 q))
lex_in a b first_law second_law (pair_label l k) _ w is within e = absurd within
lex_in a b first_law second_law _ v w is within e = absurd is

scoped_in : (a b : Expression) → KeepsIn a → KeepsIn b → KeepsIn (scoped a b)
scoped_in a b first_law second_law (outer l s) (pair u v) w is within e =
    image_both (In (carrier_of (scoped a b))) (App a l u) (Some s) w e (λ x y p q. (first_law l u x is.0 within.0 p, image_same (In (carrier_of b)) s y q is.1))
scoped_in a b first_law second_law (outer l s) _ w is within e = absurd within
scoped_in a b first_law second_law (inner k) (pair u v) w is within e =
    image_both (In (carrier_of (scoped a b))) (Some u) (App b k v) w e (λ x y p q. (image_same (In (carrier_of a)) u x p within.0, second_law k v y is within.1 q))
scoped_in a b first_law second_law (inner k) _ w is within e = absurd within
scoped_in a b first_law second_law _ v w is within e = absurd is

union_in : (a b : Expression) → KeepsIn a → KeepsIn b → KeepsIn (union a b)
union_in a b first_law second_law (first_label l) (first u) w is within e =
    image_part (In (carrier_of (union a b))) first (App a l u) w e (λ x p. first_law l u x is within p)
union_in a b first_law second_law (first_label l) _ w is within e = absurd (cc)
union_in a b first_law second_law (second_label k) (second v) w is within e =
    image_part (In (carrier_of (union a b))) second (App b k v) w e (λ x p. second_law k v x is within p)
union_in a b first_law second_law (second_label k) _ w is within e = absurd (cc)
union_in a b first_law second_law _ v w is within e = absurd is

sum_in : (a b : Expression) → KeepsIn a → KeepsIn b → KeepsIn (sum a b)
sum_in a b first_law second_law (both_label l k) (first u) w is within e =
    image_part (In (carrier_of (sum a b))) first (App a l u) w e (λ x p. first_law l u x is.0 within p)
sum_in a b first_law second_law (both_label l k) (second v) w is within e =
    image_part (In (carrier_of (sum a b))) second (App b k v) w e (λ x p. second_law k v x is.1 within p)
sum_in a b first_law second_law (both_label l k) _ w is within e = absurd within
sum_in a b first_law second_law _ v w is within e = absurd is

plus_in : (a b : Expression) → carrier_of a ≡ carrier_of b → KeepsIn a → KeepsIn b → KeepsIn (plus a b)
plus_in a b same first_law second_law (first_label l) v w is within e = first_law l v w is within e
plus_in a b same first_law second_law (second_label k) v w is within e = rw same (second_law k v w is (rw same at within) e)
plus_in a b same first_law second_law _ v w is within e = absurd is

left_in : (a : Expression) → KeepsIn (left a)
left_in a (const_label s) v w is within e = image_same (In (carrier_of a)) s w e is
left_in a _ v w is within e = absurd is

right_in : (a : Expression) → KeepsIn (right a)
right_in a keep v w is within e = image_same (In (carrier_of a)) v w e within
right_in a _ v w is within e = absurd is

-- the law wherever ranges and carriers are as the rules ask
pub images_kept : (a : Expression) → MeetsRanges a → MeetsCarriers a → KeepsIn a
images_kept (add low high) r c = add_in low high
images_kept (cap top low high) r c = cap_in top low high
images_kept (worst top low high) r c = worst_in top low high r.1
images_kept (width top low high) r c = width_in top low high
images_kept (pref top) r c = pref_in top
images_kept (orig top) r c = orig_in top
images_kept (seq count) r c = seq_in count
images_kept (simseq count) r c = simseq_in count
images_kept (tags count) r c = tags_in count
images_kept (guard count) r c = guard_in count
images_kept gate r c = gate_in
images_kept (table t) r c = table_in t r
images_kept (lex a b) r c = lex_in a b (images_kept a r.0 c.0) (images_kept b r.1 c.1)
images_kept (scoped a b) r c = scoped_in a b (images_kept a r.0 c.0) (images_kept b r.1 c.1)
images_kept (union a b) r c = union_in a b (images_kept a r.0 c.0) (images_kept b r.1 c.1)
images_kept (sum a b) r c = sum_in a b (images_kept a r.0 c.0) (images_kept b r.1 c.1)
images_kept (plus a b) r c = plus_in a b c.2 (images_kept a r.0 c.0) (images_kept b r.1 c.1)
images_kept (left a) r c = left_in a
images_kept (right a) r c = right_in a

-- what a label of an algebra makes of a value of its carrier is in the carrier
pub images_in : (a : Expression) (l : PureLabel) (v w : PureValue) → IsFormed a → IsLabel a l → In (carrier_of a) v → App a l v ≡ Some w → In (carrier_of a) w
images_in a l v w f is within e = images_kept a f.ranges f.carriers l v w is within e
