-- Whatever a label makes of a value, some label without great numbers makes of a value without great numbers: the two
-- images compare alike to their values. So a label that isn't monotone isn't hidden by a bound on the numbers of a text.
-- Lemmas, so that proofs of other crates may cite them.
use Rattle.std.proofs.Common.{◌≡◌, ℕ, ◌+◌, ◌≤◌, Some, refl, arith}
use Rattle.std.specs.Ordering.{nat_cmp}
use Rattle.std.specs.declared.cmp.Ordering.{Ordering}
use Rattle.std.proofs.lemmas.Bool.Decides.{nat_tests}
use Rattle.alg_model.specs.declared.tree.TableSpec.{TableSpec}
use Rattle.alg_model.specs.Expressions.{Expression, add, cap, worst, width, pref, orig, seq, simseq, tags, guard, gate, table, lex, scoped, union, sum, plus, left, right}
use Rattle.alg_model.specs.Expressions.{up_to, down_from, seqs, simseqs, sets, one, named}
use Rattle.alg_model.specs.Expressions.{PureValue, number, symbols, marks, unit, name, pair, first, second}
use Rattle.alg_model.specs.Expressions.{PureLabel, number_label, keep, symbol_label, mark, unmark, need, bar, allow, deny, row_label, pair_label, both_label, first_label, second_label, const_label, outer, inner}
use Rattle.alg_model.specs.Carriers.{carrier_of, In, Order}
use Rattle.alg_model.specs.Application.{IsLabel, App}
use Rattle.alg_model.specs.Bounds.{AtMost, LabelAtMost, ExpressionAtMost}
use Rattle.alg_model.specs.CarrierBounds.{carrier_at_most}
use Rattle.alg_model.specs.Formation.{MeetsCarriers}
use Rattle.alg_model.specs.Images.{image_same, image_part, image_both}
use Rattle.settled_laws.specs.SmallInstances.{small_beside, small_label, small_label_on, small_value_under}
use Rattle.settled_laws.specs.SmallValues.{order_self, all_below, beside_is_small, beside_compares}

-- values of carriers of small numbers are small
up_small : (n top : ℕ) (v : PureValue) → top ≤ n → In (up_to top) v → AtMost n v
up_small n top (number i) h k = omega arith
up_small n top _ h k = absurd k

down_small : (n top : ℕ) (v : PureValue) → top ≤ n → In (down_from top) v → AtMost n v
down_small n top (number i) h k = omega arith
down_small n top _ h k = absurd k

seqs_small : (n count : ℕ) (v : PureValue) → count ≤ n → In (seqs count) v → AtMost n v
seqs_small n count (symbols ns) h k = all_below count n ns h k
seqs_small n count _ h k = absurd k

simseqs_small : (n count : ℕ) (v : PureValue) → count ≤ n → In (simseqs count) v → AtMost n v
simseqs_small n count (symbols ns) h k = all_below count n ns h k.0
simseqs_small n count _ h k = absurd k

sets_small : (n count : ℕ) (v : PureValue) → In (sets count) v → AtMost n v
sets_small n count (marks m) k = tt
sets_small n count _ k = absurd k

one_small : (n : ℕ) (v : PureValue) → In one v → AtMost n v
one_small n unit k = tt
one_small n _ k = absurd k

named_small : (n : ℕ) (t : TableSpec) (v : PureValue) → In (named t.names t.ranks) v → AtMost n v
named_small n t (name i) k = tt
named_small n t _ k = absurd k

-- the label is one of the algebra's, and has no number above n
pub record IsSmallLabel (n : ℕ) (a : Expression) (l : PureLabel) : Type 0 where
  pub label_in : IsLabel a l
  pub small : LabelAtMost n l

pub label_is_small : (n : ℕ) (a : Expression) (l : PureLabel) → 1 ≤ n → ExpressionAtMost n a → IsLabel a l → IsSmallLabel n a (small_label a l)
label_is_small n (add low high) (number_label k) some h is = record { label_in = is; small = omega (arith, h.1, is.1) }
label_is_small n (cap top low high) (number_label k) some h is = record { label_in = is; small = omega (arith, h.2, is.1) }
label_is_small n (worst top low high) (number_label k) some h is = record { label_in = is; small = omega (arith, h.2, is.1) }
label_is_small n (width top low high) (number_label k) some h is = record { label_in = is; small = omega (arith, h.2, is.1) }
label_is_small n (pref top) (number_label k) some h is = record { label_in = is; small = omega arith }
label_is_small n (orig top) keep some h is = record { label_in = is; small = tt }
label_is_small n (seq count) (symbol_label k) some h is = record { label_in = is; small = omega arith }
label_is_small n (simseq count) (symbol_label k) some h is = record { label_in = is; small = omega arith }
label_is_small n (tags count) keep some h is = record { label_in = is; small = tt }
label_is_small n (tags count) (mark k) some h is = record { label_in = is; small = tt }
label_is_small n (tags count) (unmark k) some h is = record { label_in = is; small = tt }
label_is_small n (guard count) (need k) some h is = record { label_in = is; small = tt }
label_is_small n (guard count) (bar k) some h is = record { label_in = is; small = tt }
label_is_small n gate allow some h is = record { label_in = is; small = tt }
label_is_small n gate deny some h is = record { label_in = is; small = tt }
label_is_small n (table t) (row_label r) some h is = record { label_in = is; small = tt }
label_is_small n (lex a b) (pair_label l m) some h is =
    let s = label_is_small n a l some h.0 is.0 in
    let t = label_is_small n b m some h.1 is.1 in
    record { label_in = (s.label_in, t.label_in); small = (s.small, t.small) }
label_is_small n (scoped a b) (outer l v) some h is =
    let s = label_is_small n a l some h.0 is.0 in
    let p = beside_is_small n (carrier_of b) v v some (carrier_at_most n b h.1) is.1 is.1 in
    record { label_in = (s.label_in, p.value_in); small = (s.small, p.small) }
label_is_small n (scoped a b) (inner m) some h is =
    let t = label_is_small n b m some h.1 is in
    record { label_in = t.label_in; small = t.small }
label_is_small n (union a b) (first_label l) some h is =
    let s = label_is_small n a l some h.0 is in
    record { label_in = s.label_in; small = s.small }
label_is_small n (union a b) (second_label m) some h is =
    let t = label_is_small n b m some h.1 is in
    record { label_in = t.label_in; small = t.small }
label_is_small n (sum a b) (both_label l m) some h is =
    let s = label_is_small n a l some h.0 is.0 in
    let t = label_is_small n b m some h.1 is.1 in
    record { label_in = (s.label_in, t.label_in); small = (s.small, t.small) }
label_is_small n (plus a b) (first_label l) some h is =
    let s = label_is_small n a l some h.0 is in
    record { label_in = s.label_in; small = s.small }
label_is_small n (plus a b) (second_label m) some h is =
    let t = label_is_small n b m some h.1 is in
    record { label_in = t.label_in; small = t.small }
label_is_small n (left a) (const_label v) some h is =
    let p = beside_is_small n (carrier_of a) v v some (carrier_at_most n a h) is is in
    record { label_in = p.value_in; small = p.small }
label_is_small n (right a) keep some h is = record { label_in = is; small = tt }
label_is_small n _ _ some h is = absurd is

-- a label and a value of the algebra without a number above n, and the image, which compares like this to the value
pub record SmallImage (n : ℕ) (a : Expression) (l : PureLabel) (v : PureValue) (o : Ordering) : Type 0 where
  pub w : PureValue
  pub label_in : IsLabel a l
  pub value_in : In (carrier_of a) v
  pub label_small : LabelAtMost n l
  pub value_small : AtMost n v
  pub image : App a l v ≡ Some w
  pub order : Order (carrier_of a) w v ≡ o

small_image : {n : ℕ} {a : Expression} {l : PureLabel} {v : PureValue} {o : Ordering} (w : PureValue) → IsLabel a l → In (carrier_of a) v
    → LabelAtMost n l → AtMost n v → App a l v ≡ Some w → Order (carrier_of a) w v ≡ o → SmallImage n a l v o
small_image w is within label_small value_small image order = record {
  w = w;
  label_in = is;
  value_in = within;
  label_small = label_small;
  value_small = value_small;
  image = image;
  order = order;
}

-- the law for a label and a value with its image
abbrev HasSmallImage : ℕ → Expression → PureLabel → PureValue → PureValue → Type 0
HasSmallImage n a l v w = SmallImage n a (small_label_on a l v) (small_value_under a l v) (Order (carrier_of a) w v)

-- the law for an expression
abbrev pub HasSmallImages : ℕ → Expression → Type 0
HasSmallImages n a = (l : PureLabel) (v w : PureValue) → IsLabel a l → In (carrier_of a) v → App a l v ≡ Some w → HasSmallImage n a l v w

itself : (n : ℕ) (a : Expression) (l : PureLabel) (v w : PureValue) → IsLabel a l → In (carrier_of a) v → LabelAtMost n l → AtMost n v → App a l v ≡ Some w → SmallImage n a l v (Order (carrier_of a) w v)
itself n a l v w is within label_small value_small e =
    record { w = w; label_in = is; value_in = within; label_small = label_small; value_small = value_small; image = e; order = refl }

added : (i k : ℕ) → nat_cmp (0 + k) 0 ≡ nat_cmp (i + k) i
added i k = grind (arith, nat_tests)

add_small : (n low high : ℕ) → high ≤ n → HasSmallImages n (add low high)
add_small n low high h (number_label k) (number i) w is within e =
    image_same (HasSmallImage n (add low high) (number_label k) (number i)) (number (i + k)) w e
    (record { w = number (0 + k); label_in = is; value_in = tt; label_small = omega (arith, is.1); value_small = omega arith; image = refl; order = added i k })
add_small n low high h (number_label k) _ w is within e = absurd within
add_small n low high h _ v w is within e = absurd is

cap_small : (n top low high : ℕ) → top ≤ n → high ≤ n → HasSmallImages n (cap top low high)
cap_small n top low high h g (number_label k) v w is within e = itself n (cap top low high) (number_label k) v w is within (omega (arith, is.1)) (up_small n top v h within) e
cap_small n top low high h g _ v w is within e = absurd is

worst_small : (n top low high : ℕ) → top ≤ n → high ≤ n → HasSmallImages n (worst top low high)
worst_small n top low high h g (number_label k) v w is within e = itself n (worst top low high) (number_label k) v w is within (omega (arith, is.1)) (up_small n top v h within) e
worst_small n top low high h g _ v w is within e = absurd is

width_small : (n top low high : ℕ) → top ≤ n → high ≤ n → HasSmallImages n (width top low high)
width_small n top low high h g (number_label k) v w is within e = itself n (width top low high) (number_label k) v w is within (omega (arith, is.1)) (down_small n top v h within) e
width_small n top low high h g _ v w is within e = absurd is

pref_small : (n top : ℕ) → top ≤ n → HasSmallImages n (pref top)
pref_small n top h (number_label k) v w is within e = itself n (pref top) (number_label k) v w is within (omega arith) (down_small n top v h within) e
pref_small n top h _ v w is within e = absurd is

orig_small : (n top : ℕ) → top ≤ n → HasSmallImages n (orig top)
orig_small n top h keep v w is within e = itself n (orig top) keep v w is within tt (up_small n top v h within) e
orig_small n top h _ v w is within e = absurd is

seq_small : (n count : ℕ) → count ≤ n → HasSmallImages n (seq count)
seq_small n count h (symbol_label k) v w is within e = itself n (seq count) (symbol_label k) v w is within (omega arith) (seqs_small n count v h within) e
seq_small n count h _ v w is within e = absurd is

simseq_small : (n count : ℕ) → count ≤ n → HasSmallImages n (simseq count)
simseq_small n count h (symbol_label k) v w is within e = itself n (simseq count) (symbol_label k) v w is within (omega arith) (simseqs_small n count v h within) e
simseq_small n count h _ v w is within e = absurd is

tags_small : (n count : ℕ) → HasSmallImages n (tags count)
tags_small n count keep v w is within e = itself n (tags count) keep v w is within tt (sets_small n count v within) e
tags_small n count (mark k) v w is within e = itself n (tags count) (mark k) v w is within tt (sets_small n count v within) e
tags_small n count (unmark k) v w is within e = itself n (tags count) (unmark k) v w is within tt (sets_small n count v within) e
tags_small n count _ v w is within e = absurd is

guard_small : (n count : ℕ) → HasSmallImages n (guard count)
guard_small n count (need k) v w is within e = itself n (guard count) (need k) v w is within tt (sets_small n count v within) e
guard_small n count (bar k) v w is within e = itself n (guard count) (bar k) v w is within tt (sets_small n count v within) e
guard_small n count _ v w is within e = absurd is

gate_small : (n : ℕ) → HasSmallImages n gate
gate_small n allow v w is within e = itself n gate allow v w is within tt (one_small n v within) e
gate_small n deny v w is within e = itself n gate deny v w is within tt (one_small n v within) e
gate_small n _ v w is within e = absurd is

table_small : (n : ℕ) (t : TableSpec) → HasSmallImages n (table t)
table_small n t (row_label r) v w is within e = itself n (table t) (row_label r) v w is within tt (named_small n t v within) e
table_small n t _ v w is within e = absurd is

lex_small : (n : ℕ) (a b : Expression) → HasSmallImages n a → HasSmallImages n b → HasSmallImages n (lex a b)
lex_small n a b first_law second_law (pair_label l m) (pair u v) w is within e =
    image_both (HasSmallImage n (lex a b) (pair_label l m) (pair u v)) (App a l u) (App b m v) w e
    (λ x y p q.
    let s = first_law l u x is.0 within.0 p in
    let t = second_law m v y is.1 within.1 q in
    record {
      w = pair s.w t.w;
      label_in = (s.label_in, t.label_in);
      value_in = (s.value_in, t.value_in);
      label_small = (s.label_small, t.label_small);
      value_small = (s.value_small, t.value_small);
      image = rw (s.image, t.image) refl;
      order = rw (s.order, t.order) refl;
    })
lex_small n a b first_law second_law (pair_label l m) _ w is within e = absurd within
lex_small n a b first_law second_law _ v w is within e = absurd is

scoped_small : (n : ℕ) (a b : Expression) → 1 ≤ n → ExpressionAtMost n a → ExpressionAtMost n b → HasSmallImages n a → HasSmallImages n b → HasSmallImages n (scoped a b)
scoped_small n a b some h g first_law second_law (outer l z) (pair u v) w is within e =
    image_both (HasSmallImage n (scoped a b) (outer l z) (pair u v)) (App a l u) (Some z) w e
    (λ x y p q.
    let s = first_law l u x is.0 within.0 p in
    let c = carrier_of b in
    let t = beside_is_small n c z v some (carrier_at_most n b g) is.1 within.1 in
    let r = beside_is_small n c v z some (carrier_at_most n b g) within.1 is.1 in
    let same : z ≡ y = cc in
    record {
      w = pair s.w (small_beside c z v);
      label_in = (s.label_in, t.value_in);
      value_in = (s.value_in, r.value_in);
      label_small = (s.label_small, t.small);
      value_small = (s.value_small, r.small);
      image = rw s.image refl;
      order = rw (s.order, ← same, beside_compares c z v is.1 within.1) refl;
    })
scoped_small n a b some h g first_law second_law (outer l z) _ w is within e = absurd within
scoped_small n a b some h g first_law second_law (inner m) (pair u v) w is within e =
    image_both (HasSmallImage n (scoped a b) (inner m) (pair u v)) (Some u) (App b m v) w e
    (λ x y p q.
    let c = carrier_of a in
    let s = beside_is_small n c u u some (carrier_at_most n a h) within.0 within.0 in
    let t = second_law m v y is within.1 q in
    let same : u ≡ x = cc in
    record {
      w = pair (small_beside c u u) t.w;
      label_in = t.label_in;
      value_in = (s.value_in, t.value_in);
      label_small = t.label_small;
      value_small = (s.small, t.value_small);
      image = rw t.image refl;
      order = rw (← same, order_self c (small_beside c u u), order_self c u, t.order) refl;
    })
scoped_small n a b some h g first_law second_law (inner m) _ w is within e = absurd within
scoped_small n a b some h g first_law second_law _ v w is within e = absurd is

union_small : (n : ℕ) (a b : Expression) → HasSmallImages n a → HasSmallImages n b → HasSmallImages n (union a b)
union_small n a b first_law second_law (first_label l) (first u) w is within e =
    image_part (HasSmallImage n (union a b) (first_label l) (first u)) first (App a l u) w e
    (λ x p.
    let s = first_law l u x is within p in
    small_image (first s.w) s.label_in s.value_in s.label_small s.value_small (rw s.image refl) s.order)
union_small n a b first_law second_law (first_label l) _ w is within e = absurd (cc)
union_small n a b first_law second_law (second_label m) (second v) w is within e =
    image_part (HasSmallImage n (union a b) (second_label m) (second v)) second (App b m v) w e
    (λ x p.
    let t = second_law m v x is within p in
    small_image (second t.w) t.label_in t.value_in t.label_small t.value_small (rw t.image refl) t.order)
union_small n a b first_law second_law (second_label m) _ w is within e = absurd (cc)
union_small n a b first_law second_law _ v w is within e = absurd is

sum_small : (n : ℕ) (a b : Expression) → 1 ≤ n → ExpressionAtMost n a → ExpressionAtMost n b → HasSmallImages n a → HasSmallImages n b → HasSmallImages n (sum a b)
sum_small n a b some h g first_law second_law (both_label l m) (first u) w is within e =
    image_part (HasSmallImage n (sum a b) (both_label l m) (first u)) first (App a l u) w e
    (λ x p.
    let s = first_law l u x is.0 within p in
    let t = label_is_small n b m some g is.1 in
    small_image (first s.w) (s.label_in, t.label_in) s.value_in (s.label_small, t.small) s.value_small (rw s.image refl) s.order)
sum_small n a b some h g first_law second_law (both_label l m) (second v) w is within e =
    image_part (HasSmallImage n (sum a b) (both_label l m) (second v)) second (App b m v) w e
    (λ x p.
    let s = label_is_small n a l some h is.0 in
    let t = second_law m v x is.1 within p in
    small_image (second t.w) (s.label_in, t.label_in) t.value_in (s.small, t.label_small) t.value_small (rw t.image refl) t.order)
sum_small n a b some h g first_law second_law (both_label l m) _ w is within e = absurd within
sum_small n a b some h g first_law second_law _ v w is within e = absurd is

plus_small : (n : ℕ) (a b : Expression) → carrier_of a ≡ carrier_of b → HasSmallImages n a → HasSmallImages n b → HasSmallImages n (plus a b)
plus_small n a b same first_law second_law (first_label l) v w is within e =
    let s = first_law l v w is within e in
    small_image s.w s.label_in s.value_in s.label_small s.value_small s.image s.order
plus_small n a b same first_law second_law (second_label m) v w is within e =
    let t = second_law m v w is (rw same at within) e in
    small_image t.w t.label_in (rw same t.value_in) t.label_small t.value_small t.image (rw same t.order)
plus_small n a b same first_law second_law _ v w is within e = absurd is

left_small : (n : ℕ) (a : Expression) → 1 ≤ n → ExpressionAtMost n a → HasSmallImages n (left a)
left_small n a some h (const_label z) v w is within e =
    let c = carrier_of a in
    let p = beside_is_small n c z v some (carrier_at_most n a h) is within in
    let q = beside_is_small n c v z some (carrier_at_most n a h) within is in
    image_same (HasSmallImage n (left a) (const_label z) v) z w e
    (record {
      w = small_beside c z v;
      label_in = p.value_in;
      value_in = q.value_in;
      label_small = p.small;
      value_small = q.small;
      image = refl;
      order = beside_compares c z v is within;
    })
left_small n a some h _ v w is within e = absurd is

right_small : (n : ℕ) (a : Expression) → 1 ≤ n → ExpressionAtMost n a → HasSmallImages n (right a)
right_small n a some h keep v w is within e =
    let c = carrier_of a in
    let p = beside_is_small n c v v some (carrier_at_most n a h) within within in
    image_same (HasSmallImage n (right a) keep v) v w e
    (record {
      w = small_beside c v v;
      label_in = tt;
      value_in = p.value_in;
      label_small = tt;
      value_small = p.small;
      image = refl;
      order = beside_compares c v v within within;
    })
right_small n a some h _ v w is within e = absurd is

-- the law of every expression without a number above n
pub image_is_small : (n : ℕ) (a : Expression) → 1 ≤ n → ExpressionAtMost n a → MeetsCarriers a → HasSmallImages n a
image_is_small n (add low high) some h c = add_small n low high h.1
image_is_small n (cap top low high) some h c = cap_small n top low high h.0 h.2
image_is_small n (worst top low high) some h c = worst_small n top low high h.0 h.2
image_is_small n (width top low high) some h c = width_small n top low high h.0 h.2
image_is_small n (pref top) some h c = pref_small n top h
image_is_small n (orig top) some h c = orig_small n top h
image_is_small n (seq count) some h c = seq_small n count h
image_is_small n (simseq count) some h c = simseq_small n count h
image_is_small n (tags count) some h c = tags_small n count
image_is_small n (guard count) some h c = guard_small n count
image_is_small n gate some h c = gate_small n
image_is_small n (table t) some h c = table_small n t
image_is_small n (lex a b) some h c = lex_small n a b (image_is_small n a some h.0 c.0) (image_is_small n b some h.1 c.1)
image_is_small n (scoped a b) some h c = scoped_small n a b some h.0 h.1 (image_is_small n a some h.0 c.0) (image_is_small n b some h.1 c.1)
image_is_small n (union a b) some h c = union_small n a b (image_is_small n a some h.0 c.0) (image_is_small n b some h.1 c.1)
image_is_small n (sum a b) some h c = sum_small n a b some h.0 h.1 (image_is_small n a some h.0 c.0) (image_is_small n b some h.1 c.1)
image_is_small n (plus a b) some h c = plus_small n a b c.2 (image_is_small n a some h.0 c.0) (image_is_small n b some h.1 c.1)
image_is_small n (left a) some h c = left_small n a some h
image_is_small n (right a) some h c = right_small n a some h
