-- Preference is a total preorder on each carrier. Lemmas, so that proofs of other crates may cite
-- them; those that begin with `each` take a value of a carrier apart.
use Rattle.std.proofs.Common.{◌≡◌, ℕ, refl, sym, ap, ◌∙◌, List, length, ◌⊎◌, inl, inr, ⊎_elim}
use Rattle.std.specs.Prelude.{slice_index}
use Rattle.std.specs.Ordering.{ordering_then, ordering_reverse, nat_cmp}
use Rattle.std.specs.declared.cmp.Ordering.{Ordering}
use Rattle.std.specs.declared.cmp.Ordering.TheVariants.{Less, Equal, Greater}
use Rattle.std.specs.Cmp.{IsTotalOrder}
use Rattle.std.proofs.lemmas.Cmp.{nat_cmp_total}
use Rattle.alg_model.specs.Expressions.{PureCarrier, whole, up_to, down_from, seqs, simseqs, sets, one, named, pairs, sides}
use Rattle.alg_model.specs.Expressions.{PureValue, number, symbols, name, pair, first, second}
use Rattle.alg_model.specs.Carriers.{In, Order}
use Rattle.alg_model.specs.Preorder.{IsTotalPreorder}

-- what holds of each number holds of each member of a carrier of numbers, and so for the other kinds
pub each_whole : (P : PureValue → Type 0) → ((n : ℕ) → P (number n)) → (v : PureValue) → In whole v → P v
each_whole P f (number n) i = f n
each_whole P f _ i = absurd i

pub each_up_to : (k : ℕ) (P : PureValue → Type 0) → ((n : ℕ) → P (number n)) → (v : PureValue) → In (up_to k) v → P v
each_up_to k P f (number n) i = f n
each_up_to k P f _ i = absurd i

pub each_down : (k : ℕ) (P : PureValue → Type 0) → ((n : ℕ) → P (number n)) → (v : PureValue) → In (down_from k) v → P v
each_down k P f (number n) i = f n
each_down k P f _ i = absurd i

pub each_seq : (k : ℕ) (P : PureValue → Type 0) → ((ns : List ℕ) → P (symbols ns)) → (v : PureValue) → In (seqs k) v → P v
each_seq k P f (symbols ns) i = f ns
each_seq k P f _ i = absurd i

pub each_simseq : (k : ℕ) (P : PureValue → Type 0) → ((ns : List ℕ) → P (symbols ns)) → (v : PureValue) → In (simseqs k) v → P v
each_simseq k P f (symbols ns) i = f ns
each_simseq k P f _ i = absurd i

pub each_name : (names : List (List ℕ)) (ranks : List ℕ) (P : PureValue → Type 0) → ((n : ℕ) → P (name n)) → (v : PureValue) → In (named names ranks) v → P v
each_name names ranks P f (name n) i = f n
each_name names ranks P f _ i = absurd i

pub each_pair : (a b : PureCarrier) (P : PureValue → Type 0) → ((u v : PureValue) → In a u → In b v → P (pair u v)) → (v : PureValue) → In (pairs a b) v → P v
each_pair a b P f (pair u v) i = f u v i.0 i.1
each_pair a b P f _ i = absurd i

pub each_side : (a b : PureCarrier) (P : PureValue → Type 0) → ((u : PureValue) → In a u → P (first u)) → ((v : PureValue) → In b v → P (second v)) → (v : PureValue) → In (sides a b) v → P v
each_side a b P f g (first u) i = f u i
each_side a b P f g (second v) i = g v i
each_side a b P f g _ i = absurd i

-- the laws of an order by a number of each member
by_order : (c : PureCarrier) (f : ℕ → ℕ → Ordering) → IsTotalOrder f → (key : PureValue → ℕ) → ((u v : PureValue) → In c u → In c v → Order c u v ≡ f (key u) (key v)) → IsTotalPreorder c
by_order c f o key e = record {
  flip = λ u v i j. e v u j i ∙ o.antisymm (key v) (key u) ∙ ap ordering_reverse (sym (e u v i j));
  trans = λ u v w i j k p q. e u w i k ∙ o.trans (key u) (key v) (key w) (sym (e u v i j) ∙ p) (sym (e v w j k) ∙ q);
  congr = λ u v w i j k p. e u w i k ∙ o.congr (key u) (key v) (key w) (sym (e u v i j) ∙ p) ∙ sym (e v w j k);
}

by_key : (c : PureCarrier) (key : PureValue → ℕ) → ((u v : PureValue) → In c u → In c v → Order c u v ≡ nat_cmp (key u) (key v)) → IsTotalPreorder c
by_key c = by_order c nat_cmp nat_cmp_total

-- the number of a member
abbrev number_of : PureValue → ℕ
number_of (number n) = n
number_of (name n) = n
number_of (symbols ns) = length ns
number_of _ = 0

whole_laws : IsTotalPreorder whole
whole_laws = by_key whole number_of (λ u v i j.
    each_whole (λ u. Order whole u v ≡ nat_cmp (number_of u) (number_of v)) (λ m.
    each_whole (λ v. Order whole (number m) v ≡ nat_cmp m (number_of v)) (λ n. refl) v j) u i)

up_laws : (k : ℕ) → IsTotalPreorder (up_to k)
up_laws k = by_key (up_to k) number_of (λ u v i j.
    each_up_to k (λ u. Order (up_to k) u v ≡ nat_cmp (number_of u) (number_of v)) (λ m.
    each_up_to k (λ v. Order (up_to k) (number m) v ≡ nat_cmp m (number_of v)) (λ n. refl) v j) u i)

seq_laws : (k : ℕ) → IsTotalPreorder (seqs k)
seq_laws k = by_key (seqs k) number_of (λ u v i j.
    each_seq k (λ u. Order (seqs k) u v ≡ nat_cmp (number_of u) (number_of v)) (λ m.
    each_seq k (λ v. Order (seqs k) (symbols m) v ≡ nat_cmp (length m) (number_of v)) (λ n. refl) v j) u i)

simseq_laws : (k : ℕ) → IsTotalPreorder (simseqs k)
simseq_laws k = by_key (simseqs k) number_of (λ u v i j.
    each_simseq k (λ u. Order (simseqs k) u v ≡ nat_cmp (number_of u) (number_of v)) (λ m.
    each_simseq k (λ v. Order (simseqs k) (symbols m) v ≡ nat_cmp (length m) (number_of v)) (λ n. refl) v j) u i)

set_laws : (k : ℕ) → IsTotalPreorder (sets k)
set_laws k = by_key (sets k) (λ _. 0) (λ u v i j. refl)

one_laws : IsTotalPreorder one
one_laws = by_key one (λ _. 0) (λ u v i j. refl)

-- an order turned round keeps the laws
turned : (f : ℕ → ℕ → Ordering) → IsTotalOrder f → IsTotalOrder (λ m n. f n m)
turned f o = record {
  antisymm = λ x y. o.antisymm y x;
  trans = λ x y z p q. o.trans z y x q p;
  congr = λ x y z p. o.antisymm z x ∙ ap ordering_reverse (o.congr x y z (o.antisymm x y ∙ ap ordering_reverse p)) ∙ sym (o.antisymm z y);
}

then_flip : (o p : Ordering) → ordering_reverse (ordering_then o p) ≡ ordering_then (ordering_reverse o) (ordering_reverse p)
then_flip Less p = refl
then_flip Equal p = refl
then_flip Greater p = refl

-- how a chain comes to Less or to Equal
then_less : (o p : Ordering) → ordering_then o p ≡ Less → (o ≡ Less) ⊎ ((o ≡ Equal) × (p ≡ Less))
then_less Less p h = inl refl
then_less Equal p h = inr (refl, h)
then_less Greater p h = cc

then_equal : (o p : Ordering) → ordering_then o p ≡ Equal → (o ≡ Equal) × (p ≡ Equal)
then_equal Less p h = absurd (cc)
then_equal Equal p h = (refl, h)
then_equal Greater p h = absurd (cc)

-- equivalent members compare alike on the right too
congr_right : (c : PureCarrier) → IsTotalPreorder c → (u v w : PureValue) → In c u → In c v → In c w → Order c v w ≡ Equal → Order c u v ≡ Order c u w
congr_right c l u v w i j k h = l.flip v u j i ∙ ap ordering_reverse (l.congr v w u j k i h) ∙ sym (l.flip w u k i)

pair_laws : (a b : PureCarrier) → IsTotalPreorder a → IsTotalPreorder b → IsTotalPreorder (pairs a b)
pair_laws a b la lb = record {
  flip = λ u v i j.
      each_pair a b (λ u. Order (pairs a b) v u ≡ ordering_reverse (Order (pairs a b) u v)) (λ u1 u2 i1 i2.
      each_pair a b (λ v. Order (pairs a b) v (pair u1 u2) ≡ ordering_reverse (Order (pairs a b) (pair u1 u2) v)) (λ v1 v2 j1 j2.
      rw (la.flip u1 v1 i1 j1, lb.flip u2 v2 i2 j2) (sym (then_flip (Order a u1 v1) (Order b u2 v2)))) v j) u i;
  trans = λ u v w i j k.
      each_pair a b (λ u. Order (pairs a b) u v ≡ Less → Order (pairs a b) v w ≡ Less → Order (pairs a b) u w ≡ Less) (λ u1 u2 i1 i2.
      each_pair a b (λ v. Order (pairs a b) (pair u1 u2) v ≡ Less → Order (pairs a b) v w ≡ Less → Order (pairs a b) (pair u1 u2) w ≡ Less) (λ v1 v2 j1 j2.
      each_pair a b (λ w. Order (pairs a b) (pair u1 u2) (pair v1 v2) ≡ Less → Order (pairs a b) (pair v1 v2) w ≡ Less → Order (pairs a b) (pair u1 u2) w ≡ Less) (λ w1 w2 k1 k2 p q.
      ⊎_elim
      (λ p1. ⊎_elim (λ q1. rw (la.trans u1 v1 w1 i1 j1 k1 p1 q1) refl) (λ q1. rw (← congr_right a la u1 v1 w1 i1 j1 k1 q1.0, p1) refl) (then_less (Order a v1 w1) (Order b v2 w2) q))
      (λ p1. ⊎_elim (λ q1. rw (la.congr u1 v1 w1 i1 j1 k1 p1.0, q1) refl) (λ q1. rw (la.congr u1 v1 w1 i1 j1 k1 p1.0, q1.0) (lb.trans u2 v2 w2 i2 j2 k2 p1.1 q1.1)) (then_less (Order a v1 w1) (Order b v2 w2) q))
      (then_less (Order a u1 v1) (Order b u2 v2) p)) w k) v j) u i;
  congr = λ u v w i j k.
      each_pair a b (λ u. Order (pairs a b) u v ≡ Equal → Order (pairs a b) u w ≡ Order (pairs a b) v w) (λ u1 u2 i1 i2.
      each_pair a b (λ v. Order (pairs a b) (pair u1 u2) v ≡ Equal → Order (pairs a b) (pair u1 u2) w ≡ Order (pairs a b) v w) (λ v1 v2 j1 j2.
      each_pair a b (λ w. Order (pairs a b) (pair u1 u2) (pair v1 v2) ≡ Equal → Order (pairs a b) (pair u1 u2) w ≡ Order (pairs a b) (pair v1 v2) w) (λ w1 w2 k1 k2 p.
      let e = then_equal (Order a u1 v1) (Order b u2 v2) p in
      rw (la.congr u1 v1 w1 i1 j1 k1 e.0, lb.congr u2 v2 w2 i2 j2 k2 e.1) refl) w k) v j) u i;
}

down_laws : (k : ℕ) → IsTotalPreorder (down_from k)
down_laws k = by_order (down_from k) (λ m n. nat_cmp n m) (turned nat_cmp nat_cmp_total) number_of (λ u v i j.
    each_down k (λ u. Order (down_from k) u v ≡ nat_cmp (number_of v) (number_of u)) (λ m.
    each_down k (λ v. Order (down_from k) (number m) v ≡ nat_cmp (number_of v) m) (λ n. refl) v j) u i)

named_laws : (names : List (List ℕ)) (ranks : List ℕ) → IsTotalPreorder (named names ranks)
named_laws names ranks = by_key (named names ranks) (λ v. slice_index ranks (number_of v)) (λ u v i j.
    each_name names ranks (λ u. Order (named names ranks) u v ≡ nat_cmp (slice_index ranks (number_of u)) (slice_index ranks (number_of v))) (λ m.
    each_name names ranks (λ v. Order (named names ranks) (name m) v ≡ nat_cmp (slice_index ranks m) (slice_index ranks (number_of v))) (λ n. refl) v j) u i)

side_laws : (a b : PureCarrier) → IsTotalPreorder a → IsTotalPreorder b → IsTotalPreorder (sides a b)
side_laws a b la lb = record {
  flip = λ u v i j.
      each_side a b (λ u. Order (sides a b) v u ≡ ordering_reverse (Order (sides a b) u v))
      (λ u1 i1. each_side a b (λ v. Order (sides a b) v (first u1) ≡ ordering_reverse (Order (sides a b) (first u1) v)) (λ v1 j1. la.flip u1 v1 i1 j1) (λ v2 j2. refl) v j)
      (λ u2 i2. each_side a b (λ v. Order (sides a b) v (second u2) ≡ ordering_reverse (Order (sides a b) (second u2) v)) (λ v1 j1. refl) (λ v2 j2. lb.flip u2 v2 i2 j2) v j) u i;
  trans = λ u v w i j k.
      each_side a b (λ u. Order (sides a b) u v ≡ Less → Order (sides a b) v w ≡ Less → Order (sides a b) u w ≡ Less)
      (λ u1 i1. each_side a b (λ v. Order (sides a b) (first u1) v ≡ Less → Order (sides a b) v w ≡ Less → Order (sides a b) (first u1) w ≡ Less)
      (λ v1 j1. each_side a b (λ w. Order (sides a b) (first u1) (first v1) ≡ Less → Order (sides a b) (first v1) w ≡ Less → Order (sides a b) (first u1) w ≡ Less) (λ w1 k1. la.trans u1 v1 w1 i1 j1 k1) (λ w2 k2 p q. refl) w k)
      (λ v2 j2. each_side a b (λ w. Order (sides a b) (first u1) (second v2) ≡ Less → Order (sides a b) (second v2) w ≡ Less → Order (sides a b) (first u1) w ≡ Less) (λ w1 k1 p q. cc) (λ w2 k2 p q. refl) w k) v j)
      (λ u2 i2. each_side a b (λ v. Order (sides a b) (second u2) v ≡ Less → Order (sides a b) v w ≡ Less → Order (sides a b) (second u2) w ≡ Less)
      (λ v1 j1 p q. cc)
      (λ v2 j2. each_side a b (λ w. Order (sides a b) (second u2) (second v2) ≡ Less → Order (sides a b) (second v2) w ≡ Less → Order (sides a b) (second u2) w ≡ Less) (λ w1 k1 p q. cc) (λ w2 k2. lb.trans u2 v2 w2 i2 j2 k2) w k) v j) u i;
  congr = λ u v w i j k.
      each_side a b (λ u. Order (sides a b) u v ≡ Equal → Order (sides a b) u w ≡ Order (sides a b) v w)
      (λ u1 i1. each_side a b (λ v. Order (sides a b) (first u1) v ≡ Equal → Order (sides a b) (first u1) w ≡ Order (sides a b) v w)
      (λ v1 j1. each_side a b (λ w. Order (sides a b) (first u1) (first v1) ≡ Equal → Order (sides a b) (first u1) w ≡ Order (sides a b) (first v1) w) (λ w1 k1. la.congr u1 v1 w1 i1 j1 k1) (λ w2 k2 p. refl) w k)
      (λ v2 j2 p. cc) v j)
      (λ u2 i2. each_side a b (λ v. Order (sides a b) (second u2) v ≡ Equal → Order (sides a b) (second u2) w ≡ Order (sides a b) v w)
      (λ v1 j1 p. cc)
      (λ v2 j2. each_side a b (λ w. Order (sides a b) (second u2) (second v2) ≡ Equal → Order (sides a b) (second u2) w ≡ Order (sides a b) (second v2) w) (λ w1 k1 p. refl) (λ w2 k2. lb.congr u2 v2 w2 i2 j2 k2) w k) v j) u i;
}

-- preference is a total preorder on each carrier
pub total_preorder : (c : PureCarrier) → IsTotalPreorder c
total_preorder whole = whole_laws
total_preorder (up_to k) = up_laws k
total_preorder (down_from k) = down_laws k
total_preorder (seqs k) = seq_laws k
total_preorder (simseqs k) = simseq_laws k
total_preorder (sets k) = set_laws k
total_preorder one = one_laws
total_preorder (named names ranks) = named_laws names ranks
total_preorder (pairs a b) = pair_laws a b (total_preorder a) (total_preorder b)
total_preorder (sides a b) = side_laws a b (total_preorder a) (total_preorder b)
