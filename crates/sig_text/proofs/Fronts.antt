-- What the readers of parts take, and that they take what is there.
use Rattle.std.proofs.Common.{◌≡◌, ℕ, ◌≤◌, Bool, true, false, cond, List, [], ◌∷◌, ◌++◌, Option, Some, None, refl, sym, ap, ◌∙◌, subst, arith, append_assoc, nat_le, ◌==◌}
use Rattle.std.specs.Prelude.{option_map, option_and_then}
use Rattle.std.proofs.lemmas.Bool.Decides.{nat_tests}
use Rattle.sig_text.specs.Parts.{Part, word, digits, mark, Step, end, part, step_of, Begins, Splits}
use Rattle.sig_text.specs.Sequences.{parts_of}
use Rattle.sig_text.specs.Shapes.{more_parts, numbers_parts, AreSmall}
use Rattle.sig_text.specs.Reading.{take_mark, take_number, take_word, items_until, or_none, take_list, kept, take_pair}
use Rattle.sig_text.proofs.Sequences.{part_parts, end_parts}

pub same_pairs : {A B : Type 0} (x y : A × B) → Some x ≡ Some y → (x.0 ≡ y.0) × (x.1 ≡ y.1)
same_pairs {A = A} {B = B} x y e =
    let q : x ≡ y = cc in
    (ap (λ (r : A × B). r.0) q, ap (λ (r : A × B). r.1) q)

-- where a chain of readers found something, each of them did
pub kept_is : {A B : Type 0} (f : A → B) (o : Option (A × List Part)) (b : B) (z : List Part) → kept f o ≡ Some (b, z) → (a : A) × (o ≡ Some (a, z)) × (f a ≡ b)
kept_is f None b z e = absurd (cc)
kept_is f (Some r) b z e =
    let p = same_pairs (f r.0, r.1) (b, z) e in
    (r.0, ap (λ x. Some (r.0, x)) p.1, p.0)

pub and_then_is : {A B : Type 0} (f : A → Option B) (o : Option A) (b : B) → option_and_then f o ≡ Some b → (a : A) × (o ≡ Some a) × (f a ≡ Some b)
and_then_is f None b e = absurd (cc)
and_then_is f (Some a) b e = (a, refl, e)

pub map_is : {A B : Type 0} (f : A → B) (o : Option A) (b : B) → option_map f o ≡ Some b → (a : A) × (o ≡ Some a) × (f a ≡ b)
map_is f None b e = absurd (cc)
map_is f (Some a) b e = let q : f a ≡ b = cc in (a, refl, q)

-- what a test lets through
pub test_is : {A : Type 0} (b : Bool) (x y : A) → cond b (Some x) None ≡ Some y → (b ≡ true) × (x ≡ y)
test_is true x y e = let q : x ≡ y = cc in (refl, q)
test_is false x y e = absurd (cc)

pub same_mark : (c m : ℕ) → (c == m) ≡ true → c ≡ m
same_mark c m h = grind (arith, nat_tests)

pub is_same : (m : ℕ) → (m == m) ≡ true
is_same m = grind (arith, nat_tests)

pub take_mark_is : (m : ℕ) (ps z : List Part) → take_mark m ps ≡ Some z → ps ≡ mark m ∷ z
take_mark_is m (mark c ∷ ps) z e =
    let t = test_is (c == m) ps z e in
    let k = same_mark c m t.0 in
    cc
take_mark_is m _ z e = absurd (cc)

pub take_number_is : (greatest : ℕ) (ps z : List Part) (n : ℕ) → take_number greatest ps ≡ Some (n, z) → (ps ≡ digits n ∷ z) × (n ≤ greatest)
take_number_is greatest (digits k ∷ ps) z n e =
    let t = test_is (nat_le k greatest) (k, ps) (n, z) e in
    let pq = same_pairs (k, ps) (n, z) (ap (λ (r : ℕ × List Part). Some r) t.1) in
    let p : k ≡ n = pq.0 in
    let q : ps ≡ z = pq.1 in
    let b : k ≤ greatest = grind (arith, nat_tests, t.0) in
    (cc, rw (← p) b)
take_number_is greatest _ z n e = absurd (cc)

pub take_word_is : (ps z : List Part) (w : List ℕ) → take_word ps ≡ Some (w, z) → ps ≡ word w ∷ z
take_word_is (word v ∷ ps) z w e =
    let pq = same_pairs (v, ps) (w, z) e in
    let p : v ≡ w = pq.0 in
    let q : ps ≡ z = pq.1 in
    cc
take_word_is _ z w e = absurd (cc)

-- and the other way round
pub takes_mark : (m : ℕ) (z : List Part) → take_mark m (mark m ∷ z) ≡ Some z
takes_mark m z = rw (is_same m) refl

pub takes_number : (greatest : ℕ) (n : ℕ) (z : List Part) → n ≤ greatest → take_number greatest (digits n ∷ z) ≡ Some (n, z)
takes_number greatest n z h = let t : nat_le n greatest ≡ true = grind (arith, nat_tests) in rw t refl

-- a pair in parentheses, before these parts
pub pair_regroup : (m : ℕ) (a b z : List Part) → (mark 40 ∷ (a ++ mark m ∷ (b ++ mark 41 ∷ []))) ++ z ≡ mark 40 ∷ (a ++ mark m ∷ (b ++ mark 41 ∷ z))
pair_regroup m a b z = simp append_assoc

pub record PairFront {A B C : Type 0} (m : ℕ) (f : A → B → C) (x : List Part → Option (A × List Part)) (y : List Part → Option (B × List Part)) (ps : List Part) (c : C) (z : List Part) : Type 0 where
  pub a : A
  pub b : B
  pub after : List Part
  pub further : List Part
  pub opens : ps ≡ mark 40 ∷ after
  pub first : x after ≡ Some (a, mark m ∷ further)
  pub second : y further ≡ Some (b, mark 41 ∷ z)
  pub makes : f a b ≡ c

pub pair_is : {A B C : Type 0} (m : ℕ) (f : A → B → C) (x : List Part → Option (A × List Part)) (y : List Part → Option (B × List Part)) (ps : List Part) (c : C) (z : List Part)
    → take_pair m f x y ps ≡ Some (c, z) → PairFront m f x y ps c z
pair_is m f x y ps c z e =
    let h = and_then_is (λ qs. option_and_then (λ r. option_and_then (λ us. option_and_then (λ s. option_map (λ vs. (f r.0 s.0, vs)) (take_mark 41 s.1)) (y us)) (take_mark m r.1)) (x qs)) (take_mark 40 ps) (c, z) e in
    let i = and_then_is (λ r. option_and_then (λ us. option_and_then (λ s. option_map (λ vs. (f r.0 s.0, vs)) (take_mark 41 s.1)) (y us)) (take_mark m r.1)) (x h.0) (c, z) h.2 in
    let j = and_then_is (λ us. option_and_then (λ s. option_map (λ vs. (f i.0.0 s.0, vs)) (take_mark 41 s.1)) (y us)) (take_mark m i.0.1) (c, z) i.2 in
    let k = and_then_is (λ s. option_map (λ vs. (f i.0.0 s.0, vs)) (take_mark 41 s.1)) (y j.0) (c, z) j.2 in
    let l = map_is (λ vs. (f i.0.0 k.0.0, vs)) (take_mark 41 k.0.1) (c, z) k.2 in
    let p : l.0 ≡ z = ap (λ r. r.1) l.2 in
    let q : f i.0.0 k.0.0 ≡ c = ap (λ r. r.0) l.2 in
    record {
      a = i.0.0;
      b = k.0.0;
      after = h.0;
      further = j.0;
      opens = take_mark_is 40 ps h.0 h.1;
      first = i.1 ∙ ap (λ us. Some (i.0.0, us)) (take_mark_is m i.0.1 j.0 j.1);
      second = k.1 ∙ ap (λ us. Some (k.0.0, us)) (take_mark_is 41 k.0.1 l.0 l.1 ∙ ap (λ us. mark 41 ∷ us) p);
      makes = q;
    }

pub takes_pair : {A B C : Type 0} (m : ℕ) (f : A → B → C) (x : List Part → Option (A × List Part)) (y : List Part → Option (B × List Part)) (a : A) (b : B) (qs us z : List Part)
    → x qs ≡ Some (a, mark m ∷ us) → y us ≡ Some (b, mark 41 ∷ z) → take_pair m f x y (mark 40 ∷ qs) ≡ Some (f a b, z)
takes_pair m f x y a b qs us z h k = rw (h, is_same m, k) refl

-- lists of numbers
items_taken : (greatest : ℕ) (m : ℕ) → (44 == m) ≡ false → (ns : List ℕ) (n : ℕ) (ks : List ℕ) (z : List Part) → AreSmall greatest (n ∷ ks)
    → items_until greatest m ns (digits n ∷ (more_parts ks ++ mark m ∷ z)) ≡ Some (ns ++ n ∷ ks, z)
items_taken greatest m d ns n [] z s = let t : nat_le n greatest ≡ true = grind (arith, nat_tests, s.0) in rw (t, is_same m) refl
items_taken greatest m d ns n (k ∷ ks) z s =
    let t : nat_le n greatest ≡ true = grind (arith, nat_tests, s.0) in
    rw (t, d) (items_taken greatest m d (ns ++ n ∷ []) k ks z s.1 ∙ ap (λ xs. Some (xs, z)) (append_assoc ns (n ∷ []) (k ∷ ks)))

pub takes_list : (greatest : ℕ) (o m : ℕ) → (44 == m) ≡ false → (ns : List ℕ) (z : List Part) → AreSmall greatest ns → take_list greatest o m ((mark o ∷ (numbers_parts ns ++ mark m ∷ [])) ++ z) ≡ Some (ns, z)
takes_list greatest o m d [] z s = rw (is_same o, is_same m) refl
takes_list greatest o m d (n ∷ ns) z s =
    let e : (more_parts ns ++ mark m ∷ []) ++ z ≡ more_parts ns ++ mark m ∷ z = append_assoc (more_parts ns) (mark m ∷ []) z in
    rw (is_same o, e) (items_taken greatest m d [] n ns z s)

pub record ItemsFront (greatest : ℕ) (m : ℕ) (ns : List ℕ) (ps : List Part) (all : List ℕ) (z : List Part) : Type 0 where
  pub n : ℕ
  pub ks : List ℕ
  pub all_is : all ≡ ns ++ n ∷ ks
  pub parts : ps ≡ digits n ∷ (more_parts ks ++ mark m ∷ z)
  pub small : AreSmall greatest (n ∷ ks)

items_step : (greatest : ℕ) (m n c : ℕ) (ns : List ℕ) (ps : List Part) (all : List ℕ) (z : List Part) (b d f : Bool)
    → nat_le n greatest ≡ b → (c == m) ≡ d → (c == 44) ≡ f
    → (items_until greatest m (ns ++ n ∷ []) ps ≡ Some (all, z) → ItemsFront greatest m (ns ++ n ∷ []) ps all z)
    → items_until greatest m ns (digits n ∷ mark c ∷ ps) ≡ Some (all, z) → ItemsFront greatest m ns (digits n ∷ mark c ∷ ps) all z
items_step greatest m n c ns ps all z false d f h k l more e =
    let v : items_until greatest m ns (digits n ∷ mark c ∷ ps) ≡ None = rw h refl in
    absurd (cc)
items_step greatest m n c ns ps all z true true f h k l more e =
    let v : items_until greatest m ns (digits n ∷ mark c ∷ ps) ≡ Some (ns ++ n ∷ [], ps) = rw (h, k) refl in
    let pq = same_pairs (ns ++ n ∷ [], ps) (all, z) (sym v ∙ e) in
    let s : n ≤ greatest = grind (arith, nat_tests) in
    let t = same_mark c m k in
    record { n = n; ks = []; all_is = sym pq.0; parts = ap (λ x. digits n ∷ mark x ∷ ps) t ∙ ap (λ us. digits n ∷ mark m ∷ us) pq.1; small = (s, tt) }
items_step greatest m n c ns ps all z true false true h k l more e =
    let v : items_until greatest m ns (digits n ∷ mark c ∷ ps) ≡ items_until greatest m (ns ++ n ∷ []) ps = rw (h, k, l) refl in
    let s : n ≤ greatest = grind (arith, nat_tests) in
    let t = same_mark c 44 l in
    let i = more (sym v ∙ e) in
    record {
      n = n;
      ks = i.n ∷ i.ks;
      all_is = i.all_is ∙ append_assoc ns (n ∷ []) (i.n ∷ i.ks);
      parts = ap (λ x. digits n ∷ mark x ∷ ps) t ∙ ap (λ us. digits n ∷ mark 44 ∷ us) i.parts;
      small = (s, i.small);
    }
items_step greatest m n c ns ps all z true false false h k l more e =
    let v : items_until greatest m ns (digits n ∷ mark c ∷ ps) ≡ None = rw (h, k, l) refl in
    absurd (cc)

pub items_is : (greatest : ℕ) (m : ℕ) (ns : List ℕ) (ps : List Part) (all : List ℕ) (z : List Part) → items_until greatest m ns ps ≡ Some (all, z) → ItemsFront greatest m ns ps all z
items_is greatest m ns (digits n ∷ mark c ∷ ps) all z e =
    items_step greatest m n c ns ps all z (nat_le n greatest) (c == m) (c == 44) refl refl refl (λ h. items_is greatest m (ns ++ n ∷ []) ps all z h) e
items_is greatest m ns _ all z e = absurd (cc)

pub record ListFront (greatest : ℕ) (o m : ℕ) (ps : List Part) (ns : List ℕ) (z : List Part) : Type 0 where
  pub parts : ps ≡ (mark o ∷ (numbers_parts ns ++ mark m ∷ [])) ++ z
  pub small : AreSmall greatest ns

list_by : (greatest : ℕ) (o m : ℕ) (qs : List Part) (ns : List ℕ) (z : List Part) (t : Option (List Part)) → take_mark m qs ≡ t → or_none t (items_until greatest m [] qs) ≡ Some (ns, z) → ListFront greatest o m (mark o ∷ qs) ns z
list_by greatest o m qs ns z (Some us) h e =
    let pq = same_pairs ([], us) (ns, z) e in
    let p = pq.0 in
    let q = pq.1 in
    let r = take_mark_is m qs us h in
    subst (λ xs. ListFront greatest o m (mark o ∷ qs) xs z) p (record { parts = cc; small = tt })
list_by greatest o m qs ns z None h e =
    let i = items_is greatest m [] qs ns z e in
    subst (λ xs. ListFront greatest o m (mark o ∷ qs) xs z) (sym i.all_is) (record {
      parts = ap (λ us. mark o ∷ us) i.parts ∙ ap (λ us. mark o ∷ digits i.n ∷ us) (sym (append_assoc (more_parts i.ks) (mark m ∷ []) z));
      small = i.small;
    })

pub list_is : (greatest : ℕ) (o m : ℕ) (ps : List Part) (ns : List ℕ) (z : List Part) → take_list greatest o m ps ≡ Some (ns, z) → ListFront greatest o m ps ns z
list_is greatest o m ps ns z e =
    let h = and_then_is (λ qs. or_none (take_mark m qs) (items_until greatest m [] qs)) (take_mark o ps) (ns, z) e in
    let k = take_mark_is o ps h.0 h.1 in
    rw k (list_by greatest o m h.0 ns z (take_mark m h.0) refl h.2)

-- the parts of a text are those that it splits into
begins_parts : (ps : List Part) (text rest : List ℕ) → Begins ps text rest → parts_of text ≡ ps ++ parts_of rest
begins_parts [] text rest h = ap parts_of h
begins_parts (p ∷ ps) text rest h = part_parts text p h.0 h.1 ∙ ap (λ qs. p ∷ qs) (begins_parts ps h.0 rest h.2)

pub append_none : (ps : List Part) → ps ++ [] ≡ ps
append_none [] = refl
append_none (p ∷ ps) = ap (λ qs. p ∷ qs) (append_none ps)

pub splits_parts : (ps : List Part) (text : List ℕ) → Splits ps text → parts_of text ≡ ps
splits_parts ps text s = begins_parts ps text s.rest s.begins ∙ ap (λ qs. ps ++ qs) (end_parts s.rest s.ends) ∙ append_none ps

splits_by : (ps : List Part) (text : List ℕ) (step : Step) → step_of text ≡ step → parts_of text ≡ ps
    → ((p : Part) (qs : List Part) (mid : List ℕ) → ps ≡ p ∷ qs → step_of text ≡ part p mid → parts_of mid ≡ qs → Splits ps text) → Splits ps text
splits_by [] text end h e more = record { rest = text; begins = refl; ends = h }
splits_by (p ∷ ps) text end h e more = let k = end_parts text h in absurd (cc)
splits_by [] text (part p mid) h e more = let k = part_parts text p mid h in absurd (cc)
splits_by (q ∷ qs) text (part p mid) h e more =
    let k = part_parts text p mid h in
    let same : q ≡ p = cc in
    let rest : parts_of mid ≡ qs = cc in
    more q qs mid refl (h ∙ ap (λ x. part x mid) (sym same)) rest

splits_more : (p : Part) (ps : List Part) (text mid : List ℕ) → step_of text ≡ part p mid → Splits ps mid → Splits (p ∷ ps) text
splits_more p ps text mid h s = record { rest = s.rest; begins = (mid, h, s.begins); ends = s.ends }

pub parts_splits : (ps : List Part) (text : List ℕ) → parts_of text ≡ ps → Splits ps text
parts_splits [] text e = splits_by [] text (step_of text) refl e (λ p qs mid h k l. absurd (cc))
parts_splits (q ∷ qs) text e =
    splits_by (q ∷ qs) text (step_of text) refl e (λ p us mid h k l.
    let a : q ≡ p = cc in
    let b : qs ≡ us = cc in
    splits_more q qs text mid (k ∙ ap (λ x. part x mid) (sym a)) (parts_splits qs mid (l ∙ sym b)))
