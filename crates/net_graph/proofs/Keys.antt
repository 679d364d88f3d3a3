-- Names and pairs as keys.
use Rattle.std.proofs.Common.{◌≡◌, ◌<◌, ℕ, zero, suc, List, [], ◌∷◌, ◌++◌, Bool, true, false, cond, ◌||◌, ◌&&◌, eqb, ltb, Some, refl, sym, ap, map, length, position, slice_get, Global, ◌+◌, ◌∙◌, not, arith}
use Rattle.std.proofs.lemmas.List.{length-map}
use Rattle.std.proofs.lemmas.Bool.Decides.{nat_tests}
use Rattle.std.proofs.lemmas.Map.Keys.{IsDistinct-head, IsDistinct-tail}
use Rattle.std.proofs.lemmas.Option.{slice_get_within, get_or_from_slice_get}
use Rattle.std.proofs.lemmas.Slice.Eq.{bytes_eq-Decides}
use Rattle.std.specs.List.{list_any, prefix_len, IsDistinct}
use Rattle.std.specs.Str.{bytes_eq}
use Rattle.std.specs.declared.vec.Vec.{Vec}
use Rattle.net_graph.proofs.GroupLemmas.{all_at}

-- some key is the name exactly if some name is it
pub any_key : (ks : List (Vec ℕ Global)) (name : List ℕ) → list_any (λ v. bytes_eq name v.items) ks ≡ list_any (λ n. bytes_eq name n) (map (λ v. v.items) ks)
any_key [] name = refl
any_key (k ∷ ks) name = ap (λ b. bytes_eq name k.items || b) (any_key ks name)

before_key : (ks : List (Vec ℕ Global)) (name : List ℕ) → prefix_len (λ v. not (bytes_eq name v.items)) ks ≡ prefix_len (λ n. not (bytes_eq name n)) (map (λ v. v.items) ks)
before_key [] name = refl
before_key (k ∷ ks) name = ap (λ m. cond (not (bytes_eq name k.items)) (1 + m) 0) (before_key ks name)

pub place_key : (ks : List (Vec ℕ Global)) (name : List ℕ) → position (λ v. bytes_eq name v.items) ks ≡ position (λ n. bytes_eq name n) (map (λ v. v.items) ks)
place_key ks name = rw (before_key ks name, ← length-map ks (λ (v : Vec ℕ Global). v.items)) refl

pub added_key : (ks : List (Vec ℕ Global)) (k : Vec ℕ Global) (name : List ℕ) → k.items ≡ name → map (λ v. v.items) (ks ++ k ∷ []) ≡ map (λ v. v.items) ks ++ name ∷ []
added_key [] k name e = rw e refl
added_key (l ∷ ks) k name e = ap (λ z. l.items ∷ z) (added_key ks k name e)

-- the keys after a name that isn't there is inserted
pub inserted_key : (ks new : List (Vec ℕ Global)) (k : Vec ℕ Global) (name : List ℕ) → new ≡ cond (list_any (λ y. bytes_eq k.items y.items) ks) ks (ks ++ k ∷ []) → k.items ≡ name → list_any (λ v. bytes_eq name v.items) ks ≡ false → map (λ v. v.items) new ≡ map (λ v. v.items) ks ++ name ∷ []
inserted_key ks new k name e i absent =
    ap (map (λ (v : Vec ℕ Global). v.items)) (e ∙ ap (λ b. cond b ks (ks ++ k ∷ [])) (ap (λ n. list_any (λ (y : Vec ℕ Global). bytes_eq n y.items) ks) i ∙ absent)) ∙ added_key ks k name i

-- a pair is there, whichever side it is compared from
pub any_pair : (ps : List (ℕ × ℕ)) (a b : ℕ) → list_any (λ p. eqb a p.0 && eqb b p.1) ps ≡ list_any (λ p. eqb p.0 a && eqb p.1 b) ps
any_pair [] a b = refl
any_pair (p ∷ ps) a b =
    let first : eqb a p.0 ≡ eqb p.0 a = grind (arith, nat_tests) in
    let second : eqb b p.1 ≡ eqb p.1 b = grind (arith, nat_tests) in
    rw (first, second, any_pair ps a b) refl

pub inserted_pair : (ps new : List (ℕ × ℕ)) (a b : ℕ) → new ≡ cond (list_any (λ p. eqb a p.0 && eqb b p.1) ps) ps (ps ++ (a, b) ∷ []) → list_any (λ p. eqb p.0 a && eqb p.1 b) ps ≡ false → new ≡ ps ++ (a, b) ∷ []
inserted_pair ps new a b e absent = e ∙ ap (λ t. cond t ps (ps ++ (a, b) ∷ [])) (any_pair ps a b ∙ absent)

before_pair : (ps : List (ℕ × ℕ)) (a b : ℕ) → prefix_len (λ p. not (eqb a p.0 && eqb b p.1)) ps ≡ prefix_len (λ p. not (eqb p.0 a && eqb p.1 b)) ps
before_pair [] a b = refl
before_pair (p ∷ ps) a b =
    let first : eqb a p.0 ≡ eqb p.0 a = grind (arith, nat_tests) in
    let second : eqb b p.1 ≡ eqb p.1 b = grind (arith, nat_tests) in
    rw (first, second, before_pair ps a b) refl

-- and stands where it does
pub place_pair : (ps : List (ℕ × ℕ)) (a b : ℕ) → position (λ p. eqb a p.0 && eqb b p.1) ps ≡ position (λ p. eqb p.0 a && eqb p.1 b) ps
place_pair ps a b = rw (before_pair ps a b) refl

-- where keys differ, a name's place is the one at which it is found
before_named : (ks : List (Vec ℕ Global)) (i : ℕ) (k : Vec ℕ Global) (name : List ℕ) → IsDistinct (λ (a b : Vec ℕ Global). bytes_eq a.items b.items) ks → slice_get ks i ≡ Some k → k.items ≡ name
    → prefix_len (λ n. not (bytes_eq name n)) (map (λ v. v.items) ks) ≡ i
before_named [] i k name d e s = absurd (cc)
before_named (x ∷ ks) zero k name d e s =
    let here : x ≡ k = cc in
    let same : bytes_eq name x.items ≡ true = (bytes_eq-Decides name x.items).1 (sym s ∙ ap (λ (v : Vec ℕ Global). v.items) (sym here)) in
    rw same refl
before_named (x ∷ ks) (suc i) k name d e s = by (bytes_eq name x.items) refl (before_named ks i k name (IsDistinct-tail (λ (a b : Vec ℕ Global). bytes_eq a.items b.items) x ks d) e s)
  where
    apart : bytes_eq x.items k.items ≡ false
    apart = all_at (λ (y : Vec ℕ Global). bytes_eq x.items y.items ≡ false) ks i k (IsDistinct-head (λ (a b : Vec ℕ Global). bytes_eq a.items b.items) x ks d) (slice_get_within ks i k e) (sym (get_or_from_slice_get ks i k k e))

    by : (b : Bool) → bytes_eq name x.items ≡ b → prefix_len (λ n. not (bytes_eq name n)) (map (λ v. v.items) ks) ≡ i → prefix_len (λ n. not (bytes_eq name n)) (map (λ v. v.items) (x ∷ ks)) ≡ suc i
    by true h more = absurd (let other : bytes_eq x.items k.items ≡ false = apart in let same : bytes_eq x.items k.items ≡ true = (bytes_eq-Decides x.items k.items).1 (sym ((bytes_eq-Decides name x.items).0 h) ∙ sym s) in cc)
    by false h more = rw h (omega (arith, more))

pub named_at : (ks : List (Vec ℕ Global)) (i : ℕ) (k : Vec ℕ Global) (name : List ℕ) → IsDistinct (λ (a b : Vec ℕ Global). bytes_eq a.items b.items) ks → slice_get ks i ≡ Some k → k.items ≡ name
    → position (λ n. bytes_eq name n) (map (λ v. v.items) ks) ≡ Some i
named_at ks i k name d e s =
    let inside : i < length ks = slice_get_within ks i k e in
    let below : ltb i (length ks) ≡ true = grind (arith, nat_tests) in
    rw (before_named ks i k name d e s, length-map ks (λ (v : Vec ℕ Global). v.items), below) refl
