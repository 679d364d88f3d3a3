-- Marks of the nodes of a path.
use Rattle.std.proofs.Common.{◌≡◌, ◌≢◌, ℕ, zero, suc, ◌+◌, ◌*◌, ◌/◌, ◌%◌, ◌^◌, ◌<◌, List, [], ◌∷◌, ◌++◌, Bool, true, false, not, ◌&&◌, ◌||◌, ◌==◌, length, get_or, replicate, set, take, map, slice_get, Some, refl, sym, ap, ◌∙◌, arith}
use Rattle.std.specs.Prelude.{bit_or}
use Rattle.std.specs.Int.{bit_at}
use Rattle.std.proofs.Common.{w64}
use Rattle.std.proofs.Math.Nat.{div-add-mod, mod-lt}
use Rattle.std.proofs.lemmas.Bool.{and_parts, eqb-true}
use Rattle.std.proofs.lemmas.Bool.Decides.{nat_tests}
use Rattle.std.proofs.lemmas.List.{map-append, get_or-set_same, get_or-set_other}
use Rattle.std.proofs.lemmas.Nat.Bits.{bit_at_set_same, bit_at_set_other, bit_at-zero}
use Rattle.alg_model.specs.Carriers.{distinct}
use Rattle.net_graph.specs.Tables.{is_among}
use Rattle.meta_base.specs.NodePaths.{numbers}
use Rattle.meta_base.specs.declared.ids.NodeId.{NodeId}
use Rattle.path_vector.specs.Marks.{is_marked}
use Rattle.path_vector.proofs.Choices.{take_next}

-- ---- numbers of which none stands twice

among_end : (ns : List ℕ) (x i : ℕ) → is_among (ns ++ x ∷ []) i ≡ (is_among ns i || x == i)
among_end [] x i = by (x == i)
  where
    by : (b : Bool) → (b || false) ≡ b
    by true = refl
    by false = refl
among_end (n ∷ ns) x i = by (n == i) (among_end ns x i)
  where
    by : (b : Bool) → is_among (ns ++ x ∷ []) i ≡ (is_among ns i || x == i) → (b || is_among (ns ++ x ∷ []) i) ≡ ((b || is_among ns i) || x == i)
    by true more = refl
    by false more = more

-- marks of some numbers, and of one more
pub marked_end : (was now : ℕ → Bool) (ns : List ℕ) (x : ℕ) → ((i : ℕ) → was i ≡ is_among ns i) → ((i : ℕ) → now i ≡ (was i || x == i)) → (i : ℕ) → now i ≡ is_among (ns ++ x ∷ []) i
marked_end was now ns x e f i = f i ∙ ap (λ b. b || x == i) (e i) ∙ sym (among_end ns x i)

pub distinct_end : (ns : List ℕ) (x : ℕ) → is_among ns x ≡ false → distinct ns ≡ true → distinct (ns ++ x ∷ []) ≡ true
distinct_end [] x misses once = refl
distinct_end (n ∷ ns) x misses once =
    let other : (n == x) ≡ false = grind arith in
    let flipped : (x == n) ≡ false = grind (arith, nat_tests) in
    let misses_more : is_among ns x ≡ false = grind arith in
    let apart : is_among ns n ≡ false = grind arith in
    let once_more : distinct ns ≡ true = grind arith in
    let apart_too : is_among (ns ++ x ∷ []) n ≡ false = among_end ns x n ∙ rw (apart, flipped) refl in
    rw (apart_too, distinct_end ns x misses_more once_more) refl

-- a number that stood before stands twice
pub not_distinct : (ns : List ℕ) (x : ℕ) (more : List ℕ) → is_among ns x ≡ true → distinct (ns ++ x ∷ more) ≡ false
not_distinct [] x more there = absurd (cc)
not_distinct (n ∷ ns) x more there = by (n == x) refl there (λ e. not_distinct ns x more e)
  where
    among_middle : (ns : List ℕ) → is_among (ns ++ x ∷ more) x ≡ true
    among_middle [] =
        let itself : (x == x) ≡ true = grind (arith, nat_tests) in
        rw itself refl
    among_middle (m ∷ ns) = or_true (m == x) (is_among (ns ++ x ∷ more) x) (among_middle ns)
      where
        or_true : (b c : Bool) → c ≡ true → (b || c) ≡ true
        or_true true c e = refl
        or_true false c e = e

    second_false : (a b : Bool) → b ≡ false → (a && b) ≡ false
    second_false true b e = e
    second_false false b e = refl

    by : (b : Bool) → (n == x) ≡ b → (b || is_among ns x) ≡ true → (is_among ns x ≡ true → distinct (ns ++ x ∷ more) ≡ false)
        → (not (is_among (ns ++ x ∷ more) n) && distinct (ns ++ x ∷ more)) ≡ false
    by true e f rest =
        let same : n ≡ x = eqb-true n x e in
        rw (same, among_middle ns) refl
    by false e f rest = second_false (not (is_among (ns ++ x ∷ more) n)) (distinct (ns ++ x ∷ more)) (rest f)

-- ---- marks

same_place : (i n : ℕ) → i / 64 ≡ n / 64 → i % 64 ≡ n % 64 → i ≡ n
same_place i n e f = sym (div-add-mod i 64) ∙ (rw (e, f) (div-add-mod n 64))

no_bits : (n k : ℕ) → get_or {A = ℕ} (replicate n 0) k 0 ≡ 0
no_bits zero k = refl
no_bits (suc n) zero = refl
no_bits (suc n) (suc k) = no_bits n k

pub none_marked : (n i : ℕ) → is_marked (replicate n 0) i ≡ false
none_marked n i = rw (no_bits n (i / 64), bit_at-zero (i % 64)) refl

or_false : (b : Bool) → (b || false) ≡ b
or_false true = refl
or_false false = refl

or_true : (b : Bool) → (b || true) ≡ true
or_true true = refl
or_true false = refl

-- the words once a number is marked
abbrev pub with_mark : List ℕ → ℕ → List ℕ
with_mark words n = set words (n / 64) (bit_or (get_or words (n / 64) 0) (1 * 2 ^ (n % 64) % 18446744073709551616))

pub mark_sets : (words : List ℕ) (n i : ℕ) → n / 64 < length words → is_marked (with_mark words n) i ≡ (is_marked words i || n == i)
mark_sets words n i within = by (i / 64 == n / 64) (i % 64 == n % 64) refl refl
  where
    small : n % 64 < 64
    small = mod-lt n (omega arith)

    other : n ≢ i → (n == i) ≡ false
    other apart = grind (arith, nat_tests)

    read : i / 64 ≡ n / 64 → get_or (with_mark words n) (i / 64) 0 ≡ bit_or (get_or words (n / 64) 0) (1 * 2 ^ (n % 64) % 18446744073709551616)
    read place = ap (λ z. get_or (with_mark words n) z 0) place
        ∙ get_or-set_same words (n / 64) (bit_or (get_or words (n / 64) 0) (1 * 2 ^ (n % 64) % 18446744073709551616)) 0 within

    by : (b d : Bool) → (i / 64 == n / 64) ≡ b → (i % 64 == n % 64) ≡ d → is_marked (with_mark words n) i ≡ (is_marked words i || n == i)
    by true true e f =
        let place : i / 64 ≡ n / 64 = eqb-true (i / 64) (n / 64) e in
        let bit : i % 64 ≡ n % 64 = eqb-true (i % 64) (n % 64) f in
        let same : n ≡ i = sym (same_place i n place bit) in
        let test : (n == i) ≡ true = grind (arith, nat_tests) in
        let set_bit = bit_at_set_same w64 (get_or words (n / 64) 0) (n % 64) small in
        let one : bit_at (get_or (with_mark words n) (i / 64) 0) (i % 64) ≡ 1 = ap (λ z. bit_at z (i % 64)) (read place) ∙ ap (bit_at (bit_or (get_or words (n / 64) 0) (1 * 2 ^ (n % 64) % 18446744073709551616))) bit ∙ set_bit in
        ap (λ z. z == 1) one ∙ sym (rw test (or_true (is_marked words i)))
    by true false e f =
        let place : i / 64 ≡ n / 64 = eqb-true (i / 64) (n / 64) e in
        let bit : i % 64 ≢ n % 64 = grind (arith, nat_tests) in
        let test : (n == i) ≡ false = other (λ same. bit (ap (λ z. z % 64) (sym same))) in
        let kept = bit_at_set_other w64 (get_or words (n / 64) 0) (n % 64) small (i % 64) bit in
        let was : bit_at (get_or (with_mark words n) (i / 64) 0) (i % 64) ≡ bit_at (get_or words (i / 64) 0) (i % 64) =
        ap (λ z. bit_at z (i % 64)) (read place) ∙ kept ∙ ap (λ z. bit_at (get_or words z 0) (i % 64)) (sym place) in
        ap (λ z. z == 1) was ∙ sym (rw test (or_false (is_marked words i)))
    by false d e f =
        let place : i / 64 ≢ n / 64 = grind (arith, nat_tests) in
        let test : (n == i) ≡ false = other (λ same. place (ap (λ z. z / 64) (sym same))) in
        let kept = get_or-set_other words (n / 64) (i / 64) (bit_or (get_or words (n / 64) 0) (1 * 2 ^ (n % 64) % 18446744073709551616)) 0 place in
        ap (λ z. bit_at z (i % 64) == 1) kept ∙ sym (rw test (or_false (is_marked words i)))

-- ---- a path that is gone along

numbers_take : (path : List NodeId) (k : ℕ) (node : NodeId) → slice_get path k ≡ Some node → numbers (take (suc k) path) ≡ numbers (take k path) ++ node.0 ∷ []
numbers_take path k node e = ap numbers (take_next path k node e) ∙ map-append {B = ℕ} (λ (n : NodeId). n.0) (take k path) (node ∷ [])

pub marked_next : (was now : ℕ → Bool) (path : List NodeId) (k : ℕ) (node : NodeId) → slice_get path k ≡ Some node → ((i : ℕ) → was i ≡ is_among (numbers (take k path)) i)
    → ((i : ℕ) → now i ≡ (was i || node.0 == i)) → (i : ℕ) → now i ≡ is_among (numbers (take (k + 1) path)) i
marked_next was now path k node at e f i =
    let next : suc k ≡ k + 1 = omega arith in
    marked_end was now (numbers (take k path)) node.0 e f i ∙ ap (λ ns. is_among ns i) (sym (numbers_take path k node at)) ∙ ap (λ z. is_among (numbers (take z path)) i) next

pub once_next : (path : List NodeId) (k : ℕ) (node : NodeId) → slice_get path k ≡ Some node → is_among (numbers (take k path)) node.0 ≡ false → distinct (numbers (take k path)) ≡ true
    → distinct (numbers (take (k + 1) path)) ≡ true
once_next path k node at misses once =
    let next : suc k ≡ k + 1 = omega arith in
    ap (λ z. distinct (numbers (take z path))) (sym next) ∙ ap distinct (numbers_take path k node at) ∙ distinct_end (numbers (take k path)) node.0 misses once

numbers_split : (path : List NodeId) (k : ℕ) (node : NodeId) → slice_get path k ≡ Some node → (more : List ℕ) × (numbers path ≡ numbers (take k path) ++ node.0 ∷ more)
numbers_split [] k node e = absurd (cc)
numbers_split (n ∷ path) zero node e =
    let same : n ≡ node = cc in
    (numbers path, rw same refl)
numbers_split (n ∷ path) (suc k) node e =
    let rest = numbers_split path k node e in
    (rest.0, ap (λ ns. n.0 ∷ ns) rest.1)

pub twice_at : (path : List NodeId) (k : ℕ) (node : NodeId) → slice_get path k ≡ Some node → is_among (numbers (take k path)) node.0 ≡ true → false ≡ distinct (numbers path)
twice_at path k node at there =
    let split = numbers_split path k node at in
    sym (ap distinct split.1 ∙ not_distinct (numbers (take k path)) node.0 split.0 there)

-- ---- marks that numbers share in one word

-- the marks of numbers, which each shares with others
abbrev pub folded : List ℕ → List ℕ
folded ns = map (λ n. n % 64) ns

among_folded : (ns : List ℕ) (x : ℕ) → is_among ns x ≡ true → is_among (folded ns) (x % 64) ≡ true
among_folded [] x e = absurd (cc)
among_folded (n ∷ ns) x e = by (n == x) refl e (among_folded ns x)
  where
    by : (b : Bool) → (n == x) ≡ b → (b || is_among ns x) ≡ true → (is_among ns x ≡ true → is_among (folded ns) (x % 64) ≡ true) → (n % 64 == x % 64 || is_among (folded ns) (x % 64)) ≡ true
    by true f g more =
        let same : n ≡ x = eqb-true n x f in
        let itself : (x % 64 == x % 64) ≡ true = grind (arith, nat_tests) in
        rw (same, itself) refl
    by false f g more = rw (more g) (or_true (n % 64 == x % 64))

-- numbers whose marks are apart are apart
pub folded_distinct : (ns : List ℕ) → distinct (folded ns) ≡ true → distinct ns ≡ true
folded_distinct [] e = refl
folded_distinct (n ∷ ns) e =
    let both = and_parts (not (is_among (folded ns) (n % 64))) (distinct (folded ns)) e in
    rw (apart (is_among ns n) refl both.0, folded_distinct ns both.1) refl
  where
    apart : (b : Bool) → is_among ns n ≡ b → not (is_among (folded ns) (n % 64)) ≡ true → is_among ns n ≡ false
    apart false f g = f
    apart true f g = absurd (let there = among_folded ns n f in cc)

folded_take : (path : List NodeId) (k : ℕ) (node : NodeId) → slice_get path k ≡ Some node → folded (numbers (take (k + 1) path)) ≡ folded (numbers (take k path)) ++ node.0 % 64 ∷ []
folded_take path k node e =
    let next : suc k ≡ k + 1 = omega arith in
    ap (λ z. folded (numbers (take z path))) (sym next) ∙ ap folded (numbers_take path k node e) ∙ map-append {B = ℕ} (λ n. n % 64) (numbers (take k path)) (node.0 ∷ [])

pub folded_marked : (was now : ℕ → Bool) (path : List NodeId) (k : ℕ) (node : NodeId) → slice_get path k ≡ Some node → ((i : ℕ) → was i ≡ is_among (folded (numbers (take k path))) i)
    → ((i : ℕ) → now i ≡ (was i || node.0 % 64 == i)) → (i : ℕ) → now i ≡ is_among (folded (numbers (take (k + 1) path))) i
folded_marked was now path k node at e f i =
    marked_end was now (folded (numbers (take k path))) (node.0 % 64) e f i ∙ ap (λ ns. is_among ns i) (sym (folded_take path k node at))

pub folded_once : (path : List NodeId) (k : ℕ) (node : NodeId) → slice_get path k ≡ Some node → is_among (folded (numbers (take k path))) (node.0 % 64) ≡ false → distinct (folded (numbers (take k path))) ≡ true
    → distinct (folded (numbers (take (k + 1) path))) ≡ true
folded_once path k node at misses once = ap distinct (folded_take path k node at) ∙ distinct_end (folded (numbers (take k path))) (node.0 % 64) misses once
