-- The names of generated nodes: they are names, and each has its node's number.
use Rattle.std.proofs.Common.{◌≡◌, ℕ, zero, suc, ◌+◌, ◌-◌, ◌^◌, ◌<◌, ◌≤◌, Bool, true, false, not, cond, eqb, leb, ltb, List, [], ◌∷◌, map, Option, Some, None, length, refl, sym, ap, ◌∙◌, arith}
use Rattle.std.specs.Prelude.{decimal}
use Rattle.std.specs.List.{range_with_len, prefix_len}
use Rattle.std.specs.Str.{bytes_eq}
use Rattle.std.proofs.lemmas.Bool.Decides.{nat_tests}
use Rattle.std.proofs.lemmas.Fmt.{decimal_injective, decimal_digit, length-decimal-le}
use Rattle.std.proofs.lemmas.List.FromFn.{length-map-range_with_len}
use Rattle.std.proofs.lemmas.Slice.Eq.{bytes_eq-Decides}
use Rattle.net_graph.specs.Nets.{is_name, number_of}
use Rattle.net_gen.specs.Generated.{node_name}
use Rattle.net_gen.specs.Networks.{node_names}
use Rattle.topology_file.specs.LineLaws.{IsWord, number_word}

pub name_word : (k : ℕ) → k < 2 ^ 64 → IsWord (node_name k)
name_word k h = record { bytes = (number_word k (omega arith)).bytes; some = omega arith }

-- and a node's name is a name
pub node_is_name : (k : ℕ) → k < 1000 → is_name (node_name k) ≡ true
node_is_name k h =
    let short = length-decimal-le 3 k (omega arith) (omega arith) (omega arith) in
    let bytes = (number_word k (omega arith)).bytes in
    let fits : leb (length (node_name k)) 32 ≡ true = grind (arith, nat_tests) in
    let some : leb 1 (length (node_name k)) ≡ true = grind (arith, nat_tests) in
    rw (some, fits, bytes) refl

is_false : (b : Bool) → (b ≡ true → ⊥) → b ≡ false
is_false true f = absurd (f refl)
is_false false f = refl

other_name : (k j : ℕ) → k < 1000 → j < k → bytes_eq (node_name k) (node_name j) ≡ false
other_name k j h l =
    is_false (bytes_eq (node_name k) (node_name j))
    (λ t. let e : node_name k ≡ node_name j = (bytes_eq-Decides (node_name k) (node_name j)).0 t in
    let d : decimal k ≡ decimal j = cc in
    let same = decimal_injective k j (omega arith) (omega arith) d in
    omega arith)

abbrev place_in : ℕ → List (List ℕ) → ℕ
place_in k names = prefix_len (λ name. not (bytes_eq (node_name k) name)) names

place_at : (k : ℕ) (name : List ℕ) (names : List (List ℕ)) (b : Bool) → bytes_eq (node_name k) name ≡ b → place_in k (name ∷ names) ≡ cond (not b) (1 + place_in k names) 0
place_at k name names b e = ap (λ t. cond (not t) (1 + place_in k names) 0) e

-- among the names of so many nodes from a on
place_is : (k a count : ℕ) → k < 1000 → a ≤ k → k < a + count → place_in k (map node_name (range_with_len a count)) ≡ k - a
place_is k a zero h l m = absurd (omega arith)
place_is k a (suc count) h l m = by (eqb a k) refl (place_is k (a + 1) count h)
  where
    others : List (List ℕ)
    others = map node_name (range_with_len (a + 1) count)

    by : (b : Bool) → eqb a k ≡ b → (a + 1 ≤ k → k < (a + 1) + count → place_in k others ≡ k - (a + 1)) → place_in k (node_name a ∷ others) ≡ k - a
    by true e more =
        let same : a ≡ k = grind (arith, nat_tests) in
        let end : 0 ≡ k - a = omega arith in
        place_at k (node_name a) others true ((bytes_eq-Decides (node_name k) (node_name a)).1 (ap node_name (sym same))) ∙ end
    by false e more =
        let less : a < k = grind (arith, nat_tests) in
        let after = more (omega arith) (omega arith) in
        let end : 1 + place_in k others ≡ k - a = omega arith in
        place_at k (node_name a) others false (other_name k a h less) ∙ end

-- none of the names of nodes before it
no_place : (k a count : ℕ) → k < 1000 → a + count ≤ k → place_in k (map node_name (range_with_len a count)) ≡ count
no_place k a zero h l = refl
no_place k a (suc count) h l =
    let after = no_place k (a + 1) count h (omega arith) in
    let end : 1 + place_in k (map node_name (range_with_len (a + 1) count)) ≡ suc count = omega arith in
    place_at k (node_name a) (map node_name (range_with_len (a + 1) count)) false (other_name k a h (omega arith)) ∙ end

-- a node's name has its number among the names of n nodes, and none among those of the nodes before it
pub numbered : (n k : ℕ) → k < n → n ≤ 1000 → number_of (node_names n) (node_name k) ≡ Some k
numbered n k l h =
    let place = place_is k 0 n (omega arith) (omega arith) (omega arith) in
    let count = length-map-range_with_len node_name 0 n in
    found (place_in k (node_names n)) (length (node_names n)) k (omega arith) (omega arith)
  where
    found : (place count k : ℕ) → place ≡ k → k < count → cond (ltb place count) (Some place) None ≡ Some k
    found place count k e l = grind (arith, nat_tests)

pub unnumbered : (k : ℕ) → k < 1000 → number_of (node_names k) (node_name k) ≡ None
unnumbered k h =
    let place = no_place k 0 k h (omega arith) in
    let count = length-map-range_with_len node_name 0 k in
    missing (place_in k (node_names k)) (length (node_names k)) (omega arith)
  where
    missing : (place count : ℕ) → count ≤ place → cond {A = Option ℕ} (ltb place count) (Some place) None ≡ None
    missing place count l = grind (arith, nat_tests)

-- the first two
pub name_is : (k : ℕ) → k < 10 → node_name k ≡ 110 ∷ (48 + k) ∷ []
name_is k h = ap (λ ds. 110 ∷ ds) (decimal_digit k h)
