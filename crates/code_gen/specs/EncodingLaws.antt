-- The words of a value decode to the value. Lemmas, so that proofs of other crates may cite them.
use Rattle.std.proofs.Common.{◌≡◌, ◌≢◌, subst, ℕ, ◌^◌, ◌<◌, List, [], ◌∷◌, ◌++◌, length, true, Some, None, refl, sym, ap, ◌∙◌, arith}
use Rattle.std.specs.Prelude.{nat_lt, nat_le}
use Rattle.std.specs.List.{AllByRecursion, list_all}
use Rattle.std.proofs.lemmas.Bool.Decides.{nat_tests}
use Rattle.std.proofs.lemmas.List.{append_assoc, append-nil, length-append}
use Rattle.std.proofs.Math.Seq.{take-append_seam, drop-append_seam}
use Rattle.alg_model.specs.Expressions.{PureCarrier, whole, up_to, down_from, seqs, simseqs, sets, one, named, pairs, sides}
use Rattle.alg_model.specs.Expressions.{PureValue, number, symbols, marks, unit, name, pair, first, second}
use Rattle.alg_model.specs.Carriers.{In}
use Rattle.code_gen.specs.Encoding.{Enc, made_front, pair_front, symbols_front, Dec, decoded, value_in, IsEncoded}

-- a length is there, where so many words stand in front
pub length_fits : (ws row : List ℕ) → nat_le (length ws) (length (ws ++ row)) ≡ true
length_fits ws row = let e = length-append ws row in grind (arith, nat_tests)

below_true : (m n : ℕ) → m < n → nat_lt m n ≡ true
below_true m n h = grind (arith, nat_tests)

all_below : (k : ℕ) (ns : List ℕ) → AllByRecursion (λ n. n < k) ns → list_all (λ n. nat_lt n k) ns ≡ true
all_below k [] h = refl
all_below k (n ∷ ns) h = rw (below_true n k h.0) (all_below k ns h.1)

symbols_decode : (k : ℕ) (ns rest : List ℕ) → AllByRecursion (λ n. n < k) ns → symbols_front k (length ns ∷ (ns ++ rest)) ≡ Some (symbols ns, rest)
symbols_decode k ns rest h = rw (length_fits ns rest, take-append_seam ns rest, drop-append_seam ns rest, all_below k ns h) refl

-- what stands in front of a row that a value's words begin
pub decodes : (c : PureCarrier) (v : PureValue) (rest : List ℕ) → In c v → Dec c (Enc v ++ rest) ≡ Some (v, rest)
decodes whole (number n) rest i = refl
decodes (up_to top) (number n) rest i = refl
decodes (down_from top) (number n) rest i = refl
decodes (seqs k) (symbols ns) rest i = symbols_decode k ns rest i
decodes (simseqs k) (symbols ns) rest i = symbols_decode k ns rest i.0
decodes (sets k) (marks m) rest i = rw (below_true m (2 ^ k) i) refl
decodes one unit rest i = refl
decodes (named names ranks) (name k) rest i = rw (below_true k (length names) i) refl
decodes (pairs c d) (pair u v) rest i =
    ap (λ row. Dec (pairs c d) row) (append_assoc (Enc u) (Enc v) rest)
    ∙ ap (λ f. pair_front f (λ row. Dec d row)) (decodes c u (Enc v ++ rest) i.0)
    ∙ ap (made_front (pair u)) (decodes d v rest i.1)
decodes (sides c d) (first u) rest i = ap (made_front first) (decodes c u rest i)
decodes (sides c d) (second v) rest i = ap (made_front second) (decodes d v rest i)
decodes _ _ rest i = absurd i

-- a value's words decode to the value
pub decodes_whole : (c : PureCarrier) (v : PureValue) → In c v → Dec c (Enc v) ≡ Some (v, [])
decodes_whole c v i = ap (λ row. Dec c row) (sym (append-nil (Enc v))) ∙ decodes c v [] i

pub decoded_is : (c : PureCarrier) (v : PureValue) → In c v → decoded c (Enc v) ≡ v
decoded_is c v i = ap value_in (decodes_whole c v i)

-- a row that is a value's words decodes to a value of the carrier
pub encoded_in : (c : PureCarrier) (row : List ℕ) → IsEncoded c row → In c (decoded c row)
encoded_in c row (v, i, e) = subst (λ r. In c (decoded c r)) e (subst (λ w. In c w) (sym (decoded_is c v i)) i)

-- and something stands in front of it
pub encoded_there : (c : PureCarrier) (row : List ℕ) → IsEncoded c row → Dec c row ≢ None
encoded_there c row (v, i, e) n = absurd (let there = ap (λ r. Dec c r) (sym e) ∙ decodes_whole c v i in cc)
