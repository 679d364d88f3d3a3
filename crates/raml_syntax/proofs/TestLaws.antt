-- What the tests of expressions tell.
use Rattle.std.proofs.Common.{◌≡◌, ℕ, ◌≤◌, List, [], ◌∷◌, true, ◌&&◌, nat_le, bytes_eq, refl, ap, ap₂}
use Rattle.std.proofs.lemmas.Bool.{and_parts, and_from, eqb-true, eq-eqb, leb-true, le-leb, false≢true}
use Rattle.std.proofs.lemmas.Slice.Eq.{bytes_eq-Decides}
use Rattle.alg_model.specs.declared.alg.TheConstants.{MAX_SIMPLE_SYMBOLS, MAX_MARKS}
use Rattle.alg_model.specs.Expressions.{Expression, add, cap, worst, width, pref, orig, seq, simseq, tags, guard, gate}
use Rattle.alg_model.specs.Expressions.{PureCarrier, whole, up_to, down_from, seqs, simseqs, sets, one, named, pairs, sides}
use Rattle.alg_model.specs.Formation.{MeetsRanges}
use Rattle.raml_syntax.specs.Tests.{is_in_range, are_same_texts, is_same_carrier}

-- texts that pass the test are the same, and a text passes it with itself
pub bytes_same : (xs ys : List ℕ) → bytes_eq xs ys ≡ true → xs ≡ ys
bytes_same xs ys h = (bytes_eq-Decides xs ys).0 h

pub bytes_self : (xs : List ℕ) → bytes_eq xs xs ≡ true
bytes_self xs = (bytes_eq-Decides xs xs).1 refl

-- lists of texts that pass the test are the same
same_texts : (ts us : List (List ℕ)) → are_same_texts ts us ≡ true → ts ≡ us
same_texts [] [] h = refl
same_texts [] (u ∷ us) h = absurd (false≢true h)
same_texts (t ∷ ts) [] h = absurd (false≢true h)
same_texts (t ∷ ts) (u ∷ us) h =
    let p = and_parts (bytes_eq t u) (are_same_texts ts us) h in
    ap₂ (λ x xs. x ∷ xs) (bytes_same t u p.0) (same_texts ts us p.1)

-- a list passes the test with itself
texts_self : (ts : List (List ℕ)) → are_same_texts ts ts ≡ true
texts_self [] = refl
texts_self (t ∷ ts) = and_from (bytes_eq t t) (are_same_texts ts ts) (bytes_self t) (texts_self ts)

-- carriers that pass the test are the same
pub same_carrier : (c d : PureCarrier) → is_same_carrier c d ≡ true → c ≡ d
same_carrier whole whole h = refl
same_carrier (up_to m) (up_to n) h = ap up_to (eqb-true m n h)
same_carrier (down_from m) (down_from n) h = ap down_from (eqb-true m n h)
same_carrier (seqs m) (seqs n) h = ap seqs (eqb-true m n h)
same_carrier (simseqs m) (simseqs n) h = ap simseqs (eqb-true m n h)
same_carrier (sets m) (sets n) h = ap sets (eqb-true m n h)
same_carrier one one h = refl
same_carrier (named names ranks) (named others degrees) h =
    let p = and_parts (are_same_texts names others) (bytes_eq ranks degrees) h in
    ap₂ named (same_texts names others p.0) (bytes_same ranks degrees p.1)
same_carrier (pairs a b) (pairs c d) h =
    let p = and_parts (is_same_carrier a c) (is_same_carrier b d) h in
    ap₂ pairs (same_carrier a c p.0) (same_carrier b d p.1)
same_carrier (sides a b) (sides c d) h =
    let p = and_parts (is_same_carrier a c) (is_same_carrier b d) h in
    ap₂ sides (same_carrier a c p.0) (same_carrier b d p.1)
same_carrier _ _ h = absurd (false≢true h)

-- a carrier passes the test with itself
pub carrier_self : (c : PureCarrier) → is_same_carrier c c ≡ true
carrier_self whole = refl
carrier_self (up_to n) = eq-eqb n n refl
carrier_self (down_from n) = eq-eqb n n refl
carrier_self (seqs n) = eq-eqb n n refl
carrier_self (simseqs n) = eq-eqb n n refl
carrier_self (sets n) = eq-eqb n n refl
carrier_self one = refl
carrier_self (named names ranks) = and_from (are_same_texts names names) (bytes_eq ranks ranks) (texts_self names) (bytes_self ranks)
carrier_self (pairs a b) = and_from (is_same_carrier a a) (is_same_carrier b b) (carrier_self a) (carrier_self b)
carrier_self (sides a b) = and_from (is_same_carrier a a) (is_same_carrier b b) (carrier_self a) (carrier_self b)

-- the algebra is one of numbers
abbrev pub IsBase : Expression → Type 0
IsBase (add low high) = Unit {0}
IsBase (cap top low high) = Unit {0}
IsBase (worst top low high) = Unit {0}
IsBase (width top low high) = Unit {0}
IsBase (pref n) = Unit {0}
IsBase (orig n) = Unit {0}
IsBase (seq n) = Unit {0}
IsBase (simseq n) = Unit {0}
IsBase (tags n) = Unit {0}
IsBase (guard n) = Unit {0}
IsBase gate = Unit {0}
IsBase _ = ⊥

-- two tests of order at once
both_le : (a b c d : ℕ) → (nat_le a b && nat_le c d) ≡ true → (a ≤ b) × (c ≤ d)
both_le a b c d h = let p = and_parts (nat_le a b) (nat_le c d) h in (leb-true a b p.0, leb-true c d p.1)

le_both : (a b c d : ℕ) → (a ≤ b) × (c ≤ d) → (nat_le a b && nat_le c d) ≡ true
le_both a b c d h = and_from (nat_le a b) (nat_le c d) (le-leb a b h.0) (le-leb c d h.1)

-- an algebra of numbers that passes the test meets the rule on ranges
pub in_range_meets : (a : Expression) → IsBase a → is_in_range a ≡ true → MeetsRanges a
in_range_meets (add low high) b h = leb-true low high h
in_range_meets (cap top low high) b h = leb-true low high h
in_range_meets (worst top low high) b h = both_le low high high top h
in_range_meets (width top low high) b h = both_le low high high top h
in_range_meets (pref n) b h = tt
in_range_meets (orig n) b h = tt
in_range_meets (seq n) b h = leb-true 1 n h
in_range_meets (simseq n) b h = both_le 1 n n MAX_SIMPLE_SYMBOLS h
in_range_meets (tags n) b h = both_le 1 n n MAX_MARKS h
in_range_meets (guard n) b h = both_le 1 n n MAX_MARKS h
in_range_meets gate b h = tt
in_range_meets _ b h = absurd b

-- and one that meets the rule passes the test
pub meets_in_range : (a : Expression) → IsBase a → MeetsRanges a → is_in_range a ≡ true
meets_in_range (add low high) b h = le-leb low high h
meets_in_range (cap top low high) b h = le-leb low high h
meets_in_range (worst top low high) b h = le_both low high high top h
meets_in_range (width top low high) b h = le_both low high high top h
meets_in_range (pref n) b h = refl
meets_in_range (orig n) b h = refl
meets_in_range (seq n) b h = le-leb 1 n h
meets_in_range (simseq n) b h = le_both 1 n n MAX_SIMPLE_SYMBOLS h
meets_in_range (tags n) b h = le_both 1 n n MAX_MARKS h
meets_in_range (guard n) b h = le_both 1 n n MAX_MARKS h
meets_in_range gate b h = refl
meets_in_range _ b h = absurd b
