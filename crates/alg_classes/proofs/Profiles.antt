-- The test of two profiles finds exactly equal ones.
use Rattle.std.proofs.Common.{◌≡◌, refl, sym, subst, ◌++◌, Result, Ok, Err, OnOk, OnErr, ◌≤◌, ◌-◌, List, [], ◌∷◌, length, take, drop, get_or, arith, Bool, true, false, ◌&&◌}
use Rattle.std.proofs.Math.Bool.{beq}
use Rattle.std.proofs.lemmas.Bool.{and_parts}
use Rattle.std.proofs.lemmas.List.{take_all}
use Rattle.alg_classes.specs.declared.profile.Profile.{Profile}
use Rattle.alg_classes.specs.declared.class.Class.{Class}
use Rattle.alg_classes.specs.Classes.{HasProfile, AreDistinct, of_class}
use Rattle.alg_classes.specs.ListLaws.{distinct_and_one}

same_bit : (a b : Bool) → beq a b ≡ true → a ≡ b
same_bit true true e = refl
same_bit false false e = refl
same_bit true false e = absurd (cc)
same_bit false true e = absurd (cc)

bit_is_same : (a : Bool) → beq a a ≡ true
bit_is_same true = refl
bit_is_same false = refl

abbrev test : Profile → Profile → Bool
test p q =
    beq p.total q.total && (beq p.dead q.dead && (beq p.mono q.mono && (beq p.strict q.strict
    && (beq p.iso q.iso && (beq p.canc q.canc && (beq p.cond q.cond && beq p.narrow q.narrow))))))

abbrev make : Bool → Bool → Bool → Bool → Bool → Bool → Bool → Bool → Profile
make b1 b2 b3 b4 b5 b6 b7 b8 = record {
  total = b1;
  dead = b2;
  mono = b3;
  strict = b4;
  iso = b5;
  canc = b6;
  cond = b7;
  narrow = b8;
}

same_parts : (p q : Profile) → p.total ≡ q.total → p.dead ≡ q.dead → p.mono ≡ q.mono → p.strict ≡ q.strict
    → p.iso ≡ q.iso → p.canc ≡ q.canc → p.cond ≡ q.cond → p.narrow ≡ q.narrow
    → make p.total p.dead p.mono p.strict p.iso p.canc p.cond p.narrow
    ≡ make q.total q.dead q.mono q.strict q.iso q.canc q.cond q.narrow
same_parts p q e1 e2 e3 e4 e5 e6 e7 e8 = rw (e1, e2, e3, e4, e5, e6, e7, e8) refl

pub same_of_test : (p q : Profile) → test p q ≡ true → p ≡ q
same_of_test p q e =
    let a = and_parts _ _ e in
    let b = and_parts _ _ a.1 in
    let c = and_parts _ _ b.1 in
    let d = and_parts _ _ c.1 in
    let f = and_parts _ _ d.1 in
    let g = and_parts _ _ f.1 in
    let h = and_parts _ _ g.1 in
    same_parts p q
    (same_bit p.total q.total a.0)
    (same_bit p.dead q.dead b.0)
    (same_bit p.mono q.mono c.0)
    (same_bit p.strict q.strict d.0)
    (same_bit p.iso q.iso f.0)
    (same_bit p.canc q.canc g.0)
    (same_bit p.cond q.cond h.0)
    (same_bit p.narrow q.narrow h.1)

pub test_of_same : (p q : Profile) → p ≡ q → test p q ≡ true
test_of_same p q e = subst (λ r. test p r ≡ true) e
    (rw (bit_is_same p.total, bit_is_same p.dead, bit_is_same p.mono, bit_is_same p.strict, bit_is_same p.iso, bit_is_same p.canc, bit_is_same p.cond, bit_is_same p.narrow) refl)

-- a list stays distinct where a class of a new profile is pushed, or memory is refused
pub distinct_after_push : {A E : Type 0} (r : Result A E) (old new : List Class) (class : Class) → AreDistinct old → ¬ HasProfile old class.profile
    → OnOk r (new ≡ old ++ class ∷ []) → OnErr r (new ≡ old) → AreDistinct new
distinct_after_push (Ok x) old new class d none ok err = subst AreDistinct (sym ok) (distinct_and_one of_class old class d none)
distinct_after_push (Err e) old new class d none ok err = subst AreDistinct (sym err) d
