-- Marks of the nodes of a path.
use Rattle.std.proofs.Common.{◌≡◌, ◌≢◌, ℕ, ◌%◌, ◌<◌, ◌==◌, List, [], ◌∷◌, Bool, true, false, refl, sym, ap, ◌∙◌, arith, w64}
use Rattle.std.specs.Int.{bit_at}
use Rattle.std.specs.List.{list_any}
use Rattle.std.proofs.Math.Nat.{mod-lt}
use Rattle.std.proofs.lemmas.Bool.{eqb-true}
use Rattle.std.proofs.lemmas.Bool.Decides.{nat_tests}
use Rattle.std.proofs.lemmas.Nat.Bits.{bit_at_set_same, bit_at_set_other}
use Rattle.meta_base.specs.declared.ids.NodeId.{NodeId}
use Rattle.path_store.specs.Trails.{marks_of}

-- a node whose mark isn't there is not on the path
pub not_marked : (path : List NodeId) (i : ℕ) → bit_at (marks_of path) (i % 64) ≡ 0 → list_any (λ (n : NodeId). n.0 == i) path ≡ false
not_marked [] i e = refl
not_marked (n ∷ path) i e = by (i % 64 == n.0 % 64) refl (not_marked path i)
  where
    small : n.0 % 64 < 64
    small = mod-lt n.0 (omega arith)

    by : (b : Bool) → (i % 64 == n.0 % 64) ≡ b → (bit_at (marks_of path) (i % 64) ≡ 0 → list_any (λ (n : NodeId). n.0 == i) path ≡ false)
        → list_any (λ (n : NodeId). n.0 == i) (n ∷ path) ≡ false
    by true f more =
        let same : i % 64 ≡ n.0 % 64 = eqb-true (i % 64) (n.0 % 64) f in
        let one = ap (bit_at (marks_of (n ∷ path))) same ∙ bit_at_set_same w64 (marks_of path) (n.0 % 64) small in
        absurd (omega (arith, one, e))
    by false f more =
        let apart : i % 64 ≢ n.0 % 64 = grind (arith, nat_tests) in
        let unlike : n.0 ≢ i = λ same. apart (ap (λ z. z % 64) (sym same)) in
        let other : (n.0 == i) ≡ false = grind (arith, nat_tests) in
        let kept = bit_at_set_other w64 (marks_of path) (n.0 % 64) small (i % 64) apart in
        rw other (more (sym kept ∙ e))
