-- Facts that fail at values with an image.
use Rattle.std.proofs.Common.{◌≡◌, refl, sym, ap, subst, ℕ, Bool, true, false, not, Option, Some, None, option_map, IfSome, length, ◌<◌}
use Rattle.std.specs.Option.{is_some}
use Rattle.alg_model.specs.Expressions.{PureValue, name}
use Rattle.alg_model.specs.Carriers.{IsPreferred}
use Rattle.alg_classes.specs.declared.fact.Fact.TheVariants.{Dead, Strict, Condensed, Narrow}
use Rattle.alg_classes.specs.Classes.{IsTruthOf}
use Rattle.table_classes.specs.Rows.{PureRow, IsRow, image_at, row_carrier}
use Rattle.table_classes.specs.Found.{FailsAtPlace, FailsBetween}

-- an image is one of the values
pub image_within : (row : PureRow) → IsRow row → (k : ℕ) (o : Option ℕ) → o ≡ image_at row.images k → IfSome o (λ i. i < length row.names)
image_within row is k None e = tt
image_within row is k (Some i) e = is.within k i (sym e)

not_both : (b : Bool) → b ≡ true → not b ≡ true → ⊥
not_both true e h = cc
not_both false e h = cc

not_true : (b : Bool) → ¬ (b ≡ true) → not b ≡ true
not_true true n = absurd (n refl)
not_true false n = refl

-- the one image
same : (i : ℕ) (o : Option ℕ) (w : PureValue) → Some i ≡ o → option_map name o ≡ Some w → w ≡ name i
same i o w e f = let g : Some (name i) ≡ option_map name o = ap (option_map name) e in cc

image_there : (o : Option ℕ) → IsTruthOf (is_some o) ((w : PureValue) × (option_map name o ≡ Some w))
image_there None = (λ h. absurd (cc), λ f. let e = f.1 in absurd (cc))
image_there (Some i) = (λ h. (name i, refl), λ f. refl)

pub dead_fails : (row : PureRow) (u : ℕ) (o : Option ℕ) → o ≡ image_at row.images u → IsTruthOf (is_some o) (FailsAtPlace row Dead u)
dead_fails row u o e = subst (λ p. IsTruthOf (is_some o) ((w : PureValue) × (option_map name p ≡ Some w))) e (image_there o)

pub strict_fails : (row : PureRow) (u i : ℕ) (b : Bool) → Some i ≡ image_at row.images u
    → IsTruthOf b (IsPreferred (row_carrier row) (Some (name u)) (Some (name i))) → IsTruthOf (not b) (FailsAtPlace row Strict u)
strict_fails row u i b e t = (
  λ h. (name i, ap (option_map name) (sym e), λ p. not_both b (t.1 p) h),
  λ f. not_true b (λ g. f.2 (subst (λ w. IsPreferred (row_carrier row) (Some (name u)) (Some w))
      (sym (same i (image_at row.images u) f.0 e f.1)) (t.0 g))),
)

pub condensed_fails : (row : PureRow) (u v i j : ℕ) (b : Bool) → Some i ≡ image_at row.images u → Some j ≡ image_at row.images v
    → IsTruthOf b (IsPreferred (row_carrier row) (Some (name i)) (Some (name j))) → IsTruthOf b (FailsBetween row Condensed u v)
condensed_fails row u v i j b d e t = (
  λ h. (name i, name j, ap (option_map name) (sym d), ap (option_map name) (sym e), t.0 h),
  λ f. t.1 (subst (λ w. IsPreferred (row_carrier row) (Some w) (Some (name j))) (same i (image_at row.images u) f.0 d f.2)
      (subst (λ x. IsPreferred (row_carrier row) (Some f.0) (Some x)) (same j (image_at row.images v) f.1 e f.3) f.4)),
)

pub narrow_fails : (row : PureRow) (u v i j : ℕ) (b : Bool) → Some i ≡ image_at row.images u → Some j ≡ image_at row.images v
    → IsTruthOf b (IsPreferred (row_carrier row) (Some (name u)) (Some (name v))) → IsTruthOf b (FailsBetween row Narrow u v)
narrow_fails row u v i j b d e t = (
  λ h. (name i, name j, ap (option_map name) (sym d), ap (option_map name) (sym e), t.0 h),
  λ f. t.1 f.4,
)
