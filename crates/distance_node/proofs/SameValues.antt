-- Which values are one.
use Rattle.std.proofs.Common.{◌≡◌, ◌≢◌, ◌⊎◌, Bool, true, false, refl, sym, ap, ◌∙◌, arith}
use Rattle.std.specs.Ordering.{ordering_reverse}
use Rattle.std.specs.declared.cmp.Ordering.{Ordering}
use Rattle.std.specs.declared.cmp.Ordering.TheVariants.{Less, Equal, Greater}
use Rattle.alg_model.specs.Carriers.{In, Order}
use Rattle.alg_model.specs.Expressions.{PureCarrier, PureValue}
use Rattle.alg_model.specs.Laws.{total_preorder}
use Rattle.alg_model.specs.Tests.{same_value, same_value-Decides}

itself : (c : PureCarrier) (u : PureValue) → In c u → Order c u u ≡ Equal
itself c u i = by (Order c u u) ((total_preorder c).flip u u i i)
  where
    by : (o : Ordering) → o ≡ ordering_reverse o → o ≡ Equal
    by o e = grind arith

-- values that compare unequal are two
pub are_apart : (c : PureCarrier) (u v : PureValue) → In c u → (o : Ordering) → o ≡ Order c u v → o ≢ Equal → false ≡ same_value u v
are_apart c u v i o e apart = by (same_value u v) refl
  where
    by : (b : Bool) → same_value u v ≡ b → false ≡ b
    by true f =
        let same : u ≡ v = (same_value-Decides u v).0 f in
        absurd (apart (e ∙ (ap (Order c u) (sym same) ∙ itself c u i)))
    by false f = refl

-- what is preferred one way or the other isn't as good
pub unequal : (o : Ordering) → (o ≡ Less) ⊎ (o ≡ Greater) → o ≢ Equal
unequal o h e = grind arith
