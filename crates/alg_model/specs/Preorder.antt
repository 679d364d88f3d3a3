-- What makes preference a total preorder.
use Rattle.std.specs.Prelude.{◌≡◌}
use Rattle.std.specs.Ordering.{ordering_reverse}
use Rattle.std.specs.declared.cmp.Ordering.TheVariants.{Less, Equal}
use Rattle.alg_model.specs.Expressions.{PureCarrier, PureValue}
use Rattle.alg_model.specs.Carriers.{In, Order}

pub record IsTotalPreorder (c : PureCarrier) : Type 0 where
  -- turned round, a comparison is the other one
  pub flip : (u v : PureValue) → In c u → In c v → Order c v u ≡ ordering_reverse (Order c u v)
  -- what is preferred to what is preferred is preferred
  pub trans : (u v w : PureValue) → In c u → In c v → In c w → Order c u v ≡ Less → Order c v w ≡ Less → Order c u w ≡ Less
  -- equivalent values compare alike with every other
  pub congr : (u v w : PureValue) → In c u → In c v → In c w → Order c u v ≡ Equal → Order c u w ≡ Order c v w
