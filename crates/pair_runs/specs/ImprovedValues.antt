-- What tests say of a value, and of what a label that improves it makes of it. Lemmas, so that proofs of other crates
-- may cite them.
use Rattle.std.proofs.Common.{◌≡◌, ◌+◌, ◌*◌, true, Some, refl, arith}
use Rattle.std.specs.Ordering.{ordering_reverse}
use Rattle.std.specs.declared.cmp.Ordering.{Ordering}
use Rattle.std.specs.declared.cmp.Ordering.TheVariants.{Less, Equal, Greater}
use Rattle.alg_model.specs.Expressions.{PureAlg, PureLabel, PureValue}
use Rattle.alg_model.specs.Carriers.{carrier_of, Order}
use Rattle.alg_model.specs.Application.{App}
use Rattle.alg_model.specs.Bounds.{greatest_number}
use Rattle.alg_model.specs.Formation.{IsAlg}
use Rattle.alg_model.specs.Laws.{images_in, images_at_most, at_most_more}
use Rattle.alg_model.specs.Tests.{is_in, is_in-Decides, is_at_most, is_at_most-Decides, same_value, same_value-Decides}
use Rattle.settled_laws.specs.OrderTurns.{order_turns}
use Rattle.settled_laws.specs.Pair.{Fits, Improves}
use Rattle.settled_laws.specs.SmallValues.{order_self}

-- The tests on the two values, where a label makes the second of the first. A path of one node allows the numbers of the
-- first, one of two nodes those of the second.
pub record AreTested (alg : PureAlg) (l : PureLabel) (v w : PureValue) : Type 0 where
  pub image : App alg.expression l v ≡ Some w
  pub first : Order (carrier_of alg.expression) w v ≡ Less
  pub second : Order (carrier_of alg.expression) v w ≡ Greater
  pub own_self : Order (carrier_of alg.expression) v v ≡ Equal
  pub made_self : Order (carrier_of alg.expression) w w ≡ Equal
  pub own_in : is_in (carrier_of alg.expression) v ≡ true
  pub made_in : is_in (carrier_of alg.expression) w ≡ true
  pub own_small : is_at_most (1 * (greatest_number alg.edition + 1)) v ≡ true
  pub made_small : is_at_most (2 * (greatest_number alg.edition + 1)) w ≡ true
  pub own_same : same_value v v ≡ true

turned : (o p : Ordering) → p ≡ ordering_reverse o → o ≡ Less → p ≡ Greater
turned o p e f = grind arith

pub are_tested : (alg : PureAlg) (l : PureLabel) (v w : PureValue) → IsAlg alg → Fits alg l v → Improves alg l v w → AreTested alg l v w
are_tested alg l v w a f g =
    let c = carrier_of alg.expression in
    let n = greatest_number alg.edition in
    record {
      image = g.image;
      first = g.preferred;
      second = turned (Order c w v) (Order c v w) (order_turns c w v) g.preferred;
      own_self = order_self c v;
      made_self = order_self c w;
      own_in = (is_in-Decides c v).1 f.value_in;
      made_in = (is_in-Decides c w).1 (images_in alg.expression l v w a.formed f.label_in f.value_in g.image);
      own_small = (is_at_most-Decides (1 * (n + 1)) v).1 (at_most_more n (1 * (n + 1)) v (omega arith) f.value_bound);
      made_small = (is_at_most-Decides (2 * (n + 1)) w).1 (at_most_more (n + n) (2 * (n + 1)) w (omega arith) (images_at_most alg.expression l v w n n f.label_in f.label_bound f.value_bound g.image));
      own_same = (same_value-Decides v v).1 refl;
    }
