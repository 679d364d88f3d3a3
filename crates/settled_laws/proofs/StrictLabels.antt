-- A label that is strict is monotone.
use Rattle.std.proofs.Common.{◌≡◌, ◌≢◌, List, [], ◌∷◌, Option, Some, None, arith}
use Rattle.std.specs.List.{AllByRecursion}
use Rattle.std.specs.Ordering.{ordering_reverse}
use Rattle.std.specs.declared.cmp.Ordering.{Ordering}
use Rattle.std.specs.declared.cmp.Ordering.TheVariants.{Less}
use Rattle.alg_model.specs.Expressions.{Expression, PureLabel, PureValue}
use Rattle.alg_model.specs.Carriers.{carrier_of, Order, OrderOrNone}
use Rattle.alg_model.specs.Application.{App}
use Rattle.alg_model.specs.Properties.{monotone, strict, IsMonotone, IsStrict}
use Rattle.net_graph.specs.Nets.{PureArc, PureNet}
use Rattle.net_graph.specs.Tables.{NetHas}
use Rattle.settled_laws.specs.OrderTurns.{order_turns}

pub strict_is_monotone : (a : Expression) (l : PureLabel) → IsStrict a l → IsMonotone a l
strict_is_monotone a l s v i = by (App a l v) (s v i)
  where
    turned : (o p : Ordering) → p ≡ ordering_reverse o → o ≡ Less → p ≢ Less
    turned o p e f = grind arith

    by : (o : Option PureValue) → OrderOrNone (carrier_of a) (Some v) o ≡ Less → OrderOrNone (carrier_of a) o (Some v) ≢ Less
    by None e = λ f. cc
    by (Some w) e = turned (Order (carrier_of a) v w) (Order (carrier_of a) w v) (order_turns (carrier_of a) v w) e

arcs_are_monotone : (a : Expression) (arcs : List PureArc) → AllByRecursion (λ (x : PureArc). IsStrict a x.label) arcs → AllByRecursion (λ (x : PureArc). IsMonotone a x.label) arcs
arcs_are_monotone a [] h = tt
arcs_are_monotone a (x ∷ arcs) h = (strict_is_monotone a x.label h.0, arcs_are_monotone a arcs h.1)

pub strict_net_is_monotone : (net : PureNet) → NetHas strict net → NetHas monotone net
strict_net_is_monotone net s = arcs_are_monotone net.alg.expression net.arcs s
