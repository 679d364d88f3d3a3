-- A machine floods when it starts, and still does after what a delivery answers.
use Rattle.std.proofs.Common.{◌≡◌, ℕ, List, Option, Some, None, Result, Ok, Err, IfOk, refl, sym, subst}
use Rattle.net_graph.specs.Nets.{PureNet, IsNet}
use Rattle.node_core.specs.Machine.{AreUnbegun, Machine, Deliver, Start}
use Rattle.node_core.specs.MachineLaws.{delivery_of}
use Rattle.flood_node.specs.Cards.{PureFlooded}
use Rattle.flood_node.specs.Knowing.{IsFlood}
use Rattle.flood_node.specs.Node.{FloodState, flooding}
use Rattle.flood_node.specs.Truth.{delivery_floods, start_floods}

pub still_floods : (net : PureNet) (c d : Machine FloodState PureFlooded) (a : ℕ) (clock : Option ℕ) → IsNet net → IsFlood net c → ((t : ℕ) → clock ≡ Some t → Deliver flooding net c a ≡ Some d) → (clock ≡ None → d ≡ c) → IsFlood net d
still_floods net c d a None n f taken empty = subst (IsFlood net) (sym (empty refl)) f
still_floods net c d a (Some t) n f taken empty = let made = taken t refl in delivery_floods net n c f a d (delivery_of flooding net c a d made) made

pub starts_to_flood : {C E : Type 0} (net : PureNet) (nodes : List FloodState) (on : C → PureNet) (machine : C → Machine FloodState PureFlooded) (r : Result C E) → IsNet net → AreUnbegun flooding net 0 nodes → IfOk r (λ c. on c ≡ net) → IfOk r (λ c. machine c ≡ Start flooding nodes)
    → IfOk r (λ c. IsFlood (on c) (machine c))
starts_to_flood net nodes on machine (Err x) n u same start = tt
starts_to_flood net nodes on machine (Ok c) n u same start = subst (λ z. IsFlood z (machine c)) (sym same) (subst (IsFlood net) (sym start) (start_floods net n nodes u))
