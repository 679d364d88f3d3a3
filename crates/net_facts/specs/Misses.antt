-- Networks that have some properties, and the first arc of one that doesn't have one of them.
use Rattle.std.specs.Prelude.{◌≡◌, ℕ, ◌<◌, List, Some, slice_get}
use Rattle.std.specs.List.{AllByRecursion}
use Rattle.alg_model.specs.Numbers.{max_instance_number}
use Rattle.alg_model.specs.Bounds.{greatest_number}
use Rattle.alg_model.specs.Expressions.{Expression, PureLabel}
use Rattle.alg_model.specs.Instances.{InstanceAtMost}
use Rattle.alg_model.specs.Properties.{PureProperty, Has}
use Rattle.alg_model.specs.Verdicts.{PureInstance, Violates}
use Rattle.net_graph.specs.Nets.{PureArc, PureNet}
use Rattle.net_graph.specs.Tables.{NetHas}

-- the label has all of the properties
abbrev pub HasAll : List PureProperty → Expression → PureLabel → Type 0
HasAll properties a l = AllByRecursion (λ p. Has p a l) properties

-- the label on the arc has all of the properties
abbrev pub ArcHasAll : List PureProperty → PureNet → PureArc → Type 0
ArcHasAll properties net arc = HasAll properties net.alg.expression arc.label

-- the network has all of the properties
abbrev pub NetHasAll : List PureProperty → PureNet → Type 0
NetHasAll properties net = AllByRecursion (λ p. NetHas p net) properties

-- each item before place n of the list is as P says
abbrev pub AllBefore : {X : Type 0} → (X → Type 0) → List X → ℕ → Type 0
AllBefore {X} P xs n = (m : ℕ) → m < n → (x : X) → slice_get xs m ≡ Some x → P x

-- the item stands at place n of the list, and each item before it is as P says
pub record StandsAfter {X : Type 0} (P : X → Type 0) (xs : List X) (n : ℕ) (x : X) : Type 0 where
  pub at : slice_get xs n ≡ Some x
  pub before : AllBefore P xs n

-- p is the earliest of the properties that the label doesn't have: it has those that are listed before p
pub record MissesEarliest (properties : List PureProperty) (a : Expression) (l : PureLabel) (p : PureProperty) : Type 0 where
  pub place : ℕ
  pub stands : StandsAfter (λ q. Has q a l) properties place p
  pub misses : ¬ Has p a l

-- Arc k is the first one whose label doesn't have one of the properties, and p is the earliest that it doesn't have:
-- the labels of the arcs before it have all of them.
pub record MissesFirst (properties : List PureProperty) (net : PureNet) (k : ℕ) (p : PureProperty) : Type 0 where
  pub arc : PureArc
  pub stands : StandsAfter (ArcHasAll properties net) net.arcs k arc
  pub earliest : MissesEarliest properties net.alg.expression arc.label p

-- the instance shows it of the first such arc and the earliest such property, and its numbers are small
pub record IsFirstMissing (properties : List PureProperty) (net : PureNet) (k : ℕ) (x : PureInstance) : Type 0 where
  pub first : MissesFirst properties net k x.property
  pub label : x.label ≡ first.arc.label
  pub violates : Violates net.alg.expression x
  pub bound : InstanceAtMost (greatest_number net.alg.edition) max_instance_number x
