-- The first arc of a network whose label doesn't have a property is one alone and refutes that the network has all of
-- the properties, and its instance is small. Lemmas, so that proofs of other crates may cite them.
use Rattle.std.proofs.Common.{◌≡◌, ◌≤◌, ℕ, zero, suc, ◌<◌, List, [], ◌∷◌, Option, Some, None, ⊎_elim, slice_get, length, ap, subst, sym, lit≤}
use Rattle.std.proofs.lemmas.Bool.{cases_order}
use Rattle.std.proofs.lemmas.Option.{same_Some, slice_get_within}
use Rattle.std.specs.List.{AllByRecursion}
use Rattle.alg_model.specs.Numbers.{max_instance_number, max_value_number, max_label_number}
use Rattle.alg_model.specs.Bounds.{greatest_number}
use Rattle.alg_model.specs.Expressions.{Expression, PureLabel, PureValue}
use Rattle.alg_model.specs.Instances.{InstanceAtMost, SecondAtMost}
use Rattle.alg_model.specs.Laws.{at_most_more, label_at_most_more, greatest_is_bounded}
use Rattle.alg_model.specs.Properties.{PureProperty, Has}
use Rattle.alg_model.specs.Verdicts.{PureInstance}
use Rattle.net_graph.specs.Nets.{PureArc, PureNet}
use Rattle.net_graph.specs.Tables.{NetHas}
use Rattle.net_facts.specs.Misses.{HasAll, ArcHasAll, NetHasAll, StandsAfter, MissesEarliest, MissesFirst, IsFirstMissing}

-- what holds of all holds of one that was got
all_got : {X : Type 0} (P : X → Type 0) (xs : List X) (n : ℕ) (x : X) → AllByRecursion P xs → slice_get xs n ≡ Some x → P x
all_got P [] n x all e = absurd (cc)
all_got P (y ∷ xs) zero x all e = subst P (same_Some y x e) all.0
all_got P (y ∷ xs) (suc n) x all e = all_got P xs n x all.1 e

-- one item alone is not as P says after items that are
stands_once : {X : Type 0} (P : X → Type 0) (xs : List X) (m n : ℕ) (x y : X)
    → StandsAfter P xs m x → ¬ P x → StandsAfter P xs n y → ¬ P y → (m ≡ n) × (x ≡ y)
stands_once {X} P xs m n x y s f t g = ⊎_elim
    (λ same. (same, same_Some x y (let at = s.at in let other = t.at in cc)))
    (λ apart. ⊎_elim
    (λ less. absurd (f (t.before m less x s.at)))
    (λ more. absurd (g (s.before n more y t.at)))
    apart)
    (cases_order m n)

misses_one : (properties : List PureProperty) (a : Expression) (l : PureLabel) (p : PureProperty) → MissesEarliest properties a l p → ¬ HasAll properties a l
misses_one properties a l p e all = e.misses (all_got (λ q. Has q a l) properties e.place p all e.stands.at)

earliest_is_unique : (properties : List PureProperty) (a : Expression) (l m : PureLabel) (p q : PureProperty) → l ≡ m
    → MissesEarliest properties a l p → MissesEarliest properties a m q → p ≡ q
earliest_is_unique properties a l m p q same e f =
    let g = subst (λ k. MissesEarliest properties a k q) (sym same) f in
    (stands_once (λ r. Has r a l) properties e.place g.place p q e.stands e.misses g.stands g.misses).1

pub first_is_unique : (properties : List PureProperty) (net : PureNet) (j k : ℕ) (p q : PureProperty)
    → MissesFirst properties net j p → MissesFirst properties net k q → (j ≡ k) × (p ≡ q)
first_is_unique properties net j k p q f g =
    let a = net.alg.expression in
    let same = stands_once (ArcHasAll properties net) net.arcs j k f.arc g.arc
    f.stands (misses_one properties a f.arc.label p f.earliest) g.stands (misses_one properties a g.arc.label q g.earliest) in
    (same.0, earliest_is_unique properties a f.arc.label g.arc.label p q (ap (λ (arc : PureArc). arc.label) same.1) f.earliest g.earliest)

pub first_refutes : (properties : List PureProperty) (net : PureNet) (k : ℕ) (p : PureProperty) → MissesFirst properties net k p → ¬ NetHasAll properties net
first_refutes properties net k p f all =
    let has = all_got (λ q. NetHas q net) properties f.earliest.place p all f.earliest.stands.at in
    f.earliest.misses (all_got (λ (a : PureArc). Has p net.alg.expression a.label) net.arcs k f.arc has f.stands.at)

SecondAtMost-le : (m n : ℕ) → m ≤ n → (o : Option PureValue) → SecondAtMost m o → SecondAtMost n o
SecondAtMost-le m n h None b = tt
SecondAtMost-le m n h (Some v) b = at_most_more m n v h b

-- the arc is the network's, and labels may be applied to the values of the instance
pub missing_is_small : (properties : List PureProperty) (net : PureNet) (k : ℕ) (x : PureInstance) → IsFirstMissing properties net k x
    → (k < length net.arcs) × InstanceAtMost max_label_number max_value_number x
missing_is_small properties net k x is = (
  slice_get_within net.arcs k is.first.arc is.first.stands.at,
  record {
    label = label_at_most_more (greatest_number net.alg.edition) max_label_number x.label (greatest_is_bounded net.alg.edition) is.bound.label;
    first = at_most_more max_instance_number max_value_number x.first (lit≤ tt) is.bound.first;
    second = SecondAtMost-le max_instance_number max_value_number (lit≤ tt) x.second is.bound.second;
  },
)
