-- Values and none that are as good as others.
use Rattle.std.proofs.Common.{◌≡◌, ◌≢◌, Option, Some, None, IfSome, true, refl, arith}
use Rattle.std.specs.Ordering.{is_eq, ordering_reverse}
use Rattle.std.specs.declared.cmp.Ordering.{Ordering}
use Rattle.std.specs.declared.cmp.Ordering.TheVariants.{Less, Equal}
use Rattle.alg_model.specs.Carriers.{In, AreEquivalent, Order}
use Rattle.alg_model.specs.Expressions.{PureCarrier, PureValue}
use Rattle.alg_model.specs.Laws.{total_preorder}
use Rattle.net_graph.specs.Unbeaten.{IsUnbeatenBy, unbeaten_trans}
use Rattle.report_check.specs.Hops.{are_equivalent}

eq_is : (o : Ordering) → is_eq o ≡ true → o ≡ Equal
eq_is o e = grind arith

is_equal : (o : Ordering) → o ≡ Equal → is_eq o ≡ true
is_equal o e = grind arith

-- the test and what it tests
pub tested : (c : PureCarrier) (x y : Option PureValue) → are_equivalent c x y ≡ true → AreEquivalent c x y
tested c (Some u) (Some v) e = eq_is (Order c u v) e
tested c (Some u) None e = absurd (cc)
tested c None (Some v) e = absurd (cc)
tested c None None e = absurd (cc)

pub passes : (c : PureCarrier) (x y : Option PureValue) → AreEquivalent c x y → are_equivalent c x y ≡ true
passes c (Some u) (Some v) e = is_equal (Order c u v) e
passes c (Some u) None e = absurd e
passes c None (Some v) e = absurd e
passes c None None e = absurd e

-- both are values
pub first_value : (c : PureCarrier) (x y : Option PureValue) → AreEquivalent c x y → (u : PureValue) × (x ≡ Some u)
first_value c (Some u) (Some v) e = (u, refl)
first_value c (Some u) None e = absurd e
first_value c None (Some v) e = absurd e
first_value c None None e = absurd e

pub second_value : (c : PureCarrier) (x y : Option PureValue) → AreEquivalent c x y → (v : PureValue) × (y ≡ Some v)
second_value c (Some u) (Some v) e = (v, refl)
second_value c (Some u) None e = absurd e
second_value c None (Some v) e = absurd e
second_value c None None e = absurd e

not_less : (o p : Ordering) → p ≡ ordering_reverse o → o ≡ Equal → (o ≢ Less) × (p ≢ Less)
not_less o p e f = (λ g. grind arith, λ g. grind arith)

neither_less : (o p : Ordering) → p ≡ ordering_reverse o → o ≢ Less → p ≢ Less → o ≡ Equal
neither_less o p e f g = grind arith

-- neither beats the other
pub unbeaten_both : (c : PureCarrier) (x y : Option PureValue) → IfSome x (In c) → IfSome y (In c) → AreEquivalent c x y → IsUnbeatenBy c x y × IsUnbeatenBy c y x
unbeaten_both c (Some u) (Some v) i j e =
    let n = not_less (Order c u v) (Order c v u) ((total_preorder c).flip u v i j) e in
    (n.1, n.0)
unbeaten_both c (Some u) None i j e = absurd e
unbeaten_both c None (Some v) i j e = absurd e
unbeaten_both c None None i j e = absurd e

pub both_unbeaten : (c : PureCarrier) (x y : Option PureValue) (v : PureValue) → IfSome x (In c) → IfSome y (In c) → y ≡ Some v → IsUnbeatenBy c x y → IsUnbeatenBy c y x → AreEquivalent c x y
both_unbeaten c (Some u) (Some v) w i j e f g = neither_less (Order c u v) (Order c v u) ((total_preorder c).flip u v i j) g f
both_unbeaten c None (Some v) w i j e f g = absurd (f refl)
both_unbeaten c x None w i j e f g = absurd (cc)

pub equivalent_flip : (c : PureCarrier) (x y : Option PureValue) → IfSome x (In c) → IfSome y (In c) → AreEquivalent c x y → AreEquivalent c y x
equivalent_flip c x y i j e =
    let u = unbeaten_both c x y i j e in
    let v = first_value c x y e in
    both_unbeaten c y x v.0 j i v.1 u.1 u.0

-- what neither beats one of two equals is the other's equal
pub equivalent_by : (c : PureCarrier) (x y z : Option PureValue) → IfSome x (In c) → IfSome y (In c) → IfSome z (In c) → AreEquivalent c y z → IsUnbeatenBy c x y → IsUnbeatenBy c y x → AreEquivalent c x z
equivalent_by c x y z i j k e f g =
    let u = unbeaten_both c y z j k e in
    let v = second_value c y z e in
    both_unbeaten c x z v.0 i k v.1 (unbeaten_trans c x y z i j k f u.0) (unbeaten_trans c z y x k j i u.1 g)

preferred_of : (vw wu vu wv uw uv : Ordering) → vw ≡ Less → wu ≡ Equal → wv ≡ ordering_reverse vw → uw ≡ ordering_reverse wu → uv ≡ ordering_reverse vu → wv ≡ uv → vu ≡ Less
preferred_of vw wu vu wv uw uv a b c d e f = grind arith

-- what is preferred to one of two equals is preferred to the other
pub preferred_to : (c : PureCarrier) (v w u : PureValue) → In c v → In c w → In c u → Order c v w ≡ Less → Order c w u ≡ Equal → Order c v u ≡ Less
preferred_to c v w u i j k a b =
    let p = total_preorder c in
    preferred_of (Order c v w) (Order c w u) (Order c v u) (Order c w v) (Order c u w) (Order c u v) a b (p.flip v w i j) (p.flip w u j k) (p.flip v u i k) (p.congr w u v j k i b)
