-- Preference among values and none, from its laws on values. Lemmas, so that proofs of other crates may cite
-- them.
use Rattle.std.proofs.Common.{◌≡◌, ◌≢◌, Option, Some, None, IfSome, arith}
use Rattle.std.specs.Ordering.{ordering_reverse}
use Rattle.std.specs.declared.cmp.Ordering.{Ordering}
use Rattle.std.specs.declared.cmp.Ordering.TheVariants.{Less, Equal}
use Rattle.alg_model.specs.Expressions.{PureCarrier, PureValue}
use Rattle.alg_model.specs.Carriers.{In, Order, OrderOrNone}
use Rattle.alg_model.specs.Laws.{total_preorder}

-- the second isn't preferred to the first
abbrev pub IsUnbeatenBy : PureCarrier → Option PureValue → Option PureValue → Type 0
IsUnbeatenBy c x y = OrderOrNone c y x ≢ Less

joined : (xy yx yz zy xz zx : Ordering) → yx ≡ ordering_reverse xy → zy ≡ ordering_reverse yz → zx ≡ ordering_reverse xz
    → (xy ≡ Less → zy ≡ Less) → (xy ≡ Equal → xz ≡ yz) → yx ≢ Less → zy ≢ Less → zx ≡ Less → ⊥
joined xy yx yz zy xz zx a b d t q f g e = grind arith

values_trans : (c : PureCarrier) → (x y z : PureValue) → In c x → In c y → In c z
    → Order c y x ≢ Less → Order c z y ≢ Less → Order c z x ≢ Less
values_trans c x y z i j k f g e =
    let p = total_preorder c in
    joined (Order c x y) (Order c y x) (Order c y z) (Order c z y) (Order c x z) (Order c z x) (p.flip x y i j) (p.flip y z j k) (p.flip x z i k)
    (p.trans z x y k i j e) (p.congr x y z i j k) f g e

pub unbeaten_trans : (c : PureCarrier) → (x y z : Option PureValue) → IfSome x (In c) → IfSome y (In c) → IfSome z (In c)
    → IsUnbeatenBy c x y → IsUnbeatenBy c y z → IsUnbeatenBy c x z
unbeaten_trans c (Some u) (Some v) (Some w) i j k f g = values_trans c u v w i j k f g
unbeaten_trans c (Some u) (Some v) None i j k f g = λ e. cc
unbeaten_trans c (Some u) None (Some w) i j k f g = λ e. g (cc)
unbeaten_trans c (Some u) None None i j k f g = λ e. cc
unbeaten_trans c None (Some v) z i j k f g = λ e. f (cc)
unbeaten_trans c None None z i j k f g = g

-- none is preferred neither to a value nor to none
pub none_last : (c : PureCarrier) (x : Option PureValue) → IsUnbeatenBy c x None
none_last c None e = cc
none_last c (Some v) e = cc
