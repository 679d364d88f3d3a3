-- The order of keys is a strict weak order, and so that of nodes by their best keys.
use Rattle.std.specs.Prelude.{◌≡◌, ℕ, List, Option, Some, None, IfSome, option_map, true, false}
use Rattle.std.specs.Ordering.{ordering_then, ordering_reverse, nat_cmp}
use Rattle.std.specs.declared.cmp.Ordering.{Ordering}
use Rattle.std.specs.declared.cmp.Ordering.TheVariants.{Less, Equal}
use Rattle.std.proofs.Common.{arith, refl}
use Rattle.std.proofs.lemmas.Bool.Decides.{nat_tests}
use Rattle.alg_model.specs.Expressions.{PureCarrier, PureValue}
use Rattle.alg_model.specs.Carriers.{In, Order}
use Rattle.alg_model.specs.Laws.{total_preorder}
use Rattle.net_graph.specs.Routes.{is_less}
use Rattle.best_first.specs.declared.route.OpenRoute.{OpenRoute}
use Rattle.best_first.specs.Found.{found-map, found_at, AllFound}
use Rattle.best_first.specs.Keys.{RouteKey, is_first, is_ahead, key_of, best_of, precedes}

flip : (m n : ℕ) → nat_cmp n m ≡ ordering_reverse (nat_cmp m n)
flip m n = grind (arith, nat_tests)

pub asymmetric : (c : PureCarrier) (a b : RouteKey) → In c a.value → In c b.value → is_first c a b ≡ true → is_first c b a ≡ false
asymmetric c a b i j =
    by (Order c a.value b.value) (Order c b.value a.value) (nat_cmp a.size b.size) (nat_cmp b.size a.size) (nat_cmp a.node b.node) (nat_cmp b.node a.node) (nat_cmp a.next b.next) (nat_cmp b.next a.next)
    ((total_preorder c).flip a.value b.value i j) (flip a.size b.size) (flip a.node b.node) (flip a.next b.next)
  where
    by : (o p s t m n x y : Ordering) → p ≡ ordering_reverse o → t ≡ ordering_reverse s → n ≡ ordering_reverse m → y ≡ ordering_reverse x
        → is_less (ordering_then o (ordering_then s (ordering_then m x))) ≡ true → is_less (ordering_then p (ordering_then t (ordering_then n y))) ≡ false
    by o p s t m n x y e f g h = grind arith

-- what doesn't come before, by one number and then by what is after
numbers_trans : (i j k : ℕ) (x y z : Ordering) → (is_less x ≡ false → is_less y ≡ false → is_less z ≡ false)
    → is_less (ordering_then (nat_cmp j i) x) ≡ false → is_less (ordering_then (nat_cmp k j) y) ≡ false → is_less (ordering_then (nat_cmp k i) z) ≡ false
numbers_trans i j k x y z h f g = grind (arith, nat_tests)

last_trans : (i j k : ℕ) → is_less (nat_cmp j i) ≡ false → is_less (nat_cmp k j) ≡ false → is_less (nat_cmp k i) ≡ false
last_trans i j k f g = grind (arith, nat_tests)

joined : (xy yx yz zy xz zx p q r : Ordering) → yx ≡ ordering_reverse xy → zy ≡ ordering_reverse yz → zx ≡ ordering_reverse xz
    → (xy ≡ Less → yz ≡ Less → xz ≡ Less) → (xy ≡ Equal → xz ≡ yz) → (zy ≡ Equal → zx ≡ yx)
    → (is_less p ≡ false → is_less q ≡ false → is_less r ≡ false) → is_less (ordering_then yx p) ≡ false → is_less (ordering_then zy q) ≡ false → is_less (ordering_then zx r) ≡ false
joined xy yx yz zy xz zx p q r a b d t e h k f g = grind arith

pub transitive : (c : PureCarrier) (x y z : RouteKey) → In c x.value → In c y.value → In c z.value → is_first c y x ≡ false → is_first c z y ≡ false → is_first c z x ≡ false
transitive c x y z i j k =
    let p = total_preorder c in
    joined (Order c x.value y.value) (Order c y.value x.value) (Order c y.value z.value) (Order c z.value y.value) (Order c x.value z.value) (Order c z.value x.value) _ _ _
    (p.flip x.value y.value i j) (p.flip y.value z.value j k) (p.flip x.value z.value i k)
    (p.trans x.value y.value z.value i j k) (p.congr x.value y.value z.value i j k) (p.congr z.value y.value x.value k j i)
    (numbers_trans x.size y.size z.size _ _ _ (numbers_trans x.node y.node z.node _ _ _ (last_trans x.next y.next z.next)))

-- the same of keys of which some may be missing
ahead_asymmetric : (c : PureCarrier) (o p : Option RouteKey) → IfSome o (λ k. In c k.value) → IfSome p (λ k. In c k.value) → is_ahead c o p ≡ true → is_ahead c p o ≡ false
ahead_asymmetric c (Some k) (Some l) i j e = asymmetric c k l i j e
ahead_asymmetric c (Some k) None i j e = refl
ahead_asymmetric c None p i j e = absurd (cc)

ahead_transitive : (c : PureCarrier) (o p q : Option RouteKey) → IfSome o (λ k. In c k.value) → IfSome p (λ k. In c k.value) → IfSome q (λ k. In c k.value)
    → is_ahead c p o ≡ false → is_ahead c q p ≡ false → is_ahead c q o ≡ false
ahead_transitive c (Some k) (Some l) (Some m) i j n e f = transitive c k l m i j n e f
ahead_transitive c o p None i j n e f = refl
ahead_transitive c o None (Some m) i j n e f = absurd (cc)
ahead_transitive c None (Some l) (Some m) i j n e f = absurd (cc)

module _ {S : Type 0} (value : S → PureValue) (is_sig : S → Type 0) (c : PureCarrier) (sig_in : (s : S) → is_sig s → In c (value s))
    (best : List (Option (OpenRoute S))) (sigs : AllFound (λ o. is_sig o.sig) best)
  where
    pub found_in : (k : ℕ) → IfSome (found_at (best_of value best) k) (λ key. In c key.value)
    found_in k = rw (found-map (key_of value) best k) (by (found_at best k) (sigs k))
      where
        by : (o : Option (OpenRoute S)) → IfSome o (λ o. is_sig o.sig) → IfSome (option_map (key_of value) o) (λ key. In c key.value)
        by None h = tt
        by (Some o) h = sig_in o.sig h

    pub slots_asymmetric : (k m : ℕ) → precedes c (best_of value best) k m ≡ true → precedes c (best_of value best) m k ≡ false
    slots_asymmetric k m e = ahead_asymmetric c (found_at (best_of value best) k) (found_at (best_of value best) m) (found_in k) (found_in m) e

    pub slots_transitive : (k m n : ℕ) → precedes c (best_of value best) m k ≡ false → precedes c (best_of value best) n m ≡ false → precedes c (best_of value best) n k ≡ false
    slots_transitive k m n e f =
        ahead_transitive c (found_at (best_of value best) k) (found_at (best_of value best) m) (found_at (best_of value best) n) (found_in k) (found_in m) (found_in n) e f
