-- The keys of routes compare as the routes.
use Rattle.std.proofs.Common.{◌≡◌, ◌≢◌, ℕ, List, [], ◌∷◌, None, length, refl, sym, ap, ◌∙◌, arith, ◌⊎◌, inl, inr}
use Rattle.std.proofs.lemmas.Bool.Decides.{nat_tests}
use Rattle.std.specs.Ordering.{ordering_then, nat_cmp}
use Rattle.std.specs.declared.cmp.Ordering.{Ordering}
use Rattle.std.specs.declared.cmp.Ordering.TheVariants.{Less, Equal, Greater}
use Rattle.alg_model.specs.Expressions.{PureCarrier}
use Rattle.alg_model.specs.Carriers.{Order}
use Rattle.meta_base.specs.NodePaths.{compare_nodes, compare_paths}
use Rattle.net_graph.specs.Routes.{compare_routes, is_less, is_better}
use Rattle.net_graph.specs.Tables.{Reported}
use Rattle.best_first.specs.Keys.{RouteKey, compare_keys, is_first, route_of, path_or_none, IsShaped}

cmp_same : (n : ℕ) → nat_cmp n n ≡ Equal
cmp_same n = grind (arith, nat_tests)

nodes_same : (p : List ℕ) → compare_nodes p p ≡ Equal
nodes_same [] = refl
nodes_same (i ∷ p) = rw (cmp_same i) (nodes_same p)

-- what is after plays no part where the first nodes differ, and is the same where they don't
fronts : (n m : ℕ) (p q : List ℕ) → (n ≡ m → p ≡ q) → nat_cmp n m ≡ compare_nodes (n ∷ p) (m ∷ q)
fronts n m p q same = by (nat_cmp n m) refl
  where
    by : (o : Ordering) → nat_cmp n m ≡ o → o ≡ ordering_then o (compare_nodes p q)
    by Less e = refl
    by Greater e = refl
    by Equal e =
        let k : n ≡ m = grind (arith, nat_tests) in
        rw (same k) (sym (nodes_same q))

-- what is compared after two numbers that differ plays no part
unequal : (x y : ℕ) (o p : Ordering) → x ≢ y → ordering_then (nat_cmp x y) o ≡ ordering_then (nat_cmp x y) p
unequal x y o p d = by (nat_cmp x y) refl
  where
    by : (q : Ordering) → nat_cmp x y ≡ q → ordering_then q o ≡ ordering_then q p
    by Less e = refl
    by Greater e = refl
    by Equal e = absurd (d (grind (arith, nat_tests)))

-- two routes that begin where they end
origins : (o : Ordering) → ordering_then o o ≡ ordering_then o Equal
origins Less = refl
origins Equal = refl
origins Greater = refl

-- the path of so many nodes goes from node i over the next node n along what is after
abbrev IsPathOf : (ℕ → List ℕ) → List ℕ → ℕ → ℕ → ℕ → Type 0
IsPathOf after path size i n = ((path ≡ i ∷ []) × (n ≡ i) × (length path ≡ size)) ⊎ ((rest : List ℕ) × (path ≡ i ∷ n ∷ rest) × (after n ≡ n ∷ rest) × (length path ≡ size))

tails : (after : ℕ → List ℕ) (p q : List ℕ) (ks ls i j n m : ℕ) → IsPathOf after p ks i n → IsPathOf after q ls j m
    → ordering_then (nat_cmp ks ls) (ordering_then (nat_cmp i j) (nat_cmp n m)) ≡ compare_paths p q
tails after p q ks ls i j n m (inl (e, f, a)) (inl (g, h, b)) = rw (← a, ← b, e, g, f, h) (origins (nat_cmp i j))
tails after p q ks ls i j n m (inl (e, f, a)) (inr (t, g, h, b)) =
    rw (← a, ← b, e, g) (unequal (length (i ∷ [])) (length (j ∷ m ∷ t)) _ _ (omega arith))
tails after p q ks ls i j n m (inr (t, e, f, a)) (inl (g, h, b)) =
    rw (← a, ← b, e, g) (unequal (length (i ∷ n ∷ t)) (length (j ∷ [])) _ _ (omega arith))
tails after p q ks ls i j n m (inr (t, e, f, a)) (inr (u, g, h, b)) =
    let same : n ≡ m → t ≡ u = λ k. cc in
    rw (← a, ← b, e, g) (ap (λ o. ordering_then (nat_cmp (length (i ∷ n ∷ t)) (length (j ∷ m ∷ u))) (ordering_then (nat_cmp i j) o)) (fronts n m t u same))

-- the path of a key of a node that isn't fixed
shape : (reported : Reported) (k : RouteKey) → reported k.node ≡ None → IsShaped reported k → IsPathOf (λ n. path_or_none (reported n)) (route_of reported k).path k.size k.node k.next
shape reported k none (inl (e, f)) =
    let after : reported k.next ≡ None = rw e none in
    let one : path_or_none (reported k.next) ≡ [] = ap path_or_none after in
    inl (ap (λ p. k.node ∷ p) one, e, rw (one, f) refl)
shape reported k none (inr b) =
    let after : path_or_none (reported k.next) ≡ b.next.path = ap path_or_none b.is_reported in
    inr (b.begins.0, ap (λ p. k.node ∷ p) (after ∙ b.begins.1), after ∙ b.begins.1, rw (b.size, after) (omega arith))

pub keys_agree : (c : PureCarrier) (reported : Reported) (k l : RouteKey) → reported k.node ≡ None → reported l.node ≡ None → IsShaped reported k → IsShaped reported l
    → compare_keys c k l ≡ compare_routes c (route_of reported k) (route_of reported l)
keys_agree c reported k l none nobody f g =
    ap (λ o. ordering_then (Order c k.value l.value) o)
    (tails (λ n. path_or_none (reported n)) (route_of reported k).path (route_of reported l).path k.size l.size k.node l.node k.next l.next (shape reported k none f) (shape reported l nobody g))

pub first_agree : (c : PureCarrier) (reported : Reported) (k l : RouteKey) → reported k.node ≡ None → reported l.node ≡ None → IsShaped reported k → IsShaped reported l
    → is_first c k l ≡ is_better c (route_of reported k) (route_of reported l)
first_agree c reported k l none nobody f g = ap is_less (keys_agree c reported k l none nobody f g)
