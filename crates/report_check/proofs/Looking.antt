-- What a look at a table shows of its rows.
use Rattle.std.proofs.Common.{◌≡◌, ◌≢◌, ℕ, ◌<◌, ◌≤◌, zero, suc, List, [], ◌∷◌, Option, Some, None, IfSome, Bool, true, false, cond, not, ◌||◌, ◌&&◌, ◌⊎◌, inl, inr, option_map, option_and_then, length, refl, sym, ap, ◌∙◌, subst, arith}
use Rattle.std.specs.Ordering.{nat_cmp, ordering_then}
use Rattle.std.specs.declared.cmp.Ordering.{Ordering}
use Rattle.std.specs.declared.cmp.Ordering.TheVariants.{Less, Equal, Greater}
use Rattle.std.proofs.lemmas.Bool.{cases_lt}
use Rattle.std.proofs.lemmas.Bool.Decides.{nat_tests}
use Rattle.meta_base.specs.NodePaths.{compare_nodes, compare_paths}
use Rattle.alg_model.specs.Expressions.{PureCarrier, PureValue}
use Rattle.alg_model.specs.Carriers.{IsPreferred, Order}
use Rattle.net_graph.specs.Nets.{PureNet, IsNet, origin_value}
use Rattle.net_graph.specs.Routes.{PureRoute}
use Rattle.net_graph.specs.RouteLaws.{no_route_past, paths_equal, same_route}
use Rattle.net_graph.specs.Tables.{PureRow, Offers, TableOf, carrier, is_among, route_at, value_at}
use Rattle.net_graph.specs.Views.{rows_of}
use Rattle.net_graph.specs.Walks.{Weight, along}
use Rattle.net_graph.specs.declared.route.DestTable.{DestTable}
use Rattle.net_graph.specs.ArcLaws.{along_none}
use Rattle.stable_check.specs.Checks.{offer_by, own_offer, ImprovedBy, IsMade, IsOutdone, IsWalkOf, MadeBy, Makes, OutdoneBy, Outdoes, passed_on}
use Rattle.stable_check.specs.Offering.{choice_by}
use Rattle.stable_check.specs.WalkWeights.{weighs_walk}
use Rattle.report_check.specs.Findings.{HasWalksBefore, IsMadeAlone, StableUpTo}
use Rattle.report_check.specs.Judged.{stable}
use Rattle.report_check.specs.Looks.{IsAsGood, Shows, offer_after, path_after}
use Rattle.report_check.specs.declared.look.Shown.{Shown}

-- Paths of one node more.

pub compare_longer : (n f : ℕ) (p q : List ℕ) → length p ≢ length q → nat_cmp (length p) (length q) ≡ compare_paths (n ∷ p) (f ∷ q)
compare_longer n f p q d = by (nat_cmp (length p) (length q)) refl
  where
    lengths : nat_cmp (length (n ∷ p)) (length (f ∷ q)) ≡ nat_cmp (length p) (length q)
    lengths = grind (arith, nat_tests)

    by : (o : Ordering) → nat_cmp (length p) (length q) ≡ o → o ≡ ordering_then (nat_cmp (length (n ∷ p)) (length (f ∷ q))) (compare_nodes (n ∷ p) (f ∷ q))
    by Less e = rw (lengths, e) refl
    by Greater e = rw (lengths, e) refl
    by Equal e = absurd (d (grind (arith, nat_tests)))

pub compare_level : (n f : ℕ) (p q : List ℕ) → nat_cmp (length p) (length q) ≡ Equal → ordering_then (nat_cmp n f) (compare_paths p q) ≡ compare_paths (n ∷ p) (f ∷ q)
compare_level n f p q e =
    let lengths : nat_cmp (length (n ∷ p)) (length (f ∷ q)) ≡ Equal = grind (arith, nat_tests) in
    rw (e, lengths) refl

-- One offer.

no_offer_after : (i : ℕ) (p : List ℕ) (v : PureValue) → is_among p i ≡ true → offer_after i p v ≡ None
no_offer_after i p v e = rw e refl

none_outdoes : (c : PureCarrier) (o row : Option PureRoute) → o ≡ None → ¬ Outdoes c o row
none_outdoes c o row e h = rw e at h

unless_loop : (c : PureCarrier) (i : ℕ) (p : List ℕ) (v : PureValue) (row : Option PureRoute) → (is_among p i ≡ false → ¬ Outdoes c (Some (record { value = v; path = i ∷ p })) row) → ¬ Outdoes c (offer_after i p v) row
unless_loop c i p v row h = by (is_among p i) refl
  where
    by : (b : Bool) → is_among p i ≡ b → ¬ Outdoes c (offer_after i p v) row
    by true e = none_outdoes c (offer_after i p v) row (no_offer_after i p v e)
    by false e = rw e (h e)

-- a value that is better than the row's
pub shows_better : (c : PureCarrier) (i : ℕ) (next : Option PureRoute) (v : PureValue) (row : Option PureRoute) (shown : Shown) → shown.improves ≡ true → shown.makes ≡ false
    → (shown.outdoes ≡ false → is_among (path_after next) i ≡ true) → Shows c i next v row shown
shows_better c i next v row shown e f h = record {
  improves = λ g. absurd (cc);
  makes = λ g. absurd (cc);
  outdoes = λ g. none_outdoes c (offer_after i (path_after next) v) row (no_offer_after i (path_after next) v (h g));
}

not_less : (o p : Ordering) → o ≡ Greater → ordering_then o p ≢ Less
not_less o p e f = grind arith

-- and one that is worse
pub shows_worse : (c : PureCarrier) (i : ℕ) (next : Option PureRoute) (v : PureValue) (row : Option PureRoute) (w : PureValue) (shown : Shown) → option_map (λ (r : PureRoute). r.value) row ≡ Some w → Order c v w ≡ Greater
    → shown.makes ≡ false → Shows c i next v row shown
shows_worse c i next v None w shown e o f = absurd (cc)
shows_worse c i next v (Some r) w shown e o f =
    let same : w ≡ r.value = cc in
    let worse : Order c v r.value ≡ Greater = rw same at o in
    record {
      improves = λ g h. absurd (cc);
      makes = λ g. absurd (cc);
      outdoes = λ g. unless_loop c i (path_after next) v (Some r) (λ k. not_less (Order c v r.value) (compare_paths (i ∷ path_after next) r.path) worse);
    }

pub as_good : (c : PureCarrier) (v : PureValue) (row : Option PureRoute) (w : PureValue) → option_map (λ (r : PureRoute). r.value) row ≡ Some w → Order c v w ≡ Equal → IsAsGood c v row
as_good c v None w e o = absurd (cc)
as_good c v (Some r) w e o =
    let same : w ≡ r.value = cc in
    rw same at o

then_same : (o p : Ordering) → o ≡ Equal → ordering_then o p ≡ p
then_same o p e = rw e refl

-- one that is as good, by the paths
pub shows_equal : (c : PureCarrier) (i : ℕ) (next : Option PureRoute) (v : PureValue) (row : Option PureRoute) (r : PureRoute) (shown : Shown) → row ≡ Some r → IsAsGood c v row
    → (shown.makes ≡ true → (is_among (path_after next) i ≡ false) × (v ≡ r.value) × (compare_paths (i ∷ path_after next) r.path ≡ Equal))
    → (shown.outdoes ≡ false → is_among (path_after next) i ≡ false → compare_paths (i ∷ path_after next) r.path ≢ Less)
    → Shows c i next v row shown
shows_equal c i next v row r shown e good made out = rw e record {
  improves = λ g h. let o : Order c v r.value ≡ Equal = rw e at good in absurd (cc);
  makes = λ g. let m = made g in makes m.0 (same_route (record { value = v; path = i ∷ path_after next }) r m.1 (paths_equal (i ∷ path_after next) r.path m.2));
  outdoes = λ g. unless_loop c i (path_after next) v (Some r)
      (λ k h. let o : Order c v r.value ≡ Equal = rw e at good in
      out g k (sym (then_same (Order c v r.value) (compare_paths (i ∷ path_after next) r.path) o) ∙ h));
}
  where
    makes : is_among (path_after next) i ≡ false → record { value = v; path = i ∷ path_after next } ≡ r → Makes (offer_after i (path_after next) v) (Some r)
    makes f same = rw (f, same) refl

-- what an arc offers, where it makes this value
pub offer_along : (net : PureNet) (rows : List PureRow) (i j : ℕ) (v : PureValue) → along net i j (value_at rows j) ≡ Some v → offer_by net (route_at rows) i j ≡ offer_after i (path_after (route_at rows j)) v
offer_along net rows i j v e = by (route_at rows j) e
  where
    by : (o : Option PureRoute) → along net i j (option_map (λ (r : PureRoute). r.value) o) ≡ Some v → option_and_then (passed_on net i j) o ≡ offer_after i (path_after o) v
    by None f = absurd (let g = along_none net i j in cc)
    by (Some next) f = rw f refl

-- and the own origin
pub offer_own : (net : PureNet) (dest i : ℕ) (v : PureValue) → origin_value net dest i ≡ Some v → own_offer net dest i ≡ offer_after i (path_after None) v
offer_own net dest i v e = rw e refl

-- What an arc shows.
pub hop_improves : (net : PureNet) (rows : List PureRow) (i j : ℕ) (v : PureValue) (shown : Shown) → along net i j (value_at rows j) ≡ Some v → Shows (carrier net) i (route_at rows j) v (route_at rows i) shown
    → shown.improves ≡ false → ¬ ImprovedBy net rows i j
hop_improves net rows i j v shown e s f = rw e (s.improves f)

pub hop_makes : (net : PureNet) (rows : List PureRow) (i j : ℕ) (v : PureValue) (shown : Shown) → along net i j (value_at rows j) ≡ Some v → Shows (carrier net) i (route_at rows j) v (route_at rows i) shown
    → shown.makes ≡ true → MadeBy net (route_at rows) i j
hop_makes net rows i j v shown e s f = rw (offer_along net rows i j v e) (s.makes f)

pub hop_outdoes : (net : PureNet) (rows : List PureRow) (i j : ℕ) (v : PureValue) (shown : Shown) → along net i j (value_at rows j) ≡ Some v → Shows (carrier net) i (route_at rows j) v (route_at rows i) shown
    → shown.outdoes ≡ false → ¬ OutdoneBy net (route_at rows) i j
hop_outdoes net rows i j v shown e s f = rw (offer_along net rows i j v e) (s.outdoes f)

-- What the own origin shows.
pub own_improves : (net : PureNet) (dest : ℕ) (rows : List PureRow) (i : ℕ) (v : PureValue) (shown : Shown) → origin_value net dest i ≡ Some v → Shows (carrier net) i None v (route_at rows i) shown
    → shown.improves ≡ false → ¬ IsPreferred (carrier net) (origin_value net dest i) (value_at rows i)
own_improves net dest rows i v shown e s f = rw e (s.improves f)

pub own_makes : (net : PureNet) (dest : ℕ) (rows : List PureRow) (i : ℕ) (v : PureValue) (shown : Shown) → origin_value net dest i ≡ Some v → Shows (carrier net) i None v (route_at rows i) shown
    → shown.makes ≡ true → IsMadeAlone net dest (route_at rows) i
own_makes net dest rows i v shown e s f = inr (rw (offer_own net dest i v e) (s.makes f))

pub own_outdoes : (net : PureNet) (dest : ℕ) (rows : List PureRow) (i : ℕ) (v : PureValue) (shown : Shown) → origin_value net dest i ≡ Some v → Shows (carrier net) i None v (route_at rows i) shown
    → shown.outdoes ≡ false → ¬ Outdoes (carrier net) (own_offer net dest i) (route_at rows i)
own_outdoes net dest rows i v shown e s f = rw (offer_own net dest i v e) (s.outdoes f)

-- Whole tables.

-- routes that are offers are walks
module _ (net : PureNet) (n : IsNet net) (dest : ℕ) (rows : List PureRow) (t : TableOf net dest rows) (made : (k : ℕ) → k < length net.nodes → IsMade net dest (route_at rows) k) where
  offered : (i : ℕ) (r : PureRoute) → route_at rows i ≡ Some r → Offers net dest (route_at rows) i r
  offered i r e = elim (cases_lt i (length net.nodes)) [
    | inl within ↦ rw e at (made i within)
    | inr past ↦ absurd (let none = no_route_past net dest rows t i past in cc)
  ]

  walk_by_weight : (i : ℕ) (p : List ℕ) (r : PureRoute) → r.path ≡ i ∷ p → Weight net dest r.path ≡ Some r.value → IsWalkOf net dest i r
  walk_by_weight i p r e w = record { walk = weighs_walk net n dest r.path r.value w; weight = w; begins = (p, e) }

  step : (m i : ℕ) (r : PureRoute) → length r.path ≤ suc m → Offers net dest (route_at rows) i r
      → ((j : ℕ) (next : PureRoute) → length next.path ≤ m → route_at rows j ≡ Some next → IsWalkOf net dest j next) → IsWalkOf net dest i r
  step m i r short (inl o) rest = walk_by_weight i [] r o.1 (rw o.1 o.0)
  step m i r short (inr (j, o)) rest =
      let longer : length r.path ≡ length (i ∷ o.next.path) = ap length o.path in
      let w = rest j o.next (omega (arith, longer, short)) o.is_reported in
      let weight : Weight net dest (j ∷ w.begins.0) ≡ Some o.next.value = rw w.begins.1 at w.weight in
      walk_by_weight i o.next.path r o.path (rw (o.path, w.begins.1, weight) o.weighs)

  not_empty : (i : ℕ) (r : PureRoute) → length r.path ≤ 0 → Offers net dest (route_at rows) i r → ⊥
  not_empty i r short (inl o) =
      let longer : length r.path ≡ length (i ∷ []) = ap length o.1 in
      absurd (omega (arith, longer, short))
  not_empty i r short (inr (j, o)) =
      let longer : length r.path ≡ length (i ∷ o.next.path) = ap length o.path in
      absurd (omega (arith, longer, short))

  walk_upto : (m i : ℕ) (r : PureRoute) → length r.path ≤ m → route_at rows i ≡ Some r → IsWalkOf net dest i r
  walk_upto zero i r short e = absurd (not_empty i r short (offered i r e))
  walk_upto (suc m) i r short e = step m i r short (offered i r e) (walk_upto m)

  pub made_walks : HasWalksBefore net dest rows (length net.nodes)
  made_walks = λ i within. by i (route_at rows i) refl
    where
      by : (i : ℕ) (o : Option PureRoute) → route_at rows i ≡ o → IfSome o (IsWalkOf net dest i)
      by i None e = tt
      by i (Some r) e = walk_upto (length r.path) i r (omega arith) e

-- and rows that are offered and not outdone are choices
pub made_choices : (net : PureNet) (dest : ℕ) (rows : List PureRow) (n : ℕ) → ((k : ℕ) → k < n → IsMade net dest (route_at rows) k) → ((k : ℕ) → k < n → ¬ IsOutdone net dest (route_at rows) k) → StableUpTo net dest rows n stable
made_choices net dest rows n made out = λ k within. (choice_by net dest (route_at rows) k true (out k within) (λ e. made k within, λ h. refl)).0 refl

-- Tests.

pub equal_not_less : (o : Ordering) → o ≡ Equal → o ≢ Less
equal_not_less o e f = absurd (cc)

pub either_false : (a b : Bool) → (a || b) ≡ false → (a ≡ false) × (b ≡ false)
either_false true b e = absurd (cc)
either_false false b e = (refl, e)

pub either_true : (a b : Bool) → (a || b) ≡ true → (a ≡ true) ⊎ (b ≡ true)
either_true true b e = inl refl
either_true false b e = inr e

pub both_true : (a b : Bool) → (a && b) ≡ true → (a ≡ true) × (b ≡ true)
both_true true b e = (refl, e)
both_true false b e = absurd (cc)

pub not_false : (a : Bool) → not a ≡ true → a ≡ false
not_false true e = absurd (cc)
not_false false e = refl

-- What is wanted and isn't cleared is looked for, and nothing else is.
pub only_left : {X : Type 0} (wanted clear : Bool) (x y : X) (P : X → Type 0) → wanted ≡ true → (clear ≡ true → P y) → ((wanted && not clear) ≡ true → P x) → P (cond (wanted && not clear) x y)
only_left true true x y P e f g = f refl
only_left true false x y P e f g = g refl
only_left false clear x y P e f g = absurd (cc)

pub all_cleared : (wanted clear : Bool) → wanted ≡ true → (wanted && not clear) ≡ false → clear ≡ true
all_cleared true true e f = refl
all_cleared true false e f = absurd (cc)
all_cleared false clear e f = absurd (cc)

-- what is cleared of one table of a network is cleared of another form of both
pub stable_same : (net other : PureNet) (t u : DestTable) → net ≡ other → t ≡ u → StableUpTo net t.dest.0 (rows_of t) (length net.nodes) stable → StableUpTo other u.dest.0 (rows_of u) (length other.nodes) stable
stable_same net other t u e f h = subst (λ (n : PureNet). StableUpTo n u.dest.0 (rows_of u) (length n.nodes) stable) e (subst (λ (x : DestTable). StableUpTo net x.dest.0 (rows_of x) (length net.nodes) stable) f h)
