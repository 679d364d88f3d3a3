-- Equally good next hops are the second nodes of walks.
use Rattle.std.proofs.Common.{◌≡◌, ℕ, zero, suc, List, [], ◌∷◌, Option, Some, None, Bool, true, false, ◌⊎◌, inl, inr, map, filter, option_map, refl, ap, ◌∙◌, subst, arith}
use Rattle.std.specs.List.{slice_get, Contains}
use Rattle.std.proofs.lemmas.Bool.Decides.{nat_tests}
use Rattle.alg_model.specs.Carriers.{AreEquivalent}
use Rattle.alg_model.specs.Expressions.{PureValue}
use Rattle.alg_model.specs.Properties.{isotone}
use Rattle.net_graph.specs.Nets.{PureArc, PureNet, IsNet, arcs_from, has_arc}
use Rattle.net_graph.specs.Routes.{PureRoute}
use Rattle.net_graph.specs.Tables.{PureRow, NetHas, Optimal, Relaxed, carrier, route_at, value_at}
use Rattle.net_graph.specs.Unbeaten.{unbeaten_trans}
use Rattle.net_graph.specs.Walks.{Walk, Weight, along}
use Rattle.net_graph.specs.ArcLaws.{along_has, along_in, along_isotone, along_none, walk_within, weight_in}
use Rattle.net_graph.specs.RouteLaws.{table_value_in}
use Rattle.stable_check.specs.ArcSearch.{arc_placed, out_arc}
use Rattle.report_check.specs.Hops.{hops_at, is_hop}
use Rattle.report_check.proofs.Equals.{tested, passes, first_value, second_value, unbeaten_both, both_unbeaten}

-- Heads of arcs that pass a test.

contains_next : {X : Type 0} (xs : List X) (x y : X) → Contains xs y → Contains (x ∷ xs) y
contains_next xs x y h = (suc h.0, omega (arith, h.1), h.2)

contains_split : {X : Type 0} (xs : List X) (x y : X) → Contains (x ∷ xs) y → (x ≡ y) ⊎ Contains xs y
contains_split xs x y (zero, l, e) = inl e
contains_split xs x y (suc k, l, e) = inr (k, omega (arith, l), e)

-- an arc with that head that passes
pub record Passed (p : PureArc → Bool) (arcs : List PureArc) (j : ℕ) : Type 0 where
  pub arc : PureArc
  pub place : ℕ
  pub there : slice_get arcs place ≡ Some arc
  pub passes : p arc ≡ true
  pub head : arc.head ≡ j

later : (p : PureArc → Bool) (arcs : List PureArc) (a : PureArc) (j : ℕ) → Passed p arcs j → Passed p (a ∷ arcs) j
later p arcs a j h = record { arc = h.arc; place = suc h.place; there = h.there; passes = h.passes; head = h.head }

passed : (p : PureArc → Bool) (arcs : List PureArc) (j : ℕ) → Contains (map (λ (a : PureArc). a.head) (filter p arcs)) j → Passed p arcs j
passed p [] j h = absurd (omega (arith, h.1))
passed p (a ∷ arcs) j h = by (passed p arcs j) (p a) refl h
  where
    first : (Contains (map (λ (b : PureArc). b.head) (filter p arcs)) j → Passed p arcs j) → p a ≡ true → (a.head ≡ j) ⊎ Contains (map (λ (b : PureArc). b.head) (filter p arcs)) j → Passed p (a ∷ arcs) j
    first rest e (inl f) = record { arc = a; place = 0; there = refl; passes = e; head = f }
    first rest e (inr h) = later p arcs a j (rest h)

    by : (Contains (map (λ (b : PureArc). b.head) (filter p arcs)) j → Passed p arcs j) → (b : Bool) → p a ≡ b → Contains (map (λ (b : PureArc). b.head) (filter p (a ∷ arcs))) j → Passed p (a ∷ arcs) j
    by rest true e h =
        let g : Contains (a.head ∷ map (λ (b : PureArc). b.head) (filter p arcs)) j = rw e at h in
        first rest e (contains_split (map (λ (b : PureArc). b.head) (filter p arcs)) a.head j g)
    by rest false e h = later p arcs a j (rest (rw e at h))

listed : (p : PureArc → Bool) (arcs : List PureArc) (n : ℕ) (a : PureArc) → slice_get arcs n ≡ Some a → p a ≡ true → Contains (map (λ (b : PureArc). b.head) (filter p arcs)) a.head
listed p [] n a e f = absurd (cc)
listed p (b ∷ arcs) zero a e f =
    let same : b ≡ a = cc in
    let g : p b ≡ true = rw same f in
    rw g (0, omega arith, ap (λ (x : PureArc). x.head) same)
listed p (b ∷ arcs) (suc n) a e f = by (listed p arcs n a e f) (p b) refl
  where
    by : Contains (map (λ (x : PureArc). x.head) (filter p arcs)) a.head → (t : Bool) → p b ≡ t → Contains (map (λ (x : PureArc). x.head) (filter p (b ∷ arcs))) a.head
    by rest true g = rw g (contains_next (map (λ (x : PureArc). x.head) (filter p arcs)) b.head a.head rest)
    by rest false g = rw g rest

-- A hop that is listed is an arc whose label makes an equal of the row's value.

pub hop_is : (net : PureNet) → IsNet net → (dest : ℕ) (t : List PureRow) (i j : ℕ) → Contains (hops_at net dest t i).heads j → AreEquivalent (carrier net) (along net i j (value_at t j)) (value_at t i)
hop_is net n dest t i j h =
    let f = passed (is_hop net t) (arcs_from net i) j h in
    let tail = (out_arc net n i f.place f.arc f.there).tail in
    rw (tail, f.head) at (tested (carrier net) (along net f.arc.tail f.arc.head (value_at t f.arc.head)) (value_at t f.arc.tail) f.passes)

is_listed : (net : PureNet) → IsNet net → (dest : ℕ) (t : List PureRow) (i j : ℕ) → has_arc net i j ≡ true → AreEquivalent (carrier net) (along net i j (value_at t j)) (value_at t i) → Contains (hops_at net dest t i).heads j
is_listed net n dest t i j has e =
    let f = arc_placed net i j has in
    let a = f.0 in
    let passes_head = f.1.passes in
    let head : a.head ≡ j = grind (arith, nat_tests) in
    let tail = (out_arc net n i f.1.place a f.1.there).tail in
    let hop : is_hop net t a ≡ true = rw (tail, head) (passes (carrier net) (along net i j (value_at t j)) (value_at t i) e) in
    subst (Contains (hops_at net dest t i).heads) head (listed (is_hop net t) (arcs_from net i) f.1.place a f.1.there hop)

-- Second nodes of walks.

-- the weight of the walk of a row's route
row_walk : (net : PureNet) (dest : ℕ) (t : List PureRow) → Optimal net dest t → (j : ℕ) (v : PureValue) → value_at t j ≡ Some v → (p : List ℕ) × Walk net dest (j ∷ p) × (Weight net dest (j ∷ p) ≡ value_at t j)
row_walk net dest t o j v e = by (route_at t j) refl e
  where
    by : (x : Option PureRoute) → route_at t j ≡ x → option_map (λ (r : PureRoute). r.value) x ≡ Some v → (p : List ℕ) × Walk net dest (j ∷ p) × (Weight net dest (j ∷ p) ≡ value_at t j)
    by None f g = absurd (cc)
    by (Some r) f g =
        let w = o.walks j r f in
        let begins = w.2 in
        (begins.0, rw begins.1 at w.0, (rw begins.1 at w.1) ∙ rw f refl)

pub along_value : (net : PureNet) (i j : ℕ) (x : Option PureValue) (w : PureValue) → along net i j x ≡ Some w → (v : PureValue) × (x ≡ Some v)
along_value net i j None w e = absurd (let f = along_none net i j in cc)
along_value net i j (Some v) w e = (v, refl)

pub hop_walk : (net : PureNet) → IsNet net → (dest : ℕ) (t : List PureRow) (i j : ℕ) → Optimal net dest t → Contains (hops_at net dest t i).heads j
    → (p : List ℕ) × Walk net dest (i ∷ j ∷ p) × AreEquivalent (carrier net) (Weight net dest (i ∷ j ∷ p)) (value_at t i)
hop_walk net n dest t i j o h =
    let e = hop_is net n dest t i j h in
    let w = first_value (carrier net) (along net i j (value_at t j)) (value_at t i) e in
    let v = along_value net i j (value_at t j) w.0 w.1 in
    let walk = row_walk net dest t o j v.0 v.1 in
    (walk.0, (along_has net n i j (value_at t j) w.0 w.1, walk.1), rw walk.2 e)

pub walk_hop : (net : PureNet) → IsNet net → NetHas isotone net → (dest : ℕ) (t : List PureRow) (i j : ℕ) → Optimal net dest t → Relaxed net dest t
    → (p : List ℕ) → Walk net dest (i ∷ j ∷ p) → AreEquivalent (carrier net) (Weight net dest (i ∷ j ∷ p)) (value_at t i) → Contains (hops_at net dest t i).heads j
walk_hop net n m dest t i j o r p w e =
    let c = carrier net in
    let here = table_value_in net dest t o.table_of i in
    let there = table_value_in net dest t o.table_of j in
    let rest = weight_in net n dest (j ∷ p) in
    let made = along_in net n i j (value_at t j) there in
    let weighed = along_in net n i j (Weight net dest (j ∷ p)) rest in
    let above = along_isotone net m i j (value_at t j) (Weight net dest (j ∷ p)) there rest (o.unbeaten j p w.1) in
    let equal = unbeaten_both c (along net i j (Weight net dest (j ∷ p))) (value_at t i) weighed here e in
    let v = second_value c (along net i j (Weight net dest (j ∷ p))) (value_at t i) e in
    let less = unbeaten_trans c (along net i j (value_at t j)) (along net i j (Weight net dest (j ∷ p))) (value_at t i) made weighed here above equal.0 in
    let more = r.arcs i j (walk_within net n dest i (j ∷ p) w) in
    is_listed net n dest t i j w.0 (both_unbeaten c (along net i j (value_at t j)) (value_at t i) v.0 made here v.1 less more)
