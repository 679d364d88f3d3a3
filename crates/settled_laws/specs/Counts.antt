-- How many routes of a table are better than a route. Lemmas, so that proofs of other crates may cite them.
use Rattle.std.proofs.Common.{◌≡◌, ◌≢◌, ℕ, zero, suc, ◌<◌, ◌≤◌, List, [], ◌∷◌, Option, Some, None, Bool, true, false, cond, option_and_then, slice_get, filter, length, refl, ap, ◌∙◌, arith}
use Rattle.std.proofs.lemmas.Bool.{false≢true}
use Rattle.std.specs.declared.cmp.Ordering.{Ordering}
use Rattle.std.specs.declared.cmp.Ordering.TheVariants.{Less}
use Rattle.alg_model.specs.Expressions.{PureCarrier}
use Rattle.alg_model.specs.Carriers.{In}
use Rattle.net_graph.specs.Nets.{PureNet}
use Rattle.net_graph.specs.Routes.{PureRoute, Better, compare_routes, is_less, is_better}
use Rattle.net_graph.specs.Tables.{PureRow, TableOf, route_at, carrier}
use Rattle.net_graph.specs.RouteLaws.{table_route_in}
use Rattle.settled_laws.specs.BetterLaws.{itself_no_better, better_trans}

-- a test that passes wherever another does passes no less often
count_no_more : {X : Type 0} (p q : X → Bool) (xs : List X) → ((k : ℕ) (x : X) → slice_get xs k ≡ Some x → p x ≡ true → q x ≡ true) → length (filter p xs) ≤ length (filter q xs)
count_no_more p q [] h = omega arith
count_no_more p q (x ∷ xs) h = by (p x) (q x) (h 0 x refl) (count_no_more p q xs (λ k. h (suc k)))
  where
    by : (b d : Bool) → (b ≡ true → d ≡ true) → length (filter p xs) ≤ length (filter q xs) → length (cond b (x ∷ filter p xs) (filter p xs)) ≤ length (cond d (x ∷ filter q xs) (filter q xs))
    by true true f l = omega arith
    by true false f l = absurd (false≢true (f refl))
    by false true f l = omega arith
    by false false f l = l

-- and more often, where it passes alone somewhere
count_less : {X : Type 0} (p q : X → Bool) (xs : List X) → ((k : ℕ) (x : X) → slice_get xs k ≡ Some x → p x ≡ true → q x ≡ true)
    → (k : ℕ) (x : X) → slice_get xs k ≡ Some x → p x ≡ false → q x ≡ true → length (filter p xs) < length (filter q xs)
count_less p q [] h k x e f g = absurd (cc)
count_less p q (y ∷ xs) h zero x e f g =
    let same : y ≡ x = cc in
    let more = count_no_more p q xs (λ k. h (suc k)) in
    rw (same, f, g) (omega arith)
count_less p q (y ∷ xs) h (suc k) x e f g = by (p y) (q y) (h 0 y refl) (count_less p q xs (λ n. h (suc n)) k x e f g)
  where
    by : (b d : Bool) → (b ≡ true → d ≡ true) → length (filter p xs) < length (filter q xs) → length (cond b (y ∷ filter p xs) (filter p xs)) < length (cond d (y ∷ filter q xs) (filter q xs))
    by true true f l = omega arith
    by true false f l = absurd (false≢true (f refl))
    by false true f l = omega arith
    by false false f l = l

-- it is a route, and a better one
abbrev is_better_some : PureCarrier → PureRoute → Option PureRoute → Bool
is_better_some c r None = false
is_better_some c r (Some s) = is_better c s r

-- how many rows' routes are
abbrev pub count_better : PureNet → List PureRow → PureRoute → ℕ
count_better net t r = length (filter (λ (row : PureRow). is_better_some (carrier net) r row.route) t)

less_is : (o : Ordering) → is_less o ≡ true → o ≡ Less
less_is o e = grind arith

is_route : (t : List PureRow) (k : ℕ) (row : PureRow) → slice_get t k ≡ Some row → route_at t k ≡ row.route
is_route t k row e = rw e refl

-- what is better than a better route is better
more_pass : (net : PureNet) (dest : ℕ) (t : List PureRow) → TableOf net dest t → (r s : PureRoute) → In (carrier net) r.value → In (carrier net) s.value → Better (carrier net) r s
    → (k : ℕ) (row : PureRow) → slice_get t k ≡ Some row → is_better_some (carrier net) r row.route ≡ true → is_better_some (carrier net) s row.route ≡ true
more_pass net dest t h r s i j b k row at = by row.route (is_route t k row at)
  where
    by : (o : Option PureRoute) → route_at t k ≡ o → is_better_some (carrier net) r o ≡ true → is_better_some (carrier net) s o ≡ true
    by None reported f = absurd (cc)
    by (Some q) reported f =
        let q_in = (table_route_in net dest t h k q reported).value_in in
        let first : Better (carrier net) q s = better_trans (carrier net) q r s q_in i j (less_is (compare_routes (carrier net) q r) f) b in
        ap is_less first

-- so no more routes are better than the better of two
pub fewer_better : (net : PureNet) (dest : ℕ) (t : List PureRow) → TableOf net dest t → (r s : PureRoute) → In (carrier net) r.value → In (carrier net) s.value → Better (carrier net) r s
    → count_better net t r ≤ count_better net t s
fewer_better net dest t h r s i j b =
    count_no_more (λ (row : PureRow). is_better_some (carrier net) r row.route) (λ (row : PureRow). is_better_some (carrier net) s row.route) t (more_pass net dest t h r s i j b)

-- and fewer, where it is a route of the table: it counts for the other, and not for itself
pub fewer_than_own : (net : PureNet) (dest : ℕ) (t : List PureRow) → TableOf net dest t → (k : ℕ) (next : PureRoute) → route_at t k ≡ Some next → (s : PureRoute) → In (carrier net) s.value
    → Better (carrier net) next s → count_better net t next < count_better net t s
fewer_than_own net dest t h k next reported s j b = by (slice_get t k) refl reported
  where
    next_in : In (carrier net) next.value
    next_in = (table_route_in net dest t h k next reported).value_in

    not_less : (o : Ordering) → o ≢ Less → is_less o ≡ false
    not_less o f = grind arith

    by : (o : Option PureRow) → slice_get t k ≡ o → option_and_then (λ (row : PureRow). row.route) o ≡ Some next → count_better net t next < count_better net t s
    by None at is = absurd (cc)
    by (Some row) at is =
        let not_itself = not_less (compare_routes (carrier net) next next) (itself_no_better (carrier net) next next_in) in
        count_less (λ (x : PureRow). is_better_some (carrier net) next x.route) (λ (x : PureRow). is_better_some (carrier net) s x.route) t (more_pass net dest t h next s next_in j b) k row at
        (ap (is_better_some (carrier net) next) is ∙ not_itself) (ap (is_better_some (carrier net) s) is ∙ ap is_less b)
