-- Whoever follows the next hops comes home, where labels are strict and isotone.
use Rattle.std.proofs.Common.{◌≡◌, ◌≢◌, ℕ, ◌<◌, ◌≤◌, zero, suc, List, [], ◌∷◌, Option, Some, None, IfSome, IsSome, Bool, true, false, ◌==◌, ◌||◌, ◌⊎◌, inl, inr, cond, option_and_then, length, refl, sym, ap, ◌∙◌, arith}
use Rattle.std.specs.List.{list_any, AllByRecursion, Contains}
use Rattle.std.proofs.lemmas.Bool.{cases_lt}
use Rattle.std.proofs.lemmas.Bool.Decides.{nat_tests}
use Rattle.std.specs.Ordering.{ordering_reverse}
use Rattle.std.specs.declared.cmp.Ordering.{Ordering}
use Rattle.std.specs.declared.cmp.Ordering.TheVariants.{Less, Equal}
use Rattle.alg_model.specs.Application.{App}
use Rattle.alg_model.specs.Carriers.{In, AreEquivalent, Order, OrderOrNone, distinct}
use Rattle.alg_model.specs.Expressions.{PureCarrier, PureLabel, PureValue}
use Rattle.alg_model.specs.Laws.{total_preorder}
use Rattle.alg_model.specs.Properties.{isotone, strict, IsStrict}
use Rattle.net_graph.specs.Nets.{PureNet, IsNet, label_between, origin_value}
use Rattle.net_graph.specs.Routes.{is_less}
use Rattle.net_graph.specs.Tables.{PureRow, NetHas, TableOf, carrier, value_at}
use Rattle.net_graph.specs.Walks.{Walk, Weight, along}
use Rattle.net_graph.specs.ArcLaws.{of_some, IsOrigin, origins_are, along_has, along_in, along_isotone, labels_have, weight_in}
use Rattle.net_graph.specs.RouteLaws.{no_route_past, table_value_in}
use Rattle.report_check.specs.Hops.{Follows, IsHopChoice, IsListed, hops_at}
use Rattle.report_check.proofs.Equals.{tested, first_value, second_value, unbeaten_both, equivalent_by, preferred_to}
use Rattle.report_check.proofs.NextHops.{along_value, hop_is}

-- Counting the nodes whose rows are better.

abbrev count : (ℕ → Bool) → ℕ → ℕ
count p zero = 0
count p (suc n) = cond (p n) (suc (count p n)) (count p n)

count_le : (p q : ℕ → Bool) (n : ℕ) → ((k : ℕ) → p k ≡ true → q k ≡ true) → count p n ≤ count q n
count_le p q zero f = omega arith
count_le p q (suc n) f = by (count_le p q n f) (p n) refl (q n) refl
  where
    by : count p n ≤ count q n → (b : Bool) → p n ≡ b → (c : Bool) → q n ≡ c → count p (suc n) ≤ count q (suc n)
    by rest true e true g = rw (e, g) (omega arith)
    by rest true e false g = absurd (let h = f n e in cc)
    by rest false e true g = rw (e, g) (omega arith)
    by rest false e false g = rw (e, g) rest

count_less : (p q : ℕ → Bool) (n x : ℕ) → ((k : ℕ) → p k ≡ true → q k ≡ true) → x < n → p x ≡ false → q x ≡ true → count p n < count q n
count_less p q zero x f l e g = absurd (omega arith)
count_less p q (suc n) x f l e g = by (λ h. count_less p q n x f (omega (arith, l, h)) e g) (p n) refl (q n) refl
  where
    by : (x ≢ n → count p n < count q n) → (b : Bool) → p n ≡ b → (c : Bool) → q n ≡ c → count p (suc n) < count q (suc n)
    by rest true a true b =
        let more = rest (λ h. let k : p n ≡ false = rw h at e in cc) in
        rw (a, b) (omega arith)
    by rest true a false b = absurd (let h = f n a in cc)
    by rest false a true b =
        let most = count_le p q n f in
        rw (a, b) (omega arith)
    by rest false a false b =
        let more = rest (λ h. let k : q n ≡ true = rw h at g in cc) in
        rw (a, b) more

-- The way home.

-- the row of k is better than that of i
abbrev better : PureNet → List PureRow → ℕ → ℕ → Bool
better net t i k = is_less (OrderOrNone (carrier net) (value_at t k) (value_at t i))

less_is : (o : Ordering) → is_less o ≡ true → o ≡ Less
less_is o e = grind arith

is_it_less : (o : Ordering) → o ≡ Less → is_less o ≡ true
is_it_less o e = grind arith

preferred_trans : (c : PureCarrier) (x y z : Option PureValue) → IfSome x (In c) → IfSome y (In c) → IfSome z (In c) → OrderOrNone c x y ≡ Less → OrderOrNone c y z ≡ Less → OrderOrNone c x z ≡ Less
preferred_trans c (Some u) (Some v) (Some w) i j k e f = (total_preorder c).trans u v w i j k e f
preferred_trans c (Some u) (Some v) None i j k e f = refl
preferred_trans c (Some u) None z i j k e f = absurd (by z f)
  where
    by : (z : Option PureValue) → OrderOrNone c None z ≢ Less
    by None e = cc
    by (Some v) e = cc
preferred_trans c None (Some v) z i j k e f = absurd (cc)
preferred_trans c None None z i j k e f = absurd (cc)

better_trans : (net : PureNet) (dest : ℕ) (t : List PureRow) → TableOf net dest t → (i j k : ℕ) → better net t i j ≡ true → better net t j k ≡ true → better net t i k ≡ true
better_trans net dest t h i j k e f =
    let c = carrier net in
    is_it_less (OrderOrNone c (value_at t k) (value_at t i))
    (preferred_trans c (value_at t k) (value_at t j) (value_at t i) (table_value_in net dest t h k) (table_value_in net dest t h j) (table_value_in net dest t h i)
    (less_is (OrderOrNone c (value_at t k) (value_at t j)) f) (less_is (OrderOrNone c (value_at t j) (value_at t i)) e))

never_better : (net : PureNet) (dest : ℕ) (t : List PureRow) → TableOf net dest t → (i : ℕ) → better net t i i ≡ false
never_better net dest t h i = by (value_at t i) (table_value_in net dest t h i)
  where
    c : PureCarrier
    c = carrier net

    self : (o p : Ordering) → p ≡ o → o ≢ Less → is_less p ≡ false
    self o p e f = grind arith

    not_less : (o : Ordering) → o ≡ ordering_reverse o → is_less o ≡ false
    not_less o e = grind arith

    by : (x : Option PureValue) → IfSome x (In c) → is_less (OrderOrNone c x x) ≡ false
    by None i = refl
    by (Some v) i = not_less (Order c v v) ((total_preorder c).flip v v i i)

-- a strict label makes each value worse
along_strict : (net : PureNet) → NetHas strict net → (i j : ℕ) (v w : PureValue) → In (carrier net) v → along net i j (Some v) ≡ Some w → Order (carrier net) v w ≡ Less
along_strict net m i j v w h e = by (label_between net i j) (labels_have strict net m i j) e
  where
    image : (l : PureLabel) → IsStrict net.alg.expression l → App net.alg.expression l v ≡ Some w → Order (carrier net) v w ≡ Less
    image l s f = rw f at (s v h)

    by : (o : Option PureLabel) → IfSome o (IsStrict net.alg.expression) → option_and_then (λ l. option_and_then (App net.alg.expression l) (Some v)) o ≡ Some w → Order (carrier net) v w ≡ Less
    by None s f = absurd (cc)
    by (Some l) s f = image l s f

values_equal : (c : PureCarrier) (x y : Option PureValue) (u v : PureValue) → x ≡ Some u → y ≡ Some v → AreEquivalent c x y → Order c u v ≡ Equal
values_equal c x y u v e f h = rw (e, f) at h

values_less : (c : PureCarrier) (x y : Option PureValue) (u v : PureValue) → x ≡ Some u → y ≡ Some v → Order c u v ≡ Less → OrderOrNone c x y ≡ Less
values_less c x y u v e f h = rw (e, f) h

-- so the row of a hop is better
hop_better : (net : PureNet) → IsNet net → NetHas strict net → (dest : ℕ) (t : List PureRow) → TableOf net dest t → (i j : ℕ) → AreEquivalent (carrier net) (along net i j (value_at t j)) (value_at t i) → better net t i j ≡ true
hop_better net n s dest t h i j e =
    let c = carrier net in
    let w = first_value c (along net i j (value_at t j)) (value_at t i) e in
    let u = second_value c (along net i j (value_at t j)) (value_at t i) e in
    let v = along_value net i j (value_at t j) w.0 w.1 in
    let image : along net i j (Some v.0) ≡ Some w.0 = ap (along net i j) (sym v.1) ∙ w.1 in
    let v_in : In c v.0 = of_some (In c) (value_at t j) v.0 (table_value_in net dest t h j) v.1 in
    let u_in : In c u.0 = of_some (In c) (value_at t i) u.0 (table_value_in net dest t h i) u.1 in
    let w_in : In c w.0 = of_some (In c) (along net i j (value_at t j)) w.0 (along_in net n i j (value_at t j) (table_value_in net dest t h j)) w.1 in
    let equal : Order c w.0 u.0 ≡ Equal = values_equal c (along net i j (value_at t j)) (value_at t i) w.0 u.0 w.1 u.1 e in
    is_it_less (OrderOrNone c (value_at t j) (value_at t i)) (values_less c (value_at t j) (value_at t i) v.0 u.0 v.1 u.1 (preferred_to c v.0 w.0 u.0 v_in w_in u_in (along_strict net s i j v.0 w.0 v_in image) equal))

not_among : (f : ℕ → Bool) (i : ℕ) (p : List ℕ) → f i ≡ false → AllByRecursion (λ k. f k ≡ true) p → list_any (λ m. m == i) p ≡ false
not_among f i [] e h = refl
not_among f i (k ∷ p) e h = by (not_among f i p e h.1) (k == i) refl
  where
    by : list_any (λ m. m == i) p ≡ false → (b : Bool) → (k == i) ≡ b → (b || list_any (λ m. m == i) p) ≡ false
    by rest true g =
        let same : k ≡ i = grind (arith, nat_tests) in
        absurd (let a : f i ≡ true = rw same at h.0 in cc)
    by rest false g = rest

-- a way home from the node
pub record Home (net : PureNet) (dest : ℕ) (t : List PureRow) (choice : ℕ → Option ℕ) (i : ℕ) : Type 0 where
  pub path : List ℕ
  pub follows : Follows choice (i ∷ path)
  pub loopless : distinct (i ∷ path) ≡ true
  pub better_all : AllByRecursion (λ k. better net t i k ≡ true) path
  pub is_walk : Walk net dest (i ∷ path)
  pub weighs : AreEquivalent (carrier net) (Weight net dest (i ∷ path)) (value_at t i)

at_home : (net : PureNet) → IsNet net → (dest : ℕ) (t : List PureRow) (choice : ℕ → Option ℕ) (i : ℕ) → choice i ≡ None → (hops_at net dest t i).here ≡ true → Home net dest t choice i
at_home net n dest t choice i e h =
    let equal = tested (carrier net) (origin_value net dest i) (value_at t i) h in
    let v = first_value (carrier net) (origin_value net dest i) (value_at t i) equal in
    record {
      path = [];
      follows = e;
      loopless = refl;
      better_all = tt;
      is_walk = (of_some (IsOrigin net dest i) (origin_value net dest i) v.0 (origins_are net n dest i) v.1).has;
      weighs = equal;
    }

all_better : (net : PureNet) (dest : ℕ) (t : List PureRow) → TableOf net dest t → (i j : ℕ) (p : List ℕ) → better net t i j ≡ true → AllByRecursion (λ k. better net t j k ≡ true) p → AllByRecursion (λ k. better net t i k ≡ true) p
all_better net dest t h i j [] e all = tt
all_better net dest t h i j (k ∷ p) e all = (better_trans net dest t h i j k e all.0, all_better net dest t h i j p e all.1)

step_home : (net : PureNet) → IsNet net → NetHas strict net → NetHas isotone net → (dest : ℕ) (t : List PureRow) (choice : ℕ → Option ℕ) (i j : ℕ) → TableOf net dest t → choice i ≡ Some j
    → AreEquivalent (carrier net) (along net i j (value_at t j)) (value_at t i) → Home net dest t choice j → Home net dest t choice i
step_home net n s m dest t choice i j h e equal rest =
    let c = carrier net in
    let is_better = hop_better net n s dest t h i j equal in
    let all : AllByRecursion (λ k. better net t i k ≡ true) (j ∷ rest.path) = (is_better, all_better net dest t h i j rest.path is_better rest.better_all) in
    let apart = not_among (better net t i) i (j ∷ rest.path) (never_better net dest t h i) all in
    let here = table_value_in net dest t h i in
    let there = table_value_in net dest t h j in
    let weight = weight_in net n dest (j ∷ rest.path) in
    let both = unbeaten_both c (Weight net dest (j ∷ rest.path)) (value_at t j) weight there rest.weighs in
    let down = along_isotone net m i j (Weight net dest (j ∷ rest.path)) (value_at t j) weight there both.0 in
    let up = along_isotone net m i j (value_at t j) (Weight net dest (j ∷ rest.path)) there weight both.1 in
    let w = first_value c (along net i j (value_at t j)) (value_at t i) equal in
    record {
      path = j ∷ rest.path;
      follows = (e, rest.follows);
      loopless = rw (apart, rest.loopless) refl;
      better_all = all;
      is_walk = (along_has net n i j (value_at t j) w.0 w.1, rest.is_walk);
      weighs = equivalent_by c (along net i j (Weight net dest (j ∷ rest.path))) (along net i j (value_at t j)) (value_at t i)
          (along_in net n i j (Weight net dest (j ∷ rest.path)) weight) (along_in net n i j (value_at t j) there) here equal down up;
    }

some_value : (x : Option PureValue) (v : PureValue) → x ≡ Some v → IsSome x
some_value x v e = rw e refl

within_table : (net : PureNet) (dest : ℕ) (t : List PureRow) → TableOf net dest t → (j : ℕ) (v : PureValue) → value_at t j ≡ Some v → j < length net.nodes
within_table net dest t h j v e = by (cases_lt j (length net.nodes))
  where
    by : (j < length net.nodes) ⊎ (length net.nodes ≤ j) → j < length net.nodes
    by (inl l) = l
    by (inr past) = absurd (let n = no_route_past net dest t h j past in let f : None ≡ Some v = rw n at e in cc)

-- with every hop there are fewer rows that are better
next_hop : (net : PureNet) → IsNet net → NetHas strict net → (dest : ℕ) (t : List PureRow) → TableOf net dest t → (i j : ℕ) → Contains (hops_at net dest t i).heads j
    → (count (better net t j) (length net.nodes) < count (better net t i) (length net.nodes)) × IsSome (value_at t j)
next_hop net n s dest t h i j hop =
    let c = carrier net in
    let equal = hop_is net n dest t i j hop in
    let w = first_value c (along net i j (value_at t j)) (value_at t i) equal in
    let v = along_value net i j (value_at t j) w.0 w.1 in
    let is_better = hop_better net n s dest t h i j equal in
    let fewer = count_less (better net t j) (better net t i) (length net.nodes) j (λ k e. better_trans net dest t h i j k is_better e) (within_table net dest t h j v.0 v.1) (never_better net dest t h j) is_better in
    (fewer, some_value (value_at t j) v.0 v.1)

here_or_on : (net : PureNet) → IsNet net → (dest : ℕ) (t : List PureRow) (choice : ℕ → Option ℕ) (i : ℕ) (o : Option ℕ) → choice i ≡ o → IsListed (hops_at net dest t i) o
    → ((j : ℕ) → choice i ≡ Some j → Contains (hops_at net dest t i).heads j → Home net dest t choice i) → Home net dest t choice i
here_or_on net n dest t choice i None e l f = at_home net n dest t choice i e l
here_or_on net n dest t choice i (Some j) e l f = f j e l

way_home : (net : PureNet) → IsNet net → NetHas strict net → NetHas isotone net → (dest : ℕ) (t : List PureRow) (choice : ℕ → Option ℕ) → TableOf net dest t → IsHopChoice net dest t choice
    → (m i : ℕ) → count (better net t i) (length net.nodes) ≤ m → IsSome (value_at t i) → Home net dest t choice i
way_home net n s iso dest t choice h listed zero i few some =
    here_or_on net n dest t choice i (choice i) refl (listed i some) (λ j e l. absurd (let f = (next_hop net n s dest t h i j l).0 in omega arith))
way_home net n s iso dest t choice h listed (suc m) i few some =
    here_or_on net n dest t choice i (choice i) refl (listed i some)
    (λ j e l. let f = next_hop net n s dest t h i j l in step_home net n s iso dest t choice i j h e (hop_is net n dest t i j l) (way_home net n s iso dest t choice h listed m j (let g = f.0 in omega arith) f.1))

pub leads_home : (net : PureNet) (dest : ℕ) (t : List PureRow) (choice : ℕ → Option ℕ) (i : ℕ) → IsNet net → NetHas strict net → NetHas isotone net → TableOf net dest t → IsHopChoice net dest t choice → IsSome (value_at t i)
    → (p : List ℕ) × Follows choice (i ∷ p) × (distinct (i ∷ p) ≡ true) × Walk net dest (i ∷ p) × AreEquivalent (carrier net) (Weight net dest (i ∷ p)) (value_at t i)
leads_home net dest t choice i n s iso h listed some =
    let home = way_home net n s iso dest t choice h listed (count (better net t i) (length net.nodes)) i (omega arith) some in
    (home.path, home.follows, home.loopless, home.is_walk, home.weighs)
