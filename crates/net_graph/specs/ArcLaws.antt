-- What is found in a network's lists, and what an arc makes of values. Lemmas, so that proofs of other crates
-- may cite them.
use Rattle.std.proofs.Common.{◌≡◌, ℕ, zero, suc, ◌+◌, ◌<◌, List, [], ◌∷◌, Option, Some, None, IfSome, Bool, true, false, ◌==◌, ◌&&◌, filter, option_map, option_and_then, length, refl, arith}
use Rattle.std.specs.List.{slice_get, list_any, find, AllByRecursion}
use Rattle.std.proofs.lemmas.Bool.Decides.{nat_tests}
use Rattle.alg_model.specs.Expressions.{PureLabel, PureValue}
use Rattle.alg_model.specs.Carriers.{In}
use Rattle.alg_model.specs.Application.{App, IsLabel}
use Rattle.alg_model.specs.Bounds.{AtMost, LabelAtMost, greatest_number}
use Rattle.alg_model.specs.Laws.{images_in, images_at_most, at_most_more, label_at_most_more, greatest_is_bounded}
use Rattle.alg_model.specs.Numbers.{max_label_number}
use Rattle.alg_model.specs.Properties.{PureProperty, monotone, isotone, IsMonotone, IsIsotone, Has}
use Rattle.net_graph.specs.Nets.{PureArc, PureOrigin, PureNet, IsNet, IsArcOf, IsOriginOf, AreDistinct, joins_same, is_arc_between, is_origin_at, has_arc, has_origin, label_between, origin_value}
use Rattle.net_graph.specs.Walks.{Walk, Weight, along}
use Rattle.net_graph.specs.Tables.{NetHas, carrier}
use Rattle.net_graph.specs.Unbeaten.{IsUnbeatenBy}

pub of_some : {X : Type 0} (P : X → Type 0) (o : Option X) (x : X) → IfSome o P → o ≡ Some x → P x
of_some P o x i e = rw e at i

if_mapped : {X Y : Type 0} (f : X → Y) (P : Y → Type 0) (o : Option X) → ((x : X) → o ≡ Some x → P (f x)) → IfSome (option_map f o) P
if_mapped f P None h = tt
if_mapped f P (Some x) h = h x refl

pub find_any : {X : Type 0} (p : X → Bool) (xs : List X) (x : X) → find p xs ≡ Some x → list_any p xs ≡ true
find_any p [] x e = absurd (cc)
find_any p (y ∷ ys) x e = by (find_any p ys x) (p y) refl
  where
    by : (find p ys ≡ Some x → list_any p ys ≡ true) → (b : Bool) → p y ≡ b → list_any p (y ∷ ys) ≡ true
    by rest true h = rw h refl
    by rest false h = rw h (rest (rw h at e))

pub any_find : {X : Type 0} (p : X → Bool) (xs : List X) → list_any p xs ≡ true → (x : X) × (find p xs ≡ Some x)
any_find {X = X} p [] e = absurd (cc)
any_find {X = X} p (y ∷ ys) e = by (any_find p ys) (p y) refl
  where
    by : (list_any p ys ≡ true → (x : X) × (find p ys ≡ Some x)) → (b : Bool) → p y ≡ b → (x : X) × (find p (y ∷ ys) ≡ Some x)
    by rest true h = (y, rw h refl)
    by rest false h = let found = rest (rw h at e) in (found.0, rw h found.1)

pub find_all : {X : Type 0} (P : X → Type 0) (p : X → Bool) (xs : List X) → AllByRecursion P xs → (x : X) → find p xs ≡ Some x → P x × (p x ≡ true)
find_all P p [] all x e = absurd (cc)
find_all P p (y ∷ ys) all x e = by (find_all P p ys all.1 x) (p y) refl
  where
    by : (find p ys ≡ Some x → P x × (p x ≡ true)) → (b : Bool) → p y ≡ b → P x × (p x ≡ true)
    by rest true h =
        let f : Some y ≡ Some x = rw h at e in
        let same : y ≡ x = cc in
        (rw same at all.0, rw same at h)
    by rest false h = rest (rw h at e)

-- the first that passes two tests is the first of those that pass one to pass the other
pub find-filter : {X : Type 0} (p q : X → Bool) (xs : List X) → find (λ x. p x && q x) xs ≡ find q (filter p xs)
find-filter p q [] = refl
find-filter p q (x ∷ xs) = by (find-filter p q xs) (p x) refl (q x) refl
  where
    by : find (λ x. p x && q x) xs ≡ find q (filter p xs) → (b : Bool) → p x ≡ b → (c : Bool) → q x ≡ c → find (λ x. p x && q x) (x ∷ xs) ≡ find q (filter p (x ∷ xs))
    by rest true h true k = rw (h, k) refl
    by rest true h false k = rw (h, k) rest
    by rest false h c k = rw h rest

-- what holds of all holds of the one at a place
pub all_at : {X : Type 0} (P : X → Type 0) (xs : List X) (k : ℕ) (x : X) → AllByRecursion P xs → slice_get xs k ≡ Some x → P x
all_at P [] k x h e = absurd (cc)
all_at P (y ∷ ys) zero x h e =
    let same : y ≡ x = cc in
    rw same at h.0
all_at P (y ∷ ys) (suc k) x h e = all_at P ys k x h.1 e

-- an arc is the one between its nodes
pub found_between : (arcs : List PureArc) → AreDistinct joins_same arcs → (k : ℕ) (b : PureArc) → slice_get arcs k ≡ Some b → find (is_arc_between b.tail b.head) arcs ≡ Some b
found_between [] h k b e = absurd (cc)
found_between (a ∷ arcs) h zero b e =
    let same : a ≡ b = cc in
    let test : is_arc_between b.tail b.head b ≡ true = grind (arith, nat_tests) in
    rw (same, test) refl
found_between (a ∷ arcs) h (suc k) b e =
    let apart : is_arc_between b.tail b.head a ≡ false = all_at (λ y. joins_same a y ≡ false) arcs k b h.0 e in
    rw apart (found_between arcs h.1 k b e)

-- what holds of the arc from i to j, and of its label
pub record IsArc (net : PureNet) (i j : ℕ) (l : PureLabel) : Type 0 where
  pub tail_in : i < length net.nodes
  pub head_in : j < length net.nodes
  pub apart : (i == j) ≡ false
  pub label_in : IsLabel net.alg.expression l
  pub small : LabelAtMost max_label_number l
  pub has : has_arc net i j ≡ true

pub arcs_are : (net : PureNet) → IsNet net → (i j : ℕ) → IfSome (label_between net i j) (IsArc net i j)
arcs_are net n i j = if_mapped (λ (a : PureArc). a.label) (IsArc net i j) (find (is_arc_between i j) net.arcs) by
  where
    by : (a : PureArc) → find (is_arc_between i j) net.arcs ≡ Some a → IsArc net i j a.label
    by a e =
        let f = find_all (IsArcOf net.alg (length net.nodes)) (is_arc_between i j) net.arcs n.arcs_in a e in
        let tail : a.tail ≡ i = grind (arith, nat_tests, f.1) in
        let head : a.head ≡ j = grind (arith, nat_tests, f.1) in
        record {
          tail_in = rw tail at f.0.tail_in;
          head_in = rw head at f.0.head_in;
          apart = rw (tail, head) at f.0.apart;
          label_in = f.0.label_in;
          small = label_at_most_more (greatest_number net.alg.edition) max_label_number a.label (greatest_is_bounded net.alg.edition) f.0.bound;
          has = find_any (is_arc_between i j) net.arcs a e;
        }

pub labels_have : (p : PureProperty) (net : PureNet) → NetHas p net → (i j : ℕ) → IfSome (label_between net i j) (Has p net.alg.expression)
labels_have p net h i j = if_mapped (λ (a : PureArc). a.label) (Has p net.alg.expression) (find (is_arc_between i j) net.arcs)
    (λ a e. (find_all (λ (b : PureArc). Has p net.alg.expression b.label) (is_arc_between i j) net.arcs h a e).0)

-- what holds of a node's origin, and of its value
pub record IsOrigin (net : PureNet) (dest i : ℕ) (v : PureValue) : Type 0 where
  pub node_in : i < length net.nodes
  pub value_in : In (carrier net) v
  pub small : AtMost max_label_number v
  pub has : has_origin net dest i ≡ true

pub origins_are : (net : PureNet) → IsNet net → (dest i : ℕ) → IfSome (origin_value net dest i) (IsOrigin net dest i)
origins_are net n dest i = if_mapped (λ (o : PureOrigin). o.value) (IsOrigin net dest i) (find (is_origin_at dest i) net.origins) by
  where
    by : (o : PureOrigin) → find (is_origin_at dest i) net.origins ≡ Some o → IsOrigin net dest i o.value
    by o e =
        let f = find_all (IsOriginOf net.alg (length net.nodes) (length net.dests)) (is_origin_at dest i) net.origins n.origins_in o e in
        let node : o.node ≡ i = grind (arith, nat_tests, f.1) in
        record {
          node_in = rw node at f.0.node_in;
          value_in = f.0.value_in;
          small = at_most_more (greatest_number net.alg.edition) max_label_number o.value (greatest_is_bounded net.alg.edition) f.0.bound;
          has = find_any (is_origin_at dest i) net.origins o e;
        }

-- a walk begins at a node
pub walk_within : (net : PureNet) → IsNet net → (dest i : ℕ) (p : List ℕ) → Walk net dest (i ∷ p) → i < length net.nodes
walk_within net n dest i [] w =
    let f = any_find (is_origin_at dest i) net.origins w in
    let g = find_all (IsOriginOf net.alg (length net.nodes) (length net.dests)) (is_origin_at dest i) net.origins n.origins_in f.0 f.1 in
    let node : f.0.node ≡ i = grind (arith, nat_tests, g.1) in
    rw node at g.0.node_in
walk_within net n dest i (j ∷ p) w =
    let f = any_find (is_arc_between i j) net.arcs w.0 in
    let g = find_all (IsArcOf net.alg (length net.nodes)) (is_arc_between i j) net.arcs n.arcs_in f.0 f.1 in
    let tail : f.0.tail ≡ i = grind (arith, nat_tests, g.1) in
    rw tail at g.0.tail_in

-- an arc from i gives a value only if it is one
pub along_has : (net : PureNet) → IsNet net → (i j : ℕ) (x : Option PureValue) (v : PureValue) → along net i j x ≡ Some v → has_arc net i j ≡ true
along_has net n i j x v e = by (label_between net i j) (arcs_are net n i j) e
  where
    by : (o : Option PureLabel) → IfSome o (IsArc net i j) → option_and_then (λ l. option_and_then (App net.alg.expression l) x) o ≡ Some v → has_arc net i j ≡ true
    by None a e = absurd (cc)
    by (Some l) a e = a.has

-- and nothing of none
pub along_none : (net : PureNet) (i j : ℕ) → along net i j None ≡ None
along_none net i j = by (label_between net i j)
  where
    by : (o : Option PureLabel) → option_and_then (λ l. option_and_then (App net.alg.expression l) None) o ≡ None
    by None = refl
    by (Some l) = refl

-- what an arc makes of a value is a value of the carrier
pub along_in : (net : PureNet) → IsNet net → (i j : ℕ) (x : Option PureValue) → IfSome x (In (carrier net)) → IfSome (along net i j x) (In (carrier net))
along_in net n i j x h = by (label_between net i j) x (arcs_are net n i j) h
  where
    image : (o : Option PureValue) → ((w : PureValue) → o ≡ Some w → In (carrier net) w) → IfSome o (In (carrier net))
    image None g = tt
    image (Some w) g = g w refl

    by : (o : Option PureLabel) (x : Option PureValue) → IfSome o (IsArc net i j) → IfSome x (In (carrier net))
        → IfSome (option_and_then (λ l. option_and_then (App net.alg.expression l) x) o) (In (carrier net))
    by None x a h = tt
    by (Some l) None a h = tt
    by (Some l) (Some v) a h = image (App net.alg.expression l v) (λ w e. images_in net.alg.expression l v w n.is_alg.formed a.label_in h e)

pub weight_in : (net : PureNet) → IsNet net → (dest : ℕ) (p : List ℕ) → IfSome (Weight net dest p) (In (carrier net))
weight_in net n dest [] = tt
weight_in net n dest (i ∷ []) = by (origin_value net dest i) (origins_are net n dest i)
  where
    by : (o : Option PureValue) → IfSome o (IsOrigin net dest i) → IfSome o (In (carrier net))
    by None h = tt
    by (Some v) h = h.value_in
weight_in net n dest (i ∷ j ∷ p) = along_in net n i j (Weight net dest (j ∷ p)) (weight_in net n dest (j ∷ p))

-- an arc whose label is monotone makes no value better
pub along_monotone : (net : PureNet) → NetHas monotone net → (i j : ℕ) (x : Option PureValue) → IfSome x (In (carrier net)) → IsUnbeatenBy (carrier net) x (along net i j x)
along_monotone net m i j x h = by (label_between net i j) x (labels_have monotone net m i j) h
  where
    last : (x : Option PureValue) → IsUnbeatenBy (carrier net) x None
    last None e = cc
    last (Some v) e = cc

    by : (o : Option PureLabel) (x : Option PureValue) → IfSome o (IsMonotone net.alg.expression) → IfSome x (In (carrier net))
        → IsUnbeatenBy (carrier net) x (option_and_then (λ l. option_and_then (App net.alg.expression l) x) o)
    by None x a h = last x
    by (Some l) None a h = last None
    by (Some l) (Some v) a h = a v h

-- an arc whose label is isotone keeps what is unbeaten
pub along_isotone : (net : PureNet) → NetHas isotone net → (i j : ℕ) (x y : Option PureValue) → IfSome x (In (carrier net)) → IfSome y (In (carrier net))
    → IsUnbeatenBy (carrier net) x y → IsUnbeatenBy (carrier net) (along net i j x) (along net i j y)
along_isotone net m i j x y h k u = by (label_between net i j) x y (labels_have isotone net m i j) h k u
  where
    last : (x : Option PureValue) → IsUnbeatenBy (carrier net) x None
    last None e = cc
    last (Some v) e = cc

    by : (o : Option PureLabel) (x y : Option PureValue) → IfSome o (IsIsotone net.alg.expression) → IfSome x (In (carrier net)) → IfSome y (In (carrier net)) → IsUnbeatenBy (carrier net) x y
        → IsUnbeatenBy (carrier net) (option_and_then (λ l. option_and_then (App net.alg.expression l) x) o) (option_and_then (λ l. option_and_then (App net.alg.expression l) y) o)
    by None x y a h k u = last None
    by (Some l) x None a h k u = last (option_and_then (App net.alg.expression l) x)
    by (Some l) (Some v) (Some w) a h k u = a v w h k u
    by (Some l) None (Some w) a h k u = absurd (u (cc))

-- an arc adds at most the greatest number of a label to the greatest of a value
pub along_at_most : (net : PureNet) → IsNet net → (i j : ℕ) (v w : PureValue) (m : ℕ) → AtMost m v → along net i j (Some v) ≡ Some w → AtMost (m + max_label_number) w
along_at_most net n i j v w m h e = by (label_between net i j) (arcs_are net n i j) e
  where
    by : (o : Option PureLabel) → IfSome o (IsArc net i j) → option_and_then (λ l. option_and_then (App net.alg.expression l) (Some v)) o ≡ Some w → AtMost (m + max_label_number) w
    by None a e = absurd (cc)
    by (Some l) a e = images_at_most net.alg.expression l v w m max_label_number a.label_in a.small h e
