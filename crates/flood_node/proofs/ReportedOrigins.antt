-- The origins that cards tell of, added node by node.
use Rattle.std.proofs.Common.{◌≡◌, ℕ, zero, suc, ◌+◌, ◌<◌, List, [], ◌∷◌, ◌++◌, Bool, true, false, ◌&&◌, ◌||◌, ◌==◌, length, take, cond, slice_get, Option, Some, None, refl, sym, ap, ◌∙◌, subst, append_assoc, arith}
use Rattle.std.specs.Prelude.{option_map}
use Rattle.std.specs.List.{AllByRecursion, list_any, find}
use Rattle.std.proofs.lemmas.Bool.Decides.{nat_tests}
use Rattle.std.proofs.lemmas.List.{append-nil, map-append}
use Rattle.std.proofs.lemmas.List.Folds.{list_any-append}
use Rattle.alg_model.specs.Bounds.{AtMost, greatest_number}
use Rattle.alg_model.specs.Carriers.{In, carrier_of}
use Rattle.alg_model.specs.Expressions.{PureValue}
use Rattle.net_graph.specs.ArcLaws.{all_at, find_all}
use Rattle.net_graph.specs.Lines.{with_origin_at}
use Rattle.net_graph.specs.NetLaws.{all_weaker}
use Rattle.net_graph.specs.Nets.{PureOrigin, PureNet, IsNet, IsOriginOf, AreDistinct, is_origin_at, origin_value}
use Rattle.flood_node.specs.Cards.{PureCardOrigin, card_of, card_origin, card_origins}
use Rattle.flood_node.specs.Rows.{origins_on, reported_origins}
use Rattle.flood_node.proofs.OwnCards.{take_next}

all_joined : {X : Type 0} (P : X → Type 0) (xs ys : List X) → AllByRecursion P xs → AllByRecursion P ys → AllByRecursion P (xs ++ ys)
all_joined P [] ys a b = b
all_joined P (x ∷ xs) ys a b = (a.0, all_joined P xs ys a.1 b)

distinct_push : {X : Type 0} (same : X → X → Bool) (xs : List X) (x : X) → AreDistinct same xs → AllByRecursion (λ y. same y x ≡ false) xs → AreDistinct same (xs ++ x ∷ [])
distinct_push same [] x d a = (tt, tt)
distinct_push same (y ∷ xs) x d a = (all_joined (λ z. same y z ≡ false) xs (x ∷ []) d.0 (a.0, tt), distinct_push same xs x d.1 a.1)

distinct_before : {X : Type 0} (same : X → X → Bool) (xs : List X) (k : ℕ) (x : X) → AreDistinct same xs → slice_get xs k ≡ Some x → list_any (λ y. same y x) (take k xs) ≡ false
distinct_before same [] k x d e = absurd (cc)
distinct_before same (y ∷ xs) zero x d e = refl
distinct_before same (y ∷ xs) (suc k) x d e = rw (all_at (λ z. same y z ≡ false) xs k x d.0 e, distinct_before same xs k x d.1 e) refl

abbrev of_same : PureCardOrigin → PureCardOrigin → Bool
of_same o q = o.dest == q.dest

module _ (net : PureNet) (i : ℕ) where
  dests_below : (n : ℕ) → AllByRecursion (λ (o : PureCardOrigin). o.dest < n) (card_origins net i n)
  dests_below zero = tt
  dests_below (suc n) =
      all_joined (λ (o : PureCardOrigin). o.dest < suc n) (card_origins net i n) (card_origin n (origin_value net n i))
      (all_weaker (λ (o : PureCardOrigin). o.dest < n) (λ (o : PureCardOrigin). o.dest < suc n) (card_origins net i n) (λ o l. omega (arith, l)) (dests_below n)) (by (origin_value net n i))
    where
      by : (v : Option PureValue) → AllByRecursion (λ (o : PureCardOrigin). o.dest < suc n) (card_origin n v)
      by None = tt
      by (Some v) = (omega arith, tt)

  dests_apart : (n : ℕ) → AreDistinct of_same (card_origins net i n)
  dests_apart zero = tt
  dests_apart (suc n) = by (origin_value net n i) (dests_apart n)
    where
      other : (o : PureCardOrigin) → o.dest < n → (o.dest == n) ≡ false
      other o l = grind (arith, nat_tests)

      by : (v : Option PureValue) → AreDistinct of_same (card_origins net i n) → AreDistinct of_same (card_origins net i n ++ card_origin n v)
      by None d = subst (AreDistinct of_same) (sym (append-nil (card_origins net i n))) d
      by (Some v) d =
          distinct_push of_same (card_origins net i n) (record { dest = n; value = v }) d
          (all_weaker (λ (o : PureCardOrigin). o.dest < n) (λ (o : PureCardOrigin). (o.dest == n) ≡ false) (card_origins net i n) other (dests_below n))

  abbrev is_value : PureCardOrigin → Type 0
  is_value o = In (carrier_of net.alg.expression) o.value × AtMost (greatest_number net.alg.edition) o.value

  values_are : IsNet net → (n : ℕ) → AllByRecursion is_value (card_origins net i n)
  values_are h zero = tt
  values_are h (suc n) = all_joined is_value (card_origins net i n) (card_origin n (origin_value net n i)) (values_are h n) (by (find (is_origin_at n i) net.origins) refl)
    where
      by : (o : Option PureOrigin) → find (is_origin_at n i) net.origins ≡ o → AllByRecursion is_value (card_origin n (option_map (λ (q : PureOrigin). q.value) o))
      by None e = tt
      by (Some o) e =
          let f = find_all (IsOriginOf net.alg (length net.nodes) (length net.dests)) (is_origin_at n i) net.origins h.origins_in o e in
          ((f.0.value_in, f.0.bound), tt)

  -- what holds of an origin that the card tells of
  pub origin_holds : IsNet net → (n k : ℕ) (o : PureCardOrigin) → slice_get (card_origins net i n) k ≡ Some o
      → (o.dest < n) × In (carrier_of net.alg.expression) o.value × AtMost (greatest_number net.alg.edition) o.value
  origin_holds h n k o e = (
    all_at (λ (q : PureCardOrigin). q.dest < n) (card_origins net i n) k o (dests_below n) e,
    (all_at is_value (card_origins net i n) k o (values_are h n) e).0,
    (all_at is_value (card_origins net i n) k o (values_are h n) e).1,
  )

-- an origin on a node
any_on : (i dest : ℕ) (os : List PureCardOrigin) → list_any (is_origin_at dest i) (origins_on i os) ≡ list_any (λ (o : PureCardOrigin). o.dest == dest) os
any_on i dest [] = refl
any_on i dest (o ∷ os) = rw (itself, any_on i dest os) (by (o.dest == dest))
  where
    itself : (i == i) ≡ true
    itself = grind (arith, nat_tests)

    by : (b : Bool) → ((b && true) || list_any (λ (q : PureCardOrigin). q.dest == dest) os) ≡ (b || list_any (λ (q : PureCardOrigin). q.dest == dest) os)
    by true = refl
    by false = refl

-- the destination of an origin isn't among those before it
pub origin_absent : (net : PureNet) (i n k : ℕ) (o : PureCardOrigin) (old : List PureOrigin) → slice_get (card_origins net i n) k ≡ Some o → list_any (is_origin_at o.dest i) old ≡ false
    → list_any (is_origin_at o.dest i) (old ++ origins_on i (take k (card_origins net i n))) ≡ false
origin_absent net i n k o old e absent =
    list_any-append (is_origin_at o.dest i) old (origins_on i (take k (card_origins net i n)))
    ∙ rw absent (any_on i o.dest (take k (card_origins net i n)) ∙ distinct_before of_same (card_origins net i n) k o (dests_apart net i n) e)

-- the origins so far, and one more
pub own_origins_next : (i : ℕ) (old : List PureOrigin) (os : List PureCardOrigin) (k : ℕ) (o : PureCardOrigin) → slice_get os k ≡ Some o
    → (old ++ origins_on i (take k os)) ++ record { node = i; dest = o.dest; value = o.value } ∷ [] ≡ old ++ origins_on i (take (k + 1) os)
own_origins_next i old os k o e =
    append_assoc old (origins_on i (take k os)) (record { node = i; dest = o.dest; value = o.value } ∷ [])
    ∙ ap (λ l. old ++ l) (sym (ap (origins_on i) (take_next os k o e) ∙ map-append (λ (q : PureCardOrigin). record { node = i; dest = q.dest; value = q.value }) (take k os) (o ∷ [])))

-- a network with the origins so far, and one more
pub own_draft_next : (old draft new : PureNet) (i : ℕ) (os : List PureCardOrigin) (k : ℕ) (o : PureCardOrigin) (v : PureValue) → draft ≡ record old { origins = old.origins ++ origins_on i (take k os) } → slice_get os k ≡ Some o → v ≡ o.value
    → new ≡ with_origin_at draft o.dest i v → new ≡ record old { origins = old.origins ++ origins_on i (take (k + 1) os) }
own_draft_next old draft new i os k o v so at is made =
    made ∙ (ap (λ (d : PureNet). with_origin_at d o.dest i v) so
    ∙ (ap (λ z. with_origin_at (record old { origins = old.origins ++ origins_on i (take k os) }) o.dest i z) is
    ∙ ap (λ l. record old { origins = l }) (own_origins_next i old.origins os k o at)))

module _ (net : PureNet) (known : ℕ → Bool) where
  on_node : (i : ℕ) (os : List PureCardOrigin) → AllByRecursion (λ (o : PureOrigin). o.node < suc i) (origins_on i os)
  on_node i [] = tt
  on_node i (o ∷ os) = (omega arith, on_node i os)

  nodes_below : (n : ℕ) → AllByRecursion (λ (o : PureOrigin). o.node < n) (reported_origins net known n)
  nodes_below zero = tt
  nodes_below (suc n) =
      all_joined (λ (o : PureOrigin). o.node < suc n) (reported_origins net known n) (cond (known n) (origins_on n (card_of net n).origins) [])
      (all_weaker (λ (o : PureOrigin). o.node < n) (λ (o : PureOrigin). o.node < suc n) (reported_origins net known n) (λ o l. omega (arith, l)) (nodes_below n)) (by (known n))
    where
      by : (b : Bool) → AllByRecursion (λ (o : PureOrigin). o.node < suc n) (cond b (origins_on n (card_of net n).origins) [])
      by true = on_node n (card_of net n).origins
      by false = tt

  -- no origin of the nodes so far is at the next one
  pub none_yet : (n dest : ℕ) → list_any (is_origin_at dest n) (reported_origins net known n) ≡ false
  none_yet n dest = by (reported_origins net known n) (nodes_below n)
    where
      by : (os : List PureOrigin) → AllByRecursion (λ (o : PureOrigin). o.node < n) os → list_any (is_origin_at dest n) os ≡ false
      by [] a = refl
      by (o ∷ os) a =
          let below : o.node < n = a.0 in
          let other : (o.node == n) ≡ false = grind (arith, nat_tests) in
          rw (other, by os a.1) (none (o.dest == dest))
        where
          none : (b : Bool) → ((b && false) || false) ≡ false
          none true = refl
          none false = refl

  -- the origins of one node more
  pub reported_origins_next : (n : ℕ) → known n ≡ true → reported_origins net known (n + 1) ≡ reported_origins net known n ++ origins_on n (card_of net n).origins
  reported_origins_next n e =
      let next : n + 1 ≡ suc n = omega arith in
      ap (reported_origins net known) next ∙ ap (λ b. reported_origins net known n ++ cond b (origins_on n (card_of net n).origins) []) e

  pub reported_origins_same : (n : ℕ) → known n ≡ false → reported_origins net known (n + 1) ≡ reported_origins net known n
  reported_origins_same n e =
      let next : n + 1 ≡ suc n = omega arith in
      ap (reported_origins net known) next ∙ (ap (λ b. reported_origins net known n ++ cond b (origins_on n (card_of net n).origins) []) e ∙ append-nil (reported_origins net known n))

  -- a network with the origins of the nodes so far, and of one more that is known or isn't
  pub node_draft_next : (old draft new : PureNet) (k i : ℕ) → draft ≡ record old { origins = reported_origins net known k } → i ≡ k → known k ≡ true → new ≡ record draft { origins = draft.origins ++ origins_on i (card_of net i).origins }
      → new ≡ record old { origins = reported_origins net known (k + 1) }
  node_draft_next old draft new k i so number e made =
      made ∙ (ap (λ z. record draft { origins = draft.origins ++ origins_on z (card_of net z).origins }) number
      ∙ (ap (λ (d : PureNet). record d { origins = d.origins ++ origins_on k (card_of net k).origins }) so
      ∙ ap (λ l. record old { origins = l }) (sym (reported_origins_next k e))))

  pub node_draft_same : (old draft new : PureNet) (k : ℕ) → draft ≡ record old { origins = reported_origins net known k } → known k ≡ false → new ≡ draft → new ≡ record old { origins = reported_origins net known (k + 1) }
  node_draft_same old draft new k so e made = made ∙ (so ∙ ap (λ l. record old { origins = l }) (sym (reported_origins_same k e)))
