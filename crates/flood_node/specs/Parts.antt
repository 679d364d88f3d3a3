-- A part of a network that no arc leaves has the rows of the whole. Lemmas, so that proofs of other crates may cite them.
use Rattle.std.proofs.Common.{◌≡◌, ℕ, zero, suc, ◌+◌, ◌<◌, inl, inr, List, [], ◌∷◌, Bool, true, false, ◌||◌, length, filter, cond, slice_get, Option, Some, None, refl, sym, ap, ◌∙◌, subst, arith}
use Rattle.std.specs.Prelude.{◌==◌, option_map, option_and_then, IfSome}
use Rattle.std.proofs.lemmas.Bool.{eqb-true}
use Rattle.alg_model.specs.Application.{App}
use Rattle.alg_model.specs.Expressions.{PureAlg, PureValue}
use Rattle.alg_model.specs.Carriers.{carrier_of}
use Rattle.net_graph.specs.Nets.{PureNet, IsNet, label_between}
use Rattle.net_graph.specs.ArcLaws.{along_has}
use Rattle.net_graph.specs.Routes.{PureRoute, Better}
use Rattle.net_graph.specs.Walks.{along}
use Rattle.net_graph.specs.Tables.{PureRow, IsRouteOf, AreRowsFrom, BestFirst, AreFixed, IsOfferFrom, carrier, route_at, is_among}
use Rattle.flood_node.specs.Partial.{IsPart, IsClosed, rows_known}

-- the part of a list that is known, tested
among_known : (known : ℕ → Bool) (xs : List ℕ) (i : ℕ) → known i ≡ true → is_among xs i ≡ true → is_among (filter known xs) i ≡ true
among_known known [] i k e = absurd (cc)
among_known known (x ∷ xs) i k e = by (x == i) refl (known x) refl (λ h. among_known known xs i k h)
  where
    more : (b : Bool) → is_among (filter known xs) i ≡ true → (b || is_among (filter known xs) i) ≡ true
    more true r = refl
    more false r = r

    by : (b : Bool) → (x == i) ≡ b → (c : Bool) → known x ≡ c → (is_among xs i ≡ true → is_among (filter known xs) i ≡ true) → is_among (cond c (x ∷ filter known xs) (filter known xs)) i ≡ true
    by true h true f r = rw h refl
    by true h false f r = absurd (let clash : true ≡ false = sym k ∙ (ap known (sym (eqb-true x i h)) ∙ f) in cc)
    by false h true f r = more (x == i) (r (rw h at e))
    by false h false f r = r (rw h at e)

among_before : (known : ℕ → Bool) (xs : List ℕ) (i : ℕ) → is_among (filter known xs) i ≡ true → is_among xs i ≡ true
among_before known [] i e = e
among_before known (x ∷ xs) i e = by (known x) e (x == i) refl (λ h. among_before known xs i h)
  where
    by : (c : Bool) → is_among (cond c (x ∷ filter known xs) (filter known xs)) i ≡ true → (b : Bool) → (x == i) ≡ b → (is_among (filter known xs) i ≡ true → is_among xs i ≡ true) → (b || is_among xs i) ≡ true
    by c h true f r = refl
    by true h false f r = r (rw f at h)
    by false h false f r = r h

not_among : (known : ℕ → Bool) (xs : List ℕ) (i : ℕ) → known i ≡ true → is_among (filter known xs) i ≡ false → is_among xs i ≡ false
not_among known xs i k e = by (is_among xs i) refl
  where
    by : (b : Bool) → is_among xs i ≡ b → is_among xs i ≡ false
    by true h = absurd (let clash : true ≡ false = sym (among_known known xs i k h) ∙ e in cc)
    by false h = h

still_not : (known : ℕ → Bool) (xs : List ℕ) (i : ℕ) → is_among xs i ≡ false → is_among (filter known xs) i ≡ false
still_not known xs i e = by (is_among (filter known xs) i) refl
  where
    by : (b : Bool) → is_among (filter known xs) i ≡ b → is_among (filter known xs) i ≡ false
    by true h = absurd (let clash : true ≡ false = sym (among_before known xs i h) ∙ e in cc)
    by false h = h

-- the row at a place
row_there : (known : ℕ → Bool) (from k : ℕ) (table : List PureRow) → slice_get (rows_known known from table) k ≡ option_map (λ (row : PureRow). cond (known (from + k)) row (record row { route = None })) (slice_get table k)
row_there known from k [] = refl
row_there known from zero (row ∷ table) = let same : from + 0 ≡ from = omega arith in rw same refl
row_there known from (suc k) (row ∷ table) = let same : from + suc k ≡ from + 1 + k = omega arith in rw same (row_there known (from + 1) k table)

route_known : (known : ℕ → Bool) (table : List PureRow) (i : ℕ) → known i ≡ true → route_at (rows_known known 0 table) i ≡ route_at table i
route_known known table i k =
    let same : 0 + i ≡ i = omega arith in
    ap (λ o. option_and_then (λ (row : PureRow). row.route) o) (row_there known 0 i table) ∙ by same (slice_get table i)
  where
    by : 0 + i ≡ i → (o : Option PureRow) → option_and_then (λ (row : PureRow). row.route) (option_map (λ (row : PureRow). cond (known (0 + i)) row (record row { route = None })) o) ≡ option_and_then (λ (row : PureRow). row.route) o
    by same None = refl
    by same (Some row) = rw (same, k) refl

pub row_known : (known : ℕ → Bool) (table : List PureRow) (i : ℕ) → known i ≡ true → slice_get (rows_known known 0 table) i ≡ slice_get table i
row_known known table i k = row_there known 0 i table ∙ by (slice_get table i)
  where
    by : (o : Option PureRow) → option_map (λ (row : PureRow). cond (known (0 + i)) row (record row { route = None })) o ≡ o
    by None = refl
    by (Some row) = let same : 0 + i ≡ i = omega arith in rw (same, k) refl

route_unknown : (known : ℕ → Bool) (table : List PureRow) (i : ℕ) → known i ≡ false → route_at (rows_known known 0 table) i ≡ None
route_unknown known table i k =
    let same : 0 + i ≡ i = omega arith in
    ap (λ o. option_and_then (λ (row : PureRow). row.route) o) (row_there known 0 i table) ∙ by same (slice_get table i)
  where
    by : 0 + i ≡ i → (o : Option PureRow) → option_and_then (λ (row : PureRow). row.route) (option_map (λ (row : PureRow). cond (known (0 + i)) row (record row { route = None })) o) ≡ None
    by same None = refl
    by same (Some row) = rw (same, k) refl

length_known : (known : ℕ → Bool) (from : ℕ) (table : List PureRow) → length (rows_known known from table) ≡ length table
length_known known from [] = refl
length_known known from (row ∷ table) = rw (length_known known (from + 1) table) refl

module _ (whole part : PureNet) (known : ℕ → Bool) (is : IsPart whole part known) where
  -- what an arc makes of a value, where the tail is known
  along_known : (i j : ℕ) (x : Option PureValue) → known i ≡ true → along part i j x ≡ along whole i j x
  along_known i j x k =
      ap (λ (a : PureAlg). option_and_then (λ l. option_and_then (App a.expression l) x) (label_between part i j)) is.alg
      ∙ ap (λ o. option_and_then (λ l. option_and_then (App whole.alg.expression l) x) o) (is.labels i j k)

  -- and where it isn't
  along_unknown : (i j : ℕ) (x : Option PureValue) → known i ≡ false → along part i j x ≡ None
  along_unknown i j x k = ap (λ o. option_and_then (λ l. option_and_then (App part.alg.expression l) x) o) (is.no_labels i j k)

  same_carrier : carrier part ≡ carrier whole
  same_carrier = ap (λ (a : PureAlg). carrier_of a.expression) is.alg

  route_of : (r : PureRoute) → IsRouteOf whole r → IsRouteOf part r
  route_of r h = record { value_in = rw same_carrier h.value_in; bound = h.bound; path = h.path }

  rows_of_part : (dest from : ℕ) (table : List PureRow) → AreRowsFrom whole dest from table → AreRowsFrom part dest from (rows_known known from table)
  rows_of_part dest from [] a = tt
  rows_of_part dest from (row ∷ table) a = by (known from) (rows_of_part dest (from + 1) table a.3)
    where
      route : (o : Option PureRoute) → IfSome o (IsRouteOf whole) → IfSome o (IsRouteOf part)
      route None h = h
      route (Some r) h = route_of r h

      by : (b : Bool) → AreRowsFrom part dest (from + 1) (rows_known known (from + 1) table) → AreRowsFrom part dest from (cond b row (record row { route = None }) ∷ rows_known known (from + 1) table)
      by true more = (a.0, a.1, route row.route a.2, more)
      by false more = (a.0, a.1, tt, more)

  module _ (dest : ℕ) (table : List PureRow) where
    abbrev reported : List PureRow
    reported = rows_known known 0 table

    -- a node that isn't known has no offer
    none_unknown : (before : List ℕ) (i : ℕ) (r : PureRoute) → known i ≡ false → ¬ IsOfferFrom part dest (route_at reported) before i r
    none_unknown before i r k (inl own) = absurd (let clash : None ≡ Some r.value = sym (is.no_origins dest i k) ∙ own.0 in cc)
    none_unknown before i r k (inr by) = absurd (let o = by.2 in let clash : None ≡ Some r.value = sym (along_unknown i by.0 (Some o.next.value) k) ∙ o.weighs in cc)

    module _ (n : IsNet whole) (closed : IsClosed whole known) where
      -- an offer in the part is one in the whole
      in_whole : (before : List ℕ) (i : ℕ) (r : PureRoute) → known i ≡ true → IsOfferFrom part dest (route_at reported) (filter known before) i r → IsOfferFrom whole dest (route_at table) before i r
      in_whole before i r k (inl own) = inl (sym (is.origins dest i k) ∙ own.0, own.1)
      in_whole before i r k (inr by) =
          let o = by.2 in
          let weighs : along whole i by.0 (Some o.next.value) ≡ Some r.value = sym (along_known i by.0 (Some o.next.value) k) ∙ o.weighs in
          let there : known by.0 ≡ true = closed i by.0 k (along_has whole n i by.0 (Some o.next.value) r.value weighs) in
          inr (
            by.0,
            among_before known before by.0 by.1,
            record {
              next = o.next;
              is_reported = sym (route_known known table by.0 there) ∙ o.is_reported;
              weighs = weighs;
              loopless = o.loopless;
              path = o.path;
            },
          )

      -- and the other way round
      in_part : (before : List ℕ) (i : ℕ) (r : PureRoute) → known i ≡ true → IsOfferFrom whole dest (route_at table) before i r → IsOfferFrom part dest (route_at reported) (filter known before) i r
      in_part before i r k (inl own) = inl (is.origins dest i k ∙ own.0, own.1)
      in_part before i r k (inr by) =
          let o = by.2 in
          let there : known by.0 ≡ true = closed i by.0 k (along_has whole n i by.0 (Some o.next.value) r.value o.weighs) in
          inr (
            by.0,
            among_known known before by.0 there by.1,
            record {
              next = o.next;
              is_reported = route_known known table by.0 there ∙ o.is_reported;
              weighs = along_known i by.0 (Some o.next.value) k ∙ o.weighs;
              loopless = o.loopless;
              path = o.path;
            },
          )

      fixed_part : (before order : List ℕ) → AreFixed whole dest table before order → AreFixed part dest reported (filter known before) (filter known order)
      fixed_part before [] f = λ i l e. by i l e (known i) refl
        where
          by : (i : ℕ) → i < length part.nodes → is_among (filter known before) i ≡ false → (b : Bool) → known i ≡ b
              → (route_at reported i ≡ None) × ((r : PureRoute) → ¬ IsOfferFrom part dest (route_at reported) (filter known before) i r)
          by i l e true k =
              let left = f i (subst (λ z. i < z) is.count l) (not_among known before i k e) in
              (route_known known table i k ∙ left.0, λ r o. left.1 r (in_whole before i r k o))
          by i l e false k = (route_unknown known table i k, λ r. none_unknown (filter known before) i r k)
      fixed_part before (i ∷ order) f = by (known i) refl (fixed_part (i ∷ before) order f.3)
        where
          unbeaten : (j : ℕ) (s : PureRoute) → j < length part.nodes → is_among (filter known before) j ≡ false → IsOfferFrom part dest (route_at reported) (filter known before) j s → (b : Bool) → known j ≡ b → ¬ Better (carrier part) s f.2.0
          unbeaten j s l e o true k = λ better. f.2.3 j s (subst (λ z. j < z) is.count l) (not_among known before j k e) (in_whole before j s k o) (rw same_carrier at better)
          unbeaten j s l e o false k = λ better. none_unknown (filter known before) j s k o

          by : (b : Bool) → known i ≡ b → AreFixed part dest reported (cond b (i ∷ filter known before) (filter known before)) (filter known order)
              → AreFixed part dest reported (filter known before) (cond b (i ∷ filter known order) (filter known order))
          by true k more = (
            subst (λ z. i < z) (sym is.count) f.0,
            still_not known before i f.1,
            (f.2.0, route_known known table i k ∙ f.2.1, in_part before i f.2.0 k f.2.2, λ j s l e o. unbeaten j s l e o (known j) refl),
            more,
          )
          by false k more = more

      -- the rows of known nodes in a table that is made best first are made best first in the part
      pub best_in_part : BestFirst whole dest table → BestFirst part dest reported
      best_in_part b =
          record {
            table_of = record { rows = rows_of_part dest 0 table b.table_of.rows; count = length_known known 0 table ∙ (b.table_of.count ∙ sym is.count) };
            order = filter known b.order;
            fixed = fixed_part [] b.order b.fixed;
          }
