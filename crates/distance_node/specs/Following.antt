-- Where next hops lead. Lemmas, so that proofs of other crates may cite them.
use Rattle.std.proofs.Common.{◌≡◌, ℕ, zero, suc, ◌+◌, ◌<◌, ◌≤◌, inl, inr, List, [], ◌∷◌, Bool, true, false, ◌||◌, ◌==◌, length, cond, slice_get, Option, Some, None, IfSome, subst, refl, sym, ap, ◌∙◌, arith}
use Rattle.std.specs.Prelude.{find, option_map, option_and_then}
use Rattle.std.specs.List.{list_any, AllByRecursion}
use Rattle.std.specs.declared.cmp.Ordering.TheVariants.{Less}
use Rattle.std.proofs.lemmas.Bool.{eqb-true}
use Rattle.std.proofs.lemmas.Bool.Decides.{nat_tests}
use Rattle.std.proofs.lemmas.Option.{same_Some}
use Rattle.alg_model.specs.Application.{App}
use Rattle.alg_model.specs.Carriers.{In, Order, distinct}
use Rattle.alg_model.specs.Expressions.{PureCarrier, PureValue}
use Rattle.alg_model.specs.Laws.{total_preorder}
use Rattle.alg_model.specs.Properties.{strict, isotone, Has}
use Rattle.net_graph.specs.ArcLaws.{IsOrigin, origins_are, of_some, found_between, find_any, find_all, walk_within, along_in, along_isotone, weight_in, labels_have}
use Rattle.net_graph.specs.Nets.{PureArc, PureNet, IsNet, IsArcOf, is_arc_between, has_arc, arcs_from, origin_value, label_between}
use Rattle.net_graph.specs.Routes.{is_less}
use Rattle.net_graph.specs.Tables.{NetHas, carrier}
use Rattle.net_graph.specs.Unbeaten.{IsUnbeatenBy, unbeaten_trans, none_last}
use Rattle.net_graph.specs.Walks.{Walk, Weight, along}
use Rattle.node_core.specs.MachineLaws.{option_from, option_then}
use Rattle.distance_node.specs.Chosen.{entry_of}
use Rattle.distance_node.specs.Choosing.{AllIn, IsUnbeatenEntry, best_is, none_best, not_itself, to_less, to_not_less}
use Rattle.distance_node.specs.Entries.{found_filtered}
use Rattle.distance_node.specs.Node.{Hop, value_of, offers, choice}
use Rattle.distance_node.specs.Offers.{IsOwnHop, IsArcHop, arc_from, speaks_on, offer_is, own_offered, arc_offered, own_may}
use Rattle.distance_node.specs.Tables.{HopTable, values_on, IsChosen, Follows, Leads}

-- what an arc makes of a value, in words of walks
pub along_arc : (net : PureNet) → IsNet net → (a : PureArc) → slice_get net.arcs a.id ≡ Some a → (x : Option PureValue) → along net a.tail a.head x ≡ option_and_then (App net.alg.expression a.label) x
along_arc net n a stands x =
    ap (λ o. option_and_then (λ l. option_and_then (App net.alg.expression l) x) (option_map (λ (b : PureArc). b.label) o)) (found_between net.arcs n.arc_apart a.id a stands)

-- an arc that gives a value stands among those of its tail
pub arc_at : (net : PureNet) → IsNet net → (i j : ℕ) (x : Option PureValue) (v : PureValue) → along net i j x ≡ Some v
    → (k : ℕ) × (a : PureArc) × (slice_get (arcs_from net i) k ≡ Some a) × (a.head ≡ j) × (option_and_then (App net.alg.expression a.label) x ≡ Some v)
arc_at net n i j x v e =
    let label = option_then (λ l. option_and_then (App net.alg.expression l) x) (label_between net i j) v e in
    let arc = option_from (λ (b : PureArc). b.label) (find (is_arc_between i j) net.arcs) label.0 label.1 in
    let found = find_all (IsArcOf net.alg (length net.nodes)) (is_arc_between i j) net.arcs n.arcs_in arc.0 arc.1 in
    let tail : (arc.0.tail == i) ≡ true = grind (arith, nat_tests, found.1) in
    let head : arc.0.head ≡ j = grind (arith, nat_tests, found.1) in
    let at = found_filtered (is_arc_between i j) (λ (b : PureArc). b.tail == i) net.arcs arc.0 arc.1 tail in
    (at.0, arc.0, at.1, head, ap (λ l. option_and_then (App net.alg.expression l) x) arc.2 ∙ label.2)

module _ (net : PureNet) (n : IsNet net) (dest : ℕ) (table : HopTable) (chosen : IsChosen net dest table) where
  abbrev os : ℕ → List (Option Hop)
  os i = offers net dest i (values_on net table)

  pub row_in : (i : ℕ) → IfSome (value_of (table i)) (In (carrier net))
  row_in i = by (table i) (chosen.values_in i)
    where
      by : (o : Option Hop) → ((h : Hop) → o ≡ Some h → In (carrier net) h.value) → IfSome (value_of o) (In (carrier net))
      by None f = tt
      by (Some h) f = f h refl

  -- what is known on an arc is the value of its head's row
  known_on : (i k : ℕ) (a : PureArc) → slice_get (arcs_from net i) k ≡ Some a → values_on net table a.id ≡ value_of (table a.head)
  known_on i k a at = rw (speaks_on net i a (arc_from net n i k a at)) refl

  -- all offers are of the carrier
  arc_in : (i : ℕ) (g : Hop) → IsArcHop net i (values_on net table) g → In (carrier net) g.value
  arc_in i g o =
      let from = arc_from net n i o.place o.arc o.there in
      let x : value_of (table o.arc.head) ≡ Some o.from = sym (known_on i o.place o.arc o.there) ∙ o.is_heard in
      let made : along net o.arc.tail o.arc.head (value_of (table o.arc.head)) ≡ Some g.value = along_arc net n o.arc from.stands (value_of (table o.arc.head)) ∙ (ap (option_and_then (App net.alg.expression o.arc.label)) x ∙ o.made) in
      of_some (In (carrier net)) (along net o.arc.tail o.arc.head (value_of (table o.arc.head))) g.value (along_in net n o.arc.tail o.arc.head (value_of (table o.arc.head)) (row_in o.arc.head)) made

  offers_in : (i : ℕ) → AllIn (carrier net) (os i)
  offers_in i k g e = elim (offer_is net dest i (values_on net table) k g e) [
    | inl own ↦ (own_may net n dest i 0 g own).value_in
    | inr arc ↦ arc_in i g arc
  ]

  -- no offer has a value that is preferred to a row
  offer_unbeaten : (i : ℕ) → i < length net.nodes → (k : ℕ) (g : Hop) → entry_of (os i) k ≡ Some g → IsUnbeatenBy (carrier net) (value_of (table i)) (Some g.value)
  offer_unbeaten i within k g e = by (table i) (chosen.choices i within)
    where
      by : (o : Option Hop) → o ≡ choice net dest i (values_on net table) → IsUnbeatenBy (carrier net) (value_of o) (Some g.value)
      by None f = absurd (none_best (carrier net) (os i) (offers_in i) (sym f) k g e)
      by (Some h) f = (best_is (carrier net) (os i) h (sym f)).unbeaten k g e

  origin_unbeaten : (i : ℕ) → i < length net.nodes → IsUnbeatenBy (carrier net) (value_of (table i)) (origin_value net dest i)
  origin_unbeaten i within = by (origin_value net dest i) refl
    where
      by : (o : Option PureValue) → origin_value net dest i ≡ o → IsUnbeatenBy (carrier net) (value_of (table i)) o
      by None e = none_last (carrier net) (value_of (table i))
      by (Some v) e = offer_unbeaten i within 0 (record { value = v; next = None }) (own_offered net dest i (values_on net table) v e)

  arc_unbeaten : (i j : ℕ) → i < length net.nodes → IsUnbeatenBy (carrier net) (value_of (table i)) (along net i j (value_of (table j)))
  arc_unbeaten i j within = by (along net i j (value_of (table j))) refl
    where
      by : (o : Option PureValue) → along net i j (value_of (table j)) ≡ o → IsUnbeatenBy (carrier net) (value_of (table i)) o
      by None e = none_last (carrier net) (value_of (table i))
      by (Some v) e =
          let at = arc_at net n i j (value_of (table j)) v e in
          let from = option_then (App net.alg.expression at.1.label) (value_of (table j)) v at.4 in
          let heard : values_on net table at.1.id ≡ Some from.0 = known_on i at.0 at.1 at.2 ∙ (ap (λ z. value_of (table z)) at.3 ∙ from.1) in
          offer_unbeaten i within (suc at.0) (record { value = v; next = Some at.1.head }) (arc_offered net dest i (values_on net table) at.0 at.1 from.0 v at.2 heard from.2)

  -- no walk weighs better than the row of its first node
  pub unbeaten : NetHas isotone net → (i : ℕ) (p : List ℕ) → Walk net dest (i ∷ p) → IsUnbeatenBy (carrier net) (value_of (table i)) (Weight net dest (i ∷ p))
  unbeaten m i [] w = origin_unbeaten i (walk_within net n dest i [] w)
  unbeaten m i (j ∷ p) w =
      unbeaten_trans (carrier net) (value_of (table i)) (along net i j (value_of (table j))) (along net i j (Weight net dest (j ∷ p)))
      (row_in i) (along_in net n i j (value_of (table j)) (row_in j)) (along_in net n i j (Weight net dest (j ∷ p)) (weight_in net n dest (j ∷ p)))
      (arc_unbeaten i j (walk_within net n dest i (j ∷ p) w))
      (along_isotone net m i j (value_of (table j)) (Weight net dest (j ∷ p)) (row_in j) (weight_in net n dest (j ∷ p)) (unbeaten m j p w.1))

  -- and where there is no row each walk weighs none
  pub none_weighs : NetHas isotone net → (i : ℕ) (p : List ℕ) → table i ≡ None → Walk net dest (i ∷ p) → Weight net dest (i ∷ p) ≡ None
  none_weighs m i p e w = by (Weight net dest (i ∷ p)) (rw e at (unbeaten m i p w))
    where
      by : (o : Option PureValue) → IsUnbeatenBy (carrier net) None o → o ≡ None
      by None f = refl
      by (Some v) f = absurd (f refl)

-- ---- next hops

-- the row has a value that is preferred to this one
abbrev is_before : PureCarrier → Option PureValue → PureValue → Bool
is_before c None v = false
is_before c (Some u) v = is_less (Order c u v)

-- how many of the first nodes have such a row
abbrev before_count : PureCarrier → HopTable → PureValue → ℕ → ℕ
before_count c table v zero = 0
before_count c table v (suc n) = cond (is_before c (value_of (table n)) v) 1 0 + before_count c table v n

-- these nodes have no other rows than such
abbrev AreBefore : PureCarrier → HopTable → PureValue → List ℕ → Type 0
AreBefore c table v path = AllByRecursion (λ k. (g : Hop) → table k ≡ Some g → Order c g.value v ≡ Less) path

-- next hops lead from the node, and each next row has a better value
record IsLed (net : PureNet) (dest : ℕ) (table : HopTable) (i : ℕ) (h : Hop) : Type 0 where
  pub rest : List ℕ
  pub follows : Follows table i (i ∷ rest)
  pub apart : distinct (i ∷ rest) ≡ true
  pub walk : Walk net dest (i ∷ rest)
  pub weighs : Weight net dest (i ∷ rest) ≡ Some h.value
  pub before : AreBefore (carrier net) table h.value rest

at_most_one : (b d : Bool) → (b ≡ true → d ≡ true) → cond b 1 0 ≤ cond d 1 0
at_most_one true true f = omega arith
at_most_one true false f = absurd (let e = f refl in cc)
at_most_one false true f = omega arith
at_most_one false false f = omega arith

module _ (c : PureCarrier) (table : HopTable) (all : (i : ℕ) (h : Hop) → table i ≡ Some h → In c h.value) (w v : PureValue) (w_in : In c w) (v_in : In c v) (less : Order c w v ≡ Less) where
  before_more : (i : ℕ) → is_before c (value_of (table i)) w ≡ true → is_before c (value_of (table i)) v ≡ true
  before_more i = by (table i) refl
    where
      by : (o : Option Hop) → table i ≡ o → is_before c (value_of o) w ≡ true → is_before c (value_of o) v ≡ true
      by None e f = absurd (cc)
      by (Some g) e f = rw ((total_preorder c).trans g.value w v (all i g e) w_in v_in (to_less (Order c g.value w) f) less) refl

  count_grows : (n : ℕ) → before_count c table w n ≤ before_count c table v n
  count_grows zero = omega arith
  count_grows (suc n) =
      let one = at_most_one (is_before c (value_of (table n)) w) (is_before c (value_of (table n)) v) (before_more n) in
      let more = count_grows n in
      omega (arith, one, more)

  -- a node whose row is the better value counts for the other alone
  count_falls : (n j : ℕ) (g : Hop) → j < n → table j ≡ Some g → g.value ≡ w → before_count c table w n < before_count c table v n
  count_falls zero j g l e f = absurd (omega (arith, l))
  count_falls (suc n) j g l e f = by (λ below. count_falls n j g below e f) (j == n) refl
    where
      by : (j < n → before_count c table w n < before_count c table v n) → (b : Bool) → (j == n) ≡ b → before_count c table w (suc n) < before_count c table v (suc n)
      by rest true h =
          let place : n ≡ j = sym (eqb-true j n h) in
          let own : is_before c (value_of (table n)) w ≡ false = rw (place, e, f) (to_not_less (Order c w w) (not_itself c w w_in)) in
          let other : is_before c (value_of (table n)) v ≡ true = rw (place, e, f, less) refl in
          let more = count_grows n in
          rw (own, other) (omega (arith, more))
      by rest false h =
          let below : j < n = grind (arith, nat_tests) in
          let one = at_most_one (is_before c (value_of (table n)) w) (is_before c (value_of (table n)) v) (before_more n) in
          let more = rest below in
          omega (arith, one, more)

  -- what is before the better value is before the other
  all_before : (path : List ℕ) → AreBefore c table w path → AreBefore c table v path
  all_before [] h = tt
  all_before (k ∷ path) h = (λ g e. (total_preorder c).trans g.value w v (all k g e) w_in v_in (h.0 g e) less, all_before path h.1)

-- a node isn't among those whose rows are better than its own
not_among : (c : PureCarrier) (table : HopTable) (i : ℕ) (h : Hop) → In c h.value → table i ≡ Some h → (path : List ℕ) → AreBefore c table h.value path → list_any (λ k. k == i) path ≡ false
not_among c table i h inn e [] b = refl
not_among c table i h inn e (k ∷ path) b = by (not_among c table i h inn e path b.1) (k == i) refl
  where
    by : list_any (λ k. k == i) path ≡ false → (t : Bool) → (k == i) ≡ t → (t || list_any (λ k. k == i) path) ≡ false
    by rest true f = absurd (not_itself c h.value inn (b.0 h (ap table (eqb-true k i f) ∙ e)))
    by rest false f = rest

module _ (net : PureNet) (n : IsNet net) (dest : ℕ) (table : HopTable) (chosen : IsChosen net dest table) (m : NetHas strict net) where
  h_in : (i : ℕ) (h : Hop) → table i ≡ Some h → In (carrier net) h.value
  h_in = chosen.values_in

  led_own : (i : ℕ) (h : Hop) → table i ≡ Some h → IsOwnHop net dest i h → IsLed net dest table i h
  led_own i h e o = record {
    rest = [];
    follows = (refl, (h, e, o.next));
    apart = refl;
    walk = (of_some (IsOrigin net dest i) (origin_value net dest i) h.value (origins_are net n dest i) o.value).has;
    weighs = o.value;
    before = tt;
  }

  -- the row of the head of the arc that a row is made by
  record IsStep (i : ℕ) (h : Hop) : Type 0 where
    pub next : ℕ
    pub within : next < length net.nodes
    pub row : Hop
    pub there : table next ≡ Some row
    pub is_next : h.next ≡ Some next
    pub has : has_arc net i next ≡ true
    pub made : along net i next (Some row.value) ≡ Some h.value
    pub less : Order (carrier net) row.value h.value ≡ Less

  step_of_arc : (i : ℕ) (h : Hop) → IsArcHop net i (values_on net table) h → IsStep i h
  step_of_arc i h o =
      let from = arc_from net n i o.place o.arc o.there in
      let x : value_of (table o.arc.head) ≡ Some o.from = sym (known_on net n dest table chosen i o.place o.arc o.there) ∙ o.is_heard in
      let row = option_from (λ (g : Hop). g.value) (table o.arc.head) o.from x in
      let made : along net o.arc.tail o.arc.head (Some row.0.value) ≡ Some h.value = along_arc net n o.arc from.stands (Some row.0.value) ∙ (ap (App net.alg.expression o.arc.label) row.2 ∙ o.made) in
      let found = found_between net.arcs n.arc_apart o.arc.id o.arc from.stands in
      let is_strict : Has strict net.alg.expression o.arc.label = of_some (Has strict net.alg.expression) (label_between net o.arc.tail o.arc.head) o.arc.label (labels_have strict net m o.arc.tail o.arc.head) (ap (option_map (λ (b : PureArc). b.label)) found) in
      record {
        next = o.arc.head;
        within = from.is_arc.head_in;
        row = row.0;
        there = row.1;
        is_next = o.next;
        has = subst (λ z. has_arc net z o.arc.head ≡ true) from.tail (find_any (is_arc_between o.arc.tail o.arc.head) net.arcs o.arc found);
        made = subst (λ z. along net z o.arc.head (Some row.0.value) ≡ Some h.value) from.tail made;
        less = rw (ap (App net.alg.expression o.arc.label) row.2 ∙ o.made) at (is_strict row.0.value (h_in o.arc.head row.0 row.1));
      }

  led_more : (i : ℕ) (h : Hop) → table i ≡ Some h → (s : IsStep i h) → IsLed net dest table s.next s.row → IsLed net dest table i h
  led_more i h e s l =
      let inn = h_in i h e in
      let row_inn = h_in s.next s.row s.there in
      let before : AreBefore (carrier net) table h.value (s.next ∷ l.rest) = (
        λ g f. rw (← same_Some _ _ (sym s.there ∙ f)) s.less,
        all_before (carrier net) table h_in s.row.value h.value row_inn inn s.less l.rest l.before,
      ) in
      record {
        rest = s.next ∷ l.rest;
        follows = (refl, (h, e, s.is_next), l.follows);
        apart = rw (not_among (carrier net) table i h inn e (s.next ∷ l.rest) before) l.apart;
        walk = (s.has, l.walk);
        weighs = rw l.weighs s.made;
        before = before;
      }

  led : (fuel i : ℕ) (h : Hop) → i < length net.nodes → table i ≡ Some h → before_count (carrier net) table h.value (length net.nodes) < fuel → IsLed net dest table i h
  led zero i h within e l = absurd (omega (arith, l))
  led (suc fuel) i h within e l = elim (offer_is net dest i (values_on net table) best.place h best.there) [
    | inl own ↦ led_own i h e own
    | inr arc ↦ next (λ j g inside there below. led fuel j g inside there below) (step_of_arc i h arc)
  ]
    where
      best : IsUnbeatenEntry (carrier net) (offers net dest i (values_on net table)) h
      best = best_is (carrier net) (offers net dest i (values_on net table)) h (sym (chosen.choices i within) ∙ e)

      next : ((j : ℕ) (g : Hop) → j < length net.nodes → table j ≡ Some g → before_count (carrier net) table g.value (length net.nodes) < fuel → IsLed net dest table j g) → IsStep i h → IsLed net dest table i h
      next rest s =
          let falls = count_falls (carrier net) table h_in s.row.value h.value (h_in s.next s.row s.there) (h_in i h e) s.less (length net.nodes) s.next s.row s.within s.there refl in
          led_more i h e s (rest s.next s.row s.within s.there (omega (arith, falls, l)))

  -- next hops lead along a walk that weighs the row's value
  pub next_hops_lead : (i : ℕ) (h : Hop) → i < length net.nodes → table i ≡ Some h → Leads net dest table i h
  next_hops_lead i h within e =
      let l = led (suc (before_count (carrier net) table h.value (length net.nodes))) i h within e (omega arith) in
      record { path = i ∷ l.rest; follows = l.follows; apart = l.apart; walk = l.walk; weighs = l.weighs }
