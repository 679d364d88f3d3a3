-- A delivery keeps a machine coherent. Lemmas, so that proofs of other crates may cite them.
use Rattle.std.proofs.Common.{◌≡◌, ℕ, ◌<◌, ◌≤◌, ◌⊎◌, inl, inr, List, [], ◌∷◌, ◌++◌, Bool, true, false, ◌&&◌, ◌==◌, cond, Option, Some, subst, refl, sym, ap, ◌∙◌, arith}
use Rattle.std.specs.List.{AllByRecursion}
use Rattle.std.proofs.Math.Path.{fun_ext}
use Rattle.std.proofs.lemmas.Bool.{and_right, eqb-true}
use Rattle.std.proofs.lemmas.Bool.Decides.{nat_tests}
use Rattle.std.proofs.lemmas.Option.{same_Some}
use Rattle.meta_base.specs.declared.ids.Delivery.{Delivery}
use Rattle.alg_model.specs.Bounds.{AtMost}
use Rattle.alg_model.specs.Carriers.{In}
use Rattle.alg_model.specs.Expressions.{PureValue}
use Rattle.net_graph.specs.Nets.{PureNet, IsNet, arcs_to}
use Rattle.net_graph.specs.Tables.{carrier}
use Rattle.node_core.specs.Kinds.{on_arc, listener, speaker}
use Rattle.node_core.specs.Machine.{Machine, changed_at, clock_after, Start, Deliver, Replay}
use Rattle.node_core.specs.MachineLaws.{same_test, at_each, all_join, IsDelivery, option_from, delivery_of, deliver_runs, replay_keeps}
use Rattle.distance_node.specs.Coherent.{IsCoherent, IsHeard, last_reported}
use Rattle.distance_node.specs.Fitting.{fits_from, fits_parts, fits_dest, reported_is_heard, heard_later, same_reported_is, last_reported_append}
use Rattle.distance_node.specs.Lawful.{distance_is_lawful}
use Rattle.distance_node.specs.Node.{Hop, DvState, PureVector, value_of, choice, greatest_at, fits_in, vector_of, reported_on, heard_with, same_reported, taken, Step, distance, new_nodes}
use Rattle.distance_node.specs.Offers.{MayTell, choice_may}
use Rattle.distance_node.specs.Starting.{start_is_coherent}
use Rattle.distance_node.specs.Reported.{speaks, reported_once}

module _ (net : PureNet) (n : IsNet net) (c : Machine DvState PureVector) (k : IsCoherent net c) (a : ℕ) (d : Machine DvState PureVector) (w : IsDelivery distance net c a d) where
  abbrev i : ℕ
  i = w.number

  abbrev s : DvState
  s = w.node

  abbrev m : PureVector
  m = w.message

  abbrev clock : ℕ
  clock = clock_after distance c i m

  -- what the listener heard then, its row, and what it tells of that
  abbrev heard : ℕ → ℕ → Option PureValue
  heard = heard_with s.heard a m.dest m.value

  abbrev row : Option Hop
  row = choice net m.dest i (λ b. heard b m.dest)

  abbrev news : PureVector
  news = vector_of m.dest row clock

  abbrev is_old : Bool
  is_old = same_reported (value_of row) (value_of (s.rows m.dest))

  fit : fits_in net m ≡ true
  fit = (subst (AllByRecursion (λ v. fits_in net v ≡ true)) w.front (k.fit a)).0

  net_is : s.net ≡ net
  net_is = (k.running.each i s w.there).net_is

  number_is : s.number ≡ i
  number_is = (k.running.each i s w.there).number_is

  -- what the listener becomes, and what it puts out
  pub record IsTaker (t : DvState) (out : List (ℕ × PureVector)) : Type 0 where
    pub heard_is : (b dest : ℕ) → t.heard b dest ≡ heard b dest
    pub rows_are : (dest : ℕ) → t.rows dest ≡ changed_at s.rows m.dest row dest
    pub puts : (b : ℕ) → on_arc b out ≡ cond (speaks net i b) (cond is_old [] (news ∷ [])) []

  -- its row and what it puts out, by its network and its number
  abbrev row_in : PureNet → ℕ → Option Hop
  row_in z j = choice z m.dest j (λ b. heard b m.dest)

  abbrev out_in : PureNet → ℕ → List (ℕ × PureVector)
  out_in z j = cond (same_reported (value_of (row_in z j)) (value_of (s.rows m.dest))) [] (reported_on (arcs_to z j) (vector_of m.dest (row_in z j) clock))

  row_is : row_in s.net s.number ≡ row
  row_is = ap (λ z. row_in z s.number) net_is ∙ ap (row_in net) number_is

  out_is : out_in s.net s.number ≡ out_in net i
  out_is = ap (λ z. out_in z s.number) net_is ∙ ap (out_in net) number_is

  put : (b : ℕ) (o : Bool) → on_arc b (cond o [] (reported_on (arcs_to net i) news)) ≡ cond (speaks net i b) (cond o [] (news ∷ [])) []
  put b true = nothing (speaks net i b)
    where
      nothing : (t : Bool) → [] ≡ cond {A = List PureVector} t [] []
      nothing true = refl
      nothing false = refl
  put b false = reported_once net i b news n

  is_taker : IsTaker (taken s a m clock).0 (taken s a m clock).1
  is_taker = record {
    heard_is = λ b dest. refl;
    rows_are = λ dest. ap (λ r. changed_at s.rows m.dest r dest) row_is;
    puts = λ b. ap (on_arc b) out_is ∙ put b is_old;
  }

  -- the message fits, so it is taken
  is_step : Step s a m clock ≡ taken s a m clock
  is_step = ap (λ b. cond b (taken s a m clock) (record s { last = clock }, [])) (ap (λ z. fits_in z m) net_is ∙ fit)

  taker_is : IsTaker (Step s a m clock).0 (Step s a m clock).1
  taker_is = subst (λ (p : DvState × List (ℕ × PureVector)). IsTaker p.0 p.1) (sym is_step) is_taker

  abbrev taker : DvState
  taker = (Step s a m clock).0

  abbrev sent : List (ℕ × PureVector)
  sent = (Step s a m clock).1

  node_after : (j : ℕ) → d.node j ≡ changed_at c.node i (Some taker) j
  node_after j = ap (λ x. x.node j) w.makes

  clock_at : (j : ℕ) → d.clock j ≡ changed_at c.clock i clock j
  clock_at j = ap (λ x. x.clock j) w.makes

  link_after : (b : ℕ) → d.link b ≡ changed_at c.link a w.rest b ++ on_arc b sent
  link_after b = ap (λ x. x.link b) w.makes

  -- each node is the taker, or as it was
  was : (j : ℕ) (t : DvState) → d.node j ≡ Some t → ((j ≡ i) × (t ≡ taker)) ⊎ (((j == i) ≡ false) × (c.node j ≡ Some t))
  was j t e = by (j == i) refl (sym (node_after j) ∙ e)
    where
      by : (b : Bool) → (j == i) ≡ b → cond b (Some taker) (c.node j) ≡ Some t → ((j ≡ i) × (t ≡ taker)) ⊎ (((j == i) ≡ false) × (c.node j ≡ Some t))
      by true h g = inl (eqb-true j i h, sym (same_Some _ _ g))
      by false h g = inr (h, g)

  clock_here : d.clock i ≡ clock
  clock_here = clock_at i ∙ ap (λ b. cond b clock (c.clock i)) (same_test i)

  clock_there : (j : ℕ) → (j == i) ≡ false → d.clock j ≡ c.clock j
  clock_there j e = clock_at j ∙ ap (λ b. cond b clock (c.clock j)) e

  -- ---- what was heard

  rises : c.clock i ≤ clock
  rises = grind arith

  above : m.stamp < clock
  above = grind arith

  heard_known : (b dest : ℕ) (v : PureValue) → heard b dest ≡ Some v → IsHeard net dest clock v
  heard_known b dest v e = by (b == a) (dest == m.dest) refl refl e
    where
      by : (x y : Bool) → (b == a) ≡ x → (dest == m.dest) ≡ y → cond (x && y) m.value (s.heard b dest) ≡ Some v → IsHeard net dest clock v
      by true true f g h =
          let same : dest ≡ m.dest = eqb-true dest m.dest g in
          subst (λ z. IsHeard net z clock v) (sym same) (reported_is_heard net m.dest m.stamp clock v above (fits_parts net m fit v h))
      by true false f g h = heard_later net dest (c.clock i) clock v rises (k.known i b dest s v w.there h)
      by false y f g h = heard_later net dest (c.clock i) clock v rises (k.known i b dest s v w.there h)

  known_after : (j b dest : ℕ) (t : DvState) (v : PureValue) → d.node j ≡ Some t → t.heard b dest ≡ Some v → IsHeard net dest (d.clock j) v
  known_after j b dest t v e h = elim (was j t e) [
    | inl here ↦ subst (λ z. IsHeard net dest (d.clock z) v) (sym here.0) (subst (λ z. IsHeard net dest z v) (sym clock_here)
        (heard_known b dest v (sym (taker_is.heard_is b dest) ∙ (ap (λ (q : DvState). q.heard b dest) (sym here.1) ∙ h))))
    | inr there ↦ subst (λ z. IsHeard net dest z v) (sym (clock_there j there.0)) (k.known j b dest t v there.1 h)
  ]

  -- ---- rows

  other_heard : (dest : ℕ) → (dest == m.dest) ≡ false → ◌≡◌ {A = ℕ → Option PureValue} (λ b. s.heard b dest) (λ b. taker.heard b dest)
  other_heard dest e = fun_ext (λ b. sym (taker_is.heard_is b dest ∙ ap (λ t. cond t m.value (s.heard b dest)) (and_right (b == a) (dest == m.dest) e)))

  row_here : (dest : ℕ) → taker.rows dest ≡ choice net dest i (λ b. taker.heard b dest)
  row_here dest = taker_is.rows_are dest ∙ by (dest == m.dest) refl
    where
      by : (b : Bool) → (dest == m.dest) ≡ b → cond b row (s.rows dest) ≡ choice net dest i (λ b. taker.heard b dest)
      by true e =
          let same : m.dest ≡ dest = sym (eqb-true dest m.dest e) in
          ap (λ z. choice net z i (λ b. heard b z)) same ∙ ap (choice net dest i) (fun_ext (λ b. sym (taker_is.heard_is b dest)))
      by false e = k.chosen i dest s w.there ∙ ap (choice net dest i) (other_heard dest e)

  chosen_after : (j dest : ℕ) (t : DvState) → d.node j ≡ Some t → t.rows dest ≡ choice net dest j (λ b. t.heard b dest)
  chosen_after j dest t e = elim (was j t e) [
    | inl here ↦ subst (λ (q : DvState). q.rows dest ≡ choice net dest j (λ b. q.heard b dest)) (sym here.1) (subst (λ z. taker.rows dest ≡ choice net dest z (λ b. taker.heard b dest)) (sym here.0) (row_here dest))
    | inr there ↦ k.chosen j dest t there.1
  ]

  -- ---- what waits

  row_may : (h : Hop) → row ≡ Some h → MayTell net m.dest clock h.value
  row_may h e = choice_may net n m.dest i clock (λ b. heard b m.dest) (λ q x v at f. heard_known x.id m.dest v f) h e

  news_fit : fits_in net news ≡ true
  news_fit = fits_from net news (fits_dest net m fit) by
    where
      by : (v : PureValue) → value_of row ≡ Some v → In (carrier net) v × AtMost (greatest_at clock) v
      by v e =
          let from = option_from (λ (h : Hop). h.value) row v e in
          let may = row_may from.0 from.1 in
          subst (λ z. In (carrier net) z × AtMost (greatest_at clock) z) from.2 (may.value_in, may.small)

  fit_after : (b : ℕ) → AllByRecursion (λ v. fits_in net v ≡ true) (d.link b)
  fit_after b =
      subst (AllByRecursion (λ v. fits_in net v ≡ true)) (sym (link_after b))
      (all_join (λ v. fits_in net v ≡ true) (changed_at c.link a w.rest b) (on_arc b sent)
      (at_each (λ x. AllByRecursion (λ v. fits_in net v ≡ true) (changed_at c.link a w.rest x)) a (rw (same_test a) left) (λ x ne. rw ne (k.fit x)) b)
      (subst (AllByRecursion (λ v. fits_in net v ≡ true)) (sym (taker_is.puts b)) (new (speaks net i b) is_old)))
    where
      left : AllByRecursion (λ v. fits_in net v ≡ true) w.rest
      left = (subst (AllByRecursion (λ v. fits_in net v ≡ true)) w.front (k.fit a)).1

      new : (x y : Bool) → AllByRecursion (λ v. fits_in net v ≡ true) (cond x (cond y [] (news ∷ [])) [])
      new true true = tt
      new true false = (news_fit, tt)
      new false y = tt

  -- what was heard, with what waits, says as much as before
  same_said : (b j dest : ℕ) (o t : DvState) → listener net b ≡ Some j → c.node j ≡ Some o → d.node j ≡ Some t
      → last_reported dest (t.heard b dest) (changed_at c.link a w.rest b) ≡ last_reported dest (o.heard b dest) (c.link b)
  same_said b j dest o t li eo et = by (b == a) refl
    where
      -- what another arc said is as it was
      kept : (b == a) ≡ false → t.heard b dest ≡ o.heard b dest
      kept e = elim (was j t et) [
        | inl here ↦
            let same : o ≡ s = same_Some _ _ (sym eo ∙ (ap c.node here.0 ∙ w.there)) in
            ap (λ (q : DvState). q.heard b dest) here.1 ∙ (taker_is.heard_is b dest ∙ (ap (λ z. cond (z && (dest == m.dest)) m.value (s.heard b dest)) e ∙ ap (λ (q : DvState). q.heard b dest) (sym same)))
        | inr there ↦ ap (λ (q : DvState). q.heard b dest) (same_Some _ _ (sym there.1 ∙ eo))
      ]

      taken_here : b ≡ a → last_reported dest (t.heard b dest) w.rest ≡ last_reported dest (o.heard b dest) (c.link b)
      taken_here e =
          let node : j ≡ i = same_Some _ _ (sym li ∙ (ap (listener net) e ∙ w.listens)) in
          let old : o ≡ s = same_Some _ _ (sym eo ∙ (ap c.node node ∙ w.there)) in
          let new : t ≡ taker = same_Some _ _ (sym et ∙ (ap d.node node ∙ (node_after i ∙ ap (λ z. cond z (Some taker) (c.node i)) (same_test i)))) in
          rw (e, old, new, w.front, taker_is.heard_is a dest, same_test a) (turned (dest == m.dest) refl)
        where
          turned : (x : Bool) → (dest == m.dest) ≡ x → last_reported dest (cond x m.value (s.heard a dest)) w.rest ≡ last_reported dest (s.heard a dest) (m ∷ w.rest)
          turned true f =
              let g : (m.dest == dest) ≡ true = grind (arith, nat_tests) in
              rw g refl
          turned false f =
              let g : (m.dest == dest) ≡ false = grind (arith, nat_tests) in
              rw g refl

      by : (x : Bool) → (b == a) ≡ x → last_reported dest (t.heard b dest) (cond x w.rest (c.link b)) ≡ last_reported dest (o.heard b dest) (c.link b)
      by true e = taken_here (eqb-true b a e)
      by false e = ap (λ z. last_reported dest z (c.link b)) (kept e)

  -- and what is put out says what becomes of the speaker's row
  new_said : (b j dest : ℕ) (o t : DvState) → speaker net b ≡ Some j → c.node j ≡ Some o → d.node j ≡ Some t → last_reported dest (value_of (o.rows dest)) (on_arc b sent) ≡ value_of (t.rows dest)
  new_said b j dest o t sp eo et = ap (last_reported dest (value_of (o.rows dest))) (taker_is.puts b) ∙ elim (was j t et) [
    | inl here ↦ taker_says here.0 here.1
    | inr there ↦
        let apart : speaks net i b ≡ false = rw sp there.0 in
        let same : o ≡ t = same_Some _ _ (sym eo ∙ there.1) in
        rw (apart, same) refl
  ]
    where
      taker_says : j ≡ i → t ≡ taker → last_reported dest (value_of (o.rows dest)) (cond (speaks net i b) (cond is_old [] (news ∷ [])) []) ≡ value_of (t.rows dest)
      taker_says node new =
          let old : o ≡ s = same_Some _ _ (sym eo ∙ (ap c.node node ∙ w.there)) in
          let here : speaks net i b ≡ true = rw (sp, node) (same_test i) in
          rw (here, old, new, taker_is.rows_are dest) (by is_old refl (dest == m.dest) refl)
        where
          by : (x : Bool) → is_old ≡ x → (y : Bool) → (dest == m.dest) ≡ y → last_reported dest (value_of (s.rows dest)) (cond x [] (news ∷ [])) ≡ value_of (cond y row (s.rows dest))
          by true e true f =
              let same : dest ≡ m.dest = eqb-true dest m.dest f in
              ap (λ z. value_of (s.rows z)) same ∙ sym (same_reported_is (value_of row) (value_of (s.rows m.dest)) e)
          by true e false f = refl
          by false e true f =
              let g : (m.dest == dest) ≡ true = grind (arith, nat_tests) in
              rw g refl
          by false e false f =
              let g : (m.dest == dest) ≡ false = grind (arith, nat_tests) in
              rw g refl

  reported_after : (b x y dest : ℕ) (p q : DvState) → listener net b ≡ Some x → speaker net b ≡ Some y → d.node x ≡ Some p → d.node y ≡ Some q → last_reported dest (p.heard b dest) (d.link b) ≡ value_of (q.rows dest)
  reported_after b x y dest p q li sp ep eq =
      let old_p = there x p ep in
      let old_q = there y q eq in
      ap (last_reported dest (p.heard b dest)) (link_after b)
      ∙ (last_reported_append dest (p.heard b dest) (changed_at c.link a w.rest b) (on_arc b sent)
      ∙ (ap (λ z. last_reported dest z (on_arc b sent)) (same_said b x dest old_p.0 p li old_p.1 ep ∙ k.reported b x y dest old_p.0 old_q.0 li sp old_p.1 old_q.1)
      ∙ new_said b y dest old_q.0 q sp old_q.1 eq))
    where
      there : (j : ℕ) (t : DvState) → d.node j ≡ Some t → (o : DvState) × (c.node j ≡ Some o)
      there j t e = elim (was j t e) [
        | inl here ↦ (s, ap c.node here.0 ∙ w.there)
        | inr old ↦ (t, old.1)
      ]

-- a delivery keeps a machine coherent
pub delivery_keeps : (net : PureNet) → IsNet net → (c d : Machine DvState PureVector) (a : ℕ) → IsCoherent net c → Deliver distance net c a ≡ Some d → IsCoherent net d
delivery_keeps net n c d a k e =
    let w = delivery_of distance net c a d e in
    record {
      running = deliver_runs distance distance_is_lawful net n c d a k.running e;
      fit = fit_after net n c k a d w;
      known = known_after net n c k a d w;
      chosen = chosen_after net n c k a d w;
      reported = reported_after net n c k a d w;
    }

-- whatever deliveries are made from the new nodes of a network, the machine is coherent
pub runs_are_coherent : (net : PureNet) (journal : List Delivery) (c : Machine DvState PureVector) → IsNet net → Replay distance net (new_nodes net) journal ≡ Some c → IsCoherent net c
runs_are_coherent net journal c n e = replay_keeps distance net (IsCoherent net) (delivery_keeps net n) journal (Start distance (new_nodes net)) c (start_is_coherent net n) e
