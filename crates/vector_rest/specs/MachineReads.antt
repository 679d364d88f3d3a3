-- On a network whose labels are monotone, the updates of path-vector nodes have budgets by what is known on their arcs.
-- Lemmas, so that proofs of other crates may cite them.
use Rattle.std.proofs.Common.{◌≡◌, ℕ, ◌+◌, ◌-◌, ◌<◌, ◌≤◌, List, [], ◌∷◌, Bool, true, false, ◌&&◌, cond, Option, Some, None, slice_get, length, option_map, option_and_then, subst, refl, sym, ◌∙◌, ap, arith}
use Rattle.std.specs.Prelude.{◌==◌, min}
use Rattle.std.specs.List.{AllByRecursion, find}
use Rattle.std.proofs.Math.Path.{fun_ext}
use Rattle.std.proofs.lemmas.Bool.{eqb-true}
use Rattle.std.proofs.lemmas.Bool.Decides.{nat_tests}
use Rattle.std.proofs.lemmas.Slice.Eq.{bytes_eq-Decides}
use Rattle.meta_base.specs.declared.ids.Delivery.{Delivery}
use Rattle.alg_model.specs.Properties.{monotone}
use Rattle.alg_model.specs.Tests.{same_value-Decides}
use Rattle.net_graph.specs.Nets.{PureArc, PureNet, IsNet, is_arc_between}
use Rattle.net_graph.specs.Routes.{PureRoute}
use Rattle.net_graph.specs.Tables.{NetHas, IsChoice}
use Rattle.node_core.specs.Kinds.{listener, speaker, on_arc}
use Rattle.node_core.specs.Machine.{Machine, changed_at, step_of, Deliver, replay_from}
use Rattle.node_core.specs.Running.{IsRunning}
use Rattle.node_core.specs.MachineLaws.{same_test, on_arc_none, IsDelivery}
use Rattle.path_vector.specs.Node.{PvState, PureUpdate, fits, same_row, begins_with, may_be_of, choice, heard_with, taken, path_vector}
use Rattle.path_vector.specs.Coherent.{heard_of, last_said, IsNode, IsCoherent}
use Rattle.path_vector.specs.Items.{IsItem, item_at}
use Rattle.path_vector.specs.Reporting.{id_is_place}
use Rattle.path_vector.specs.Choosing.{reported_by, IsArcThere, found_there, arc_is_found, arc_is_in, may_be_parts}
use Rattle.path_vector.specs.Quiet.{short_path}
use Rattle.path_vector.specs.Words.{fits_is, fits_parts, heard_of_is}
use Rattle.path_vector.specs.Lawful.{path_vector_is_lawful}
use Rattle.path_vector.specs.Delivering.{node_is, same_arcs, taken_is, delivery_keeps}
use Rattle.rest_laws.specs.Ways.{left}
use Rattle.rest_laws.specs.Budgets.{Reaches, known_after, read_budgets, AreRead, known_budgets}
use Rattle.rest_laws.specs.ReadLaws.{read_rest}
use Rattle.vector_rest.specs.Reached.{start_values}
use Rattle.vector_rest.specs.ReachedLaws.{reached_up, reached_in, start_in}
use Rattle.vector_rest.specs.Reaching.{IsReached, HeardReached}
use Rattle.vector_rest.specs.MachineReach.{heard_from, IsTaker, taker, clock, after, out, row, steps, node_is_after, here_after, row_after, rows_reached, reached_after, AreReached, replays_reach}
use Rattle.settled_laws.specs.Offers.{ReportsOwnPaths}
use Rattle.vector_rest.specs.Levels.{Occurs, ReportsOnly, AreLevels, learn, known_on, values_from, level_from, budget_from}
use Rattle.vector_rest.specs.LevelLaws.{levels_are}
use Rattle.vector_rest.specs.ChoiceLaws.{levels_rise}

-- a row is the same as itself
same_row_itself : (r : Option PureRoute) → same_row r r ≡ true
same_row_itself None = refl
same_row_itself (Some r) = rw ((same_value-Decides r.value r.value).1 refl, (bytes_eq-Decides r.path r.path).1 refl) refl

turned_test : (x y : ℕ) → (x == y) ≡ (y == x)
turned_test x y = grind (arith, nat_tests)

-- what is known of a destination after updates is what they say last
known_after_said : (known : ℕ → Option PureRoute) (dest : ℕ) (us : List PureUpdate) → known_after learn known us dest ≡ last_said dest (known dest) us
known_after_said known dest [] = refl
known_after_said known dest (u ∷ us) = known_after_said (learn known u) dest us

-- a path that begins with a node
begun_path : (j : ℕ) (path : List ℕ) → begins_with j path ≡ true → (p : List ℕ) × (path ≡ j ∷ p)
begun_path j [] e = absurd (cc)
begun_path j (x ∷ p) e = (p, ap (λ z. z ∷ p) (eqb-true x j e))

drops : (top a b c d : ℕ) → min a b < min c d → d ≤ top → top - min c d < top - min a b
drops top a b c d h g = omega (arith, h, g)

module _ (net : PureNet) (n : IsNet net) (c d : Machine PvState PureUpdate) (a : ℕ) (kc : IsCoherent net c) (w : IsDelivery path_vector net c a d) where
  -- a delivery teaches its arc the update
  learns : known_on net d a ≡ learn (known_on net c a) w.message
  learns = fun_ext (λ dest. now dest ∙ (by dest ∙ ap (λ r. cond (w.message.dest == dest) w.message.route r) (sym (old dest))))
    where
      old : (dest : ℕ) → known_on net c a dest ≡ w.node.heard a dest
      old dest = rw (w.listens, w.there) refl

      now : (dest : ℕ) → known_on net d a dest ≡ heard_with w.node.heard a w.message a dest
      now dest = rw (w.listens, here_after net n c d a kc w) refl

      by : (dest : ℕ) → heard_with w.node.heard a w.message a dest ≡ cond (w.message.dest == dest) w.message.route (w.node.heard a dest)
      by dest = rw (same_test a, turned_test dest w.message.dest) refl

  -- and no other arc anything
  keeps : (b : ℕ) → (b == a) ≡ false → known_on net d b ≡ known_on net c b
  keeps b ne = fun_ext (λ dest. by dest (listener net b))
    where
      other : (dest : ℕ) → heard_with w.node.heard a w.message b dest ≡ w.node.heard b dest
      other dest = rw ne refl

      at : (dest i : ℕ) (t : Bool) → (i == w.number) ≡ t → option_and_then (λ (s : PvState). s.heard b dest) (cond t (Some (after net n c d a kc w)) (c.node i)) ≡ option_and_then (λ (s : PvState). s.heard b dest) (c.node i)
      at dest i true e =
          let node : c.node i ≡ Some w.node = subst (λ z. c.node z ≡ Some w.node) (sym (eqb-true i w.number e)) w.there in
          other dest ∙ sym (ap (λ o. option_and_then (λ (s : PvState). s.heard b dest) o) node)
      at dest i false e = refl

      by : (dest : ℕ) (o : Option ℕ) → option_and_then (λ i. option_and_then (λ (s : PvState). s.heard b dest) (d.node i)) o ≡ option_and_then (λ i. option_and_then (λ (s : PvState). s.heard b dest) (c.node i)) o
      by dest None = refl
      by dest (Some i) = ap (λ o. option_and_then (λ (s : PvState). s.heard b dest) o) (node_is_after net n c d a kc w i) ∙ at dest i (i == w.number) refl

  -- what the node heard of the speaker, before and after
  module _ (x : IsTaker net n c d a kc w) where
    is : (w.node.net ≡ net) × (w.node.number ≡ w.number) × (w.node.is_begun ≡ true)
    is = node_is net c kc w.number w.node w.there

    item : IsItem x.arc net.arcs
    item = item_at net.arcs x.arc.id x.arc x.stands

    found : find (is_arc_between w.number x.arc.head) net.arcs ≡ Some x.arc
    found = subst (λ z. find (is_arc_between z x.arc.head) net.arcs ≡ Some x.arc) x.tail (arc_is_found net x.arc n item)

    heard_old : (dest : ℕ) → heard_of w.node dest x.arc.head ≡ known_on net c a dest
    heard_old dest =
        let here : reported_by net w.number (λ b. w.node.heard b dest) x.arc.head ≡ w.node.heard x.arc.id dest = rw found refl in
        let known : known_on net c a dest ≡ w.node.heard a dest = rw (w.listens, w.there) refl in
        heard_of_is net w.node w.number dest x.arc.head is.0 is.1 ∙ (here ∙ (ap (λ z. w.node.heard z dest) x.id ∙ sym known))

    heard_new : heard_of (after net n c d a kc w) w.message.dest x.arc.head ≡ w.message.route
    heard_new =
        let here : reported_by net w.number (λ b. heard_with w.node.heard a w.message b w.message.dest) x.arc.head ≡ heard_with w.node.heard a w.message x.arc.id w.message.dest = rw found refl in
        let id : (x.arc.id == a) ≡ true = subst (λ z. (x.arc.id == z) ≡ true) x.id (same_test x.arc.id) in
        let said : heard_with w.node.heard a w.message x.arc.id w.message.dest ≡ w.message.route = rw (id, same_test w.message.dest) refl in
        heard_of_is net (after net n c d a kc w) w.number w.message.dest x.arc.head is.0 is.1 ∙ (here ∙ said)

    -- of others it heard the same
    heard_same : (m : ℕ) → (m == x.arc.head) ≡ false → heard_of w.node w.message.dest m ≡ heard_of (after net n c d a kc w) w.message.dest m
    heard_same m ne =
        heard_of_is net w.node w.number w.message.dest m is.0 is.1
        ∙ (by (find (is_arc_between w.number m) net.arcs) refl ∙ sym (heard_of_is net (after net n c d a kc w) w.number w.message.dest m is.0 is.1))
      where
        apart : (y : PureArc) → IsArcThere net w.number m y → (t : Bool) → (y.id == a) ≡ t → w.node.heard y.id w.message.dest ≡ cond (t && w.message.dest == w.message.dest) w.message.route (w.node.heard y.id w.message.dest)
        apart y there true e =
            let id : (y.id == x.arc.id) ≡ true = subst (λ z. (y.id == z) ≡ true) (sym x.id) e in
            let one : y ≡ x.arc = same_arcs net y x.arc there.stands x.stands id in
            let head : m ≡ x.arc.head = sym there.head ∙ ap (λ (z : PureArc). z.head) one in
            absurd (let test : (m == x.arc.head) ≡ true = grind (arith, nat_tests) in cc)
        apart y there false e = refl

        by : (o : Option PureArc) → find (is_arc_between w.number m) net.arcs ≡ o
            → option_and_then (λ (y : PureArc). w.node.heard y.id w.message.dest) o ≡ option_and_then (λ (y : PureArc). heard_with w.node.heard a w.message y.id w.message.dest) o
        by None e = refl
        by (Some y) e = apart y (found_there net w.number m y n e) (y.id == a) refl

    -- what it puts on an arc
    puts : (y : PureArc) → slice_get net.arcs y.id ≡ Some y
        → on_arc y.id (out net n c d a kc w) ≡ cond (y.head == w.number) (cond (same_row (row net n c d a kc w) (w.node.rows w.message.dest)) [] (record { dest = w.message.dest; route = row net n c d a kc w; stamp = clock net n c d a kc w } ∷ [])) []
    puts y stands =
        let number : w.node.number ≡ x.arc.tail = is.1 ∙ sym x.tail in
        let on_own = (taken_is net x.arc w.node w.message (clock net n c d a kc w) n is.0 number is.2).puts y stands in
        subst (λ i. on_arc y.id (out net n c d a kc w) ≡ cond (y.head == i) (cond (same_row (row net n c d a kc w) (w.node.rows w.message.dest)) [] (record { dest = w.message.dest; route = row net n c d a kc w; stamp = clock net n c d a kc w } ∷ [])) []) x.tail
        (subst (λ z. on_arc y.id (taken w.node z w.message (clock net n c d a kc w)).1
        ≡ cond (y.head == x.arc.tail) (cond (same_row (choice w.node.net w.message.dest w.node.number (heard_with w.node.heard z w.message)) (w.node.rows w.message.dest)) []
        (record { dest = w.message.dest; route = choice w.node.net w.message.dest w.node.number (heard_with w.node.heard z w.message); stamp = clock net n c d a kc w } ∷ [])) []) x.id on_own)

    -- on an arc on which it speaks, what is known after all that waits is its old row
    row_known_after : (y : PureArc) → slice_get net.arcs y.id ≡ Some y → y.head ≡ w.number → (dest : ℕ) → known_after learn (known_on net d y.id) (changed_at c.link a w.rest y.id) dest ≡ w.node.rows dest
    row_known_after y stands head dest =
        known_after_said (known_on net d y.id) dest (changed_at c.link a w.rest y.id)
        ∙ (ap (λ (known : ℕ → Option PureRoute). last_said dest (known dest) (changed_at c.link a w.rest y.id)) (keeps y.id ne)
        ∙ (rw ne (ap (λ h. last_said dest h (c.link y.id)) known ∙ kc.reported y z.0 w.node dest stands z.1.0 node)))
      where
        ne : (y.id == a) ≡ false
        ne = by (y.id == a) refl
          where
            by : (t : Bool) → (y.id == a) ≡ t → t ≡ false
            by true e =
                let id : (y.id == x.arc.id) ≡ true = subst (λ z. (y.id == z) ≡ true) (sym x.id) e in
                let one : y ≡ x.arc = same_arcs net y x.arc stands x.stands id in
                let tail : y.tail ≡ w.number = ap (λ (z : PureArc). z.tail) one ∙ x.tail in
                let apart : (y.tail == y.head) ≡ false = (arc_is_in net y n (item_at net.arcs y.id y stands)).apart in
                absurd (let test : (y.tail == y.head) ≡ true = grind (arith, nat_tests) in cc)
            by false e = refl

        z : (s : PvState) × IsNode net c y.tail s
        z = kc.nodes y.tail (arc_is_in net y n (item_at net.arcs y.id y stands)).tail_in

        known : known_on net c y.id dest ≡ z.0.heard y.id dest
        known = rw (stands, z.1.0) refl

        node : c.node y.head ≡ Some w.node
        node = subst (λ i. c.node i ≡ Some w.node) (sym head) w.there

-- ---- which routes there are

module _ (net : PureNet) (n : IsNet net) (start : Machine PvState PureUpdate) (k : IsCoherent net start) where
  abbrev Has : ℕ → PureRoute → Type 0
  Has dest = Occurs (values_from net start dest) (length net.nodes)

  occurs : (dest j : ℕ) (r : PureRoute) → IsReached net start dest r → may_be_of net j r ≡ true → Has dest r
  occurs dest j r is may =
      let parts = may_be_parts net j r may in
      let few = short_path net j r parts in
      record {
        among = reached_up net (start_values net start dest) (length r.path) (length net.nodes) r.value few is;
        some = some (begun_path j r.path parts.begins);
        few = few;
      }
    where
      some : (p : List ℕ) × (r.path ≡ j ∷ p) → 1 ≤ length r.path
      some (p, e) =
          let longer : length r.path ≡ length (j ∷ p) = ap (λ (q : List ℕ). length q) e in
          omega (arith, longer)

  module _ (c : Machine PvState PureUpdate) (kc : IsCoherent net c) (heard : HeardReached net start c) (i : ℕ) (s : PvState) (node : c.node i ≡ Some s) (dest : ℕ) where
    heard_occurs : ReportsOnly (Has dest) (heard_of s dest)
    heard_occurs j next e =
        let from = heard_from net n c kc i dest s node j next e in
        let at : c.node from.arc.tail ≡ Some s = subst (λ z. c.node z ≡ Some s) (sym from.there.tail) node in
        occurs dest from.arc.head next (heard from.arc s dest next from.there.stands at from.heard) (kc.known from.arc s dest next from.there.stands at from.heard).1

    heard_begins : ReportsOwnPaths (heard_of s dest)
    heard_begins j next e =
        let from = heard_from net n c kc i dest s node j next e in
        let at : c.node from.arc.tail ≡ Some s = subst (λ z. c.node z ≡ Some s) (sym from.there.tail) node in
        let may : may_be_of net j next ≡ true = subst (λ z. may_be_of net z next ≡ true) from.there.head (kc.known from.arc s dest next from.there.stands at from.heard).1 in
        begun_path j next.path (may_be_parts net j next may).begins

    row_occurs : (r : PureRoute) → s.rows dest ≡ Some r → Has dest r
    row_occurs r e = occurs dest i r (rows_reached net n start k c kc heard i dest s r node e) (kc.routes i dest s r node e).1

  -- each row of a machine that the start leads to is a route that occurs
  pub rows_occur : (journal : List Delivery) (c : Machine PvState PureUpdate) → replay_from path_vector net start journal ≡ Some c → (i dest : ℕ) (s : PvState) (r : PureRoute) → c.node i ≡ Some s → s.rows dest ≡ Some r
      → Occurs (values_from net start dest) (length net.nodes) r
  rows_occur journal c e i dest s r node is_row =
      let are = replays_reach net n start k journal c e in
      row_occurs c are.coherent are.heard i s node dest r is_row

  -- the labels are monotone
  module _ (mono : NetHas monotone net) where
    levels : (dest : ℕ) → AreLevels net (Has dest) (level_from net start dest)
    levels dest = levels_are net mono (values_from net start dest) (reached_in net (start_values net start dest) n (start_in net n start k dest) (length net.nodes)) (length net.nodes)

    tops : (dest : ℕ) (r : Option PureRoute) → ((x : PureRoute) → r ≡ Some x → Has dest x) → level_from net start dest r ≤ level_from net start dest None
    tops dest None h = omega arith
    tops dest (Some r) h = (levels dest).tops r (h r refl)

    -- a delivery puts out only updates of lesser budget than the one that was taken
    module _ (c d : Machine PvState PureUpdate) (a : ℕ) (kc : IsCoherent net c) (kd : IsCoherent net d) (w : IsDelivery path_vector net c a d) (heard : HeardReached net start c) (heard_next : HeardReached net start d) where
      abbrev x : IsTaker net n c d a kc w
      x = taker net n c d a kc w

      abbrev dest : ℕ
      dest = w.message.dest

      abbrev new : Option PureRoute
      new = row net n c d a kc w

      below : dest < length net.dests
      below =
          let own = is net n c d a kc w x in
          let fit = subst (λ z. fits w.node z w.message ≡ true) (sym x.id) x.fit in
          (fits_parts net x.arc w.message (sym (fits_is net w.node x.arc w.message own.0 x.stands) ∙ fit)).0

      new_occurs : (r : PureRoute) → new ≡ Some r → Has dest r
      new_occurs r e = row_occurs d kd heard_next w.number (after net n c d a kc w) (here_after net n c d a kc w) dest r (row_after net n c d a kc w ∙ e)

      rises : (new ≡ w.node.rows dest → ⊥)
          → min (level_from net start dest (known_on net c a dest)) (level_from net start dest w.message.route) < min (level_from net start dest (w.node.rows dest)) (level_from net start dest new)
      rises apart =
          let rise = levels_rise net (Has dest) (level_from net start dest) (levels dest) dest (heard_of w.node dest) (heard_of (after net n c d a kc w) dest) w.number x.arc.head
          (heard_occurs c kc heard w.number w.node w.there dest) (heard_occurs d kd heard_next w.number (after net n c d a kc w) (here_after net n c d a kc w) dest)
          (heard_begins c kc heard w.number w.node w.there dest) (heard_same net n c d a kc w x) (w.node.rows dest) new
          (kc.chosen w.number dest w.node w.there below)
          (subst (λ o. IsChoice net dest (heard_of (after net n c d a kc w) dest) w.number o) (row_after net n c d a kc w) (kd.chosen w.number dest (after net n c d a kc w) (here_after net n c d a kc w) below))
          (row_occurs c kc heard w.number w.node w.there dest) new_occurs (λ e. apart (sym e)) in
          let old : level_from net start dest (heard_of w.node dest x.arc.head) ≡ level_from net start dest (known_on net c a dest) = ap (level_from net start dest) (heard_old net n c d a kc w x dest) in
          let next : level_from net start dest (heard_of (after net n c d a kc w) dest x.arc.head) ≡ level_from net start dest w.message.route = ap (level_from net start dest) (heard_new net n c d a kc w x) in
          subst (λ z. min z (level_from net start dest w.message.route) < min (level_from net start dest (w.node.rows dest)) (level_from net start dest new)) old
          (subst (λ z. min (level_from net start dest (heard_of w.node dest x.arc.head)) z < min (level_from net start dest (w.node.rows dest)) (level_from net start dest new)) next rise)

      abbrev IsBelow : List ℕ → Type 0
      IsBelow = AllByRecursion (λ y. y < budget_from net start (known_on net c a) w.message)

      on_arc_below : (y : PureArc) → slice_get net.arcs y.id ≡ Some y
          → IsBelow (read_budgets (budget_from net start) learn (known_after learn (known_on net d y.id) (changed_at c.link a w.rest y.id)) (on_arc y.id (out net n c d a kc w)))
      on_arc_below y stands =
          subst (λ l. IsBelow (read_budgets (budget_from net start) learn (known_after learn (known_on net d y.id) (changed_at c.link a w.rest y.id)) l)) (sym (puts net n c d a kc w x y stands))
          (by (y.head == w.number) (same_row new (w.node.rows dest)) refl refl)
        where
          by : (t f : Bool) → (y.head == w.number) ≡ t → same_row new (w.node.rows dest) ≡ f
              → IsBelow (read_budgets (budget_from net start) learn (known_after learn (known_on net d y.id) (changed_at c.link a w.rest y.id))
              (cond t (cond f [] (record { dest = w.message.dest; route = row net n c d a kc w; stamp = clock net n c d a kc w } ∷ [])) []))
          by true true e g = tt
          by true false e g =
              let rise = rises (λ same. absurd (let one : same_row new (w.node.rows dest) ≡ true = subst (λ z. same_row new z ≡ true) same (same_row_itself new) in cc)) in
              let less = drops (level_from net start dest None) (level_from net start dest (known_on net c a dest)) (level_from net start dest w.message.route)
              (level_from net start dest (w.node.rows dest)) (level_from net start dest new) rise (tops dest new new_occurs) in
              let known = row_known_after net n c d a kc w x y stands (eqb-true y.head w.number e) dest in
              (subst (λ z. level_from net start dest None - min (level_from net start dest z) (level_from net start dest new) < budget_from net start (known_on net c a) w.message) (sym known) less, tt)
          by false f e g = tt

      sends : (b : ℕ) → IsBelow (read_budgets (budget_from net start) learn (known_after learn (known_on net d b) (changed_at c.link a w.rest b)) (on_arc b (step_of path_vector c a w.number w.node w.message).1))
      sends b =
          subst (λ (p : PvState × List (ℕ × PureUpdate)). IsBelow (read_budgets (budget_from net start) learn (known_after learn (known_on net d b) (changed_at c.link a w.rest b)) (on_arc b p.1))) (sym (steps net n c d a kc w))
          (by (slice_get net.arcs b) refl)
        where
          by : (o : Option PureArc) → slice_get net.arcs b ≡ o
              → IsBelow (read_budgets (budget_from net start) learn (known_after learn (known_on net d b) (changed_at c.link a w.rest b)) (on_arc b (out net n c d a kc w)))
          by (Some y) e =
              let place = id_is_place 0 b net.arcs y n.arc_ids e in
              let id : y.id ≡ b = omega (arith, place) in
              subst (λ z. IsBelow (read_budgets (budget_from net start) learn (known_after learn (known_on net d z) (changed_at c.link a w.rest z)) (on_arc z (out net n c d a kc w)))) id
              (on_arc_below y (subst (λ z. slice_get net.arcs z ≡ Some y) (sym id) e))
          by None e =
              let own = is net n c d a kc w x in
              let spoken = (path_vector_is_lawful.step_sends w.node a w.message (clock net n c d a kc w)).spoken (subst (λ z. IsNet z) (sym own.0) n) in
              let none : on_arc b (step_of path_vector c a w.number w.node w.message).1 ≡ [] =
              on_arc_none (λ z. speaker w.node.net z ≡ Some w.node.number) b (λ f. absurd (silent (subst (λ (z : PureNet). speaker z b ≡ Some w.node.number) own.0 f))) (step_of path_vector c a w.number w.node w.message).1 spoken in
              let nothing : on_arc b (out net n c d a kc w) ≡ [] = ap (λ (p : PvState × List (ℕ × PureUpdate)). on_arc b p.1) (sym (steps net n c d a kc w)) ∙ none in
              subst (λ l. IsBelow (read_budgets (budget_from net start) learn (known_after learn (known_on net d b) (changed_at c.link a w.rest b)) l)) (sym nothing) tt
            where
              silent : speaker net b ≡ Some w.node.number → ⊥
              silent f = by_arc (slice_get net.arcs b) e f
                where
                  by_arc : (o : Option PureArc) → o ≡ None → option_map (λ (arc : PureArc). arc.head) o ≡ Some w.node.number → ⊥
                  by_arc None g h = absurd (cc)
                  by_arc (Some y) g h = absurd (cc)

    -- the machine that a delivery makes of one that the start leads to
    module _ (c d : Machine PvState PureUpdate) (a : ℕ) (reach : Reaches path_vector net start c) (w : IsDelivery path_vector net c a d) where
      from : AreReached net n start k c
      from = replays_reach net n start k reach.0 c reach.1

      made : Deliver path_vector net c a ≡ Some d
      made = rw (w.listens, w.front, w.there) (ap (λ m. Some m) (sym w.makes))

      next : IsCoherent net d
      next = delivery_keeps net c d a n from.coherent made

      sends_less : (b : ℕ) → AllByRecursion (λ y. y < budget_from net start (known_on net c a) w.message)
          (read_budgets (budget_from net start) learn (known_after learn (known_on net d b) (changed_at c.link a w.rest b)) (on_arc b (step_of path_vector c a w.number w.node w.message).1))
      sends_less = sends c d a from.coherent next w from.heard (reached_after net n start k c d a from.coherent next w from.heard from.waits).0

    pub are_read : AreRead path_vector net (budget_from net start) learn start (known_on net)
    are_read = record {
      learns = λ c d a reach reach_next w. learns net n c d a (from c d a reach w).coherent w;
      keeps = λ c d a b reach reach_next w ne. keeps net n c d a (from c d a reach w).coherent w b ne;
      sends = λ c d a b reach reach_next w. sends_less c d a reach w b;
    }

    -- so a replay has no more deliveries than are left at its start
    pub runs_end : IsRunning path_vector net start → (journal : List Delivery) (c : Machine PvState PureUpdate) → replay_from path_vector net start journal ≡ Some c
        → length journal + left net (known_budgets path_vector net (budget_from net start) learn (known_on net) c) ≤ left net (known_budgets path_vector net (budget_from net start) learn (known_on net) start)
    runs_end running journal c e = read_rest path_vector net (budget_from net start) learn start (known_on net) are_read path_vector_is_lawful n running journal c e
