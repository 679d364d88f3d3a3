-- A delivery keeps a machine coherent. Lemmas, so that proofs of other crates may cite them.
use Rattle.std.proofs.Common.{◌≡◌, ℕ, ◌<◌, List, [], ◌∷◌, ◌++◌, Bool, true, false, ◌&&◌, ◌==◌, length, cond, slice_get, Option, Some, None, subst, refl, sym, ap, ◌∙◌, arith}
use Rattle.std.specs.Prelude.{option_map, option_and_then}
use Rattle.std.specs.List.{AllByRecursion, find}
use Rattle.std.proofs.lemmas.Bool.{and_right, eqb-true}
use Rattle.std.proofs.lemmas.Bool.Decides.{nat_tests}
use Rattle.meta_base.specs.declared.ids.Delivery.{Delivery}
use Rattle.net_graph.specs.Nets.{PureArc, PureNet, IsNet, is_arc_between, arcs_to}
use Rattle.net_graph.specs.NetLaws.{all_weaker}
use Rattle.net_graph.specs.Routes.{PureRoute}
use Rattle.net_graph.specs.Tables.{carrier, IsChoice}
use Rattle.node_core.specs.Kinds.{on_arc}
use Rattle.node_core.specs.Machine.{Machine, changed_at, clock_after, stepped, taken_by, Deliver, deliver_at, replay_from}
use Rattle.node_core.specs.MachineLaws.{all_join}
use Rattle.path_vector.specs.Node.{PvState, PureUpdate, same_row, offers_to, best_of, choice, may_be_of, fits, reported_on, heard_with, taken, path_vector}
use Rattle.path_vector.specs.Coherent.{heard_of, last_said, IsNode, IsCoherent, deliver_along}
use Rattle.path_vector.specs.Reporting.{id_is_place, reported_once}
use Rattle.path_vector.specs.Items.{IsItem, item_at, unfiltered}
use Rattle.path_vector.specs.Choosing.{arc_is_in, reported_by, arc_stands, may_be_parts, choice_is, choice_may_be}
use Rattle.path_vector.specs.Words.{same_row_is, fits_on, fits_is, fits_parts, fits_from, heard_of_is, choice_moves, last_said_append}

and_true : (b : Bool) → (b && true) ≡ b
and_true true = refl
and_true false = refl

-- arcs of one id are one
pub same_arcs : (net : PureNet) (a b : PureArc) → slice_get net.arcs a.id ≡ Some a → slice_get net.arcs b.id ≡ Some b → (a.id == b.id) ≡ true → a ≡ b
same_arcs net a b e f same =
    let one : a.id ≡ b.id = eqb-true a.id b.id same in
    let g : slice_get net.arcs b.id ≡ Some a = subst (λ z. slice_get net.arcs z ≡ Some a) one e in
    cc

-- which node is of that number in a coherent machine
pub node_is : (net : PureNet) (c : Machine PvState PureUpdate) → IsCoherent net c → (i : ℕ) (s : PvState) → c.node i ≡ Some s → (s.net ≡ net) × (s.number ≡ i) × (s.is_begun ≡ true)
node_is net c k i s e =
    let there = k.nodes i (k.inside i s e) in
    let f = there.1.0 in
    let same : there.0 ≡ s = cc in
    (rw same at there.1.1, rw same at there.1.2, rw same at there.1.3)

-- what a node makes of an update that fits it, at a clock: what it becomes, what it puts out, and its row
pub record IsTaken (net : PureNet) (x : PureArc) (s t : PvState) (u : PureUpdate) (clock : ℕ) (out : List (ℕ × PureUpdate)) (row : Option PureRoute) : Type 0 where
  pub net_is : t.net ≡ net
  pub number_is : t.number ≡ x.tail
  pub begun : t.is_begun ≡ true
  pub heard : (b dest : ℕ) → t.heard b dest ≡ heard_with s.heard x.id u b dest
  pub rows : (dest : ℕ) → t.rows dest ≡ changed_at s.rows u.dest row dest
  pub row_is : row ≡ best_of (carrier net) (offers_to net u.dest x.tail (λ b. heard_with s.heard x.id u b u.dest))
  pub puts : (a : PureArc) → slice_get net.arcs a.id ≡ Some a
      → on_arc a.id out ≡ cond (a.head == x.tail) (cond (same_row row (s.rows u.dest)) [] (record { dest = u.dest; route = row; stamp = clock } ∷ [])) []

reported_out : (net : PureNet) (i : ℕ) (u : PureUpdate) (a : PureArc) → IsNet net → slice_get net.arcs a.id ≡ Some a → on_arc a.id (reported_on (arcs_to net i) u) ≡ cond (a.head == i) (u ∷ []) []
reported_out net i u a n e = rw (unfiltered (arcs_to net i), and_true (a.head == i)) at (reported_once net i (λ _. true) u a n e)

pub taken_is : (net : PureNet) (x : PureArc) (s : PvState) (u : PureUpdate) (clock : ℕ) → IsNet net → s.net ≡ net → s.number ≡ x.tail → s.is_begun ≡ true
    → IsTaken net x s (taken s x.id u clock).0 u clock (taken s x.id u clock).1 (choice s.net u.dest s.number (heard_with s.heard x.id u))
taken_is net x s u clock n e f g = record {
  net_is = e;
  number_is = f;
  begun = g;
  heard = λ b dest. refl;
  rows = λ dest. refl;
  row_is = rw (e, f) refl;
  puts = puts;
}
  where
    puts : (a : PureArc) → slice_get net.arcs a.id ≡ Some a
        → on_arc a.id (taken s x.id u clock).1 ≡ cond (a.head == x.tail) (cond (same_row (choice s.net u.dest s.number (heard_with s.heard x.id u)) (s.rows u.dest)) [] (record { dest = u.dest; route = choice s.net u.dest s.number (heard_with s.heard x.id u); stamp = clock } ∷ [])) []
    puts a stands = by (same_row (choice s.net u.dest s.number (heard_with s.heard x.id u)) (s.rows u.dest))
      where
        nothing : (b : Bool) → [] ≡ cond {A = List PureUpdate} b [] []
        nothing true = refl
        nothing false = refl

        new : PureUpdate
        new = record { dest = u.dest; route = choice s.net u.dest s.number (heard_with s.heard x.id u); stamp = clock }

        by : (b : Bool) → on_arc a.id (cond b [] (reported_on (arcs_to s.net s.number) (record { dest = u.dest; route = choice s.net u.dest s.number (heard_with s.heard x.id u); stamp = clock })))
            ≡ cond (a.head == x.tail) (cond b [] (record { dest = u.dest; route = choice s.net u.dest s.number (heard_with s.heard x.id u); stamp = clock } ∷ [])) []
        by true = nothing (a.head == x.tail)
        by false = subst (λ m. (j : ℕ) → j ≡ x.tail → on_arc a.id (reported_on (arcs_to m j) (record { dest = u.dest; route = choice s.net u.dest s.number (heard_with s.heard x.id u); stamp = clock }))
            ≡ cond (a.head == x.tail) (record { dest = u.dest; route = choice s.net u.dest s.number (heard_with s.heard x.id u); stamp = clock } ∷ []) []) (sym e)
            (λ j h. rw h (reported_out net x.tail (record { dest = u.dest; route = choice s.net u.dest s.number (heard_with s.heard x.id u); stamp = clock }) a n stands)) s.number f

-- the machine after node x.tail, which was s and is t, took u
abbrev pub after_taken : Machine PvState PureUpdate → PureArc → PvState → ℕ → List (ℕ × PureUpdate) → List PureUpdate → Machine PvState PureUpdate
after_taken c x t clock out rest =
    record {
      node = changed_at c.node x.tail (Some t);
      clock = changed_at c.clock x.tail clock;
      link = λ b. changed_at c.link x.id rest b ++ on_arc b out;
    }

module _ (net : PureNet) (n : IsNet net) (c : Machine PvState PureUpdate) (k : IsCoherent net c) (x : PureArc) (s t : PvState) (u : PureUpdate) (clock : ℕ) (out : List (ℕ × PureUpdate)) (row : Option PureRoute) (rest : List PureUpdate)
    (stands : slice_get net.arcs x.id ≡ Some x) (node : c.node x.tail ≡ Some s) (front : c.link x.id ≡ u ∷ rest) (fit : fits_on net x u ≡ true) (is : IsTaken net x s t u clock out row)
  where
    abbrev after : Machine PvState PureUpdate
    after = after_taken c x t clock out rest

    -- what holds of the node that took the update, and of the others, holds of each
    at_after : (P : ℕ → PvState → Type 0) → P x.tail t → ((j : ℕ) (q : PvState) → (j == x.tail) ≡ false → c.node j ≡ Some q → P j q) → (j : ℕ) (q : PvState) → (changed_at c.node x.tail (Some t)) j ≡ Some q → P j q
    at_after P here there j q e = by (j == x.tail) refl e
      where
        by : (b : Bool) → (j == x.tail) ≡ b → cond b (Some t) (c.node j) ≡ Some q → P j q
        by true f g =
            let same : t ≡ q = cc in
            let place : j ≡ x.tail = eqb-true j x.tail f in
            subst (λ i. P i q) (sym place) (subst (λ z. P x.tail z) same here)
        by false f g = there j q f g

    heard_known : (a : PureArc) (dest : ℕ) (r : PureRoute) → slice_get net.arcs a.id ≡ Some a → a.tail ≡ x.tail → heard_with s.heard x.id u a.id dest ≡ Some r
        → (dest < length net.dests) × (may_be_of net a.head r ≡ true)
    heard_known a dest r at tail e = by (a.id == x.id) (dest == u.dest) refl refl e
      where
        by : (b d : Bool) → (a.id == x.id) ≡ b → (dest == u.dest) ≡ d → cond (b && d) u.route (s.heard a.id dest) ≡ Some r → (dest < length net.dests) × (may_be_of net a.head r ≡ true)
        by true true f g h =
            let arc : a ≡ x = same_arcs net a x at stands f in
            let d : dest ≡ u.dest = eqb-true dest u.dest g in
            let parts = fits_parts net x u fit in
            rw (arc, d) (parts.0, parts.1 r h)
        by true false f g h = k.known a s dest r at (rw tail node) h
        by false d f g h = k.known a s dest r at (rw tail node) h

    item_known : (dest : ℕ) (a : PureArc) (r : PureRoute) → IsItem a net.arcs → a.tail ≡ x.tail → heard_with s.heard x.id u a.id dest ≡ Some r → (dest < length net.dests) × (may_be_of net a.head r ≡ true)
    item_known dest a r item tail e = heard_known a dest r (arc_stands net a n item) tail e

    row_may_be : (r : PureRoute) → row ≡ Some r → (u.dest < length net.dests) × (may_be_of net x.tail r ≡ true)
    row_may_be r e = choice_may_be net n u.dest x.tail (λ b. heard_with s.heard x.id u b u.dest) (item_known u.dest) r (sym is.row_is ∙ e)

    nodes_after : (j : ℕ) → j < length net.nodes → (q : PvState) × IsNode net after j q
    nodes_after j below = by (j == x.tail) refl (k.nodes j below)
      where
        by : (b : Bool) → (j == x.tail) ≡ b → (q : PvState) × IsNode net c j q → (q : PvState) × IsNode net after j q
        by true e old = (t, (rw e refl, is.net_is, is.number_is ∙ sym (eqb-true j x.tail e), is.begun))
        by false e old = (old.0, (rw e old.1.0, old.1.1, old.1.2, old.1.3))

    inside_after : (j : ℕ) (q : PvState) → after.node j ≡ Some q → j < length net.nodes
    inside_after = at_after (λ j q. j < length net.nodes) (k.inside x.tail s node) (λ j q ne e. k.inside j q e)

    known_after : (a : PureArc) (q : PvState) (dest : ℕ) (r : PureRoute) → slice_get net.arcs a.id ≡ Some a → after.node a.tail ≡ Some q
        → q.heard a.id dest ≡ Some r → (dest < length net.dests) × (may_be_of net a.head r ≡ true)
    known_after a q dest r at e =
        at_after (λ j z. a.tail ≡ j → z.heard a.id dest ≡ Some r → (dest < length net.dests) × (may_be_of net a.head r ≡ true))
        (λ tail h. heard_known a dest r at tail (sym (is.heard a.id dest) ∙ h))
        (λ j z ne old tail h. k.known a z dest r at (rw tail old) h) a.tail q e refl

    routes_after : (j dest : ℕ) (q : PvState) (r : PureRoute) → after.node j ≡ Some q → q.rows dest ≡ Some r → (dest < length net.dests) × (may_be_of net j r ≡ true)
    routes_after j dest q r e =
        at_after (λ j z. z.rows dest ≡ Some r → (dest < length net.dests) × (may_be_of net j r ≡ true))
        (λ h. by (dest == u.dest) refl (sym (is.rows dest) ∙ h))
        (λ j z ne old h. k.routes j dest z r old h) j q e
      where
        by : (b : Bool) → (dest == u.dest) ≡ b → cond b row (s.rows dest) ≡ Some r → (dest < length net.dests) × (may_be_of net x.tail r ≡ true)
        by true f h = let d : dest ≡ u.dest = eqb-true dest u.dest f in rw d (row_may_be r h)
        by false f h = k.routes x.tail dest s r node h

    -- what was heard of another destination is as before
    other_heard : (b dest : ℕ) → (dest == u.dest) ≡ false → heard_with s.heard x.id u b dest ≡ s.heard b dest
    other_heard b dest e = rw (and_right (b == x.id) (dest == u.dest) e) refl

    reported_new : (dest j : ℕ) → reported_by net x.tail (λ b. heard_with s.heard x.id u b dest) j ≡ heard_of t dest j
    reported_new dest j = by (find (is_arc_between x.tail j) net.arcs) ∙ sym (heard_of_is net t x.tail dest j is.net_is is.number_is)
      where
        by : (o : Option PureArc) → option_and_then (λ (a : PureArc). heard_with s.heard x.id u a.id dest) o ≡ option_and_then (λ (a : PureArc). t.heard a.id dest) o
        by None = refl
        by (Some a) = sym (is.heard a.id dest)

    reported_old : (dest j : ℕ) → (dest == u.dest) ≡ false → heard_of s dest j ≡ heard_of t dest j
    reported_old dest j e =
        let old = node_is net c k x.tail s node in
        heard_of_is net s x.tail dest j old.0 old.1 ∙ (by (find (is_arc_between x.tail j) net.arcs) ∙ reported_new dest j)
      where
        by : (o : Option PureArc) → option_and_then (λ (a : PureArc). s.heard a.id dest) o ≡ option_and_then (λ (a : PureArc). heard_with s.heard x.id u a.id dest) o
        by None = refl
        by (Some a) = sym (other_heard a.id dest e)

    chosen_here : (dest : ℕ) → dest < length net.dests → IsChoice net dest (heard_of t dest) x.tail (t.rows dest)
    chosen_here dest below = subst (λ o. IsChoice net dest (heard_of t dest) x.tail o) (sym (is.rows dest)) (by (dest == u.dest) refl)
      where
        by : (b : Bool) → (dest == u.dest) ≡ b → IsChoice net dest (heard_of t dest) x.tail (cond b row (s.rows dest))
        by true f =
            let d : dest ≡ u.dest = eqb-true dest u.dest f in
            let here : IsChoice net u.dest (reported_by net x.tail (λ b. heard_with s.heard x.id u b u.dest)) x.tail row =
            subst (λ o. IsChoice net u.dest (reported_by net x.tail (λ b. heard_with s.heard x.id u b u.dest)) x.tail o) (sym is.row_is)
            (choice_is net n u.dest x.tail (λ b. heard_with s.heard x.id u b u.dest) (λ a r item tail e. (may_be_parts net a.head r (item_known u.dest a r item tail e).1).value_in)) in
            subst (λ z. IsChoice net z (heard_of t z) x.tail row) (sym d)
            (choice_moves net u.dest x.tail (reported_by net x.tail (λ b. heard_with s.heard x.id u b u.dest)) (heard_of t u.dest) (λ j a e. reported_new u.dest j) row here)
        by false f = choice_moves net dest x.tail (heard_of s dest) (heard_of t dest) (λ j a e. reported_old dest j f) (s.rows dest) (k.chosen x.tail dest s node below)

    chosen_after : (j dest : ℕ) (q : PvState) → after.node j ≡ Some q → dest < length net.dests → IsChoice net dest (heard_of q dest) j (q.rows dest)
    chosen_after j dest q e below = at_after (λ j z. IsChoice net dest (heard_of z dest) j (z.rows dest)) (chosen_here dest below) (λ j z ne old. k.chosen j dest z old below) j q e

    -- the messages that wait fit as before
    old_fit : (a : PureArc) → slice_get net.arcs a.id ≡ Some a → AllByRecursion (λ v. fits_on net a v ≡ true) (c.link a.id)
    old_fit a at =
        let below : a.tail < length net.nodes = (arc_in a at) in
        let there = k.nodes a.tail below in
        all_weaker (λ v. fits there.0 a.id v ≡ true) (λ v. fits_on net a v ≡ true) (c.link a.id) (λ v f. sym (fits_is net there.0 a v there.1.1 at) ∙ f) (k.fit a there.0 at there.1.0)
      where
        arc_in : (a : PureArc) → slice_get net.arcs a.id ≡ Some a → a.tail < length net.nodes
        arc_in a at = (arc_is_in net a n (item_at net.arcs a.id a at)).tail_in

    left_fit : (a : PureArc) → slice_get net.arcs a.id ≡ Some a → AllByRecursion (λ v. fits_on net a v ≡ true) (changed_at c.link x.id rest a.id)
    left_fit a at = by (a.id == x.id) refl
      where
        by : (b : Bool) → (a.id == x.id) ≡ b → AllByRecursion (λ v. fits_on net a v ≡ true) (cond b rest (c.link a.id))
        by true e =
            let arc : a ≡ x = same_arcs net a x at stands e in
            let all : AllByRecursion (λ v. fits_on net x v ≡ true) (u ∷ rest) = rw front at (old_fit x stands) in
            rw arc all.1
        by false e = old_fit a at

    new_fit : (a : PureArc) → slice_get net.arcs a.id ≡ Some a → AllByRecursion (λ v. fits_on net a v ≡ true) (on_arc a.id out)
    new_fit a at = rw (is.puts a at) (by (a.head == x.tail) (same_row row (s.rows u.dest)) refl)
      where
        by : (b d : Bool) → (a.head == x.tail) ≡ b → AllByRecursion (λ v. fits_on net a v ≡ true) (cond b (cond d [] (record { dest = u.dest; route = row; stamp = clock } ∷ [])) [])
        by true true e = tt
        by true false e =
            let head : a.head ≡ x.tail = eqb-true a.head x.tail e in
            (fits_from net a (record { dest = u.dest; route = row; stamp = clock }) (fits_parts net x u fit).0 (λ r f. rw head (row_may_be r f).1), tt)
        by false d e = tt

    fit_after : (a : PureArc) (q : PvState) → slice_get net.arcs a.id ≡ Some a → after.node a.tail ≡ Some q → AllByRecursion (λ v. fits q a.id v ≡ true) (after.link a.id)
    fit_after a q at e =
        let q_net : q.net ≡ net = at_after (λ j z. z.net ≡ net) is.net_is (λ j z ne old. (node_is net c k j z old).0) a.tail q e in
        all_weaker (λ v. fits_on net a v ≡ true) (λ v. fits q a.id v ≡ true) (changed_at c.link x.id rest a.id ++ on_arc a.id out) (λ v f. fits_is net q a v q_net at ∙ f)
        (all_join (λ v. fits_on net a v ≡ true) (changed_at c.link x.id rest a.id) (on_arc a.id out) (left_fit a at) (new_fit a at))

    -- what was heard and waits is as before
    same_said : (a : PureArc) (dest : ℕ) (o q : PvState) → slice_get net.arcs a.id ≡ Some a → c.node a.tail ≡ Some o → after.node a.tail ≡ Some q
        → last_said dest (q.heard a.id dest) (changed_at c.link x.id rest a.id) ≡ last_said dest (o.heard a.id dest) (c.link a.id)
    same_said a dest o q at old e =
        at_after (λ j z. a.tail ≡ j → last_said dest (z.heard a.id dest) (changed_at c.link x.id rest a.id) ≡ last_said dest (o.heard a.id dest) (c.link a.id)) here there a.tail q e refl
      where
        here : a.tail ≡ x.tail → last_said dest (t.heard a.id dest) (changed_at c.link x.id rest a.id) ≡ last_said dest (o.heard a.id dest) (c.link a.id)
        here tail =
            let f : c.node x.tail ≡ Some o = rw tail at old in
            let same : o ≡ s = cc in
            rw (is.heard a.id dest, same) (by (a.id == x.id) (dest == u.dest) refl refl)
          where
            by : (b d : Bool) → (a.id == x.id) ≡ b → (dest == u.dest) ≡ d → last_said dest (cond (b && d) u.route (s.heard a.id dest)) (cond b rest (c.link a.id)) ≡ last_said dest (s.heard a.id dest) (c.link a.id)
            by true true f g =
                let id : a.id ≡ x.id = eqb-true a.id x.id f in
                let turned : (u.dest == dest) ≡ true = grind (arith, nat_tests) in
                rw (id, front, turned) refl
            by true false f g =
                let id : a.id ≡ x.id = eqb-true a.id x.id f in
                let turned : (u.dest == dest) ≡ false = grind (arith, nat_tests) in
                rw (id, front, turned) refl
            by false d f g = refl

        there : (j : ℕ) (z : PvState) → (j == x.tail) ≡ false → c.node j ≡ Some z → a.tail ≡ j → last_said dest (z.heard a.id dest) (changed_at c.link x.id rest a.id) ≡ last_said dest (o.heard a.id dest) (c.link a.id)
        there j z ne node_j tail =
            let f : c.node j ≡ Some o = rw tail at old in
            let same : o ≡ z = cc in
            rw same (by (a.id == x.id) refl)
          where
            by : (b : Bool) → (a.id == x.id) ≡ b → last_said dest (z.heard a.id dest) (cond b rest (c.link a.id)) ≡ last_said dest (z.heard a.id dest) (c.link a.id)
            by true g =
                let arc : a ≡ x = same_arcs net a x at stands g in
                let place : j ≡ x.tail = sym tail ∙ ap (λ (b : PureArc). b.tail) arc in
                absurd (let test : (j == x.tail) ≡ true = grind (arith, nat_tests) in cc)
            by false g = refl

    -- what the node puts out says its new row
    new_said : (a : PureArc) (dest : ℕ) (o q : PvState) → slice_get net.arcs a.id ≡ Some a → c.node a.head ≡ Some o → after.node a.head ≡ Some q
        → last_said dest (o.rows dest) (on_arc a.id out) ≡ q.rows dest
    new_said a dest o q at old e =
        at_after (λ j z. a.head ≡ j → last_said dest (o.rows dest) (on_arc a.id out) ≡ z.rows dest) here there a.head q e refl
      where
        here : a.head ≡ x.tail → last_said dest (o.rows dest) (on_arc a.id out) ≡ t.rows dest
        here head =
            let f : c.node x.tail ≡ Some o = rw head at old in
            let same : o ≡ s = cc in
            let test : (a.head == x.tail) ≡ true = grind (arith, nat_tests) in
            rw (is.puts a at, test, is.rows dest, same) (by (same_row row (s.rows u.dest)) (dest == u.dest) refl refl)
          where
            by : (b d : Bool) → same_row row (s.rows u.dest) ≡ b → (dest == u.dest) ≡ d → last_said dest (s.rows dest) (cond b [] (record { dest = u.dest; route = row; stamp = clock } ∷ [])) ≡ cond d row (s.rows dest)
            by true true f g =
                let d : dest ≡ u.dest = eqb-true dest u.dest g in
                rw d (sym (same_row_is row (s.rows u.dest) f))
            by true false f g = refl
            by false true f g = let turned : (u.dest == dest) ≡ true = grind (arith, nat_tests) in rw turned refl
            by false false f g = let turned : (u.dest == dest) ≡ false = grind (arith, nat_tests) in rw turned refl

        there : (j : ℕ) (z : PvState) → (j == x.tail) ≡ false → c.node j ≡ Some z → a.head ≡ j → last_said dest (o.rows dest) (on_arc a.id out) ≡ z.rows dest
        there j z ne node_j head =
            let f : c.node j ≡ Some o = rw head at old in
            let same : o ≡ z = cc in
            let test : (a.head == x.tail) ≡ false = rw (← head) at ne in
            rw (is.puts a at, test, same) refl

    reported_after : (a : PureArc) (p q : PvState) (dest : ℕ) → slice_get net.arcs a.id ≡ Some a → after.node a.tail ≡ Some p → after.node a.head ≡ Some q
        → last_said dest (p.heard a.id dest) (after.link a.id) ≡ q.rows dest
    reported_after a p q dest at e f =
        let arc = arc_is_in net a n (item_at net.arcs a.id a at) in
        let tail = k.nodes a.tail arc.tail_in in
        let head = k.nodes a.head arc.head_in in
        last_said_append dest (p.heard a.id dest) (changed_at c.link x.id rest a.id) (on_arc a.id out)
        ∙ (ap (λ h. last_said dest h (on_arc a.id out)) (same_said a dest tail.0 p at tail.1.0 e ∙ k.reported a tail.0 head.0 dest at tail.1.0 head.1.0)
        ∙ new_said a dest head.0 q at head.1.0 f)

    pub taken_keeps : IsCoherent net after
    taken_keeps = record {
      nodes = nodes_after;
      inside = inside_after;
      fit = fit_after;
      known = known_after;
      routes = routes_after;
      chosen = chosen_after;
      reported = reported_after;
    }

step_keeps : (net : PureNet) → IsNet net → (c : Machine PvState PureUpdate) → IsCoherent net c → (x : PureArc) (s : PvState) (u : PureUpdate) (rest : List PureUpdate)
    → slice_get net.arcs x.id ≡ Some x → c.node x.tail ≡ Some s → c.link x.id ≡ u ∷ rest → IsCoherent net (stepped path_vector c x.id x.tail s u rest)
step_keeps net n c k x s u rest stands node front =
    let is = node_is net c k x.tail s node in
    let fit : fits s x.id u ≡ true = (rw front at (k.fit x s stands node)).0 in
    let clock = clock_after path_vector c x.tail u in
    rw fit (taken_keeps net n c k x s (taken s x.id u clock).0 u clock (taken s x.id u clock).1 (choice s.net u.dest s.number (heard_with s.heard x.id u)) rest stands node front
    (sym (fits_is net s x u is.0 stands) ∙ fit) (taken_is net x s u clock n is.0 is.1 is.2))

-- a delivery keeps a machine coherent
pub delivery_keeps : (net : PureNet) (c d : Machine PvState PureUpdate) (a : ℕ) → IsNet net → IsCoherent net c → Deliver path_vector net c a ≡ Some d → IsCoherent net d
delivery_keeps net c d a n k e = by (slice_get net.arcs a) refl e
  where
    by : (o : Option PureArc) → slice_get net.arcs a ≡ o → option_and_then (λ i. taken_by path_vector c a i (c.link a)) (option_map (λ (arc : PureArc). arc.tail) o) ≡ Some d → IsCoherent net d
    by None f g = absurd (cc)
    by (Some x) f g = waits (c.link a) refl g
      where
        id : x.id ≡ a
        id = let place = id_is_place 0 a net.arcs x n.arc_ids f in omega arith

        waits : (l : List PureUpdate) → c.link a ≡ l → taken_by path_vector c a x.tail l ≡ Some d → IsCoherent net d
        waits [] h g = absurd (cc)
        waits (u ∷ rest) h g = listens (c.node x.tail) refl g
          where
            listens : (o : Option PvState) → c.node x.tail ≡ o → option_map (λ s. stepped path_vector c a x.tail s u rest) o ≡ Some d → IsCoherent net d
            listens None j g = absurd (cc)
            listens (Some s) j g =
                let same : stepped path_vector c a x.tail s u rest ≡ d = cc in
                subst (λ z. IsCoherent net z) same
                (subst (λ z. IsCoherent net (stepped path_vector c z x.tail s u rest)) id (step_keeps net n c k x s u rest (subst (λ z. slice_get net.arcs z ≡ Some x) (sym id) f) j (subst (λ z. c.link z ≡ u ∷ rest) (sym id) h)))

-- and so do the deliveries of a journal
pub deliveries_keep : (net : PureNet) (journal : List Delivery) (c d : Machine PvState PureUpdate) → IsNet net → IsCoherent net c → replay_from path_vector net c journal ≡ Some d → IsCoherent net d
deliveries_keep net [] c d n k e = let same : c ≡ d = cc in subst (λ z. IsCoherent net z) same k
deliveries_keep net (e ∷ es) c d n k f = by (λ m. deliveries_keep net es m d n) (deliver_at path_vector net c e) refl f
  where
    delivered : (b : Bool) (o : Option (Machine PvState PureUpdate)) (m : Machine PvState PureUpdate) → cond b o None ≡ Some m → o ≡ Some m
    delivered true o m g = g
    delivered false o m g = absurd (cc)

    by : ((m : Machine PvState PureUpdate) → IsCoherent net m → replay_from path_vector net m es ≡ Some d → IsCoherent net d)
        → (o : Option (Machine PvState PureUpdate)) → deliver_at path_vector net c e ≡ o → option_and_then (λ m. replay_from path_vector net m es) o ≡ Some d → IsCoherent net d
    by more None g h = absurd (cc)
    by more (Some m) g h = more m (delivery_keeps net c m e.arc.0 n k (delivered _ (Deliver path_vector net c e.arc.0) m g)) h

-- and those on a list of arcs
pub deliveries_along_keep : (net : PureNet) (arcs : List ℕ) (c d : Machine PvState PureUpdate) → IsNet net → IsCoherent net c → deliver_along net c arcs ≡ Some d → IsCoherent net d
deliveries_along_keep net [] c d n k e = let same : c ≡ d = cc in subst (λ z. IsCoherent net z) same k
deliveries_along_keep net (a ∷ arcs) c d n k f = by (λ m. deliveries_along_keep net arcs m d n) (Deliver path_vector net c a) refl f
  where
    by : ((m : Machine PvState PureUpdate) → IsCoherent net m → deliver_along net m arcs ≡ Some d → IsCoherent net d)
        → (o : Option (Machine PvState PureUpdate)) → Deliver path_vector net c a ≡ o → option_and_then (λ m. deliver_along net m arcs) o ≡ Some d → IsCoherent net d
    by more None g h = absurd (cc)
    by more (Some m) g h = more m (delivery_keeps net c m a n k g) h
