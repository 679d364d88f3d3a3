-- The arcs that a node speaks on, one after the other.
use Rattle.std.proofs.Common.{◌≡◌, ◌≢◌, ℕ, ◌+◌, ◌<◌, List, [], ◌∷◌, Option, Some, None, Bool, true, false, ◌==◌, ◌||◌, if◌then◌else◌, filter, take, get_or, is_some, option_map, option_and_then, length, inl, inr, refl, sym, ap, ◌∙◌, arith}
use Rattle.std.specs.List.{slice_get, list_any, find}
use Rattle.std.proofs.lemmas.Bool.{false≢true}
use Rattle.std.proofs.lemmas.Bool.Decides.{nat_tests}
use Rattle.std.proofs.Math.Seq.{take-length}
use Rattle.std.proofs.lemmas.List.Folds.{list_any_more}
use Rattle.std.proofs.lemmas.Option.{slice_get_within, slice_get_cases, get_or_from_slice_get}
use Rattle.alg_model.specs.Expressions.{PureValue, PureLabel}
use Rattle.alg_model.specs.Application.{App}
use Rattle.net_graph.specs.Nets.{PureArc, PureNet, IsNet, is_arc_between, arcs_to, label_between}
use Rattle.net_graph.specs.Routes.{PureRoute}
use Rattle.net_graph.specs.Tables.{carrier}
use Rattle.arc_labels.specs.declared.neighbours.Neighbour.{Neighbour}
use Rattle.arc_labels.specs.Neighbours.{AreNeighbours, IsNeighbour, tail_of}
use Rattle.arc_labels.specs.Places.{IsAt, numbered_at}
use Rattle.best_first.specs.Found.{better_of, arc_offer}
use Rattle.best_first.specs.State.{relaxed}
use Rattle.net_graph.specs.ArcLaws.{of_some, found_between, IsArc, arcs_are}
use Rattle.best_first.proofs.Better.{better_twice}

-- the arc by the id at a place of those that a node speaks on
pub record IsHeard (net : PureNet) (i m : ℕ) (a : PureArc) : Type 0 where
  pub within : m < length (arcs_to net i)
  pub at_place : a ≡ get_or (arcs_to net i) m a
  pub head : a.head ≡ i
  pub label : label_between net a.tail i ≡ Some a.label
  pub facts : IsArc net a.tail i a.label

-- the arc at a place of those that a node speaks on
module _ (net : PureNet) (n : IsNet net) (i m : ℕ) (a : PureArc) (at_place : slice_get (arcs_to net i) m ≡ Some a) where
  numbered : IsAt net.arcs (λ (b : PureArc). b.head == i) 0 a
  numbered = numbered_at net.arcs (λ (b : PureArc). b.head == i) 0 n.arc_ids m a at_place

  pub heard_at : IsHeard net i m a
  heard_at =
      let head : a.head ≡ i = (let p = numbered.passes in grind (arith, nat_tests)) in
      let between : label_between net a.tail i ≡ Some a.label = rw (← head) (ap (option_map (λ (b : PureArc). b.label)) (found_between net.arcs n.arc_apart numbered.place a numbered.there)) in
      record {
        within = slice_get_within (arcs_to net i) m a at_place;
        at_place = sym (get_or_from_slice_get (arcs_to net i) m a a at_place);
        head = head;
        label = between;
        facts = of_some (IsArc net a.tail i) (label_between net a.tail i) a.label (arcs_are net n a.tail i) between;
      }

-- what the first m of the arcs that node i speaks on make of its route
abbrev pub heard_so_far : PureNet → ℕ → PureRoute → ℕ → ℕ → Option PureRoute
heard_so_far net i r m k = if list_any (λ (a : PureArc). a.tail == k) (take m (arcs_to net i)) then arc_offer net k i r else None

-- the same of a route that is reported
abbrev pub spoken_so_far : PureNet → ℕ → Option PureRoute → ℕ → ℕ → Option PureRoute
spoken_so_far net i o m k = option_and_then (λ (r : PureRoute). heard_so_far net i r m k) o

heard_more : (net : PureNet) (i : ℕ) (r : PureRoute) (m k : ℕ) (a : PureArc) → IsHeard net i m a
    → list_any (λ (b : PureArc). b.tail == k) (take (m + 1) (arcs_to net i)) ≡ (list_any (λ (b : PureArc). b.tail == k) (take m (arcs_to net i)) || (a.tail == k))
heard_more net i r m k a h =
    list_any_more (λ (b : PureArc). b.tail == k) (arcs_to net i) m a h.within ∙ rw (← h.at_place) refl

-- an arc whose tail has a row changes nothing
pub step_over : (net : PureNet) (i : ℕ) (r : PureRoute) (m k : ℕ) (a : PureArc) (row start : Option PureRoute) → IsHeard net i m a → (a.tail ≡ k → is_some row ≡ true)
    → relaxed (carrier net) row start (heard_so_far net i r m k) ≡ relaxed (carrier net) row start (heard_so_far net i r (m + 1) k)
step_over net i r m k a None start h row =
    ap (λ b. better_of (carrier net) start (if b then arc_offer net k i r else None)) (sym same)
  where
    or_false : (b : Bool) → (b || false) ≡ b
    or_false true = refl
    or_false false = refl

    other : (a.tail == k) ≡ false
    other =
        let ne : a.tail ≢ k = λ e. false≢true (row e) in
        grind (arith, nat_tests)

    same : list_any (λ (b : PureArc). b.tail == k) (take (m + 1) (arcs_to net i)) ≡ list_any (λ (b : PureArc). b.tail == k) (take m (arcs_to net i))
    same = heard_more net i r m k a h ∙ rw other (or_false (list_any (λ (b : PureArc). b.tail == k) (take m (arcs_to net i))))
step_over net i r m k a (Some x) start h row = refl

-- an arc whose tail has no row offers it a route
pub step_take : (net : PureNet) (i : ℕ) (r : PureRoute) (m k : ℕ) (a : PureArc) (row start old new : Option PureRoute) → IsHeard net i m a → (k ≡ a.tail → row ≡ None)
    → old ≡ relaxed (carrier net) row start (heard_so_far net i r m k) → new ≡ (if k == a.tail then better_of (carrier net) old (arc_offer net a.tail i r) else old)
    → new ≡ relaxed (carrier net) row start (heard_so_far net i r (m + 1) k)
step_take net i r m k a row start old new h none e f = by (k == a.tail) refl
  where
    or_true : (b : Bool) → (b || true) ≡ true
    or_true true = refl
    or_true false = refl

    by : (b : Bool) → (k == a.tail) ≡ b → new ≡ relaxed (carrier net) row start (heard_so_far net i r (m + 1) k)
    by true g =
        let here : k ≡ a.tail = grind (arith, nat_tests) in
        let back : (a.tail == k) ≡ true = grind (arith, nat_tests) in
        let heard : list_any (λ (b : PureArc). b.tail == k) (take (m + 1) (arcs_to net i)) ≡ true =
        heard_more net i r m k a h ∙ rw back (or_true (list_any (λ (b : PureArc). b.tail == k) (take m (arcs_to net i)))) in
        rw (heard, none here) (rw (g, ← here) at f ∙ (ap (λ o. better_of (carrier net) o (arc_offer net k i r)) (rw (none here) at e)
        ∙ both (list_any (λ (b : PureArc). b.tail == k) (take m (arcs_to net i)))))
      where
        both : (b : Bool) → better_of (carrier net) (better_of (carrier net) start (if b then arc_offer net k i r else None)) (arc_offer net k i r) ≡ better_of (carrier net) start (arc_offer net k i r)
        both true = better_twice (carrier net) start (arc_offer net k i r)
        both false = refl
    by false g =
        let ne : (a.tail ≡ k → is_some row ≡ true) = λ x. absurd (let y : (k == a.tail) ≡ true = grind (arith, nat_tests) in false≢true (sym g ∙ y)) in
        (rw g at f) ∙ (e ∙ step_over net i r m k a row start h ne)

-- what an arc makes of the route of its head
pub made_offer : (net : PureNet) (i m : ℕ) (a : PureArc) (r : PureRoute) → IsHeard net i m a
    → option_map (λ (v : PureValue). record { value = v; path = a.tail ∷ r.path }) (App net.alg.expression a.label r.value) ≡ arc_offer net a.tail i r
made_offer net i m a r h = rw h.label refl

none_between : (arcs : List PureArc) (k i : ℕ) → list_any (λ (a : PureArc). a.tail == k) (filter (λ (a : PureArc). a.head == i) arcs) ≡ false → find (is_arc_between k i) arcs ≡ None
none_between [] k i e = refl
none_between (a ∷ arcs) k i e = by (none_between arcs k i) (a.head == i) refl (a.tail == k) refl
  where
    by : (list_any (λ (a : PureArc). a.tail == k) (filter (λ (a : PureArc). a.head == i) arcs) ≡ false → find (is_arc_between k i) arcs ≡ None)
        → (b : Bool) → (a.head == i) ≡ b → (c : Bool) → (a.tail == k) ≡ c → find (is_arc_between k i) (a ∷ arcs) ≡ None
    by rest true f true g = absurd (false≢true (sym (rw (f, g) at e)))
    by rest true f false g = rw (f, g) (rest (rw (f, g) at e))
    by rest false f true g = rw (f, g) (rest (rw f at e))
    by rest false f false g = rw (f, g) (rest (rw f at e))

-- all arcs that the node speaks on make of its route what arcs make of it
pub heard_all : (net : PureNet) (i : ℕ) (r : PureRoute) (m k : ℕ) → m ≡ length (arcs_to net i) → heard_so_far net i r m k ≡ arc_offer net k i r
heard_all net i r m k e = rw (e, take-length (arcs_to net i)) (by (list_any (λ (a : PureArc). a.tail == k) (arcs_to net i)) refl)
  where
    by : (b : Bool) → list_any (λ (a : PureArc). a.tail == k) (arcs_to net i) ≡ b → (if b then arc_offer net k i r else None) ≡ arc_offer net k i r
    by true f = refl
    by false f = rw (none_between net.arcs k i f) refl

-- the arc that a listener hears on
pub record IsHeardBy {L : Type 0} (stands_for : L → PureLabel → Type 0) (net : PureNet) (i m : ℕ) (listener : Neighbour L) : Type 0 where
  pub arc : PureArc
  pub heard : IsHeard net i m arc
  pub is_listener : IsNeighbour stands_for tail_of arc listener

pub heard_by : {L : Type 0} (stands_for : L → PureLabel → Type 0) (net : PureNet) → IsNet net → (i m : ℕ) (listeners : List (Neighbour L)) (listener : Neighbour L)
    → AreNeighbours stands_for tail_of (arcs_to net i) listeners → slice_get listeners m ≡ Some listener → IsHeardBy stands_for net i m listener
heard_by stands_for net n i m listeners listener are e = elim (slice_get_cases (arcs_to net i) m).1 [
  | inl (a, l, f, g) ↦ record { arc = a; heard = heard_at net n i m a f; is_listener = are.each m listener e a f }
  | inr (l, f) ↦ absurd (omega (arith, slice_get_within listeners m listener e, are.count))
]

pub listener_within : {L : Type 0} (stands_for : L → PureLabel → Type 0) (net : PureNet) (i m : ℕ) (listener : Neighbour L) → IsHeardBy stands_for net i m listener → listener.node.0 < length net.nodes
listener_within stands_for net i m listener h = omega (arith, h.heard.facts.tail_in, h.is_listener.node)
