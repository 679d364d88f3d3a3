-- A node's choice from its row and one offer.
use Rattle.std.proofs.Common.{◌≡◌, ℕ, ◌<◌, List, true, false, ◌&&◌, ◌==◌, cond, length, slice_get, Option, Some, None, subst, refl, sym, ap, ◌∙◌, arith}
use Rattle.std.specs.Prelude.{option_map, option_and_then}
use Rattle.std.proofs.lemmas.Bool.Decides.{nat_tests}
use Rattle.alg_model.specs.Expressions.{PureValue, PureLabel}
use Rattle.net_graph.specs.Nets.{PureArc, PureNet, IsNet, arcs_from}
use Rattle.net_graph.specs.Routes.{PureRoute}
use Rattle.net_graph.specs.Tables.{carrier}
use Rattle.path_vector.specs.Choosing.{arc_stands, choice_may_be, may_be_parts}
use Rattle.path_vector.specs.Delivering.{same_arcs}
use Rattle.path_vector.specs.Items.{IsItem, item_passed}
use Rattle.path_vector.specs.Known.{known_route, heard_by, AreNeighbours, Listened}
use Rattle.path_vector.specs.Node.{begins_with, choice, offer_by, may_be_of}
use Rattle.path_vector.specs.Settling.{goes_by, is_worse, settled, Settles}
use Rattle.path_vector.specs.declared.known.Known.{Known}
use Rattle.path_vector.proofs.Choices.{heard_may_be}
use Rattle.path_vector.proofs.Settling.{MayBeHeard, choice_settles}

-- ---- what the row and the offer settle

module _ (net : PureNet) (dest i : ℕ) (heard : ℕ → ℕ → Option PureRoute) (a : PureArc) (row offer : Option PureRoute) (settles : Settles net dest i heard a row)
    (is : offer ≡ option_and_then (offer_by net a) (heard a.id dest))
  where
    pub chosen_as : (o : Option PureRoute) → settled (carrier net) a.head row offer ≡ Some o → choice net dest i heard ≡ o
    chosen_as o e = settles o (ap (settled (carrier net) a.head row) (sym is) ∙ e)

    pub offer_chosen : is_worse (carrier net) offer row ≡ false → choice net dest i heard ≡ offer
    offer_chosen f = chosen_as offer (rw f refl)

    pub row_chosen : is_worse (carrier net) offer row ≡ true → goes_by a.head row ≡ false → choice net dest i heard ≡ row
    row_chosen f g = chosen_as row (rw (f, g) refl)

    -- where there is no offer, and it isn't worse, there was no row
    pub none_chosen : offer ≡ None → is_worse (carrier net) offer row ≡ false → choice net dest i heard ≡ row
    none_chosen e f = offer_chosen f ∙ (e ∙ by row (subst (λ z. is_worse (carrier net) z row ≡ false) e f))
      where
        by : (o : Option PureRoute) → is_worse (carrier net) None o ≡ false → None ≡ o
        by None g = refl
        by (Some b) g = absurd (cc)

-- ---- what was heard

module _ {L S : Type 0} (stands_for : L → PureLabel → Type 0) (is_sig : S → Type 0) (value : S → PureValue) (net : PureNet) (n : IsNet net) (i : ℕ) where
  heard_known : (dest : ℕ) (ns : List (Listened L S)) → AreNeighbours stands_for is_sig value net (arcs_from net i) ns
      → (a : PureArc) (r : PureRoute) → IsItem a net.arcs → a.tail ≡ i → heard_by value ns a.id dest ≡ Some r → (dest < length net.dests) × (may_be_of net a.head r ≡ true)
  heard_known dest ns are a r item tail e =
      let found = heard_may_be stands_for is_sig value net (arcs_from net i) ns a.id dest r are e in
      let there = (item_passed (λ (b : PureArc). b.tail == i) net.arcs found.0 found.1).0 in
      let one : (found.0.id == a.id) ≡ true = rw found.2 (same_number a.id) in
      let same : found.0 ≡ a = same_arcs net found.0 a (arc_stands net found.0 n there) (arc_stands net a n item) one in
      (found.4, subst (λ (z : PureArc). may_be_of net z.head r ≡ true) same found.3)
    where
      same_number : (k : ℕ) → (k == k) ≡ true
      same_number k = grind (arith, nat_tests)

  may_be_heard : (dest : ℕ) (ns : List (Listened L S)) → AreNeighbours stands_for is_sig value net (arcs_from net i) ns → MayBeHeard net dest i (heard_by value ns)
  may_be_heard dest ns are a r item tail e = (heard_known dest ns are a r item tail e).1

  -- a row that is the choice begins with the node
  pub row_begins : (dest : ℕ) (ns : List (Listened L S)) → AreNeighbours stands_for is_sig value net (arcs_from net i) ns
      → (row : Option (Known S)) → option_map (known_route value) row ≡ choice net dest i (heard_by value ns) → (k : Known S) → row ≡ Some k → begins_with i (known_route value k).path ≡ true
  row_begins dest ns are row e k f =
      (may_be_parts net i (known_route value k) (choice_may_be net n dest i (λ b. heard_by value ns b dest) (heard_known dest ns are) (known_route value k) (sym e ∙ ap (option_map (known_route value)) f)).1).begins

  -- once a route was heard on an arc, the row before and what the arc offers settle the choice
  pub row_settles : (dest : ℕ) (ns new : List (Listened L S)) → AreNeighbours stands_for is_sig value net (arcs_from net i) ns → AreNeighbours stands_for is_sig value net (arcs_from net i) new
      → (a : PureArc) (b : ℕ) (route : Option PureRoute) → slice_get net.arcs b ≡ Some a → a.id ≡ b → a.tail ≡ i
      → heard_by value new ≡ (λ c d. cond (c == b && d == dest) route (heard_by value ns c d))
      → (row : Option PureRoute) → row ≡ choice net dest i (heard_by value ns) → Settles net dest i (heard_by value new) a row
  row_settles dest ns new are are_new a b route stands number tail heard row is =
      subst (Settles net dest i (heard_by value new) a) (sym is)
      (choice_settles net n dest i (heard_by value ns) (heard_by value new) a (subst (λ z. slice_get net.arcs z ≡ Some a) (sym number) stands) tail others (may_be_heard dest ns are) (may_be_heard dest new are_new))
    where
      others : (c : ℕ) → (c == a.id) ≡ false → heard_by value ns c dest ≡ heard_by value new c dest
      others c apart =
          let misses : (c == b) ≡ false = subst (λ z. (c == z) ≡ false) number apart in
          sym (ap (λ h. h c dest) heard ∙ rw misses refl)
