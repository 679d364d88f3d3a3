-- Which delivery is made next.
use Rattle.std.proofs.Common.{◌≡◌, ℕ, ◌+◌, ◌≤◌, ◌==◌, true, zero, suc, List, [], ◌∷◌, ◌++◌, Some, map, length, drop, slice_get, refl, sym, ap, ◌∙◌, arith}
use Rattle.std.proofs.lemmas.Option.{slice_get_within}
use Rattle.alg_model.specs.Expressions.{PureLabel}
use Rattle.arc_labels.specs.declared.neighbours.Neighbour.{Neighbour}
use Rattle.arc_labels.specs.Neighbours.{AreListenerLabels, IsNeighbour, tail_of}
use Rattle.net_graph.specs.Nets.{PureArc, PureNet, IsArcOf, IsNet, arcs_to}
use Rattle.path_vector.specs.Choosing.{arc_is_in, arc_stands}
use Rattle.path_vector.specs.Items.{item_at, item_passed, item_there}
use Rattle.path_vector.specs.Node.{PureUpdate, reported_on}
use Rattle.vector_block.specs.Blocks.{for_all, waiting}

-- the arc on which the listener whose turn it is hears the speaker
pub record IsTurn {L : Type 0} (stands_for : L → PureLabel → Type 0) (net : PureNet) (speaker passed : ℕ) (listener : Neighbour L) : Type 0 where
  pub arc : PureArc
  pub turn : slice_get (arcs_to net speaker) passed ≡ Some arc
  pub is_neighbour : IsNeighbour stands_for tail_of arc listener
  pub is_arc : IsArcOf net.alg (length net.nodes) arc
  pub stands : slice_get net.arcs arc.id ≡ Some arc
  pub head : (arc.head == speaker) ≡ true

pub turn_of : {L : Type 0} (stands_for : L → PureLabel → Type 0) (net : PureNet) → IsNet net → (labels : List (List (Neighbour L))) → AreListenerLabels stands_for net labels
    → (speaker passed : ℕ) (listeners : List (Neighbour L)) (listener : Neighbour L) → slice_get labels speaker ≡ Some listeners → slice_get listeners passed ≡ Some listener → IsTurn stands_for net speaker passed listener
turn_of stands_for net n labels are speaker passed listeners listener e f =
    let of = are.each speaker listeners e in
    let within = slice_get_within listeners passed listener f in
    let there = item_there (arcs_to net speaker) passed (omega (arith, within, of.count)) in
    let a = there.0 in
    let inside = item_passed (λ (b : PureArc). b.head == speaker) net.arcs a (item_at (arcs_to net speaker) passed a there.1) in
    record {
      arc = a;
      turn = there.1;
      is_neighbour = of.each passed listener f a there.1;
      is_arc = arc_is_in net a n inside.0;
      stands = arc_stands net a n inside.0;
      head = inside.1;
    }

-- past the listeners of the first report it is the next one's turn
pub past_first : (net : PureNet) (passed : ℕ) (p : ℕ × PureUpdate) (ps : List (ℕ × PureUpdate)) → length (arcs_to net p.0) ≤ passed → waiting net 0 ps ≡ waiting net passed (p ∷ ps)
past_first net passed p ps l = all ps ∙ sym (ap (λ arcs. reported_on arcs p.1 ++ for_all net ps) (none (arcs_to net p.0) passed l))
  where
    none : {X : Type 0} (xs : List X) (k : ℕ) → length xs ≤ k → drop k xs ≡ []
    none [] zero l = refl
    none [] (suc k) l = refl
    none (x ∷ xs) zero l = absurd (omega arith)
    none (x ∷ xs) (suc k) l = none xs k (omega arith)

    all : (qs : List (ℕ × PureUpdate)) → waiting net 0 qs ≡ for_all net qs
    all [] = refl
    all (q ∷ qs) = refl

-- a list from a place on opens with what stands there
pub drop_at : {X : Type 0} (xs : List X) (k : ℕ) (x : X) → slice_get xs k ≡ Some x → drop k xs ≡ x ∷ drop (k + 1) xs
drop_at [] k x e = absurd (cc)
drop_at (y ∷ xs) zero x e =
    let same : y ≡ x = cc in
    ap (λ z. z ∷ xs) same
drop_at (y ∷ xs) (suc k) x e =
    let next : suc k + 1 ≡ suc (k + 1) = omega arith in
    drop_at xs k x e ∙ ap (λ n. x ∷ drop n (y ∷ xs)) (sym next)

pub mapped_at : {X Y : Type 0} (f : X → Y) (xs : List X) (k : ℕ) (x : X) → slice_get xs k ≡ Some x → slice_get (map f xs) k ≡ Some (f x)
mapped_at f [] k x e = absurd (cc)
mapped_at f (y ∷ xs) zero x e =
    let same : y ≡ x = cc in
    ap (λ z. Some (f z)) same
mapped_at f (y ∷ xs) (suc k) x e = mapped_at f xs k x e
