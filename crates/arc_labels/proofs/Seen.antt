-- The neighbours of a node, one after another.
use Rattle.std.proofs.Common.{◌≡◌, ℕ, List, [], ◌∷◌, ◌++◌, Option, Some, length, slice_get, sym, subst, ◌∙◌}
use Rattle.std.proofs.lemmas.Option.{same_Some}
use Rattle.alg_model.specs.Expressions.{PureLabel}
use Rattle.net_graph.specs.Nets.{PureArc}
use Rattle.arc_labels.specs.declared.neighbours.Neighbour.{Neighbour}
use Rattle.arc_labels.specs.Forms.{HasForm, HasPlace, form_at}
use Rattle.arc_labels.specs.Growing.{each_more, the_one}
use Rattle.arc_labels.specs.Neighbours.{IsNeighbour}

-- with one more
pub one_more : {L : Type 0} (stands_for : L → PureLabel → Type 0) (end_of : PureArc → ℕ) (arcs : List PureArc) (done : List (Neighbour L)) (neighbour : Neighbour L) (arc : PureArc)
    → slice_get arcs (length done) ≡ Some arc → IsNeighbour stands_for end_of arc neighbour
    → ((k : ℕ) (n : Neighbour L) → slice_get done k ≡ Some n → (a : PureArc) → slice_get arcs k ≡ Some a → IsNeighbour stands_for end_of a n)
    → (k : ℕ) (n : Neighbour L) → slice_get (done ++ neighbour ∷ []) k ≡ Some n → (a : PureArc) → slice_get arcs k ≡ Some a → IsNeighbour stands_for end_of a n
one_more stands_for end_of arcs done neighbour arc there is each =
    each_more (λ k n. (a : PureArc) → slice_get arcs k ≡ Some a → IsNeighbour stands_for end_of a n) done neighbour (the_one (λ a. IsNeighbour stands_for end_of a neighbour) (slice_get arcs (length done)) arc there is) each

module _ {L : Type 0} (stands_for : L → PureLabel → Type 0) (forms : List (Option L)) (arc : ℕ) (label : PureLabel) (h : HasForm stands_for forms arc label) where
  -- a form that stands for a label was made
  pub was_made : HasPlace forms arc
  was_made = record { form = h.form; at = h.at }

  -- and so what is lent stands for it
  pub lent_stands : (x : L) → form_at forms arc ≡ Some x → stands_for x label
  lent_stands x at = subst (λ f. stands_for f label) (same_Some h.form x (sym h.at ∙ at)) h.stands
