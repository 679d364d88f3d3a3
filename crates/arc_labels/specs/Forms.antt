-- Labels of a network's arcs in an algebra's own form.
use Rattle.std.specs.Prelude.{◌≡◌, ℕ, List, Option, Some, None, map, slice_get, slice_index_or}
use Rattle.alg_model.specs.Expressions.{PureLabel}
use Rattle.net_graph.specs.Nets.{PureArc, PureNet}

-- the forms at these numbers
abbrev pub forms_at : {L : Type 0} → List (Option L) → List ℕ → List (Option L)
forms_at forms numbers = map (λ n. slice_index_or forms n None) numbers

-- the form of the label of that arc, if it was made
abbrev pub form_at : {L : Type 0} → List (Option L) → ℕ → Option L
form_at forms arc = slice_index_or forms arc None

-- it was made
pub record HasPlace {L : Type 0} (forms : List (Option L)) (arc : ℕ) : Type 0 where
  pub form : L
  pub at : form_at forms arc ≡ Some form

-- it was made, and stands for the label
pub record HasForm {L : Type 0} (stands_for : L → PureLabel → Type 0) (forms : List (Option L)) (arc : ℕ) (label : PureLabel) : Type 0 where
  pub form : L
  pub at : form_at forms arc ≡ Some form
  pub stands : stands_for form label

-- each arc has a form that stands for its label
abbrev pub AreForms : {L : Type 0} → (L → PureLabel → Type 0) → PureNet → List (Option L) → Type 0
AreForms stands_for net forms = (k : ℕ) (arc : PureArc) → slice_get net.arcs k ≡ Some arc → HasForm stands_for forms k arc.label
