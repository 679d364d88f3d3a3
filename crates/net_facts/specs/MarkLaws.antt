-- Labels of a network that are marked by their numbers once something was found to hold of them. Lemmas, so that
-- proofs of other crates may cite them.
use Rattle.std.proofs.Common.{◌≡◌, arith, ℕ, zero, suc, List, [], Bool, true, false, ◌⊎◌, ⊎_elim, Some, get_or, set, replicate, slice_get, ap, sym, subst, ◌∙◌}
use Rattle.std.proofs.lemmas.Bool.{cases_order}
use Rattle.std.proofs.lemmas.Option.{same_Some}
use Rattle.std.proofs.lemmas.List.{get_or-set_other}
use Rattle.alg_model.specs.Expressions.{PureLabel}
use Rattle.net_graph.specs.LabelLaws.{label_at}
use Rattle.net_graph.specs.LabelNumbers.{AreLabelNumbers}
use Rattle.net_graph.specs.Nets.{PureArc, PureNet}

-- of each label whose number is marked it holds
pub record AreHeld (P : PureLabel → Type 0) (net : PureNet) (numbers : List ℕ) (marks : List Bool) : Type 0 where
  pub numbered : AreLabelNumbers net numbers
  pub held : (n : ℕ) (l : PureLabel) → get_or marks n false ≡ true → slice_get numbered.labels n ≡ Some l → P l

unmarked : (count n : ℕ) → get_or (replicate count false) n false ≡ true → ⊥
unmarked zero n e = absurd (cc)
unmarked (suc count) zero e = absurd (cc)
unmarked (suc count) (suc n) e = unmarked count n e

-- before any is marked
pub none_held : (P : PureLabel → Type 0) (net : PureNet) (numbers : List ℕ) (marks : List Bool) (count : ℕ) → AreLabelNumbers net numbers
    → (marks ≡ replicate count false) ⊎ (marks ≡ []) → AreHeld P net numbers marks
none_held P net numbers marks count numbered none = record {
  numbered = numbered;
  held = λ n l e at. ⊎_elim
      (λ all. absurd (unmarked count n (subst (λ (ms : List Bool). get_or ms n false ≡ true) all e)))
      (λ empty. absurd (unmarked 0 n (subst (λ (ms : List Bool). get_or ms n false ≡ true) empty e)))
      none;
}

-- an arc whose label's number is marked
pub held_at : (P : PureLabel → Type 0) (net : PureNet) (numbers : List ℕ) (marks : List Bool) (k n : ℕ) (a : PureArc) → AreHeld P net numbers marks
    → slice_get numbers k ≡ Some n → slice_get net.arcs k ≡ Some a → get_or marks n false ≡ true → P a.label
held_at P net numbers marks k n a h number arc marked = h.held n a.label marked (label_at net numbers h.numbered k n a number arc)

-- the label of one arc more is marked
pub held_more : (P : PureLabel → Type 0) (net : PureNet) (numbers : List ℕ) (marks : List Bool) (k n : ℕ) (a : PureArc) → AreHeld P net numbers marks
    → slice_get numbers k ≡ Some n → slice_get net.arcs k ≡ Some a → P a.label → AreHeld P net numbers (set marks n true)
held_more P net numbers marks k n a h number arc holds = record {
  numbered = h.numbered;
  held = λ m l marked at.
      let here = label_at net numbers h.numbered k n a number arc in
      let other : (m ≡ n → ⊥) → P l = λ apart. h.held m l (sym (get_or-set_other marks n m true false apart) ∙ marked) at in
      ⊎_elim
      (λ same. subst P (same_Some a.label l (sym here ∙ ap (slice_get h.numbered.labels) same ∙ at)) holds)
      (λ apart. ⊎_elim (λ less. other (λ e. absurd (omega (arith, less, e)))) (λ more. other (λ e. absurd (omega (arith, more, e)))) apart)
      (cases_order n m);
}

-- what holds may become more
pub held_weaker : (P Q : PureLabel → Type 0) (net : PureNet) (numbers : List ℕ) (marks : List Bool) → ((l : PureLabel) → P l → Q l) → AreHeld P net numbers marks → AreHeld Q net numbers marks
held_weaker P Q net numbers marks more h = record { numbered = h.numbered; held = λ n l marked at. more l (h.held n l marked at) }
