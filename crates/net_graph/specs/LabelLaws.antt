-- Where the labels of arcs stand. A lemma, so that proofs of other crates may cite it.
use Rattle.std.proofs.Common.{◌≡◌, ℕ, List, Some, option_map, slice_get, ap, sym, ◌∙◌}
use Rattle.std.proofs.lemmas.Option.{same_Some, slice_get-map}
use Rattle.net_graph.specs.LabelNumbers.{AreLabelNumbers}
use Rattle.net_graph.specs.Nets.{PureArc, PureNet}

-- the label of an arc stands at its number
pub label_at : (net : PureNet) (numbers : List ℕ) (r : AreLabelNumbers net numbers) (k n : ℕ) (a : PureArc)
    → slice_get numbers k ≡ Some n → slice_get net.arcs k ≡ Some a → slice_get r.labels n ≡ Some a.label
label_at net numbers r k n a number arc =
    same_Some (slice_get r.labels n) (Some a.label)
    (sym (slice_get-map (slice_get r.labels) numbers k ∙ ap (option_map (slice_get r.labels)) number)
    ∙ ap (λ xs. slice_get xs k) r.places
    ∙ slice_get-map (λ (b : PureArc). Some b.label) net.arcs k ∙ ap (option_map (λ (b : PureArc). Some b.label)) arc)
