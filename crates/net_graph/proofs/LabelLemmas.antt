-- The numbers of labels on arcs that stand at spots.
use Rattle.std.proofs.Common.{◌≡◌, ℕ, ◌<◌, List, [], ◌∷◌, Some, length, map, get_or, slice_get, refl, sym, ap, ◌∙◌, option_map}
use Rattle.std.proofs.lemmas.List.{length-map}
use Rattle.std.proofs.lemmas.Option.{slice_get-get_or, slice_get-map, get_or_from_slice_get}
use Rattle.std.specs.List.{AllByRecursion}
use Rattle.alg_model.specs.Expressions.{PureLabel, keep}
use Rattle.net_graph.specs.Nets.{PureArc}
use Rattle.net_graph.specs.Kept.{kept_arc, HaveLabels}
use Rattle.net_graph.specs.Groups.{StandAt, item_at, items_at}
use Rattle.net_graph.specs.LabelNumbers.{numbers_at}
use Rattle.net_graph.specs.declared.arcs.KeptArc.{KeptArc}
use Rattle.net_graph.specs.declared.groups.Spot.{Spot}
use Rattle.net_graph.proofs.GroupLemmas.{item_at-stand, length-stand}

-- each number is below the count of the labels
pub numbers_below : (count : ℕ) (arcs : List KeptArc) → HaveLabels count arcs → AllByRecursion (λ n. n < count) (map (λ (a : KeptArc). a.label.0) arcs)
numbers_below count [] have = tt
numbers_below count (a ∷ arcs) have = (have.0, numbers_below count arcs have.1)

-- there is one for each spot
pub numbers_counted : (out : List (List KeptArc)) (spots : List Spot) → StandAt out spots (items_at out spots) → length spots ≡ length (numbers_at out spots)
numbers_counted out spots s = length-stand out spots (items_at out spots) s ∙ sym (length-map (items_at out spots) (λ (a : KeptArc). a.label.0))

-- the arc at the spot of that number is there
pub spot_read : (out : List (List KeptArc)) (spots : List Spot) (i : ℕ) (d : Spot) → StandAt out spots (items_at out spots) → i < length spots
    → (a : KeptArc) × (item_at out (get_or spots i d) ≡ Some a) × (slice_get (items_at out spots) i ≡ Some a)
spot_read out spots i d s h =
    let spot = get_or spots i d in
    item_at-stand out spots (items_at out spots) i spot s h (sym (get_or_from_slice_get spots i spot spot (slice_get-get_or spots i d h)))

-- and has the number
pub number_read : (out : List (List KeptArc)) (spots : List Spot) (i : ℕ) (d : Spot) (a : KeptArc) → StandAt out spots (items_at out spots) → i < length spots
    → item_at out (get_or spots i d) ≡ Some a → slice_get (numbers_at out spots) i ≡ Some a.label.0
number_read out spots i d a s h e =
    let read = spot_read out spots i d s h in
    slice_get-map (λ (x : KeptArc). x.label.0) (items_at out spots) i ∙ ap (option_map (λ (x : KeptArc). x.label.0)) (read.2 ∙ sym read.1 ∙ e)

-- the label of each arc stands at its number
pub labels_placed : (labels : List PureLabel) (arcs : List KeptArc) → HaveLabels (length labels) arcs
    → map (slice_get labels) (map (λ (a : KeptArc). a.label.0) arcs) ≡ map (λ (a : PureArc). Some a.label) (map (kept_arc labels) arcs)
labels_placed labels [] have = refl
labels_placed labels (a ∷ arcs) have = rw (slice_get-get_or labels a.label.0 keep have.0, labels_placed labels arcs have.1) refl
