-- Codes of the labels on arcs, one arc after another, and codes that arcs share.
use Rattle.std.proofs.Common.{◌≡◌, ℕ, zero, suc, ◌+◌, ◌<◌, ◌≤◌, List, [], ◌∷◌, ◌++◌, Some, length, map, option_map, get_or, slice_get, take, refl, ap, sym, ◌∙◌, arith}
use Rattle.std.specs.Prelude.{slice_index_or}
use Rattle.std.proofs.lemmas.List.{length-map, map-append, take_all, take_more}
use Rattle.std.proofs.lemmas.Option.{get_or_from_slice_get, same_Some, slice_get-get_or, slice_get-map, slice_get_within}
use Rattle.alg_model.specs.Expressions.{PureLabel, keep}
use Rattle.net_graph.specs.LabelLaws.{label_at as label_numbered}
use Rattle.net_graph.specs.LabelNumbers.{AreLabelNumbers}
use Rattle.net_graph.specs.Nets.{PureArc, PureNet}
use Rattle.arc_codes.specs.ArcLabels.{labels_of}

-- the label of an arc is that of its place
label_at : (net : PureNet) (i : ℕ) (a : PureArc) → slice_get net.arcs i ≡ Some a → slice_get (labels_of net) i ≡ Some a.label
label_at net i a e = slice_get-map (λ (b : PureArc). b.label) net.arcs i ∙ ap (option_map (λ (b : PureArc). b.label)) e

-- one arc more has its label
labels_more : (net : PureNet) (i : ℕ) (a : PureArc) → slice_get net.arcs i ≡ Some a → take (i + 1) (labels_of net) ≡ take i (labels_of net) ++ a.label ∷ []
labels_more net i a e =
    let at = label_at net i a e in
    take_more (labels_of net) i a.label (slice_get_within (labels_of net) i a.label at)
    ∙ ap (λ l. take i (labels_of net) ++ l ∷ []) (get_or_from_slice_get (labels_of net) i a.label a.label at)

-- all arcs have all labels
pub all_labels : (net : PureNet) (i : ℕ) → length net.arcs ≤ i → take i (labels_of net) ≡ labels_of net
all_labels net i h = take_all i (labels_of net) (omega (arith, h, length-map net.arcs (λ (a : PureArc). a.label)))

arc_there : (net : PureNet) (i : ℕ) → i < length net.arcs → (a : PureArc) × (slice_get net.arcs i ≡ Some a)
arc_there net i h = let none : PureArc = record { id = 0; tail = 0; head = 0; label = keep } in (get_or net.arcs i none, slice_get-get_or net.arcs i none h)

-- one arc more, and what is made of its label
pub made_at : {X : Type 0} (make : PureLabel → X) (net : PureNet) (i : ℕ) (arc : PureArc) (made : List X) (next : X)
    → made ≡ map make (take i (labels_of net)) → slice_get net.arcs i ≡ Some arc → next ≡ make arc.label
    → made ++ next ∷ [] ≡ map make (take (i + 1) (labels_of net))
made_at make net i arc made next before at is =
    ap (λ xs. xs ++ next ∷ []) before
    ∙ ap (λ x. map make (take i (labels_of net)) ++ x ∷ []) is
    ∙ sym (map-append make (take i (labels_of net)) (arc.label ∷ []))
    ∙ ap (map make) (sym (labels_more net i arc at))

-- what stands before a place stands in front of it
front_at : {X : Type 0} (xs : List X) (j i : ℕ) → i < j → slice_get (take j xs) i ≡ slice_get xs i
front_at xs zero i h = absurd (omega (arith, h))
front_at [] (suc j) i h = refl
front_at (x ∷ xs) (suc j) zero h = refl
front_at (x ∷ xs) (suc j) (suc i) h = front_at xs j i (omega (arith, h))

-- one arc more, with what was made of an earlier one's label that has the same number
pub shared_at : {X : Type 0} (make : PureLabel → X) (net : PureNet) (numbers : List ℕ) → AreLabelNumbers net numbers → (i j n : ℕ) (made : List X) (none : X)
    → made ≡ map make (take j (labels_of net)) → i < j → j < length net.arcs → slice_get numbers i ≡ Some n → slice_get numbers j ≡ Some n
    → made ++ slice_index_or made i none ∷ [] ≡ map make (take (j + 1) (labels_of net))
shared_at make net numbers r i j n made none before less within first second = made_at make net j b.0 made (slice_index_or made i none) before b.1 is
  where
    a : (x : PureArc) × (slice_get net.arcs i ≡ Some x)
    a = arc_there net i (omega (arith, less, within))

    b : (x : PureArc) × (slice_get net.arcs j ≡ Some x)
    b = arc_there net j within

    same : a.0.label ≡ b.0.label
    same = same_Some a.0.label b.0.label (sym (label_numbered net numbers r i n a.0 first a.1) ∙ label_numbered net numbers r j n b.0 second b.1)

    there : slice_get (map make (take j (labels_of net))) i ≡ Some (make a.0.label)
    there =
        slice_get-map make (take j (labels_of net)) i
        ∙ ap (option_map make) (front_at (labels_of net) j i less ∙ label_at net i a.0 a.1)

    is : slice_index_or made i none ≡ make b.0.label
    is = ap (λ xs. get_or xs i none) before ∙ (get_or_from_slice_get (map make (take j (labels_of net))) i (make a.0.label) none there ∙ ap make same)
