-- The labels on a network's arcs, one arc after another.
use Rattle.std.proofs.Common.{◌≡◌, ℕ, ◌+◌, ◌<◌, ◌≤◌, List, [], ◌∷◌, ◌++◌, Bool, true, false, Some, option_map, get_or, set, slice_get, take, length, ap, ◌∙◌, arith}
use Rattle.std.proofs.lemmas.List.{take_more, take_all, length-map}
use Rattle.std.proofs.lemmas.Option.{slice_get-get_or, slice_get-map, slice_get_within, get_or_from_slice_get}
use Rattle.net_graph.specs.Nets.{PureArc, PureNet}
use Rattle.net_facts.specs.MarkLaws.{AreHeld, held_at, held_more, held_weaker}
use Rattle.profile_labels.specs.declared.labelled.Labelled.{Labelled}
use Rattle.property_infer.specs.Labels.{CoversLabels}
use Rattle.property_infer.specs.LabelLaws.{covers_present}
use Rattle.std.specs.List.{Contains}
use Rattle.std.proofs.lemmas.List.Elements.{Contains-append_left, Contains-push}
use Rattle.alg_model.specs.Expressions.{PureAlg, PureLabel, keep}
use Rattle.metacli.specs.Outcome.{labels_on}

-- one arc more has its label
pub label_at : (net : PureNet) (i : ℕ) (a : PureArc) → slice_get net.arcs i ≡ Some a
    → take (i + 1) (labels_on net) ≡ take i (labels_on net) ++ a.label ∷ []
label_at net i a e =
    let at : slice_get (labels_on net) i ≡ Some a.label =
    slice_get-map (λ (a : PureArc). a.label) net.arcs i ∙ ap (option_map (λ (a : PureArc). a.label)) e in
    take_more (labels_on net) i a.label (slice_get_within (labels_on net) i a.label at)
    ∙ ap (λ l. take i (labels_on net) ++ l ∷ []) (get_or_from_slice_get (labels_on net) i a.label a.label at)

-- all arcs have all labels
pub all_labels : (net : PureNet) (i : ℕ) → length net.arcs ≤ i → take i (labels_on net) ≡ labels_on net
all_labels net i h = take_all i (labels_on net) (omega (arith, h, length-map net.arcs (λ (a : PureArc). a.label)))

-- an arc whose number is in bounds is there
pub arc_there : (net : PureNet) (i : ℕ) → i < length net.arcs → (a : PureArc) × (slice_get net.arcs i ≡ Some a)
arc_there net i h = let none : PureArc = record { id = 0; tail = 0; head = 0; label = keep } in (get_or net.arcs i none, slice_get-get_or net.arcs i none h)

-- one label more is covered where it is one of them
covers_again : (a : PureAlg) (all : List PureLabel) (l : PureLabel) (labels : List Labelled) → Contains all l → CoversLabels a all labels → CoversLabels a (all ++ l ∷ []) labels
covers_again a all l labels within c = let i = c.covered l within in covers_present a all l labels i.0 i.1 i.2 c

-- the labels of the arcs before one are covered, and those that are marked are among them
pub record AreAdded (net : PureNet) (i : ℕ) (numbers : List ℕ) (marks : List Bool) (labels : List Labelled) : Type 0 where
  pub covers : CoversLabels net.alg (take i (labels_on net)) labels
  pub marked : AreHeld (Contains (take i (labels_on net))) net numbers marks

-- one arc more, whose label is added and marked
pub added_more : (net : PureNet) (i n : ℕ) (numbers : List ℕ) (marks : List Bool) (old new : List Labelled) (a : PureArc) → slice_get numbers i ≡ Some n → slice_get net.arcs i ≡ Some a
    → (CoversLabels net.alg (take i (labels_on net)) old → CoversLabels net.alg (take i (labels_on net) ++ a.label ∷ []) new)
    → AreAdded net i numbers marks old → AreAdded net (i + 1) numbers (set marks n true) new
added_more net i n numbers marks old new a number arc grown are =
    let before = take i (labels_on net) in
    let more = held_weaker (Contains before) (Contains (before ++ a.label ∷ [])) net numbers marks (λ l c. Contains-append_left before (a.label ∷ []) l c) are.marked in
    let next = label_at net i a arc in
    record {
      covers = rw next (grown are.covers);
      marked = rw next (held_more (Contains (before ++ a.label ∷ [])) net numbers marks i n a more number arc (Contains-push before a.label));
    }

-- or is marked
pub added_already : (net : PureNet) (i n : ℕ) (numbers : List ℕ) (marks : List Bool) (labels : List Labelled) → i < length net.arcs → slice_get numbers i ≡ Some n
    → get_or marks n false ≡ true → AreAdded net i numbers marks labels → AreAdded net (i + 1) numbers marks labels
added_already net i n numbers marks labels within number marked are =
    let there = arc_there net i within in
    let before = take i (labels_on net) in
    let l = there.0.label in
    let among = held_at (Contains before) net numbers marks i n there.0 are.marked number there.1 marked in
    let next = label_at net i there.0 there.1 in
    record {
      covers = rw next (covers_again net.alg before l labels among are.covers);
      marked = rw next (held_weaker (Contains before) (Contains (before ++ l ∷ [])) net numbers marks (λ m c. Contains-append_left before (l ∷ []) m c) are.marked);
    }
