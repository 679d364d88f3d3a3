-- The listeners of a node, one after another.
use Rattle.std.proofs.Common.{◌≡◌, ℕ, zero, suc, ◌+◌, ◌<◌, List, [], ◌∷◌, ◌++◌, Bool, true, false, length, map, cond, slice_get, slice_index_or, take, Some, refl, sym, ap, ◌∙◌, arith}
use Rattle.std.specs.Prelude.{filter, ◌==◌}
use Rattle.std.proofs.lemmas.List.{map-append, append_assoc}
use Rattle.std.proofs.lemmas.List.Elements.{filter-append}
use Rattle.meta_base.specs.declared.ids.ArcId.{ArcId}
use Rattle.net_graph.specs.Nets.{PureArc, PureNet, IsNet, arcs_to}
use Rattle.path_vector.specs.Node.{PureUpdate, reported_on}
use Rattle.path_vector.specs.Items.{item_at, item_passed}
use Rattle.path_vector.specs.Choosing.{arc_stands}
use Rattle.path_vector.proofs.Choices.{take_next}

arc_of : (ids : List ArcId) (arcs : List PureArc) (k : ℕ) (d : ArcId) → map (λ (id : ArcId). id.0) ids ≡ map (λ (a : PureArc). a.id) arcs → k < length ids
    → (a : PureArc) × (slice_get arcs k ≡ Some a) × (a.id ≡ (slice_index_or ids k d).0)
arc_of [] arcs k d e l = absurd (omega arith)
arc_of (id ∷ ids) [] k d e l = absurd (cc)
arc_of (id ∷ ids) (a ∷ arcs) zero d e l = let same : id.0 ≡ a.id = cc in (a, refl, sym same)
arc_of (id ∷ ids) (a ∷ arcs) (suc k) d e l =
    let rest : map (λ (id : ArcId). id.0) ids ≡ map (λ (a : PureArc). a.id) arcs = cc in
    arc_of ids arcs k d rest (omega arith)

-- the arc at a place of the listeners
pub listener_at : (net : PureNet) (i : ℕ) (ids : List ArcId) (k : ℕ) (d : ArcId) → IsNet net → map (λ (id : ArcId). id.0) ids ≡ map (λ (a : PureArc). a.id) (arcs_to net i) → k < length ids
    → (a : PureArc) × (slice_get (arcs_to net i) k ≡ Some a) × (a.id ≡ (slice_index_or ids k d).0) × (slice_get net.arcs (slice_index_or ids k d).0 ≡ Some a)
listener_at net i ids k d n e l =
    let there = arc_of ids (arcs_to net i) k d e l in
    let item = (item_passed (λ (a : PureArc). a.head == i) net.arcs there.0 (item_at (arcs_to net i) k there.0 there.1)).0 in
    (there.0, there.1, there.2, ap (slice_get net.arcs) (sym there.2) ∙ arc_stands net there.0 n item)

-- it is reported to one more listener, if it is news there
pub reported_next : (p : PureArc → Bool) (arcs : List PureArc) (u : PureUpdate) (k : ℕ) (a : PureArc) → slice_get arcs k ≡ Some a
    → reported_on (filter p (take (suc k) arcs)) u ≡ reported_on (filter p (take k arcs)) u ++ cond (p a) ((a.id, u) ∷ []) []
reported_next p arcs u k a e =
    ap (λ z. reported_on (filter p z) u) (take_next arcs k a e)
    ∙ ap (λ z. reported_on z u) (filter-append p (take k arcs) (a ∷ []))
    ∙ map-append {B = ℕ × PureUpdate} (λ (b : PureArc). (b.id, u)) (filter p (take k arcs)) (filter p (a ∷ []))
    ∙ ap (λ z. reported_on (filter p (take k arcs)) u ++ z) (last (p a))
  where
    last : (b : Bool) → reported_on (cond b (a ∷ []) []) u ≡ cond b ((a.id, u) ∷ []) []
    last true = refl
    last false = refl

-- what is put on the arcs of these numbers is reported on them
pub reported_ids : (ids : List ArcId) (arcs : List PureArc) (u : PureUpdate) → map (λ (id : ArcId). id.0) ids ≡ map (λ (a : PureArc). a.id) arcs → map {B = ℕ × PureUpdate} (λ (id : ArcId). (id.0, u)) ids ≡ reported_on arcs u
reported_ids [] [] u e = refl
reported_ids [] (a ∷ arcs) u e = absurd (cc)
reported_ids (id ∷ ids) [] u e = absurd (cc)
reported_ids (id ∷ ids) (a ∷ arcs) u e =
    let first : id.0 ≡ a.id = cc in
    let rest : map (λ (id : ArcId). id.0) ids ≡ map (λ (a : PureArc). a.id) arcs = cc in
    rw (first, reported_ids ids arcs u rest) refl

-- what is reported in all where it is reported to one more listener, if it is news there
pub one_reported : (p : PureArc → Bool) (arcs : List PureArc) (u : PureUpdate) (k id : ℕ) (a : PureArc) (news : Bool) (before now after : List (ℕ × PureUpdate)) → slice_get arcs k ≡ Some a → a.id ≡ id → news ≡ p a
    → now ≡ before ++ reported_on (filter p (take k arcs)) u → after ≡ now ++ cond news ((id, u) ∷ []) [] → after ≡ before ++ reported_on (filter p (take (k + 1) arcs)) u
one_reported p arcs u k id a news before now after at number is so next =
    let more : suc k ≡ k + 1 = omega arith in
    let step : now ++ cond news ((id, u) ∷ []) [] ≡ (before ++ reported_on (filter p (take k arcs)) u) ++ cond (p a) ((a.id, u) ∷ []) [] = rw (so, is, number) refl in
    next ∙ step ∙ append_assoc before (reported_on (filter p (take k arcs)) u) (cond (p a) ((a.id, u) ∷ []) [])
    ∙ ap (λ z. before ++ z) (sym (reported_next p arcs u k a at))
    ∙ ap (λ z. before ++ reported_on (filter p (take z arcs)) u) more
