-- Where arcs that pass a test stand in their network. Lemmas, so that proofs of other crates may cite them.
use Rattle.std.proofs.Common.{◌≡◌, ℕ, ◌+◌, ◌<◌, zero, suc, List, [], ◌∷◌, Option, Some, None, Bool, true, false, map, filter, option_map, length, refl, sym, ap, ◌∙◌, arith}
use Rattle.std.specs.List.{slice_get}
use Rattle.std.proofs.lemmas.Option.{slice_get_within, slice_get-map}
use Rattle.meta_base.specs.declared.ids.ArcId.{ArcId}
use Rattle.alg_model.specs.declared.edition.TheConstants.{MAX_LABEL_NUMBER}
use Rattle.alg_model.specs.Bounds.{LabelAtMost, greatest_number}
use Rattle.alg_model.specs.Laws.{label_at_most_more, greatest_is_bounded}
use Rattle.net_graph.specs.ArcLaws.{all_at}
use Rattle.net_graph.specs.Nets.{PureArc, PureNet, IsNet, IsArcOf, AreNumbered}

pub record IsAt (arcs : List PureArc) (p : PureArc → Bool) (n : ℕ) (b : PureArc) : Type 0 where
  pub place : ℕ
  pub number : b.id ≡ n + place
  pub there : slice_get arcs place ≡ Some b
  pub passes : p b ≡ true

-- what passes a test among numbered arcs stands where its number says
pub numbered_at : (arcs : List PureArc) (p : PureArc → Bool) (n : ℕ) → AreNumbered n arcs → (m : ℕ) (b : PureArc) → slice_get (filter p arcs) m ≡ Some b → IsAt arcs p n b
numbered_at [] p n h m b e = absurd (cc)
numbered_at (a ∷ arcs) p n h m b e = by (λ k f. numbered_at arcs p (n + 1) h.1 k b f) (p a) refl m e
  where
    later : IsAt arcs p (n + 1) b → IsAt (a ∷ arcs) p n b
    later i = let e = i.number in record { place = suc i.place; number = omega arith; there = i.there; passes = i.passes }

    by : ((k : ℕ) → slice_get (filter p arcs) k ≡ Some b → IsAt arcs p (n + 1) b) → (c : Bool) → p a ≡ c → (m : ℕ) → slice_get (filter p (a ∷ arcs)) m ≡ Some b → IsAt (a ∷ arcs) p n b
    by rest true f zero e =
        let g : Some a ≡ Some b = rw f at e in
        let same : a ≡ b = cc in
        let id = h.0 in
        record { place = 0; number = rw (← same) (omega arith); there = rw same refl; passes = rw (← same) f }
    by rest true f (suc k) e = later (rest k (rw f at e))
    by rest false f m e = later (rest m (rw f at e))

-- what the network says of the arc of an id
pub arc_of_net : (net : PureNet) → IsNet net → (id : ℕ) (a : PureArc) → slice_get net.arcs id ≡ Some a → IsArcOf net.alg (length net.nodes) a
arc_of_net net n id a e = all_at (IsArcOf net.alg (length net.nodes)) net.arcs id a n.arcs_in e

-- its label may be applied
pub arc_label_small : (net : PureNet) → IsNet net → (id : ℕ) (a : PureArc) → slice_get net.arcs id ≡ Some a → LabelAtMost MAX_LABEL_NUMBER a.label
arc_label_small net n id a e =
    label_at_most_more (greatest_number net.alg.edition) MAX_LABEL_NUMBER a.label (greatest_is_bounded net.alg.edition) (arc_of_net net n id a e).bound

-- an arc that passes a test stands in the network by its id
pub arc_there : (net : PureNet) → IsNet net → (p : PureArc → Bool) (m : ℕ) (a : PureArc) → slice_get (filter p net.arcs) m ≡ Some a → slice_get net.arcs a.id ≡ Some a
arc_there net n p m a e =
    let at = numbered_at net.arcs p 0 n.arc_ids m a e in
    let k = at.number in
    let same : at.place ≡ a.id = omega arith in
    rw same at at.there

-- the arc whose id stands at a place of those of some arcs
pub record IsById (net : PureNet) (arcs : List PureArc) (m id : ℕ) : Type 0 where
  pub arc : PureArc
  pub at_place : slice_get arcs m ≡ Some arc
  pub number : arc.id ≡ id
  pub there : slice_get net.arcs id ≡ Some arc
  pub within : id < length net.arcs

pub by_id : (net : PureNet) → IsNet net → (p : PureArc → Bool) (ids : List ArcId) (m : ℕ) (id : ArcId) → map (λ (d : ArcId). d.0) ids ≡ map (λ (a : PureArc). a.id) (filter p net.arcs)
    → slice_get ids m ≡ Some id → IsById net (filter p net.arcs) m id.0
by_id net n p ids m id e f = by (slice_get (filter p net.arcs) m) refl
  where
    at_ids : slice_get (map (λ (d : ArcId). d.0) ids) m ≡ Some id.0
    at_ids = slice_get-map (λ (d : ArcId). d.0) ids m ∙ ap (option_map (λ (d : ArcId). d.0)) f

    mapped : option_map (λ (a : PureArc). a.id) (slice_get (filter p net.arcs) m) ≡ Some id.0
    mapped = sym (slice_get-map (λ (a : PureArc). a.id) (filter p net.arcs) m) ∙ (ap (λ xs. slice_get xs m) (sym e) ∙ at_ids)

    by : (o : Option PureArc) → slice_get (filter p net.arcs) m ≡ o → IsById net (filter p net.arcs) m id.0
    by None g = absurd (let h = mapped in cc)
    by (Some a) g =
        let number : Some a.id ≡ Some id.0 = rw g at mapped in
        let same : a.id ≡ id.0 = cc in
        let there : slice_get net.arcs id.0 ≡ Some a = ap (slice_get net.arcs) (sym same) ∙ arc_there net n p m a g in
        record { arc = a; at_place = g; number = same; there = there; within = slice_get_within net.arcs id.0 a there }
