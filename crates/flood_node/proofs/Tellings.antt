-- What is sent on the arcs of some numbers.
use Rattle.std.proofs.Common.{◌≡◌, ℕ, List, [], ◌∷◌, map, refl}
use Rattle.meta_base.specs.declared.ids.ArcId.{ArcId}
use Rattle.net_graph.specs.Nets.{PureArc}
use Rattle.flood_node.specs.Cards.{PureFlooded}
use Rattle.flood_node.specs.Node.{reported_on}

pub reported_ids : (ids : List ArcId) (arcs : List PureArc) (m : PureFlooded) → map (λ (id : ArcId). id.0) ids ≡ map (λ (a : PureArc). a.id) arcs → map {B = ℕ × PureFlooded} (λ (id : ArcId). (id.0, m)) ids ≡ reported_on arcs m
reported_ids [] [] m e = refl
reported_ids [] (a ∷ arcs) m e = absurd (cc)
reported_ids (id ∷ ids) [] m e = absurd (cc)
reported_ids (id ∷ ids) (a ∷ arcs) m e =
    let first : id.0 ≡ a.id = cc in
    let rest : map (λ (id : ArcId). id.0) ids ≡ map (λ (a : PureArc). a.id) arcs = cc in
    rw (first, reported_ids ids arcs m rest) refl
