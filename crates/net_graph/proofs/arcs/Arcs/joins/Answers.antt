use Rattle.std.proofs.Common.{◌≡◌, ◌||◌, ◌&&◌, ◌∙◌, ℕ, List, Some, ap, eqb, get_or, map, slice_get, subst}
use Rattle.alg_model.specs.Views.{pure_label}
use Rattle.net_graph.specs.Kept.{kept_arc}
use Rattle.net_graph.specs.Nets.{PureArc}
use Rattle.net_graph.specs.declared.arcs.KeptArc.{KeptArc}
use Rattle.net_graph.proofs.CopyLemmas.{get_or_any}
use Rattle.net_graph.proofs.JoinLemmas.{joined_next}
use Rattle.net_graph.proofs.KeptLemmas.{kept_at, no_arc}
use Rattle.net_graph.proofs.arcs.Arcs.joins.Goals as goal

pub loop-arc-preserved : goal.loop-arc-preserved
loop-arc-preserved c =
    let labels = map pure_label c.self.inside.labels.items in
    let items = c.deref-arc-items.result.now in
    let i = c.loop-arc.arc-index in
    let arc : KeptArc = get_or items i no_arc in
    let read : slice_get c.args.self.now i ≡ Some (kept_arc labels arc) =
    subst (λ (arcs : List PureArc). slice_get arcs i ≡ Some (kept_arc labels arc)) (ap (map (kept_arc labels)) c.deref-arc-items.ensures.value ∙ c.self.view_is)
    (kept_at labels items i arc c.loop-arc-test.true (get_or_any items i no_arc arc c.loop-arc-test.true)) in
    joined_next c.loop-arc.joins c.note.new.self c.args.self.now i (kept_arc labels arc) read c.loop-arc.invariant
    (λ (tail head : ℕ). c.note.ensures tail head ∙ ap (λ b. b || (eqb (kept_arc labels arc).tail tail && eqb (kept_arc labels arc).head head)) (c.make_room.ensures.same tail head))
