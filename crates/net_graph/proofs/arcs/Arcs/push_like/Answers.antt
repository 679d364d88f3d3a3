use Rattle.std.proofs.Common.{◌<◌, ◌∙◌, length, map, refl}
use Rattle.std.proofs.lemmas.List.{length-map}
use Rattle.alg_model.specs.Views.{pure_label}
use Rattle.net_graph.specs.Kept.{kept_arc}
use Rattle.net_graph.proofs.KeptLemmas.{kept_at, pushed_like}
use Rattle.net_graph.proofs.arcs.Arcs.push_like.Goals as goal

pub returns-clause-ok : goal.returns-clause-ok
returns-clause-ok c =
    let labels = map pure_label c.self.inside.labels.items in
    let arcs = c.self.inside.arcs.items in
    let within : c.args.like.0 < length arcs = rw (length-map arcs (kept_arc labels)) at (rw (← c.self.view_is) at c.requires.like) in
    let read = kept_at labels arcs c.args.like.0 c.index.result.now within c.index.ensures in
    rw (← c.self.view_is, read, c.push_reserved.ensures.items, c.reserve.ensures.items)
    (pushed_like labels arcs (record { id = record { 0 = c.len.result }; tail = c.args.tail; head = c.args.head; label = c.index.result.now.label }) c.index.result.now refl (c.len.ensures ∙ c.self.inside.arcs.ok.0))
