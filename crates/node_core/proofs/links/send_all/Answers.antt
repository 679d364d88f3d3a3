use Rattle.std.proofs.Common.{◌≡◌, ◌∷◌, ◌++◌, ◌∙◌, map}
use Rattle.std.specs.Vec.Iter.{into_iter_items}
use Rattle.meta_base.specs.declared.ids.ArcId.{ArcId}
use Rattle.node_core.specs.Kinds.{on_arc}
use Rattle.node_core.specs.Configs.{numbered, waits_on, spare_on}
use Rattle.node_core.proofs.LinkLemmas.{room_first, room_left, sent_more}
use Rattle.node_core.proofs.links.send_all.Goals as goal

pub send_one-requires : goal.send_one-requires
send_one-requires g c =
    let p : ArcId × g.row.M.Denot = (c.in-Some.arc, c.in-Some.message) in
    let rest = into_iter_items c.next.new.self in
    let split : into_iter_items c.loop-arc.arc-iterator ≡ p ∷ rest = c.in-Some.ensures.steps.0 in
    record { room = room_first p rest (spare_on c.loop-arc.links.items c.in-Some.arc.0) (rw split at (c.loop-arc.invariant.room c.in-Some.arc.0)) }

pub loop-arc-preserved : goal.loop-arc-preserved
loop-arc-preserved g c =
    let p : ArcId × g.row.M.Denot = (c.in-Some.arc, c.in-Some.message) in
    let rest = into_iter_items c.next.new.self in
    let split : into_iter_items c.loop-arc.arc-iterator ≡ p ∷ rest = c.in-Some.ensures.steps.0 in
    record {
      count = c.send_one.ensures.count ∙ c.loop-arc.invariant.count;
      sent = λ b. sent_more b p rest (waits_on c.loop-arc.links.items b) (waits_on c.send_one.new.links.items b) (waits_on c.args.links.now.items b ++ on_arc b (map numbered c.args.out)) (rw split at (c.loop-arc.invariant.sent b)) (c.send_one.ensures.sent b);
      room = λ b. room_left b p rest (spare_on c.loop-arc.links.items b) (spare_on c.send_one.new.links.items b) (rw split at (c.loop-arc.invariant.room b)) (c.send_one.ensures.spare b);
    }
